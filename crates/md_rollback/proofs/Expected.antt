-- The words that are expected.
use Rattle.std.proofs.Common.{◌≡◌, ◌∙◌, refl, sym, ap, ap₂, subst, lit<, ℕ, zero, suc, ◌+◌, ◌-◌, ◌<◌, ◌≤◌, ◌^◌, ◌⊎◌, inl, inr, List, [], ◌∷◌, ◌++◌, length, Option, Some, None, get_or, set, replicate, take, drop, is_some, add-one, arith}
use Rattle.std.specs.Prelude.{All, IsSome, unwrap_or}
use Rattle.std.specs.List.{range_with_len}
use Rattle.std.proofs.lemmas.Bool.{cases_lt}
use Rattle.std.proofs.lemmas.List.{get_or-replicate, get_or-set_other, get_or_past, length-replicate, take_at}
use Rattle.std.proofs.lemmas.Option.{unwrap_or-slice_get}
use Rattle.std.proofs.lemmas.List.Elements.{All-map}
use Rattle.std.proofs.lemmas.List.FromFn.{fill_by_all, get_or-map-range_with_len, length-map-range_with_len, map-range_with_len_more}
use Rattle.md_pads.specs.Recording.{Frame, HasButtons}
use Rattle.md_pads.specs.declared.version.Version.TheVariants.{First}
use Rattle.md_rollback.specs.Inputs.{AreButtons, AreGiven, AreInputs, IsConfirmed, IsExpected, IsMore, Words, expected, expected_frame, expected_frames, frame_at, given, held, latest, most_frames, no_words, none, observable}

pub latest-next : (w : Words) (n : ℕ) → latest w (n + 1) ≡ expected w n
latest-next w n = ap (latest w) (add-one n)

-- ---- buttons

one-small : (o : Option ℕ) (d : ℕ) → ((word : ℕ) → o ≡ Some word → word < 2 ^ 8) → d < 2 ^ 8 → unwrap_or o d < 2 ^ 8
one-small None d small low = low
one-small (Some x) d small low = small x refl

latest-small : (w : Words) → AreButtons w → (n : ℕ) → latest w n < 2 ^ 8
latest-small w buttons zero = lit< tt
latest-small w buttons (suc n) = one-small (given w n) (latest w n) (buttons n) (latest-small w buttons n)

expected-small : (w : Words) → AreButtons w → (n : ℕ) → expected w n < 2 ^ 8
expected-small w buttons n = one-small (given w n) (latest w n) (buttons n) (latest-small w buttons n)

pub frames-small : (l r : Words) → AreButtons l → AreButtons r → (n : ℕ) → All (HasButtons First) (expected_frames l r n)
unfolding expected_frames
frames-small l r one two n =
    All-map (HasButtons First) (expected_frame l r) (range_with_len 0 n) (λ k d less. (expected-small l one (get_or (range_with_len 0 n) k d), expected-small r two (get_or (range_with_len 0 n) k d)))

-- ---- frames

pub frames-long : (l r : Words) (n : ℕ) → length (expected_frames l r n) ≡ n
unfolding expected_frames
frames-long l r n = length-map-range_with_len (expected_frame l r) 0 n

frame-expected : (l r : Words) (n f : ℕ) (d : Frame) → f < n → get_or (expected_frames l r n) f d ≡ expected_frame l r f
unfolding expected_frames
frame-expected l r n f d less = get_or-map-range_with_len (expected_frame l r) 0 n f f d less (omega arith)

pub pads-at : (l r : Words) (n f : ℕ) → f < n → frame_at (expected_frames l r n) f ≡ expected_frame l r f
pads-at l r n f less = unwrap_or-slice_get (expected_frames l r n) f (0, 0) ∙ frame-expected l r n f (0, 0) less

-- the words of the last of so many frames are the latest ones
pub latest-words : (l r : Words) (frames : List Frame) (n : ℕ) → frames ≡ expected_frames l r n → frame_at frames (n - 1) ≡ (latest l n, latest r n)
unfolding expected_frames
latest-words l r frames zero all = ap (λ (fs : List Frame). frame_at fs 0) all
latest-words l r frames (suc m) all =
    let last : suc m - 1 ≡ m = omega arith in
    ap (frame_at frames) last ∙ ap (λ (fs : List Frame). frame_at fs m) all ∙ pads-at l r (suc m) m (omega arith)

pub none-expected : (l r : Words) → [] ≡ expected_frames l r 0
unfolding expected_frames
none-expected l r = refl

-- a word that was given is expected
pub given-expected : (w : Words) (f word : ℕ) → given w f ≡ Some word → expected w f ≡ word
given-expected w f word is = ap (λ (o : Option ℕ). unwrap_or o (latest w f)) is

pub some-word : (o : Option ℕ) → IsSome o → (word : ℕ) × (o ≡ Some word)
some-word None is = absurd (cc)
some-word (Some word) is = (word, refl)

-- where more words are given, confirmed frames are the same
more-same : (l m : Words) (f : ℕ) → IsSome (given l f) → IsMore l m → expected m f ≡ expected l f
more-same l m f is more =
    let word = some-word (given l f) is in
    given-expected m f word.0 (more f word.0 word.1) ∙ sym (given-expected l f word.0 word.1)

pub frames-stay : (l r ml mr : Words) (confirmed n : ℕ) → IsConfirmed l r confirmed → n ≤ confirmed → IsMore l ml → IsMore r mr → expected_frames ml mr n ≡ expected_frames l r n
unfolding expected_frames
frames-stay l r ml mr confirmed n is within more_l more_r =
    fill_by_all (expected_frame l r) (expected_frames ml mr n) n (0, 0) (frames-long ml mr n)
    (λ k less.
    let both : AreGiven l r k = is.below k (omega arith) in
    frame-expected ml mr n k (0, 0) less
    ∙ ap₂ (λ (a b : ℕ). (a, b)) (more-same l ml k both.0 more_l) (more-same r mr k both.1 more_r))

-- ---- the latest word

abbrev Found : Words → ℕ → ℕ → Type 0
Found w n word = (e : ℕ) × (e < n) × (given w e ≡ Some word) × ((g : ℕ) → e < g → g < n → given w g ≡ None)

abbrev NoneBelow : Words → ℕ → Type 0
NoneBelow w n = (g : ℕ) → g < n → given w g ≡ None

abbrev IsLatest : Words → ℕ → ℕ → Type 0
IsLatest w n word = Found w n word ⊎ (NoneBelow w n × (word ≡ 0))

at-or-below : (g n : ℕ) → g < n + 1 → (g < n) ⊎ (g ≡ n)
at-or-below g n less = grind arith

step : (w : Words) (n word : ℕ) (o : Option ℕ) → given w n ≡ o → IsLatest w n word → IsLatest w (n + 1) (unwrap_or o word)
step w n word (Some x) is was = inl (n, omega arith, is, λ g past within. absurd (omega (arith, past, within)))
step w n word None is (inl found) =
    inl (
      found.0,
      omega (arith, found.1),
      found.2,
      λ g past within. elim (at-or-below g n within) [
        | inl below ↦ found.3 g past below
        | inr here ↦ ap (given w) here ∙ is
      ],
    )
step w n word None is (inr low) =
    inr (
      λ g within. elim (at-or-below g n within) [
        | inl below ↦ low.0 g below
        | inr here ↦ ap (given w) here ∙ is
      ],
      low.1,
    )

latest-is : (w : Words) (n : ℕ) → IsLatest w n (latest w n)
latest-is w zero = inr (λ g less. absurd (omega arith), refl)
latest-is w (suc n) = subst (λ (k : ℕ). IsLatest w k (latest w (suc n))) (add-one n) (step w n (latest w n) (given w n) refl (latest-is w n))

expected-by : (w : Words) (f word : ℕ) (o : Option ℕ) → given w f ≡ o → IsLatest w f word → IsExpected w f (unwrap_or o word)
expected-by w f word (Some x) is was = observable x is
expected-by w f word None is (inl found) =
    held word found.0 found.1 found.2 (λ g past within. elim (at-or-below g f (omega arith)) [
      | inl below ↦ found.3 g past below
      | inr here ↦ ap (given w) here ∙ is
    ])
expected-by w f word None is (inr low) =
    subst (IsExpected w f) (sym low.1) (none (λ g within. elim (at-or-below g f (omega arith)) [
      | inl below ↦ low.0 g below
      | inr here ↦ ap (given w) here ∙ is
    ]))

pub expected-is : (w : Words) (f : ℕ) → IsExpected w f (expected w f)
expected-is w f = expected-by w f (latest w f) (given w f) refl (latest-is w f)

-- one word more
pub frames-next : (l r : Words) (n first second : ℕ) (frames : List Frame) → first ≡ latest l (n + 1) → second ≡ latest r (n + 1) → frames ≡ expected_frames l r n
    → frames ++ (first, second) ∷ [] ≡ expected_frames l r (n + 1)
unfolding expected_frames
frames-next l r n first second frames one two all =
    ap₂ (λ (fs : List Frame) (f : Frame). fs ++ f ∷ []) all (ap₂ (λ (a b : ℕ). (a, b)) (one ∙ latest-next l n) (two ∙ latest-next r n))
    ∙ sym (map-range_with_len_more (expected_frame l r) 0 n n (omega arith))

-- ---- tables

none-some : (o : Option ℕ) → IsSome o → o ≡ None → ⊥
none-some None is same = absurd cc
none-some (Some word) is same = absurd cc

none-replicated : (o : Option ℕ) (n f : ℕ) → get_or (replicate n o) f o ≡ o
none-replicated o n f = elim (cases_lt f n) [
  | inl below ↦ get_or-replicate n f o o below
  | inr past ↦ get_or_past (replicate n o) f o (omega (arith, past, length-replicate n o))
]

abbrev none-for : ℕ → Words
none-for n = replicate n None

pub none-made : (words : Words) (n : ℕ) → 36000 ≤ n → n ≤ 36000 → words ≡ replicate n None → words ≡ no_words
unfolding no_words
none-made words n least most is = let all : n ≡ 36000 = omega (arith, least, most) in is ∙ ap none-for all

replicated-long : (o : Option ℕ) (n : ℕ) → length (replicate n o) ≡ n
replicated-long o n = length-replicate n o

pub no-words-long : length no_words ≡ most_frames
unfolding no_words
no-words-long = replicated-long None 36000

pub no-word : (f : ℕ) → given no_words f ≡ None
unfolding no_words
no-word f = none-replicated None 36000 f

pub no-words-known : AreInputs (record { local = no_words; remote = no_words; confirmed = 0 })
no-words-known = record {
  local_frames = no-words-long;
  remote_frames = no-words-long;
  local_buttons = λ f word is. absurd (none-some (given no_words f) (ap is_some is) (no-word f));
  remote_buttons = λ f word is. absurd (none-some (given no_words f) (ap is_some is) (no-word f));
  confirmed_is = record { below = λ f less. absurd (omega (arith, less)); greatest = λ both. none-some (given no_words 0) both.0 (no-word 0) };
}

-- a word that was given stays, where another is given
pub word-stays : (w : Words) (frame word f : ℕ) → given w frame ≡ None → IsSome (given w f) → given (set w frame (Some word)) f ≡ given w f
word-stays w frame word f free is = get_or-set_other w frame f (Some word) None (λ same. none-some (given w f) is (ap (given w) same ∙ free))

pub more-stays : (w : Words) (frame word : ℕ) → given w frame ≡ None → IsMore w (set w frame (Some word))
more-stays w frame word free f old is = word-stays w frame word f free (ap is_some is) ∙ is

-- what is written back into a list
pub put-back : (words items : Words) (len : ℕ) → length words ≡ len → take len (words ++ drop (length words) items) ≡ words
put-back words items len is = take_at words (drop (length words) items) len is
