-- A recording of a version begins with some bytes exactly where each of them keeps a rule of its own place.
use Rattle.std.proofs.Common.{◌≡◌, ℕ, zero, suc, ◌+◌, ◌-◌, ◌*◌, ◌<◌, ◌≤◌, ◌≢◌, List, [], ◌∷◌, ◌++◌, length, get_or, take, drop, refl, sym, ap, subst, ◌∙◌, inl, inr, append_assoc, arith}
use Rattle.std.specs.List.{flat_map}
use Rattle.std.specs.Int.{w32, to_be_bytes, from_be_bytes}
use Rattle.std.proofs.Math.Seq.{drop-cons, get_or-append_seam, get_or-append-add}
use Rattle.std.proofs.Math.ListN.{get_or-append}
use Rattle.std.proofs.lemmas.Bool.{cases_lt, cases_eq}
use Rattle.std.proofs.lemmas.List.{append-nil, length-append, get_or_past, get_or-drop, get_or-take, length-drop, length-take, take-append-drop}
use Rattle.std.proofs.lemmas.List.Elements.{All-from_recursion, recursion_from_All}
use Rattle.std.proofs.lemmas.Nat.{be_bytes_4, from_be_bytes-to_be_bytes_4}
use Rattle.md_pads.specs.Recording.{Frame, HasButtons, Recorded, frame_bytes, lead, six, spelling, Spells, words}
use Rattle.md_pads.specs.Reading.{BeginsIn, least_count, whole_len, frames_in}
use Rattle.md_pads.specs.declared.version.Version.{Version}
use Rattle.md_pads.proofs.Frames.{length-frames, upper-first, upper-second, words-some, frames_there}
use Rattle.md_pads.proofs.Versions.{is_lead}

-- where the count is
abbrev pub start : Version → ℕ
start version = length (lead version)

-- each byte keeps the rule of its place
pub record IsOpening (version : Version) (xs : List ℕ) : Type 0 where
  pub marked : (i : ℕ) → i < start version → i < length xs → get_or xs i 0 ≡ get_or (lead version) i 0
  pub few : least_count (start version) xs ≤ 1048576
  pub first : (k : ℕ) → 256 * get_or xs (start version + (4 + 4 * k)) 0 < words (six version 1)
  pub second : (k : ℕ) → 256 * get_or xs (start version + (4 + (4 * k + 2))) 0 < words (six version 2)
  pub within : length xs ≤ whole_len (start version) xs

-- ---- a recording keeps the rules

abbrev pub of : Version → List Frame → Recorded
of version frames = record { version = version; frames = frames }

-- the spelling, from the lead on
pub apart : (version : Version) (frames : List Frame) → spelling (of version frames) ≡ lead version ++ (to_be_bytes w32 (length frames) ++ flat_map frame_bytes frames)
unfolding spelling
apart version frames = append_assoc (lead version) (to_be_bytes w32 (length frames)) (flat_map frame_bytes frames)

pub length-spelling : (version : Version) (frames : List Frame) → length (spelling (of version frames)) ≡ start version + 4 + 4 * length frames
length-spelling version frames =
    let rest = length-frames frames in
    let all = ap length (apart version frames) in
    let front = length-append (lead version) (to_be_bytes w32 (length frames) ++ flat_map frame_bytes frames) in
    omega arith

-- a byte of the count, and one of the frames
at-count : (version : Version) (frames : List Frame) (j : ℕ) → j < 4 → get_or (spelling (of version frames)) (start version + j) 0 ≡ get_or (to_be_bytes w32 (length frames)) j 0
at-count version frames j lt =
    ap (λ (xs : List ℕ). get_or xs (start version + j) 0) (apart version frames)
    ∙ get_or-append-add (lead version) (to_be_bytes w32 (length frames) ++ flat_map frame_bytes frames) j 0
    ∙ get_or-append (to_be_bytes w32 (length frames)) (flat_map frame_bytes frames) 0 j lt

at-frames : (version : Version) (frames : List Frame) (j : ℕ) → get_or (spelling (of version frames)) (start version + (4 + j)) 0 ≡ get_or (flat_map frame_bytes frames) j 0
at-frames version frames j =
    ap (λ (xs : List ℕ). get_or xs (start version + (4 + j)) 0) (apart version frames)
    ∙ get_or-append-add (lead version) (to_be_bytes w32 (length frames) ++ flat_map frame_bytes frames) (4 + j) 0
    ∙ get_or-append-add (to_be_bytes w32 (length frames)) (flat_map frame_bytes frames) j 0

pub count-spelling : (version : Version) (frames : List Frame) → length frames ≤ 1048576 → least_count (start version) (spelling (of version frames)) ≡ length frames
count-spelling version frames few =
    let here : start version + 0 ≡ start version = omega arith in
    let p0 = ap (λ (n : ℕ). get_or (spelling (of version frames)) n 0) (sym here) ∙ at-count version frames 0 (omega arith) in
    let p1 = at-count version frames 1 (omega arith) in
    let p2 = at-count version frames 2 (omega arith) in
    let p3 = at-count version frames 3 (omega arith) in
    (λ i. from_be_bytes w32 (p0 i ∷ p1 i ∷ p2 i ∷ p3 i ∷ [])) ∙ from_be_bytes-to_be_bytes_4 (length frames) (omega arith)

pub mark-spelling : (version : Version) (frames : List Frame) (i : ℕ) → i < start version → get_or (spelling (of version frames)) i 0 ≡ get_or (lead version) i 0
mark-spelling version frames i lt =
    ap (λ (xs : List ℕ). get_or xs i 0) (apart version frames)
    ∙ get_or-append (lead version) (to_be_bytes w32 (length frames) ++ flat_map frame_bytes frames) 0 i lt

-- what the bytes at the front of a recording are
front : (xs rest ys : List ℕ) → xs ++ rest ≡ ys → (i : ℕ) → i < length xs → get_or xs i 0 ≡ get_or ys i 0
front xs rest ys all i lt = sym (get_or-append xs rest 0 i lt) ∙ ap (λ (s : List ℕ). get_or s i 0) all

front_le : (xs rest ys : List ℕ) → xs ++ rest ≡ ys → (i : ℕ) → get_or xs i 0 ≤ get_or ys i 0
front_le xs rest ys all i =
    elim (cases_lt i (length xs)) [
      | inl lt ↦ let same = front xs rest ys all i lt in omega arith
      | inr le ↦ let past = get_or_past xs i 0 le in omega arith
    ]

front_within : (version : Version) (xs rest : List ℕ) (frames : List Frame) → xs ++ rest ≡ spelling (of version frames) → length frames ≤ 1048576 → length xs ≤ whole_len (start version) xs
front_within version xs rest frames all few =
    let len : length xs + length rest ≡ start version + 4 + 4 * length frames = sym (length-append xs rest) ∙ ap length all ∙ length-spelling version frames in
    let count = count-spelling version frames few in
    elim (cases_lt (length xs) (start version + 4)) [
      | inl lt ↦ omega arith
      | inr le ↦
          let a = front xs rest (spelling (of version frames)) all (start version) (omega arith) in
          let b = front xs rest (spelling (of version frames)) all (start version + 1) (omega arith) in
          let c = front xs rest (spelling (of version frames)) all (start version + 2) (omega arith) in
          let d = front xs rest (spelling (of version frames)) all (start version + 3) (omega arith) in
          let same : least_count (start version) xs ≡ length frames = (λ i. from_be_bytes w32 (a i ∷ b i ∷ c i ∷ d i ∷ [])) ∙ count in
          omega arith
    ]

pub opening : (version : Version) (xs : List ℕ) → BeginsIn version xs → IsOpening version xs
opening version xs (frames, rest, spelled) =
    let le = front_le xs rest (spelling (of version frames)) spelled.all in
    let count = count-spelling version frames spelled.recording.few in
    let few = spelled.recording.few in
    let small = recursion_from_All (HasButtons version) frames spelled.recording.words in
    record {
      marked = λ i lt within. front xs rest (spelling (of version frames)) spelled.all i within ∙ mark-spelling version frames i lt;
      few = let a = le (start version) in let b = le (start version + 1) in let c = le (start version + 2) in let d = le (start version + 3) in omega arith;
      first = λ k.
          let bound = le (start version + (4 + 4 * k)) in
          let here = at-frames version frames (4 * k) in
          let upper = upper-first version frames k small in
          omega arith;
      second = λ k.
          let bound = le (start version + (4 + (4 * k + 2))) in
          let here = at-frames version frames (4 * k + 2) in
          let upper = upper-second version frames k small in
          omega arith;
      within = front_within version xs rest frames spelled.all spelled.recording.few;
    }

-- ---- what keeps the rules and is whole spells a recording

-- each byte from the count on is a byte
abbrev pub HasBytes : Version → List ℕ → Type 0
HasBytes version xs = (i : ℕ) → start version ≤ i → get_or xs i 0 < 256

four_bytes : (a b c d : ℕ) → a < 256 → b < 256 → c < 256 → d < 256 → (i : ℕ) → get_or (a ∷ b ∷ c ∷ d ∷ []) i 0 < 256
four_bytes a b c d p q r s zero = p
four_bytes a b c d p q r s (suc zero) = q
four_bytes a b c d p q r s (suc (suc zero)) = r
four_bytes a b c d p q r s (suc (suc (suc zero))) = s
four_bytes a b c d p q r s (suc (suc (suc (suc i)))) = omega arith

-- four bytes from a place on, one by one
four-on : (n : ℕ) (xs : List ℕ) → n + 4 ≤ length xs → drop n xs ≡ (get_or xs n 0 ∷ get_or xs (n + 1) 0 ∷ get_or xs (n + 2) 0 ∷ get_or xs (n + 3) 0 ∷ []) ++ drop (n + 4) xs
four-on n xs long =
    let step : (i : ℕ) → i < 4 → drop (n + i) xs ≡ get_or xs (n + i) 0 ∷ drop (n + suc i) xs =
    λ i lt. drop-cons xs (n + i) 0 (omega arith) ∙ (let more : suc (n + i) ≡ n + suc i = omega arith in ap (λ (m : ℕ). get_or xs (n + i) 0 ∷ drop m xs) more) in
    let none : n + 0 ≡ n = omega arith in
    let s0 : drop n xs ≡ get_or xs n 0 ∷ drop (n + 1) xs = subst (λ (m : ℕ). drop m xs ≡ get_or xs m 0 ∷ drop (n + 1) xs) none (step 0 (omega arith)) in
    s0 ∙ ap (λ (ys : List ℕ). get_or xs n 0 ∷ ys) (step 1 (omega arith))
    ∙ ap (λ (ys : List ℕ). get_or xs n 0 ∷ get_or xs (n + 1) 0 ∷ ys) (step 2 (omega arith))
    ∙ ap (λ (ys : List ℕ). get_or xs n 0 ∷ get_or xs (n + 1) 0 ∷ get_or xs (n + 2) 0 ∷ ys) (step 3 (omega arith))

-- a recording's bytes, whole: the frames in them are spelled so
pub whole : (version : Version) (xs : List ℕ) → HasBytes version xs → IsOpening version xs → length xs ≡ whole_len (start version) xs → Spells xs (of version (frames_in (drop (start version + 4) xs)))
unfolding spelling
whole version xs bytes opened len =
    let count = least_count (start version) xs in
    let cut = length-drop (start version + 4) xs in
    let body = frames_there version count (drop (start version + 4) xs) (omega arith)
    (λ i. rw get_or-drop (bytes (start version + 4 + i) (omega arith)))
    (λ k. rw get_or-drop (let place : start version + 4 + 4 * k ≡ start version + (4 + 4 * k) = omega arith in rw place (opened.first k)))
    (λ k. rw get_or-drop (let place : start version + 4 + (4 * k + 2) ≡ start version + (4 + (4 * k + 2)) = omega arith in rw place (opened.second k))) in
    let written : to_be_bytes w32 count ≡ get_or xs (start version) 0 ∷ get_or xs (start version + 1) 0 ∷ get_or xs (start version + 2) 0 ∷ get_or xs (start version + 3) 0 ∷ [] =
    be_bytes_4 _ _ refl (four_bytes _ _ _ _ (bytes (start version) (omega arith)) (bytes (start version + 1) (omega arith)) (bytes (start version + 2) (omega arith)) (bytes (start version + 3) (omega arith))) refl in
    let taken = length-take (start version) xs in
    let led : take (start version) xs ≡ lead version = is_lead (take (start version) xs) version (omega arith) (λ i lt. get_or-take (start version) xs i 0 lt ∙ opened.marked i lt (omega arith)) in
    let following = four-on (start version) xs (omega arith) in
    record {
      recording = record { few = rw body.number opened.few; words = All-from_recursion (HasButtons version) (frames_in (drop (start version + 4) xs)) body.small };
      all = sym (take-append-drop (start version) xs)
          ∙ (λ i. led i ++ following i)
          ∙ (λ i. lead version ++ (sym written i ++ sym body.all i))
          ∙ sym (append_assoc (lead version) (to_be_bytes w32 count) (flat_map frame_bytes (frames_in (drop (start version + 4) xs))))
          ∙ ap (λ (n : ℕ). lead version ++ to_be_bytes w32 n ++ flat_map frame_bytes (frames_in (drop (start version + 4) xs))) (sym body.number);
    }

-- ---- one byte more

pushed_at : (xs : List ℕ) (b : ℕ) → get_or (xs ++ b ∷ []) (length xs) 0 ≡ b
pushed_at xs b = get_or-append_seam xs b [] 0

pushed_other : (xs : List ℕ) (b i : ℕ) → i ≢ length xs → get_or (xs ++ b ∷ []) i 0 ≡ get_or xs i 0
pushed_other xs b i other =
    elim (cases_lt i (length xs)) [
      | inl lt ↦ get_or-append xs (b ∷ []) 0 i lt
      | inr le ↦
          let long = length-append xs (b ∷ []) in
          let apart : length xs < i = omega arith in
          get_or_past (xs ++ b ∷ []) i 0 (omega arith) ∙ sym (get_or_past xs i 0 (omega arith))
    ]

counts-alike : (n : ℕ) (xs ys : List ℕ) → ((i : ℕ) → n ≤ i → i < n + 4 → get_or xs i 0 ≡ get_or ys i 0) → least_count n xs ≡ least_count n ys
counts-alike n xs ys same =
    let p0 = same n (omega arith) (omega arith) in
    let p1 = same (n + 1) (omega arith) (omega arith) in
    let p2 = same (n + 2) (omega arith) (omega arith) in
    let p3 = same (n + 3) (omega arith) (omega arith) in
    λ i. from_be_bytes w32 (p0 i ∷ p1 i ∷ p2 i ∷ p3 i ∷ [])

pub same_count : (n : ℕ) (xs : List ℕ) (b : ℕ) → ((i : ℕ) → n ≤ i → i < n + 4 → i ≢ length xs) → least_count n (xs ++ b ∷ []) ≡ least_count n xs
same_count n xs b others = counts-alike n (xs ++ b ∷ []) xs (λ i far near. pushed_other xs b i (others i far near))

-- the rule of the place after xs, for a byte there
pub record Keeps (version : Version) (xs : List ℕ) (b : ℕ) : Type 0 where
  pub marked : length xs < start version → b ≡ get_or (lead version) (length xs) 0
  pub few : least_count (start version) (xs ++ b ∷ []) ≤ 1048576
  pub first : (k : ℕ) → start version + (4 + 4 * k) ≡ length xs → 256 * b < words (six version 1)
  pub second : (k : ℕ) → start version + (4 + (4 * k + 2)) ≡ length xs → 256 * b < words (six version 2)
  pub within : length xs < whole_len (start version) (xs ++ b ∷ [])

-- a byte that is pushed, or one before it
pushed_below : (xs : List ℕ) (b i most : ℕ) → (i ≡ length xs → 256 * b < most) → 256 * get_or xs i 0 < most → 256 * get_or (xs ++ b ∷ []) i 0 < most
pushed_below xs b i most here before =
    elim (cases_eq i (length xs)) [
      | inl last ↦ let at = ap (λ (n : ℕ). get_or (xs ++ b ∷ []) n 0) last ∙ pushed_at xs b in let small = here last in omega arith
      | inr other ↦ let same = pushed_other xs b i other in omega arith
    ]

pub opening-push : (version : Version) (xs : List ℕ) (b : ℕ) → IsOpening version xs → Keeps version xs b → IsOpening version (xs ++ b ∷ [])
opening-push version xs b opened keeps =
    let long = length-append xs (b ∷ []) in
    record {
      marked = λ i lt inside.
          elim (cases_eq i (length xs)) [
            | inl last ↦ ap (λ (n : ℕ). get_or (xs ++ b ∷ []) n 0) last ∙ pushed_at xs b ∙ keeps.marked (omega arith) ∙ ap (λ (n : ℕ). get_or (lead version) n 0) (sym last)
            | inr other ↦ pushed_other xs b i other ∙ opened.marked i lt (omega arith)
          ];
      few = keeps.few;
      first = λ k. pushed_below xs b (start version + (4 + 4 * k)) (words (six version 1)) (keeps.first k) (opened.first k);
      second = λ k. pushed_below xs b (start version + (4 + (4 * k + 2))) (words (six version 2)) (keeps.second k) (opened.second k);
      within = omega (arith, keeps.within);
    }

-- and back
pub keeps_from : (version : Version) (xs : List ℕ) (b : ℕ) → IsOpening version (xs ++ b ∷ []) → Keeps version xs b
keeps_from version xs b opened =
    let long = length-append xs (b ∷ []) in
    let here : (i : ℕ) → i ≡ length xs → get_or (xs ++ b ∷ []) i 0 ≡ b = λ i last. ap (λ (n : ℕ). get_or (xs ++ b ∷ []) n 0) last ∙ pushed_at xs b in
    record {
      marked = λ lt. sym (pushed_at xs b) ∙ opened.marked (length xs) lt (omega arith);
      few = opened.few;
      first = λ k last. let at = here (start version + (4 + 4 * k)) last in let small = opened.first k in omega arith;
      second = λ k last. let at = here (start version + (4 + (4 * k + 2))) last in let small = opened.second k in omega arith;
      within = omega (arith, opened.within);
    }

-- ---- what keeps the rules begins a recording

-- a part of what begins a recording begins it too
pub begins-part : (version : Version) (xs ys : List ℕ) → BeginsIn version (xs ++ ys) → BeginsIn version xs
begins-part version xs ys (frames, rest, spelled) = (frames, ys ++ rest, record { recording = spelled.recording; all = sym (append_assoc xs ys rest) ∙ spelled.all })

-- the byte that a recording may continue with: the lead's, and then 0
next : Version → List ℕ → ℕ
next version xs = get_or (lead version) (length xs) 0

next_past : (version : Version) (xs : List ℕ) → start version ≤ length xs → next version xs ≡ 0
unfolding next
next_past version xs far = get_or_past (lead version) (length xs) 0 far

next_later : (version : Version) (xs : List ℕ) (i : ℕ) → start version ≤ i → get_or (xs ++ next version xs ∷ []) i 0 ≡ get_or xs i 0
next_later version xs i far =
    elim (cases_eq i (length xs)) [
      | inl last ↦ ap (λ (n : ℕ). get_or (xs ++ next version xs ∷ []) n 0) last ∙ pushed_at xs (next version xs) ∙ next_past version xs (omega arith) ∙ sym (get_or_past xs i 0 (omega arith))
      | inr other ↦ pushed_other xs (next version xs) i other
    ]

next_count : (version : Version) (xs : List ℕ) → least_count (start version) (xs ++ next version xs ∷ []) ≡ least_count (start version) xs
next_count version xs = counts-alike (start version) (xs ++ next version xs ∷ []) xs (λ i far near. next_later version xs i far)

next_keeps : (version : Version) (xs : List ℕ) → IsOpening version xs → length xs < whole_len (start version) xs → Keeps version xs (next version xs)
unfolding next
next_keeps version xs opened short =
    let count = next_count version xs in
    record {
      marked = λ lt. refl;
      few = rw count opened.few;
      first = λ k last. rw (next_past version xs (omega arith)) (words-some (six version 1));
      second = λ k last. rw (next_past version xs (omega arith)) (words-some (six version 2));
      within = rw count short;
    }

begins_by : (version : Version) (gap : ℕ) (xs : List ℕ) → HasBytes version xs → IsOpening version xs → length xs + gap ≡ whole_len (start version) xs → BeginsIn version xs
begins_by version zero xs bytes opened len =
    (frames_in (drop (start version + 4) xs), [], subst (λ (s : List ℕ). Spells s (of version (frames_in (drop (start version + 4) xs)))) (sym (append-nil xs)) (whole version xs bytes opened (omega arith)))
begins_by version (suc gap) xs bytes opened len =
    let count = next_count version xs in
    let long = length-append xs (next version xs ∷ []) in
    begins-part version xs (next version xs ∷ []) (begins_by version gap (xs ++ next version xs ∷ []) (λ i far. rw (next_later version xs i far) (bytes i far)) (opening-push version xs (next version xs) opened (next_keeps version xs opened (omega arith))) (omega arith))

pub begins : (version : Version) (xs : List ℕ) → HasBytes version xs → IsOpening version xs → BeginsIn version xs
begins version xs bytes opened = begins_by version (whole_len (start version) xs - length xs) xs bytes opened (omega (arith, opened.within))
