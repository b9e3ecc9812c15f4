-- What is assembled of tokens for the 68000 is the least of all words that say them, and is found where some do.
use Rattle.std.proofs.Common.{◌≡◌, ◌⊎◌, inl, inr, ℕ, zero, suc, ◌*◌, ◌<◌, List, [], ◌∷◌, ◌++◌, length, Option, Some, None, append-nil, refl, ap, ◌∙◌, sym, subst, arith}
use Rattle.std.specs.Prelude.{slice_index}
use Rattle.std.proofs.Math.Nat.{eq-or-lt_of_le}
use Rattle.m68k_decode.specs.Instructions.{instruction_of}
use Rattle.m68k_decode.specs.Nested.{nested}
use Rattle.asm_m68k.specs.Encoding.{encoded}
use Rattle.md_disasm.specs.Texts68.{text_of}
use Rattle.md_asm_text.specs.Tokens.{Token, tokens}
use Rattle.asm_m68k.specs.Reading.{read_source}
use Rattle.asm_m68k.specs.Building.{meant}
use Rattle.asm_m68k.specs.Checked.{tried}
use Rattle.asm_m68k.specs.RoundTrips.{Says}
use Rattle.asm_m68k.specs.Table.{AreWords, IsInstruction}
use Rattle.asm_m68k.proofs.Checked.{meant_again}
use Rattle.asm_m68k.proofs.FirstWord.{first_again}
use Rattle.md_asm.specs.Codes.{main_code}
use Rattle.asm_laws.specs.Chosen.{AreLeast, IsBefore}
use Rattle.md_asm.proofs.MainCodes.{IsBelow, decoded_code, encoded_long}
use Rattle.md_asm.proofs.Texts.{assembled_again, found, going_on, keeps_text}

-- ---- the order of words

below_tail : (xs : List ℕ) (k w : ℕ) (words : List ℕ) → IsBelow xs (suc k) (w ∷ words) → IsBelow xs k words
below_tail [] k w words below = tt
below_tail (x ∷ xs) k w words below = (below.0, below_tail xs (suc k) w words below.1)

-- where none is greater they are the same, or come first
same_or_before : (xs ys : List ℕ) → length xs ≡ length ys → IsBelow xs 0 ys → (ys ≡ xs) ⊎ IsBefore xs ys
same_or_before [] [] same below = inl refl
same_or_before [] (y ∷ ys) same below = absurd (omega arith)
same_or_before (x ∷ xs) [] same below = absurd (omega arith)
same_or_before (x ∷ xs) (y ∷ ys) same below = elim (eq-or-lt_of_le below.0) [
  | inl is ↦ (elim (same_or_before xs ys (omega arith) (below_tail xs 0 y ys below.1)) [
    | inl rest ↦ inl (cc)
    | inr rest ↦ inr (inr (is, rest))
  ])
  | inr less ↦ inr (inl less)
]

-- words of an instruction's length have their own code, or one that comes before them
own_or_later : (w : ℕ) (tail : List ℕ) → AreWords (w ∷ tail) → (instruction_of (w ∷ tail)).length ≡ 2 * length (w ∷ tail)
    → ((w ∷ tail) ≡ encoded (instruction_of (w ∷ tail)).op) ⊎ IsBefore (encoded (instruction_of (w ∷ tail)).op) (w ∷ tail)
own_or_later w tail all long =
    let code = decoded_code w tail all in
    let own = code.long in
    let first = first_again w tail (all 0) in
    same_or_before (encoded (instruction_of (w ∷ tail)).op) (w ∷ tail) (omega (arith, own, long)) (omega (arith, first), code.low)

-- ---- other words that say the tokens

text_alone : (other : List ℕ) (line_tokens : List Token) (at : ℕ) → Says other line_tokens at → tokens (text_of (instruction_of other) at) ≡ line_tokens
text_alone other line_tokens at say = ap (λ (l : List ℕ). tokens (text_of (instruction_of l) at)) (sym (append-nil other)) ∙ say.text []

zero_word : AreWords (0 ∷ [])
zero_word zero = omega arith
zero_word (suc i) = omega arith

best_of : (line_tokens : List Token) (words other : List ℕ) (at : ℕ) → AreWords other → at < 4294967296 → words ≡ tried line_tokens at → IsInstruction (nested (slice_index other 0))
    → Says other line_tokens at → (other ≡ words) ⊎ ((length words ≡ length other) × IsBefore words other)
best_of line_tokens words [] at k a own entered say =
    let none = say.whole (0 ∷ []) in
    let some = encoded_long 0 [] zero_word in
    absurd (omega (arith, none, some))
best_of line_tokens words (w ∷ tail) at k a own entered say =
    let text = text_alone (w ∷ tail) line_tokens at say in
    let whole : (instruction_of (w ∷ tail)).length ≡ 2 * length (w ∷ tail) = ap (λ (l : List ℕ). (instruction_of l).length) (sym (append-nil (w ∷ tail))) ∙ say.whole [] in
    let made : meant (read_source line_tokens) at ≡ (instruction_of (w ∷ tail)).op
    = ap (λ (s : List Token). meant (read_source s) at) (sym text) ∙ meant_again w tail at (k 0) entered k a in
    let code : words ≡ encoded (instruction_of (w ∷ tail)).op = own ∙ ap encoded made in
    let long = encoded_long w tail k in
    let same : length (encoded (instruction_of (w ∷ tail)).op) ≡ length (w ∷ tail) = omega (arith, long, whole) in
    subst (λ (l : List ℕ). ((w ∷ tail) ≡ l) ⊎ ((length l ≡ length (w ∷ tail)) × IsBefore l (w ∷ tail))) (sym code)
    (by (own_or_later w tail k whole) same)
  where
    by : {first last : List ℕ} → (last ≡ first) ⊎ IsBefore first last → length first ≡ length last → (last ≡ first) ⊎ ((length first ≡ length last) × IsBefore first last)
    by (inl is) same = inl is
    by (inr before) same = inr (same, before)

-- ---- what is found

-- it takes all its words, whatever follows them
whole_of : (line_tokens : List Token) (word : ℕ) (tail rest : List ℕ) (at : ℕ) → AreWords (word ∷ tail) → at < 4294967296 → main_code line_tokens at ≡ Some (word ∷ tail)
    → (instruction_of (word ∷ (tail ++ rest))).length ≡ 2 * length (word ∷ tail)
whole_of line_tokens word tail rest at h a is =
    let there = going_on line_tokens word tail at h a is in
    let made : meant (read_source line_tokens) at ≡ (instruction_of (word ∷ (tail ++ there.more))).op
    = ap (λ (s : List Token). meant (read_source s) at) (sym there.text) ∙ meant_again word (tail ++ there.more) at (h 0) there.instruction there.all a in
    let code : word ∷ tail ≡ encoded (instruction_of (word ∷ (tail ++ there.more))).op = there.own ∙ ap encoded made in
    ap (λ d. d.length) (there.same rest) ∙ encoded_long word (tail ++ there.more) there.all ∙ ap (λ (l : List ℕ). 2 * length l) (sym code)

pub least : (line_tokens : List Token) (words : List ℕ) (at : ℕ) → AreWords words → at < 4294967296 → main_code line_tokens at ≡ Some words → AreLeast words line_tokens at
least line_tokens [] at h a is = let own = (found line_tokens [] at is).own in cc
least line_tokens (word ∷ tail) at h a is = record {
  instruction = (going_on line_tokens word tail at h a is).instruction;
  text = record {
    text = λ rest. keeps_text line_tokens (word ∷ tail) rest at h a is;
    whole = λ rest. whole_of line_tokens word tail rest at h a is;
  };
  best = λ other k entered say. best_of line_tokens (word ∷ tail) other at k a (found line_tokens (word ∷ tail) at is).own entered say;
}

pub none_by : (code : Option (List ℕ)) (found : List ℕ) → code ≡ None → code ≡ Some found → ⊥
none_by code found none some = cc

-- where nothing is found, no words say the tokens
pub none : (line_tokens : List Token) (at : ℕ) → at < 4294967296 → main_code line_tokens at ≡ None
    → (words : List ℕ) → AreWords words → IsInstruction (nested (slice_index words 0)) → Says words line_tokens at → ⊥
none line_tokens at a is [] h entered say =
    let empty = say.whole (0 ∷ []) in
    let some = encoded_long 0 [] zero_word in
    absurd (omega (arith, empty, some))
none line_tokens at a is (word ∷ tail) h entered say =
    let again = assembled_again word tail at (h 0) entered h a in
    none_by (main_code line_tokens at) again.0 is (ap (λ (s : List Token). main_code s at) (sym (text_alone (word ∷ tail) line_tokens at say)) ∙ again.1)
