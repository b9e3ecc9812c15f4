-- The first line of a text.
use Rattle.std.proofs.Common.{◌≡◌, ◌≢◌, ℕ, zero, suc, ◌+◌, ◌<◌, ◌==◌, Bool, true, false, if◌then◌else◌, List, [], ◌∷◌, length, take, drop, get_or, refl, sym, ap, ◌∙◌, arith}
use Rattle.std.proofs.lemmas.Bool.Decides.{nat_tests}
use Rattle.text_lines.specs.Lines.{lines_of, with_first}

is_feed : (n : ℕ) → n ≡ 10 → (n == 10) ≡ true
is_feed n is = ap (λ (k : ℕ). k == 10) is

no_feed : (n : ℕ) → n ≢ 10 → (n == 10) ≡ false
no_feed n other = grind (arith, nat_tests)

feed_first : (byte : ℕ) (rest : List ℕ) → byte ≡ 10 → lines_of (byte ∷ rest) ≡ [] ∷ lines_of rest
unfolding lines_of
feed_first byte rest is = ap (λ (b : Bool). if b then [] ∷ lines_of rest else with_first byte (lines_of rest)) (is_feed byte is)

byte_first : (byte : ℕ) (rest : List ℕ) → byte ≢ 10 → lines_of (byte ∷ rest) ≡ with_first byte (lines_of rest)
unfolding lines_of
byte_first byte rest other = ap (λ (b : Bool). if b then [] ∷ lines_of rest else with_first byte (lines_of rest)) (no_feed byte other)

pub line_cut : (text : List ℕ) (end : ℕ) → end < length text → get_or text end 0 ≡ 10 → ((k : ℕ) → k < end → get_or text k 0 ≢ 10) → lines_of text ≡ take end text ∷ lines_of (drop (end + 1) text)
line_cut [] end within found before = absurd (omega (arith, within))
line_cut (byte ∷ rest) zero within found before = feed_first byte rest found
line_cut (byte ∷ rest) (suc end) within found before =
    let later = line_cut rest end (omega (arith, within)) found (λ k below. before (suc k) (omega arith)) in
    let following : suc end + 1 ≡ suc (end + 1) = omega arith in
    byte_first byte rest (before 0 (omega arith)) ∙ ap (with_first byte) later
    ∙ ap (λ (k : ℕ). (byte ∷ take end rest) ∷ lines_of (drop k (byte ∷ rest))) (sym following)

pub no_line : lines_of [] ≡ []
unfolding lines_of
no_line = refl

pub last_line : (text : List ℕ) → 0 < length text → ((k : ℕ) → k < length text → get_or text k 0 ≢ 10) → lines_of text ≡ text ∷ []
last_line [] some before = absurd (omega (arith, some))
last_line (byte ∷ []) some before = byte_first byte [] (before 0 (omega arith)) ∙ ap (with_first byte) no_line
last_line (byte ∷ (next ∷ rest)) some before =
    byte_first byte (next ∷ rest) (before 0 (omega arith))
    ∙ ap (with_first byte) (last_line (next ∷ rest) (omega arith) (λ k below. before (suc k) (omega arith)))

pub no_lines : (text : List ℕ) → length text ≡ 0 → lines_of text ≡ []
no_lines [] none = no_line
no_lines (byte ∷ rest) none = absurd (omega (arith, none))
