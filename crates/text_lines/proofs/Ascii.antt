-- Bytes below 128 are a text.
use Rattle.std.proofs.Common.{◌≡◌, ℕ, ◌<◌, ◌≤◌, ◌⊎◌, inl, inr, Bool, true, false, nat_lt, get_or, List, length, refl, sym, ◌∙◌, arith}
use Rattle.std.specs.List.{list_all}
use Rattle.std.specs.Str.{IsAscii}
use Rattle.std.proofs.lemmas.Bool.{true≢false, cases_lt}
use Rattle.std.proofs.lemmas.List.{get_or_past}
use Rattle.std.proofs.lemmas.List.Folds.{list_all_at}
use borrow.Author.Tests.{ltb-true}

abbrev seven_bits : ℕ → Bool
seven_bits c = nat_lt c 128

small_at : (line : List ℕ) (i : ℕ) → list_all seven_bits line ≡ true → i < length line → (b : Bool) → nat_lt (get_or line i 0) 128 ≡ b → get_or line i 0 < 128
small_at line i all within true is = ltb-true (get_or line i 0) 128 is
small_at line i all within false is =
    let some : list_all seven_bits line ≡ false = list_all_at seven_bits line i 0 within is in
    absurd (true≢false (sym all ∙ some))

ascii_at : (line : List ℕ) (i : ℕ) → list_all seven_bits line ≡ true → (i < length line) ⊎ (length line ≤ i) → get_or line i 0 < 128
ascii_at line i all (inl within) = small_at line i all within (nat_lt (get_or line i 0) 128) refl
ascii_at line i all (inr past) = omega (arith, get_or_past line i 0 past)

pub ascii_of : (line : List ℕ) → list_all seven_bits line ≡ true → IsAscii line
ascii_of line all = λ i. ascii_at line i all (cases_lt i (length line))
