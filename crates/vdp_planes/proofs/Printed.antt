-- Dots that are written one after the other.
use Rattle.std.proofs.Common.{◌≡◌, ◌∙◌, ap, ℕ, ◌+◌, ◌-◌, ◌*◌, ◌/◌, ◌%◌, ◌<◌, List, [], inl, inr, length, arith}
use Rattle.std.specs.Prelude.{slice_index, slice_index_or}
use Rattle.std.proofs.lemmas.Bool.{cases_lt}
use Rattle.md_word.specs.Region.{scanline_length}
use Rattle.vdp_planes.specs.Mixing.{printed_byte}

-- the bytes of the line's dots below x are printed
pub record IsPrinted (table : List (List ℕ)) (line : List ℕ) (x : ℕ) (rgb : List ℕ) : Type 0 where
  pub whole : length rgb ≡ scanline_length
  pub bytes : (n : ℕ) → n < 3 * x → slice_index rgb n ≡ printed_byte table line n

-- a dot more
pub dot_printed : (table : List (List ℕ)) (line dot old new : List ℕ) (x y at : ℕ) → IsPrinted table line x old → y ≡ x + 1 → at ≡ 3 * x
    → dot ≡ slice_index_or table (slice_index line x) [] → length new ≡ scanline_length
    → ((n : ℕ) → n < at → slice_index new n ≡ slice_index old n)
    → ((n : ℕ) → n < 3 → slice_index new (at + n) ≡ slice_index dot n)
    → IsPrinted table line y new
dot_printed table line dot old new x y at p next there is whole before here = record {
  whole = whole;
  bytes = λ n h. elim (cases_lt n at) [
    | inl low ↦ before n low ∙ p.bytes n (omega (arith, low, there))
    | inr high ↦ (
        let place_of : n ≡ at + (n - at) = omega (arith, high) in
        let row : n / 3 ≡ x = omega (arith, high, h, next, there) in
        let place : n % 3 ≡ n - at = omega (arith, high, h, next, there) in
        ap (λ (m : ℕ). slice_index new m) place_of ∙ here (n - at) (omega (arith, high, h, next, there))
        ∙ (λ i. slice_index (is i) (n - at))
        ∙ (rw (row, place)))
  ];
}
