use Rattle.std.proofs.Common.{◌≡◌, ◌∙◌, ℕ, ◌+◌, ◌*◌, ◌<◌, ◌^◌, sym, arith}
use Rattle.std.specs.Int.RustNames.{bit_and}
use Rattle.std.proofs.lemmas.Nat.{and_mask}
use Rattle.bitflags.proofs.OnLiterals.{bitflags_on_literals}
use Rattle.md_pads.proofs.reading.is_upper_byte.Goals as goal

-- a word with nothing but this upper byte names buttons alone exactly where it has 12 bits
named : (n byte : ℕ) → n ≡ byte * 256 + 0 → bit_and n 4095 ≡ n → 256 * byte < 2 ^ 12
named n byte is same = let masked = and_mask n 12 in omega arith

unnamed : (n byte : ℕ) → n ≡ byte * 256 + 0 → 256 * byte < 2 ^ 12 → bit_and n 4095 ≡ n
unnamed n byte is small = let masked = and_mask n 12 in omega arith

pub returns-then-six : goal.returns-then-six
unfolding bitflags_on_literals
returns-then-six c =
    rw c.if-six.true (
      λ some. named _ _ c.from_be_bytes.ensures ((c.from_bits.ensures.known tt).0 (sym c.is_some.ensures ∙ some)),
      λ small. c.is_some.ensures ∙ (c.from_bits.ensures.known tt).1 (unnamed _ _ c.from_be_bytes.ensures small),
    )
