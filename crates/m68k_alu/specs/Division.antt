-- Division of a long by a word.
-- M68000 Programmer's Reference Manual, section 4: DIVS, DIVU.
use Rattle.std.specs.Prelude.{◌≡◌, ℕ, ℤ, pos, negsuc, ◌+◌, ◌*◌, ◌%◌, ◌<◌, ◌+ℤ◌, ◌*ℤ◌, ◌≤ℤ◌, ◌==◌, Bool, true, false, ◌&&◌, nat_le, int_le, int_lt, int_div, int_rem, unsigned_abs, if◌then◌else◌, IsTrue, IsFalse}
use Rattle.md_word.specs.Width.{fits, signed_of, word_of}
use Rattle.md_word.specs.declared.flags.Flags.{Flags}
use Rattle.md_word.specs.declared.size.Size.TheVariants.{Word, Long}
use Rattle.m68k_alu.specs.declared.quotient.Quotient.{Quotient}
use Rattle.m68k_alu.specs.declared.quotient.Quotient.TheVariants.{Overflow, Value, Zero}

-- the operands as numbers
abbrev pub dividend_of : Bool → ℕ → ℤ
dividend_of true target = signed_of Long target
dividend_of false target = pos target

-- the word that divides, signed or not
abbrev pub divisor_of : Bool → ℕ → ℤ
divisor_of true source = signed_of Word source
divisor_of false source = pos source

-- whether a quotient has its place in a word
abbrev pub fits_word : Bool → ℤ → Bool
fits_word true z = fits Word z
fits_word false z = int_le (pos 0) z && int_lt z (pos 0x1_0000)

-- the remainder in the upper word, the quotient in the lower
unfoldable pub packed : ℤ → ℤ → ℕ
packed quotient remainder = word_of 0x1_0000 remainder * 0x1_0000 + word_of 0x1_0000 quotient

-- with the quotient rounded towards 0, and the remainder that it leaves
unfoldable pub divided : Bool → ℕ → ℕ → Quotient
divided signed source target =
    let quotient = int_div (dividend_of signed target) (divisor_of signed source) in
    let remainder = int_rem (dividend_of signed target) (divisor_of signed source) in
    if source == 0 then Zero
    else (if fits_word signed quotient then Value (packed quotient remainder) else Overflow)

-- the condition codes: N and Z are the quotient's; an overflow sets V
unfoldable pub flags_after : Quotient → Flags → Flags
flags_after Zero flags = record flags { c = false }
flags_after Overflow flags = record flags { v = true; c = false }
flags_after (Value value) flags = record flags {
  n = nat_le 0x8000 (value % 0x1_0000);
  z = value % 0x1_0000 == 0;
  v = false;
  c = false;
}

-- of the sign of a number, or 0
abbrev pub HasSignOf : ℤ → ℤ → Type 0
HasSignOf (pos n) remainder = pos 0 ≤ℤ remainder
HasSignOf (negsuc n) remainder = remainder ≤ℤ pos 0

-- what the manual asks of a quotient and a remainder
pub record IsDivision (dividend divisor quotient remainder : ℤ) : Type 0 where
  pub whole : quotient *ℤ divisor +ℤ remainder ≡ dividend
  pub smaller : unsigned_abs remainder < unsigned_abs divisor
  pub sign : HasSignOf dividend remainder

-- an answer is right: a value packs such a quotient and remainder, the quotient within a word;
-- at an overflow none such is within a word
abbrev pub Divides : Bool → ℕ → ℕ → Quotient → Type 0
Divides signed source target Zero = source ≡ 0
Divides signed source target Overflow =
    (q r : ℤ) → IsDivision (dividend_of signed target) (divisor_of signed source) q r → IsFalse (fits_word signed q)
Divides signed source target (Value value) =
    (q : ℤ) × (r : ℤ) × IsDivision (dividend_of signed target) (divisor_of signed source) q r
    × IsTrue (fits_word signed q) × (value ≡ packed q r)
