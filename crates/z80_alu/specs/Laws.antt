-- What the operations mean for numbers.
use Rattle.std.specs.Prelude.{◌≡◌, ℕ, pos, ◌+◌, ◌*◌, ◌<◌, ◌+ℤ◌, ◌-ℤ◌, Bool, false}
use Rattle.md_word.specs.Coding.{flag_number}
use Rattle.md_word.specs.Width.{signed_of}
use Rattle.md_word.specs.declared.size.Size.TheVariants.{Byte}
use Rattle.md_word.specs.declared.task80.Task80.{Task80}
use Rattle.md_word.specs.declared.task80.Task80.TheVariants as tasks
use Rattle.z80_alu.specs.declared.out80.Out80.{Out80}
use Rattle.z80_alu.specs.Decimal.{AddsDecimals, IsDecimal, SubtractsDecimals}
use Rattle.z80_alu.specs.Flags.{flags_of}
use Rattle.z80_alu.specs.Tasks.{computed}

-- DAA after an operation
abbrev pub then_adjusted : Out80 → Out80
then_adjusted out = computed tasks.Daa out.value 0 out.f

-- DAA after ADD and ADC of decimal digits gives their decimal sum
abbrev pub AddsDigits : Type 0
AddsDigits = (x y f : ℕ) → IsDecimal x → IsDecimal y →
    AddsDecimals x y false (then_adjusted (computed tasks.Add x y f)) × AddsDecimals x y (flags_of f).c (then_adjusted (computed tasks.Adc x y f))

-- DAA after SUB and SBC of decimal digits gives their decimal difference
abbrev pub SubtractsDigits : Type 0
SubtractsDigits = (x y f : ℕ) → IsDecimal x → IsDecimal y →
    SubtractsDecimals x y false (then_adjusted (computed tasks.Sub x y f)) × SubtractsDecimals x y (flags_of f).c (then_adjusted (computed tasks.Sbc x y f))

-- a sum as whole numbers with its carry, and in two's complement where P/V is clear
pub record IsSum (a b : ℕ) (carry : Bool) (out : Out80) : Type 0 where
  pub whole : out.value + 0x100 * flag_number (flags_of out.f).c ≡ a + b + flag_number carry
  pub signed : (flags_of out.f).pv ≡ false → signed_of Byte out.value ≡ signed_of Byte a +ℤ signed_of Byte b +ℤ pos (flag_number carry)

-- a difference as whole numbers with its borrow, and in two's complement where P/V is clear
pub record IsDifference (a b : ℕ) (borrow : Bool) (out : Out80) : Type 0 where
  pub whole : out.value + b + flag_number borrow ≡ a + 0x100 * flag_number (flags_of out.f).c
  pub signed : (flags_of out.f).pv ≡ false → signed_of Byte out.value ≡ signed_of Byte a -ℤ signed_of Byte b -ℤ pos (flag_number borrow)

-- ADD is a sum of bytes, and ADC one with the carry
abbrev pub AddsNumbers : Type 0
AddsNumbers = (a b f : ℕ) → a < 0x100 → b < 0x100 →
    IsSum a b false (computed tasks.Add a b f) × IsSum a b (flags_of f).c (computed tasks.Adc a b f)

-- SUB is a difference of bytes, and SBC one with the borrow, which is C
abbrev pub SubtractsNumbers : Type 0
SubtractsNumbers = (a b f : ℕ) → a < 0x100 → b < 0x100 →
    IsDifference a b false (computed tasks.Sub a b f) × IsDifference a b (flags_of f).c (computed tasks.Sbc a b f)

-- what an operation gives of b, with an accumulator of 0
abbrev pub again : Task80 → ℕ → ℕ → ℕ
again task b f = (computed task 0 b f).value

-- what it gives of b after four times, each on the value before it
abbrev pub four_times : Task80 → ℕ → ℕ → ℕ
four_times task b f = again task (again task (again task (again task b f) f) f) f

-- eight rotates of a byte give it back
abbrev pub RotatesBack : Type 0
RotatesBack = (b f : ℕ) → b < 0x100 →
    (four_times tasks.Rlc (four_times tasks.Rlc b f) f ≡ b) × (four_times tasks.Rrc (four_times tasks.Rrc b f) f ≡ b)
