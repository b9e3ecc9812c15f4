-- What (An)+ and −(An) leave in their register.
-- M68000 Programmer's Reference Manual, sections 2.2.4 and 2.2.5.
use Rattle.std.specs.Prelude.{◌≡◌, ℕ, ℤ, pos, ◌+◌, ◌%◌, ◌^◌, ◌-ℤ◌}
use Rattle.md_word.specs.Fields.{address_of, with_address}
use Rattle.md_word.specs.declared.mode.Mode.{Mode}
use Rattle.md_word.specs.declared.mode.Mode.TheVariants.{PostInc, PreDec}
use Rattle.md_word.specs.declared.regs.Regs.{Regs}
use Rattle.md_word.specs.declared.size.Size.{Size}
use Rattle.m68k_ea.specs.Addresses.{address_sum, effective_address, step_of}

-- the registers with this address register so far from where it was
unfoldable pub moved : Regs → ℕ → ℤ → Regs
moved regs n by = with_address regs n (address_sum (pos (address_of regs n)) (pos 0) by)

-- the registers once a mode's operand was used
abbrev pub stepped : Mode → Size → Regs → Regs
stepped (PostInc n) size regs = moved regs n (pos (step_of size n))
stepped (PreDec n) size regs = moved regs n (pos 0 -ℤ pos (step_of size n))
stepped _ size regs = regs

-- where the register then points: that of (An)+ just past the operand, that of −(An) at it
pub record PointsBeside (mode : Mode) (size : Size) (old new : Regs) : Type 0 where
  pub past : (n pc : ℕ) → mode ≡ PostInc n → address_of new n ≡ (effective_address mode size old pc + step_of size n) % 2 ^ 32
  pub operand : (n pc : ℕ) → mode ≡ PreDec n → address_of new n ≡ effective_address mode size old pc
