-- Divisions. M68000 Programmer's Reference Manual, section 4: DIVS, DIVU; a divisor of 0: M68000
-- User's Manual, section 6.
use Rattle.std.specs.Prelude.{ℕ, Bool, true, false}
use Rattle.md_word.specs.Fields.{flags_of, register_of, with_flags, with_register}
use Rattle.md_word.specs.declared.mode.Mode.{Mode}
use Rattle.md_word.specs.declared.regs.Regs.{Regs}
use Rattle.md_word.specs.declared.size.Size.TheVariants.{Word}
use Rattle.m68k_alu.specs.Division.{divided, flags_after}
use Rattle.m68k_alu.specs.declared.quotient.Quotient.{Quotient}
use Rattle.m68k_alu.specs.declared.quotient.Quotient.TheVariants.{Overflow, Value, Zero}
use Rattle.m68k_access.specs.Actions.{Act, ◌>>=◌, give}
use Rattle.m68k_access.specs.Operands.{load}
use Rattle.m68k_access.specs.Outcomes.{Outcome, plain}
use Rattle.m68k_access.specs.Shapes.{following, end_in}
use Rattle.m68k_access.specs.Vectors.{zero_divide}

-- a divisor of 0 is an exception, and an overflow leaves the register
abbrev pub ended_by : Quotient → ℕ → Regs → Outcome
ended_by Zero n regs = end_in zero_divide regs
ended_by Overflow n regs = plain regs
ended_by (Value value) n regs = plain (with_register regs n value)

-- the flags are set first
unfoldable pub finished : Quotient → ℕ → Regs → Outcome
finished quotient n regs =
    ended_by quotient n (with_flags regs (flags_after quotient (flags_of regs)))

-- a data register divided by the source, as signed numbers or not
unfoldable pub quotient_by : Bool → ℕ → Mode → ℕ → Regs → Act Outcome
quotient_by signed n mode start regs = do
  source ← load mode Word (following start 2) regs
  give (finished (divided signed source.value (register_of source.regs n)) n source.regs)

-- DIVU: a register of 32 bits by a word, both unsigned
unfoldable pub divu : ℕ → Mode → ℕ → Regs → Act Outcome
divu n mode start regs = quotient_by false n mode start regs

-- DIVS: a register of 32 bits by a word, both in two's complement
unfoldable pub divs : ℕ → Mode → ℕ → Regs → Act Outcome
divs n mode start regs = quotient_by true n mode start regs
