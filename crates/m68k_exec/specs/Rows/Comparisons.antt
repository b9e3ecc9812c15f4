-- Comparisons. M68000 Programmer's Reference Manual, section 4: CMP, CMPA, CMPM.
use Rattle.std.specs.Prelude.{ℕ, ◌%◌}
use Rattle.md_word.specs.Fields.{address_of, flags_of, register_of, with_flags}
use Rattle.md_word.specs.Width.{extended, modulus_of}
use Rattle.md_word.specs.declared.mode.Mode.{Mode}
use Rattle.md_word.specs.declared.mode.Mode.TheVariants.{PostInc}
use Rattle.md_word.specs.declared.regs.Regs.{Regs}
use Rattle.md_word.specs.declared.size.Size.{Size}
use Rattle.md_word.specs.declared.size.Size.TheVariants.{Long}
use Rattle.md_word.specs.declared.task.Task.TheVariants as tasks
use Rattle.m68k_alu.specs.Tasks.{computed}
use Rattle.m68k_access.specs.Actions.{Act, ◌>>=◌, give}
use Rattle.m68k_access.specs.Operands.{load}
use Rattle.m68k_access.specs.Outcomes.{Outcome, plain}
use Rattle.m68k_access.specs.Shapes.{following}

-- the flags of the target less the source
unfoldable pub compared : Size → ℕ → ℕ → Regs → Outcome
compared size source target regs =
    plain (with_flags regs (computed tasks.Cmp size source target (flags_of regs)).flags)

-- CMP
unfoldable pub cmp : Size → ℕ → Mode → ℕ → Regs → Act Outcome
cmp size n mode start regs = do
  source ← load mode size (following start 2) regs
  give (compared size source.value (register_of source.regs n % modulus_of size) source.regs)

-- CMPA: a word has its sign extended, and all of the register is compared
unfoldable pub cmpa : Size → ℕ → Mode → ℕ → Regs → Act Outcome
cmpa size n mode start regs = do
  source ← load mode size (following start 2) regs
  give (compared Long (extended size source.value) (address_of source.regs n) source.regs)

-- CMPM (Ay)+,(Ax)+
unfoldable pub cmpm : Size → ℕ → ℕ → ℕ → Regs → Act Outcome
cmpm size x y start regs = do
  source ← load (PostInc y) size (following start 2) regs
  target ← load (PostInc x) size (following start 2) source.regs
  give (compared size source.value target.value target.regs)
