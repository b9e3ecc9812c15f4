-- Numbers of many parts, one part at a time, with X between them.
-- M68000 Programmer's Reference Manual, section 4: ABCD, ADDX, SBCD, SUBX.
use Rattle.std.specs.Prelude.{ℕ}
use Rattle.md_word.specs.declared.mode.Mode.{Mode}
use Rattle.md_word.specs.declared.regs.Regs.{Regs}
use Rattle.md_word.specs.declared.size.Size.{Size}
use Rattle.md_word.specs.declared.size.Size.TheVariants.{Byte}
use Rattle.md_word.specs.declared.task.Task.{Task}
use Rattle.m68k_access.specs.Actions.{Act, ◌>>=◌}
use Rattle.m68k_access.specs.Operands.{load}
use Rattle.m68k_access.specs.Shapes.{following, change_operand}
use Rattle.m68k_access.specs.Outcomes.{Outcome}

-- ADDX, SUBX: the register of the source is lowered before that of the target
unfoldable pub extended : Task → Size → Mode → Mode → ℕ → Regs → Act Outcome
extended task size source target start regs = do
  part ← load source size (following start 2) regs
  change_operand task size part.value target (following start 2) part.regs

-- ABCD, SBCD: the same of bytes
unfoldable pub decimal : Task → Mode → Mode → ℕ → Regs → Act Outcome
decimal task source target start regs = extended task Byte source target start regs
