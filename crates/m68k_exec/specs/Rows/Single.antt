-- Instructions on one operand. M68000 Programmer's Reference Manual, section 4.
use Rattle.std.specs.Prelude.{ℕ}
use Rattle.md_word.specs.Fields.{flags_of, with_flags}
use Rattle.md_word.specs.declared.mode.Mode.{Mode}
use Rattle.md_word.specs.declared.mode.Mode.TheVariants.{Data}
use Rattle.md_word.specs.declared.regs.Regs.{Regs}
use Rattle.md_word.specs.declared.size.Size.{Size}
use Rattle.md_word.specs.declared.size.Size.TheVariants.{Byte, Long}
use Rattle.md_word.specs.declared.task.Task.{Task}
use Rattle.md_word.specs.declared.task.Task.TheVariants as tasks
use Rattle.m68k_alu.specs.Tasks.{computed}
use Rattle.m68k_access.specs.Actions.{Act, ◌>>=◌, give}
use Rattle.m68k_access.specs.Operands.{load}
use Rattle.m68k_access.specs.Outcomes.{Outcome, plain}
use Rattle.m68k_access.specs.Shapes.{following, change_data, change_operand, test_operand}

-- NEGX, CLR, NEG, NOT: CLR too reads its operand
unfoldable pub unary : Task → Size → Mode → ℕ → Regs → Act Outcome
unary task size mode start regs = change_operand task size 0 mode (following start 2) regs

-- NBCD
unfoldable pub nbcd : Mode → ℕ → Regs → Act Outcome
nbcd mode start regs = change_operand tasks.Nbcd Byte 0 mode (following start 2) regs

-- SWAP
unfoldable pub swap : ℕ → Regs → Outcome
swap n regs = change_data tasks.Swap Long 0 n regs

-- EXT
unfoldable pub ext : Size → ℕ → Regs → Outcome
ext size n regs = change_data tasks.Ext size 0 n regs

-- TST
unfoldable pub tst : Size → Mode → ℕ → Regs → Act Outcome
tst size mode start regs = do
  operand ← load mode size (following start 2) regs
  let out = computed tasks.Move size operand.value operand.value (flags_of regs)
  give (plain (with_flags operand.regs out.flags))

-- TAS: on this board a byte in memory is read and stays
abbrev pub tas : Mode → ℕ → Regs → Act Outcome
tas (Data n) start regs = change_operand tasks.Tas Byte 0 (Data n) (following start 2) regs
tas mode start regs = test_operand tasks.Tas Byte 0 mode (following start 2) regs
