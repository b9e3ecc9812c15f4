-- MOVE and MOVEA. M68000 Programmer's Reference Manual, section 4.
use Rattle.std.specs.Prelude.{ℕ, ◌+◌, ◌*◌}
use Rattle.md_word.specs.Fields.{flags_of, with_address, with_flags}
use Rattle.md_word.specs.Width.{extended}
use Rattle.md_word.specs.declared.mode.Mode.{Mode}
use Rattle.md_word.specs.declared.regs.Regs.{Regs}
use Rattle.md_word.specs.declared.size.Size.{Size}
use Rattle.md_word.specs.declared.task.Task.TheVariants as tasks
use Rattle.m68k_alu.specs.Tasks.{computed}
use Rattle.m68k_decode.specs.Fields.{words_of_mode}
use Rattle.m68k_access.specs.Actions.{Act, ◌>>=◌, give}
use Rattle.m68k_access.specs.Operands.{load, store}
use Rattle.m68k_access.specs.Outcomes.{Outcome, plain}
use Rattle.m68k_access.specs.Shapes.{following}

-- the target's words are after the source's
abbrev pub after_source : Size → Mode → ℕ → ℕ
after_source size source start = following start (2 + 2 * words_of_mode size source)

-- MOVE: the source is read, and its register moved, before the target's address is calculated
unfoldable pub move_operand : Size → Mode → Mode → ℕ → Regs → Act Outcome
move_operand size source target start regs = do
  from ← load source size (following start 2) regs
  let out = computed tasks.Move size from.value from.value (flags_of regs)
  after ← store target size out.value (after_source size source start) from.regs
  give (plain (with_flags after out.flags))

-- MOVEA: the sign is extended, and the flags stay
unfoldable pub move_address : Size → ℕ → Mode → ℕ → Regs → Act Outcome
move_address size n mode start regs = do
  from ← load mode size (following start 2) regs
  give (plain (with_address from.regs n (extended size from.value)))
