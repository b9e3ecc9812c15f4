-- Multiplications. M68000 Programmer's Reference Manual, section 4: MULS, MULU; what their times
-- depend on: M68000 User's Manual, section 8.
use Rattle.std.specs.Prelude.{ℕ, ◌*◌, ◌%◌, bit_xor, count_ones}
use Rattle.md_word.specs.declared.mode.Mode.{Mode}
use Rattle.md_word.specs.declared.regs.Regs.{Regs}
use Rattle.md_word.specs.declared.size.Size.TheVariants.{Long, Word}
use Rattle.md_word.specs.declared.task.Task.TheVariants as tasks
use Rattle.m68k_access.specs.Actions.{Act, ◌>>=◌, give}
use Rattle.m68k_access.specs.Operands.{load}
use Rattle.m68k_access.specs.Shapes.{following, change_data}
use Rattle.m68k_access.specs.Outcomes.{Outcome}

-- MULU: its time grows with the ones in the source
unfoldable pub mulu : ℕ → Mode → ℕ → Regs → Act Outcome
mulu n mode start regs = do
  source ← load mode Word (following start 2) regs
  let after = change_data tasks.Mulu Long source.value n source.regs
  give (record after { count = count_ones source.value })

-- how many neighbours differ in a word with a 0 below its lowest bit
unfoldable pub unlike_neighbours : ℕ → ℕ
unlike_neighbours word = count_ones (bit_xor word (word * 2) % 0x1_0000)

-- MULS: its time grows with the unlike neighbours
unfoldable pub muls : ℕ → Mode → ℕ → Regs → Act Outcome
muls n mode start regs = do
  source ← load mode Word (following start 2) regs
  let after = change_data tasks.Muls Long source.value n source.regs
  give (record after { count = unlike_neighbours source.value })
