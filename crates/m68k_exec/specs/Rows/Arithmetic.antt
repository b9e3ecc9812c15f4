-- Operations of two operands. M68000 Programmer's Reference Manual, section 4: ADD, ADDA, ADDQ,
-- AND, EOR, OR, SUB, SUBA, SUBQ; shifts of memory: ASL to ROXR.
use Rattle.std.specs.Prelude.{ℕ, ◌%◌}
use Rattle.md_word.specs.Fields.{address_of, flags_of, register_of, with_address}
use Rattle.md_word.specs.Width.{extended, modulus_of}
use Rattle.md_word.specs.declared.mode.Mode.{Mode}
use Rattle.md_word.specs.declared.mode.Mode.TheVariants.{Address}
use Rattle.md_word.specs.declared.regs.Regs.{Regs}
use Rattle.md_word.specs.declared.size.Size.{Size}
use Rattle.md_word.specs.declared.size.Size.TheVariants.{Long, Word}
use Rattle.md_word.specs.declared.task.Task.{Task}
use Rattle.md_word.specs.declared.task.Task.TheVariants as tasks
use Rattle.m68k_alu.specs.Tasks.{computed}
use Rattle.m68k_access.specs.Actions.{Act, ◌>>=◌, give}
use Rattle.m68k_access.specs.Operands.{load}
use Rattle.m68k_access.specs.Outcomes.{Outcome, plain}
use Rattle.m68k_access.specs.Shapes.{following, change_operand, change_register}

-- a number added to or subtracted from the whole of an address register; the flags stay
unfoldable pub change_address : Task → ℕ → ℕ → Regs → Outcome
change_address task number n regs =
    plain (with_address regs n (computed task Long number (address_of regs n) (flags_of regs)).value)

-- ADDQ, SUBQ
abbrev pub quick : Task → Size → ℕ → Mode → ℕ → Regs → Act Outcome
quick task size number (Address n) start regs = give (change_address task number n regs)
quick task size number mode start regs = change_operand task size number mode (following start 2) regs

-- OR, SUB, AND, ADD to a data register
unfoldable pub to_register : Task → Size → ℕ → Mode → ℕ → Regs → Act Outcome
to_register task size n mode start regs = change_register task size n mode (following start 2) regs

-- OR, SUB, AND, ADD of a data register to memory
unfoldable pub to_memory : Task → Size → ℕ → Mode → ℕ → Regs → Act Outcome
to_memory task size n mode start regs =
    change_operand task size (register_of regs n % modulus_of size) mode (following start 2) regs

-- EOR of a data register to another or to memory
unfoldable pub eor : Size → ℕ → Mode → ℕ → Regs → Act Outcome
eor size n mode start regs = to_memory tasks.Eor size n mode start regs

-- SUBA, ADDA: a word has its sign extended
unfoldable pub to_address : Task → Size → ℕ → Mode → ℕ → Regs → Act Outcome
to_address task size n mode start regs = do
  source ← load mode size (following start 2) regs
  give (change_address task (extended size source.value) n source.regs)

-- ASx, LSx, ROXx, ROx of a word in memory, by one place
unfoldable pub shift_memory : Task → Mode → ℕ → Regs → Act Outcome
shift_memory task mode start regs = change_operand task Word 1 mode (following start 2) regs
