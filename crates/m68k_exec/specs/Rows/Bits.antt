-- BTST, BCHG, BCLR and BSET. M68000 Programmer's Reference Manual, section 4.
use Rattle.std.specs.Prelude.{ℕ, ◌%◌}
use Rattle.md_word.specs.Fields.{register_of}
use Rattle.md_word.specs.Width.{modulus_of}
use Rattle.md_word.specs.declared.mode.Mode.{Mode}
use Rattle.md_word.specs.declared.mode.Mode.TheVariants.{Data}
use Rattle.md_word.specs.declared.regs.Regs.{Regs}
use Rattle.md_word.specs.declared.size.Size.{Size}
use Rattle.md_word.specs.declared.size.Size.TheVariants.{Byte, Long}
use Rattle.md_word.specs.declared.task.Task.{Task}
use Rattle.md_word.specs.declared.task.Task.TheVariants as tasks
use Rattle.m68k_access.specs.Actions.{Act}
use Rattle.m68k_access.specs.Shapes.{following, change_operand, test_operand}
use Rattle.m68k_access.specs.Outcomes.{Outcome}

-- a data register is a long, memory a byte
abbrev pub bit_size : Mode → Size
bit_size (Data n) = Long
bit_size _ = Byte

-- BTST only reads, the others write too
abbrev pub bit_of_size : Task → Size → ℕ → Mode → ℕ → Regs → Act Outcome
bit_of_size tasks.Btst size number mode pc regs = test_operand tasks.Btst size number mode pc regs
bit_of_size task size number mode pc regs = change_operand task size number mode pc regs

-- an operation on one bit, its number taken modulo 32 in a data register, modulo 8 in memory
unfoldable pub bit : Task → ℕ → Mode → ℕ → Regs → Act Outcome
bit task number mode pc regs =
    bit_of_size task (bit_size mode) (number % modulus_of (bit_size mode)) mode pc regs

-- the bit that a data register names
unfoldable pub bit_by_register : Task → ℕ → Mode → ℕ → Regs → Act Outcome
bit_by_register task n mode start regs = bit task (register_of regs n) mode (following start 2) regs

-- the bit of a number, which precedes the mode's words
unfoldable pub bit_by_number : Task → ℕ → Mode → ℕ → Regs → Act Outcome
bit_by_number task number mode start regs = bit task number mode (following start 4) regs
