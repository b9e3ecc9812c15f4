-- Shifts and rotates of registers.
-- M68000 Programmer's Reference Manual, section 4: ASL, ASR, LSL, LSR, ROL, ROR, ROXL, ROXR.
use Rattle.std.specs.Prelude.{ℕ, ◌%◌}
use Rattle.md_word.specs.Fields.{register_of}
use Rattle.md_word.specs.declared.regs.Regs.{Regs}
use Rattle.md_word.specs.declared.size.Size.{Size}
use Rattle.md_word.specs.declared.task.Task.{Task}
use Rattle.m68k_access.specs.Shapes.{change_data}
use Rattle.m68k_access.specs.Outcomes.{Outcome}

-- a data register shifted so many times
unfoldable pub shift_by_number : Task → Size → ℕ → ℕ → Regs → Outcome
shift_by_number task size count r regs =
    record (change_data task size count r regs) { count = count }

-- the count is a data register's, modulo 64
unfoldable pub shift_by_register : Task → Size → ℕ → ℕ → Regs → Outcome
shift_by_register task size n r regs = shift_by_number task size (register_of regs n % 64) r regs
