-- Instructions with a number after their first word: ORI, ANDI, SUBI, ADDI, EORI, CMPI, and those
-- to CCR and SR. M68000 Programmer's Reference Manual, section 4; to SR section 6.
use Rattle.std.specs.Prelude.{ℕ, ◌+◌, ◌*◌, ◌%◌}
use Rattle.md_word.specs.Fields.{flags_of}
use Rattle.md_word.specs.declared.mode.Mode.{Mode}
use Rattle.md_word.specs.declared.regs.Regs.{Regs}
use Rattle.md_word.specs.declared.size.Size.{Size}
use Rattle.md_word.specs.declared.size.Size.TheVariants.{Byte, Word}
use Rattle.md_word.specs.declared.task.Task.{Task}
use Rattle.md_word.specs.declared.task.Task.TheVariants as tasks
use Rattle.m68k_alu.specs.Tasks.{computed}
use Rattle.m68k_decode.specs.Fields.{words_of_number}
use Rattle.m68k_access.specs.Actions.{Act}
use Rattle.m68k_access.specs.Outcomes.{Outcome, plain}
use Rattle.m68k_access.specs.Shapes.{following, change_operand, test_operand}
use Rattle.m68k_exec.specs.Rows.Status.{privileged, with_ccr, with_sr}

-- the target's words are after the number
abbrev pub after_number : Size → ℕ → ℕ
after_number size start = following start (2 + 2 * words_of_number size)

-- ORI, ANDI, SUBI, ADDI, EORI
unfoldable pub immediate : Task → Size → ℕ → Mode → ℕ → Regs → Act Outcome
immediate task size number mode start regs =
    change_operand task size number mode (after_number size start) regs

-- CMPI
unfoldable pub compare_immediate : Size → ℕ → Mode → ℕ → Regs → Act Outcome
compare_immediate size number mode start regs =
    test_operand tasks.Cmp size number mode (after_number size start) regs

-- ORI, ANDI, EORI to CCR
unfoldable pub immediate_to_ccr : Task → ℕ → Regs → Outcome
immediate_to_ccr task number regs =
    plain (with_ccr (computed task Byte number (regs.sr % 0x100) (flags_of regs)).value regs)

-- ORI, ANDI, EORI to SR
unfoldable pub immediate_to_sr : Task → ℕ → ℕ → Regs → Outcome
immediate_to_sr task number start regs =
    privileged start regs (plain (with_sr (computed task Word number regs.sr (flags_of regs)).value regs))
