-- Jumps, returns, and instructions that end in an exception.
-- M68000 Programmer's Reference Manual, sections 4 and 6.
use Rattle.std.specs.Prelude.{ℕ, pos, ◌%◌, Bool, true, false, int_lt, if◌then◌else◌}
use Rattle.md_word.specs.Fields.{flags_of, is_supervisor, register_of, with_flags}
use Rattle.md_word.specs.Width.{signed_of}
use Rattle.md_word.specs.declared.mode.Mode.{Mode}
use Rattle.md_word.specs.declared.regs.Regs.{Regs}
use Rattle.md_word.specs.declared.size.Size.TheVariants.{Long, Word}
use Rattle.m68k_ea.specs.Addresses.{effective_address}
use Rattle.m68k_access.specs.Actions.{Act, ◌>>=◌, give}
use Rattle.m68k_access.specs.Operands.{load, pull, push}
use Rattle.m68k_access.specs.Outcomes.{Outcome, plain}
use Rattle.m68k_access.specs.Shapes.{following, end_in, jump_to, refuse}
use Rattle.m68k_exec.specs.Rows.Status.{with_ccr, with_sr}
use Rattle.m68k_access.specs.Vectors.{illegal_instruction, line_a, line_f, out_of_bounds, overflow, privilege_violation, trap_vector}

-- JMP: an odd address is the next instruction's error
unfoldable pub jmp : Mode → ℕ → Regs → Outcome
jmp mode start regs = jump_to (effective_address mode Long regs (following start 2)) regs

-- JSR
unfoldable pub jsr : Mode → ℕ → Regs → Act Outcome
jsr mode start regs = do
  after ← push Long regs.pc regs
  give (jump_to (effective_address mode Long regs (following start 2)) after)

-- RTS
unfoldable pub rts : Regs → Act Outcome
rts regs = do
  target ← pull Long regs
  give (jump_to target.value target.regs)

-- RTR
unfoldable pub rtr : Regs → Act Outcome
rtr regs = do
  codes ← pull Word regs
  target ← pull Long codes.regs
  give (jump_to target.value (with_ccr codes.value target.regs))

-- both are pulled from the supervisor's stack
unfoldable pub return_from_exception : Regs → Act Outcome
return_from_exception regs = do
  status ← pull Word regs
  target ← pull Long status.regs
  give (jump_to target.value (with_sr status.value target.regs))

-- RTE, which pulls nothing in user mode
unfoldable pub rte : ℕ → Regs → Act Outcome
rte start regs memory done =
    if is_supervisor regs then return_from_exception regs memory done
    else give (refuse privilege_violation start regs) memory done

-- TRAP
unfoldable pub trap : ℕ → Regs → Outcome
trap number regs = end_in (trap_vector number) regs

-- TRAPV
unfoldable pub trapv : Regs → Outcome
trapv regs = if (flags_of regs).v then end_in overflow regs else plain regs

-- the bound was not kept: N says whether the value was below 0
unfoldable pub caught : Bool → Regs → Outcome
caught negative regs =
    end_in out_of_bounds (with_flags regs (record (flags_of regs) { n = negative }))

-- a value in two's complement is to be from 0 to its bound
unfoldable pub checked : ℕ → ℕ → Regs → Outcome
checked value bound regs =
    if int_lt (signed_of Word value) (pos 0) then caught true regs
    else (if int_lt (signed_of Word bound) (signed_of Word value) then caught false regs else plain regs)

-- CHK
unfoldable pub chk : ℕ → Mode → ℕ → Regs → Act Outcome
chk n mode start regs = do
  bound ← load mode Word (following start 2) regs
  give (checked (register_of regs n % 0x1_0000) bound.value bound.regs)

-- ILLEGAL, and opcodes that are no instruction
unfoldable pub illegal : ℕ → Regs → Outcome
illegal start regs = refuse illegal_instruction start regs

-- opcodes whose first digit is A
unfoldable pub line_a_opcode : ℕ → Regs → Outcome
line_a_opcode start regs = refuse line_a start regs

-- opcodes whose first digit is F
unfoldable pub line_f_opcode : ℕ → Regs → Outcome
line_f_opcode start regs = refuse line_f start regs
