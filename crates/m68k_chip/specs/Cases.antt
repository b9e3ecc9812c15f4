-- What the 68000 does at a sample. M68000 User's Manual, section 6.
use Rattle.std.specs.Prelude.{ℕ, Bool, true, false, ◌/◌, ◌%◌, nat_lt, if◌then◌else◌, Option, Some, None, is_some}
use Rattle.md_word.specs.declared.regs.Regs.{Regs}
use Rattle.m68k_chip.specs.States.{State68}
use Rattle.m68k_chip.specs.declared.case.Case.{Case}
use Rattle.m68k_chip.specs.declared.case.Case.TheVariants.{Halted, Trace, Interrupt, Stopped, Instruction}

-- the interrupt mask of the status register
abbrev pub mask_of : Regs → ℕ
mask_of regs = regs.sr / 256 % 8

-- the first that applies: halted, a pending trace, an interrupt above the mask, stopped, the
-- instruction
unfoldable pub case_of : State68 → ℕ → Case
case_of state level =
    if is_some state.halted then Halted
    else (if state.trace then Trace
    else (if nat_lt (mask_of state.regs) level then Interrupt level
    else (if state.stopped then Stopped else Instruction)))

-- what is carried out, if anything: 0 the instruction, else the level of the interrupt, 8 a trace
abbrev pub cause_of : Case → Option ℕ
cause_of Halted = None
cause_of Trace = Some 8
cause_of (Interrupt level) = Some level
cause_of Stopped = None
cause_of Instruction = Some 0

-- whether it does nothing, and at the samples after it neither while its pins stay
abbrev pub is_rest : Case → Bool
is_rest Halted = true
is_rest Trace = false
is_rest (Interrupt level) = false
is_rest Stopped = true
is_rest Instruction = false

-- the address of the instruction that a sample begins, if it begins one
abbrev pub begins_at : Case → ℕ → Option ℕ
begins_at Instruction pc = Some pc
begins_at case pc = None
