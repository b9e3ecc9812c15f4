-- What exceptions push. M68000 User's Manual, section 6; the order of a long's words and the halt: this
-- project's profile.
use Rattle.std.specs.Prelude.{ℕ, List, [], ◌++◌, if◌then◌else◌}
use Rattle.md_word.specs.declared.regs.Regs.{Regs}
use Rattle.md_word.specs.declared.size.Size.TheVariants.{Word, Long}
use Rattle.m68k_decode.specs.declared.op.Op.{Op}
use Rattle.m68k_decode.specs.declared.op.Op.TheVariants as ops
use Rattle.m68k_ea.specs.Steps.{stepped}
use Rattle.m68k_except.specs.Frames.{halts, is_address_error}
use Rattle.m68k_access.specs.Memory.{Memory}
use Rattle.m68k_exec.specs.Sample.Entries.{vector_at}
use Rattle.m68k_laws.specs.Accesses.{Access, Write, one}
use Rattle.m68k_laws.specs.Footprints.{below}

-- the program counter and the status register
abbrev pub short_frame : ℕ → List Access
short_frame stack = one Write Long (below stack 4) ++ one Write Word (below stack 6)

-- at an address error also the first word of the instruction, the address, and what access it was
abbrev pub long_frame : ℕ → List Access
long_frame stack =
    short_frame stack ++ one Write Word (below stack 8) ++ one Write Long (below stack 12) ++ one Write Word (below stack 14)

-- an exception of this vector number; where the processor halts, nothing is pushed
abbrev pub frame : ℕ → Regs → Memory → List Access
frame number regs memory =
    if halts number (vector_at number memory) regs then []
    else (if is_address_error number then long_frame regs.ssp else short_frame regs.ssp)

-- the registers that an exception finds in which an instruction ends, but for the flags and the program
-- counter: CHK, DIVS and DIVU have moved that of their operand
abbrev pub left_by : Op → Regs → Regs
left_by (ops.Chk n mode) regs = stepped mode Word regs
left_by (ops.Divu n mode) regs = stepped mode Word regs
left_by (ops.Divs n mode) regs = stepped mode Word regs
left_by op regs = regs
