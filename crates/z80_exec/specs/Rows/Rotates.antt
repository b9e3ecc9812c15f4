-- RLD and RRD. Zilog UM0080, "Rotate and Shift Group".
use Rattle.md_word.specs.declared.task80.Task80.TheVariants.{Rld, Rrd}
use Rattle.z80_alu.specs.Shifts.{rld_memory, rrd_memory}
use Rattle.z80_alu.specs.Tasks.{computed}
use Rattle.z80_exec.specs.declared.regs80.Regs80.{Regs80}
use Rattle.z80_exec.specs.Access.Actions.{Act, ◌>>=◌, give, read, write}
use Rattle.z80_exec.specs.Access.Outcomes.{Outcome, plain}
use Rattle.z80_exec.specs.Access.Parts.{a_of, f_of, with_af}

-- RLD: A's low digit goes to (HL)'s low one, that to its high one, and that to A
unfoldable pub rotate_digits_left : Regs80 → Act Outcome
rotate_digits_left regs = do
  value ← read regs.hl
  let out = computed Rld (a_of regs) value (f_of regs)
  written ← write regs.hl (rld_memory (a_of regs) value)
  give (plain (with_af out.value out.f regs))

-- RRD: A's low digit goes to (HL)'s high one, that to its low one, and that to A
unfoldable pub rotate_digits_right : Regs80 → Act Outcome
rotate_digits_right regs = do
  value ← read regs.hl
  let out = computed Rrd (a_of regs) value (f_of regs)
  written ← write regs.hl (rrd_memory (a_of regs) value)
  give (plain (with_af out.value out.f regs))
