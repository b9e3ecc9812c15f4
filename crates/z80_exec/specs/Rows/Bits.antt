-- BIT. Zilog UM0080, "Bit Set, Reset, and Test Group".
use Rattle.md_word.specs.declared.bit.Bit.{Bit}
use Rattle.md_word.specs.declared.task80.Task80.TheVariants.{Test}
use Rattle.z80_alu.specs.Tasks.{computed}
use Rattle.z80_decode.specs.declared.place8.Place8.{Place8}
use Rattle.z80_exec.specs.declared.regs80.Regs80.{Regs80}
use Rattle.z80_exec.specs.Access.Actions.{Act, ◌>>=◌, give}
use Rattle.z80_exec.specs.Access.Operands.{fetch}
use Rattle.z80_exec.specs.Access.Outcomes.{Outcome, plain}
use Rattle.z80_exec.specs.Access.Parts.{a_of, f_of, with_f}

-- BIT
unfoldable pub test_bit : Bit → Place8 → Regs80 → Act Outcome
test_bit bit place regs = do
  value ← fetch place regs
  let out = computed (Test bit) (a_of regs) value (f_of regs)
  give (plain (with_f out.f regs))
