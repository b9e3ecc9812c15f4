-- Operations of 8 bits on A, INC and DEC. Zilog UM0080, "8-Bit Arithmetic Group".
use Rattle.z80_alu.specs.Tasks.{computed}
use Rattle.md_word.specs.declared.task80.Task80.{Task80}
use Rattle.z80_decode.specs.declared.place8.Place8.{Place8}
use Rattle.z80_exec.specs.declared.regs80.Regs80.{Regs80}
use Rattle.z80_exec.specs.Access.Actions.{Act, ◌>>=◌, give}
use Rattle.z80_exec.specs.Access.Operands.{fetch, put}
use Rattle.z80_exec.specs.Access.Outcomes.{Outcome, plain}
use Rattle.z80_exec.specs.Access.Parts.{a_of, f_of, with_af, with_f}

-- an operation of A and an operand, with its result in A
unfoldable pub arithmetic : Task80 → Place8 → Regs80 → Act Outcome
arithmetic task place regs = do
  value ← fetch place regs
  let out = computed task (a_of regs) value (f_of regs)
  give (plain (with_af out.value out.f regs))

-- an operand is read, and the result written in its place: INC and DEC, and the rotates, shifts, RES
-- and SET of the prefix CB
unfoldable pub change : Task80 → Place8 → Regs80 → Act Outcome
change task place regs = do
  value ← fetch place regs
  let out = computed task (a_of regs) value (f_of regs)
  after ← put place out.value regs
  give (plain (with_f out.f after))
