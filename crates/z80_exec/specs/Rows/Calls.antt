-- CALL, RET, RETI, RETN and RST. Zilog UM0080, "Call and Return Group".
use Rattle.std.specs.Prelude.{ℕ, if◌then◌else◌}
use Rattle.z80_decode.specs.declared.condition.Condition.{Condition}
use Rattle.z80_exec.specs.declared.regs80.Regs80.{Regs80}
use Rattle.z80_exec.specs.Access.Actions.{Act, ◌>>=◌, give}
use Rattle.z80_exec.specs.Access.Conditions.{holds}
use Rattle.z80_exec.specs.Access.Operands.{pop, push}
use Rattle.z80_exec.specs.Access.Outcomes.{Outcome, plain, taken}
use Rattle.z80_exec.specs.Access.Parts.{f_of}

-- CALL nn, and RST: the address of the next instruction is pushed
unfoldable pub call : ℕ → Regs80 → Act Outcome
call target regs = do
  after ← push regs.pc regs
  give (taken (record after { pc = target }))

-- CALL cc,nn
unfoldable pub call_if : Condition → ℕ → Regs80 → Act Outcome
call_if condition target regs memory done =
    if holds condition (f_of regs) then call target regs memory done else give (plain regs) memory done

-- RET, and RETI
unfoldable pub return_from : Regs80 → Act Outcome
return_from regs = do
  popped ← pop regs
  give (taken (record popped.regs { pc = popped.value }))

-- RET cc
unfoldable pub return_if : Condition → Regs80 → Act Outcome
return_if condition regs memory done =
    if holds condition (f_of regs) then return_from regs memory done else give (plain regs) memory done

-- RETN: IFF1 is as before the interrupt
unfoldable pub return_from_non_maskable : Regs80 → Act Outcome
return_from_non_maskable regs = return_from (record regs { iff1 = regs.iff2 })
