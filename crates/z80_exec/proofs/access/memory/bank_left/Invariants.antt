use Rattle.std.proofs.Common.{◌≡◌, take}
use Rattle.z80_exec.specs.Access.Memory.{bank_after}
use Rattle.z80_exec.proofs.access.memory.bank_left.Given as goal

-- the register is as the writes so far have left it
abbrev pub invariant-writes : goal.invariant-writes
invariant-writes l = l.left ≡ bank_after l.bank (take l.written-index l.writes)
