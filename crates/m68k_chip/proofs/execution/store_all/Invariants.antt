use Rattle.std.proofs.Common.{◌≡◌, take}
use Rattle.m68k_access.specs.Memory.{ram_after}
use Rattle.m68k_chip.proofs.execution.store_all.Given as goal

-- the writes so far are stored
abbrev pub invariant-writes : goal.invariant-writes
invariant-writes l = l.ram ≡ ram_after l.fn.ram (take l.address-index l.writes)
