use Rattle.std.proofs.Common.{◌≡◌, length, slice_index, take}
use Rattle.m68k_access.specs.Memory.{ram_after, ram_size}
use Rattle.m68k_access.proofs.memory.ram_byte.Given as goal

-- the byte is that of the RAM after the writes so far
abbrev pub invariant-writes : goal.invariant-writes
invariant-writes l =
    (l.byte ≡ slice_index (ram_after l.ram (take l.written-index l.writes)) l.place)
    × (length (ram_after l.ram (take l.written-index l.writes)) ≡ ram_size)
