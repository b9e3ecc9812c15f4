use Rattle.std.proofs.Common.{◌≡◌, length, slice_index, take}
use Rattle.z80_exec.specs.Access.Memory.{ram_after}
use Rattle.z80_parcel.specs.Parcels.{ram_size}
use Rattle.z80_exec.proofs.access.memory.ram_byte.Given as goal

-- the byte is that of the RAM after the writes so far
abbrev pub invariant-writes : goal.invariant-writes
invariant-writes l =
    (l.byte ≡ slice_index (ram_after l.ram (take l.written-index l.writes)) l.place)
    × (length (ram_after l.ram (take l.written-index l.writes)) ≡ ram_size)
