use Rattle.std.proofs.Common.{◌≡◌, take}
use Rattle.z80_parcel.specs.Parcels.{bank_after, ram_after}
use Rattle.z80_parcel.proofs.parcel.store_bytes.Given as goal

-- the memories are as the writes so far have left them
abbrev pub invariant-writes : goal.invariant-writes
invariant-writes l =
    (l.parcel.ram.value ≡ ram_after l.fn.parcel.ram.value (take l.at-index l.writes))
    × (l.parcel.bank ≡ bank_after l.fn.parcel.bank (take l.at-index l.writes))
