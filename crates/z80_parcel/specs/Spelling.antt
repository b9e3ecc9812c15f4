-- The bytes of a saved state that keep the Z80's RAM and its bank register. This project's profile.
use Rattle.std.specs.Prelude.{Bool, nat_lt, List, [], ◌∷◌, Option, Some, None}
use Rattle.md_fields.specs.Fields.{Field, block, word}
use Rattle.z80_parcel.specs.Parcels.{Store, banks, ram_size}

-- RAM and bank register, where they are there, by whether RAM's rule holds: the register has nine bits
abbrev pub store_fields : Bool → Option Store → List Field
store_fields holds None = []
store_fields holds (Some store) = block ram_size store.ram holds ∷ word store.bank (nat_lt store.bank banks) ∷ []
