-- The bytes of a saved state that keep the Z80. This project's profile.
use Rattle.std.specs.Prelude.{◌≡◌, ◌≢◌, ℕ, ◌+◌, ◌==◌, Bool, true, false, if◌then◌else◌, List, length, take, drop, min, Option, Some, None, ◌⊎◌}
use Rattle.std.specs.Int.{w16}
use Rattle.md_fields.specs.Fields.{first_invalid, spelling}
use Rattle.md_fields.specs.Items.{Breaks, IsRight, Keeps}
use Rattle.md_fields.specs.Places.{Stand, number_at}
use Rattle.z80_parcel.specs.Parcels.{Store, ram_size}
use Rattle.z80_chip.specs.Saved.{chip_fields, fields_by, kept_of}
use Rattle.z80_chip.specs.States.{State80}
use Rattle.z80_chip.specs.declared.saved.Saved80.{Saved80}

-- how many bytes there are without RAM and bank register; else RAM begins there
abbrev pub ram_offset : ℕ
ram_offset = 62

-- where the bank register is
abbrev pub bank_offset : ℕ
bank_offset = ram_offset + ram_size

-- how many bytes there are with RAM and bank register
abbrev pub full_size : ℕ
full_size = bank_offset + 2

-- how many bytes there are, by whether RAM and bank register follow
abbrev pub spelled_size : Bool → ℕ
spelled_size false = ram_offset
spelled_size true = full_size

-- the bytes that keep a state; the rules, and so the cartridge and the cycle, have no part in them
abbrev pub chip_bytes : State80 → List ℕ
chip_bytes state = spelling (fields_by 0 true (kept_of state))

-- the bytes of a state at a cycle keep the Z80, whose rules hold
pub record Spells (cart : List ℕ) (at : ℕ) (bytes : List ℕ) (state : State80) : Type 0 where
  pub keeps : Keeps (chip_fields cart at) bytes (kept_of state)
  pub right : IsRight (chip_fields cart at) (kept_of state)

-- as many bytes as there can be
abbrev pub IsLength : List ℕ → Type 0
IsLength bytes = (length bytes ≡ ram_offset) ⊎ (length bytes ≡ full_size)

-- bytes that keep no Z80 are refused at this offset: by their length, or by the first rule that fails.
-- Of a wrong length the lesser one is the offset, where more than 62 bytes are to be 8,256
abbrev pub InvalidAt : List ℕ → ℕ → List ℕ → ℕ → Type 0
InvalidAt cart at bytes place =
    ((length bytes ≢ ram_offset) × (length bytes ≢ full_size) × (place ≡ min (length bytes) full_size)) ⊎ Breaks (chip_fields cart at) bytes place

-- RAM and bank register as they are in the bytes
abbrev pub store_at : List ℕ → Option Store
store_at bytes =
    if length bytes == ram_offset then None
    else Some (record { ram = take ram_size (drop ram_offset bytes); bank = number_at w16 bank_offset bytes })

-- the numbers in the bytes, whose rules hold, RAM's set aside
pub record IsRead (at : ℕ) (bytes : List ℕ) (numbers : Saved80) : Type 0 where
  pub sized : IsLength bytes
  pub stands : (holds : Bool) → Stand 0 (fields_by at holds (record { numbers = numbers; store = store_at bytes })) bytes
  pub right : first_invalid 0 (fields_by at true (record { numbers = numbers; store = store_at bytes })) ≡ None
