-- The bytes of a saved state that keep the port: how many writes it holds, the writes, and zeros in the
-- places that are not used. This project's profile.
use Rattle.std.specs.Prelude.{ℕ, ◌+◌, true, Bool, List, [], ◌∷◌, length, map, slice_index}
use Rattle.std.specs.Int.{w64}
use Rattle.md_word.specs.declared.key.Key.{Key}
use Rattle.md_fields.specs.Fields.{Field, byte, quad, spelling}
use Rattle.md_fields.specs.Items.{IsRefused, IsRight, Keeps}
use Rattle.md_fields.specs.Padding.{padded}
use Rattle.md_fields.specs.Places.{number_at}
use Rattle.sound_writes.specs.Entries.{AreFit, entries_bytes, entries_from}
use Rattle.sound_writes.specs.Keys.{are_kept}
use Rattle.sound_writes.specs.Ports as ports
use Rattle.sound_writes.specs.Ports.{list_fields}
use Rattle.psg_sound.specs.declared.write.PsgWrite.{PsgWrite}

-- how many bytes keep a port
abbrev pub port_size : ℕ
port_size = 10242

-- the offset of the writes, after their number
abbrev pub entries_offset : ℕ
entries_offset = 2

-- how many bytes the writes and the unused places have
abbrev pub entries_size : ℕ
entries_size = 10240

-- what is kept, whatever it is: the number of the writes, and the bytes of 1,024 of ten bytes each
pub record SavedPort : Type 0 where
  pub count : ℕ
  pub entries : List ℕ

-- a write as fields: the cycle in eight bytes, the chip and the value in one each
abbrev pub write_fields : PsgWrite → List Field
write_fields w = quad w.key.cycle true ∷ byte w.key.chip true ∷ byte w.value true ∷ []

-- the write at an offset of the bytes
abbrev pub write_at : ℕ → List ℕ → PsgWrite
write_at place bytes = record {
  key = record { cycle = number_at w64 place bytes; chip = slice_index bytes (place + 8) };
  value = slice_index bytes (place + 9);
}

-- the first so many writes
abbrev pub writes_at : ℕ → List ℕ → List PsgWrite
writes_at count entries = entries_from 10 write_at count 0 entries

-- the key by which a write is ordered: its cycle and the chip that made it
abbrev pub key_of : PsgWrite → Key
key_of w = w.key

-- the writes have keys that a port holds at a cycle
abbrev pub are_right : ℕ → List PsgWrite → Bool
are_right at writes = are_kept at (map key_of writes)

-- at most 1,024 writes, with keys that a port holds at the cycle, and zeros after them
abbrev pub are_writes : ℕ → SavedPort → Bool
are_writes at s = ports.are_writes 10 write_at (are_right at) s.count s.entries

-- the fields in their order, and their rules; count and writes are one, whose rule is at the first field
abbrev pub port_fields : ℕ → SavedPort → List Field
port_fields at s = list_fields entries_size (are_writes at s) s.count s.entries

-- what is kept of a port
abbrev pub saved_port_of : List PsgWrite → SavedPort
saved_port_of writes = record { count = length writes; entries = padded entries_size (entries_bytes write_fields writes) }

-- the bytes that keep a port; the rules, and so the cycle, have no part in them
abbrev pub port_bytes : List PsgWrite → List ℕ
port_bytes writes = spelling (port_fields 0 (saved_port_of writes))

-- the bytes of a state at a cycle keep the port, whose rules hold
pub record SpellsPort (at : ℕ) (bytes : List ℕ) (writes : List PsgWrite) : Type 0 where
  pub keeps : Keeps (port_fields at) bytes (saved_port_of writes)
  pub right : IsRight (port_fields at) (saved_port_of writes)
  pub fit : AreFit write_fields writes

-- bytes that keep no port are refused at this place
abbrev pub PortInvalidAt : ℕ → List ℕ → ℕ → Type 0
PortInvalidAt at bytes place = IsRefused port_size (port_fields at) bytes place
