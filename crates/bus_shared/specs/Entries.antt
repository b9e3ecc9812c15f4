-- How the journal reports an access. This project's profile.
use Rattle.std.specs.Prelude.{ℕ, ◌/◌, ◌%◌, ◌^◌, Bool}
use Rattle.md_word.specs.Clock.{batch}
use Rattle.md_word.specs.declared.event.Entry.{Entry}
use Rattle.md_word.specs.declared.key.Key.{Key}
use Rattle.md_word.specs.declared.main_bus.Request68.{Request68}
use Rattle.md_word.specs.declared.main_bus.Request68.TheVariants.{Read8, Read16, Write8, Write16, Ack, Word}
use Rattle.vdp_time.specs.Lines.{line_of}

-- an access of the 68000 that gave this value, with the VDP's address before it, at which the word of
-- a transfer is reported
abbrev pub main_entry : Key → Request68 → ℕ → ℕ → Entry
main_entry key (Read8 address) given a = record { key = key; kind = 0; address = address; value = given }
main_entry key (Read16 address) given a = record { key = key; kind = 1; address = address; value = given }
main_entry key (Write8 address value) given a = record { key = key; kind = 2; address = address; value = value }
main_entry key (Write16 address value) given a = record { key = key; kind = 3; address = address; value = value }
main_entry key (Ack level) given a = record { key = key; kind = 4; address = 0; value = level }
main_entry key (Word value) given a = record { key = key; kind = 5; address = a; value = value }

-- an access of the Z80: 6 reads and 7 writes a byte, and 8 and 9 are a yield and a take, with 1 where
-- the RAM moved
abbrev pub sub_entry : Key → ℕ → ℕ → ℕ → Entry
sub_entry key kind address value = record { key = key; kind = kind; address = address; value = value }

-- the start of a line: its number in a frame of the region, and the 68000's interrupt level after it
abbrev pub line_entry : Bool → Key → ℕ → Entry
line_entry pal key level = record { key = key; kind = 10; address = line_of key.cycle pal; value = level }

-- the number of the batch at a cycle
abbrev pub batch_number : ℕ → ℕ
batch_number cycle = cycle / batch % 2 ^ 32

-- a batch of a sound chip: kind 11 is the FM synthesis, 12 the PSG's; and how many writes it took
abbrev pub batch_entry : ℕ → Key → ℕ → Entry
batch_entry kind key taken = record { key = key; kind = kind; address = batch_number key.cycle; value = taken }
