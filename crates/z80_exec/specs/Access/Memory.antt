-- What the Z80 sees at its addresses.
-- Genesis Technical Overview, the memory map of the Z80; the repeats of RAM and what nothing answers,
-- this project's profile.
use Rattle.std.specs.Prelude.{ℕ, ◌+◌, ◌*◌, ◌%◌, Bool, ◌==◌, ◌&&◌, ◌||◌, nat_lt, nat_le, if◌then◌else◌, List, [], ◌∷◌, length, slice_index}
pub use Rattle.z80_parcel.specs.Parcels.{bank_after, banked, is_bank, is_ram, ram_after, ram_place, shifted, stored}

-- what stays as it is while an instruction runs: the cartridge's image, RAM and the bank register
-- before it, and the answers of its shared accesses so far
pub record Memory : Type 0 where
  pub rom : List ℕ
  pub ram : List ℕ
  pub bank : ℕ
  pub answers : List ℕ

-- the FM chip
abbrev pub is_fm : ℕ → Bool
is_fm at = nat_le 0x4000 at && nat_le at 0x5fff

-- a memory without its answers
abbrev pub private_of : Memory → Memory
private_of memory = record memory { answers = [] }

-- the answers alone
abbrev pub answers_of : Memory → List ℕ
answers_of memory = memory.answers

-- what a read shares with other chips: the FM chip
abbrev pub is_shared_read : ℕ → Bool
is_shared_read at = is_fm at

-- what a write shares with other chips: the FM chip, and the PSG at 7F11h
abbrev pub is_shared_write : ℕ → Bool
is_shared_write at = is_fm at || at == 0x7f11

-- the address of the 68000 that an address of the window shows
abbrev pub window_place : ℕ → ℕ → ℕ
window_place bank at = bank * 0x8000 + at % 0x8000

-- a byte of the window: the cartridge, or FFh
unfoldable pub window_byte : List ℕ → ℕ → ℕ → ℕ
window_byte rom bank at =
    if nat_lt (window_place bank at) (length rom) then slice_index rom (window_place bank at) else 0xff

-- a private byte: in RAM, in the window, or FFh
unfoldable pub byte_at : List ℕ → List ℕ → ℕ → ℕ → ℕ
byte_at rom ram bank at =
    if is_ram at then slice_index ram (ram_place at)
    else (if nat_le 0x8000 at then window_byte rom bank at else 0xff)

-- a byte of an instruction, which is no access
unfoldable pub instruction_byte : ℕ → Memory → ℕ
instruction_byte at memory = byte_at memory.rom memory.ram memory.bank at

-- the next address
abbrev pub next : ℕ → ℕ
next at = (at + 1) % 0x1_0000

-- as many bytes as the longest instruction has, from an address on
unfoldable pub instruction_bytes : ℕ → Memory → List ℕ
instruction_bytes at memory =
    instruction_byte at memory
    ∷ instruction_byte ((at + 1) % 0x1_0000) memory
    ∷ instruction_byte ((at + 2) % 0x1_0000) memory
    ∷ instruction_byte ((at + 3) % 0x1_0000) memory
    ∷ []
