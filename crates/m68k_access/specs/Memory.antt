-- What the 68000 sees at its addresses, of which the bus has 24 bits.
-- Genesis Technical Overview, the memory map of the 68000.
use Rattle.std.specs.Prelude.{ℕ, ◌+◌, ◌*◌, ◌%◌, ◌^◌, Bool, ◌==◌, nat_lt, nat_le, if◌then◌else◌, List, [], ◌∷◌, length, slice_index, slice_set, fold}

-- what stays as it is while an instruction runs: the cartridge's image, work RAM before it, and the
-- answers of its shared accesses so far
pub record Memory : Type 0 where
  pub rom : List ℕ
  pub ram : List ℕ
  pub answers : List ℕ

-- the address on the bus
abbrev pub bus_address : ℕ → ℕ
bus_address address = address % 0x100_0000

-- work RAM, of 64 KiB, is repeated from E00000h on
abbrev pub is_ram : ℕ → Bool
is_ram at = nat_le 0xe0_0000 at

-- how many bytes work RAM has
abbrev pub ram_size : ℕ
ram_size = 0x1_0000

-- the byte of work RAM that an address on the bus names
abbrev pub ram_place : ℕ → ℕ
ram_place at = at % ram_size

-- a private byte: in work RAM, in the cartridge, or FFh
unfoldable pub byte_at : List ℕ → List ℕ → ℕ → ℕ
byte_at rom ram at =
    if is_ram at then slice_index ram (ram_place at)
    else (if nat_lt at (length rom) then slice_index rom at else 0xff)

-- a private word: its high byte first
unfoldable pub word_at : List ℕ → List ℕ → ℕ → ℕ
word_at rom ram at = byte_at rom ram at * 0x100 + byte_at rom ram (at + 1)

-- a word of an instruction, which is no access: at an odd address FFFFh
unfoldable pub instruction_word : ℕ → Memory → ℕ
instruction_word address memory =
    if address % 2 == 0 then word_at memory.rom memory.ram (bus_address address) else 0xffff

-- as many words as the longest instruction has, from an address on
unfoldable pub instruction_words : ℕ → Memory → List ℕ
instruction_words address memory =
    instruction_word address memory
    ∷ instruction_word ((address + 2) % 2 ^ 32) memory
    ∷ instruction_word ((address + 4) % 2 ^ 32) memory
    ∷ instruction_word ((address + 6) % 2 ^ 32) memory
    ∷ instruction_word ((address + 8) % 2 ^ 32) memory
    ∷ []

-- work RAM after one byte is written at its address on the bus
abbrev pub stored : List ℕ → ℕ × ℕ → List ℕ
stored ram written = slice_set ram (ram_place written.0) (written.1 % 0x100)

-- work RAM after a list of bytes, the oldest first
abbrev pub ram_after : List ℕ → List (ℕ × ℕ) → List ℕ
ram_after ram writes = fold stored ram writes
