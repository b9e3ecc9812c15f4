-- Instructions of a cartridge that are kept decoded.
use Rattle.std.specs.Prelude.{◌≡◌, ℕ, ◌/◌, ◌%◌, ◌<◌, false, List, length, slice_index_or}
use Rattle.std.specs.List.{All}
use Rattle.md_word.specs.declared.spent.Spent.{Spent}
use Rattle.m68k_decode.specs.Fields.{opcode}
use Rattle.m68k_decode.specs.Instructions.{instruction_of}
use Rattle.m68k_decode.specs.Ops.{IsInstruction}
use Rattle.m68k_time.specs.Clocks.{clocks_of}
use Rattle.m68k_access.specs.Memory.{Memory, instruction_words}
use Rattle.m68k_exec.specs.declared.sample.cache.CachedInstruction.{CachedInstruction}
use Rattle.m68k_exec.specs.declared.sample.cache.DecodeCache.{DecodeCache}

-- what an instruction met that took no branch and counted nothing
abbrev pub unspent : Spent
unspent = record { taken = false; expired = false; count = 0; cause = 0; accesses = 0 }

-- this is the instruction at an address, with its first word and its clocks
pub record IsInstructionAt (address : ℕ) (memory : Memory) (found : CachedInstruction) : Type 0 where
  pub first : found.first ≡ opcode (instruction_words address memory)
  pub decoded : found.decoded ≡ instruction_of (instruction_words address memory)
  pub instruction : IsInstruction found.decoded
  pub clocks : found.clocks ≡ clocks_of found.decoded.op unspent

-- no word of an instruction at this address lies in work RAM
abbrev pub IsFixed : ℕ → Type 0
IsFixed address = address % 0x100_0000 < 0xdf_fff6

-- an entry is the instruction at its address, whatever work RAM has
abbrev pub IsEntryOf : List ℕ → CachedInstruction → Type 0
IsEntryOf rom entry =
    IsFixed entry.address → (ram answers : List ℕ) → IsInstructionAt entry.address (record { rom = rom; ram = ram; answers = answers }) entry

-- a cache has its number of entries, which are instructions of this cartridge
pub record IsCacheOf (rom : List ℕ) (cache : DecodeCache) : Type 0 where
  pub long : length cache.entries.value ≡ 4096
  pub entries : All (IsEntryOf rom) cache.entries.value

-- the place of an address
abbrev pub place_of : ℕ → ℕ
place_of address = address / 2 % 4096

-- the entry of an address; every place has one
abbrev pub entry_of : DecodeCache → ℕ → CachedInstruction → CachedInstruction
entry_of cache address blank = slice_index_or cache.entries.value (place_of address) blank
