-- What a sample of any registers, memory and answers can ask for and leave.
use Rattle.std.specs.Prelude.{◌≡◌, ℕ, ◌%◌, ◌^◌, ◌<◌, bit_and, slice_index, IsTrue}
use Rattle.md_word.specs.declared.main_bus.Request68.{Request68}
use Rattle.md_word.specs.declared.main_bus.Request68.TheVariants.{Read8, Read16, Write8, Write16, Ack, Word as TransferWord}
use Rattle.md_word.specs.Map.{is_shared}
use Rattle.m68k_access.specs.Memory.{Memory}

-- a value of the status register: T, S, the interrupt mask and the five condition codes, no other bit
abbrev pub IsStatus : ℕ → Type 0
IsStatus sr = bit_and sr 0xa71f ≡ sr

-- a shared address, of 24 bits
pub record IsShared (at : ℕ) : Type 0 where
  pub shared : IsTrue (is_shared at)
  pub below : at < 2 ^ 24

-- a read or a write at a shared address, even for a word
abbrev pub IsAccess : Request68 → Type 0
IsAccess (Read8 at) = IsShared at
IsAccess (Read16 at) = IsShared at × (at % 2 ≡ 0)
IsAccess (Write8 at value) = IsShared at
IsAccess (Write16 at value) = IsShared at × (at % 2 ≡ 0)
IsAccess (Ack level) = ⊥
IsAccess (TransferWord value) = ⊥

-- what a sample of this cause can ask for: the acknowledge of its level, or a shared access
abbrev pub MayAsk : ℕ → Request68 → Type 0
MayAsk cause (Ack level) = level ≡ cause
MayAsk cause request = IsAccess request

-- the cartridge and work RAM are bytes, and each answer is a word at most
pub record Fits (memory : Memory) : Type 0 where
  pub rom : (k : ℕ) → slice_index memory.rom k < 256
  pub ram : (k : ℕ) → slice_index memory.ram k < 256
  pub answers : (k : ℕ) → slice_index memory.answers k < 65536
