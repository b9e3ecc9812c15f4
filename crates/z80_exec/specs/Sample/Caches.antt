-- Instructions that are kept decoded, by their bytes.
use Rattle.std.specs.Prelude.{◌≡◌, ℕ, false, true, List, length, slice_index}
use Rattle.std.specs.Int.{to_le_bytes, w32}
use Rattle.std.specs.List.{All}
use Rattle.z80_decode.specs.Instructions.{instruction_of}
use Rattle.z80_exec.specs.Sample.Samples.{rise_of}
use Rattle.z80_exec.specs.Sample.Times.{time_of}
use Rattle.z80_exec.specs.declared.sample.cache.CachedInstruction.{CachedInstruction}

-- this is the instruction of these bytes, with how much R rises for it and its clocks
pub record IsInstructionOf (bytes : List ℕ) (found : CachedInstruction) : Type 0 where
  pub decoded : found.decoded ≡ instruction_of bytes
  pub rise : found.rise ≡ rise_of found.decoded.op (slice_index bytes 0)
  pub short : found.short ≡ time_of found.decoded.op false
  pub long : found.long ≡ time_of found.decoded.op true

-- an entry is the instruction of its own bytes
abbrev pub IsEntry : CachedInstruction → Type 0
IsEntry entry = IsInstructionOf (to_le_bytes w32 entry.bytes) entry

-- a cache has its number of entries, each of which is that of its bytes
pub record IsCache (kept : List CachedInstruction) : Type 0 where
  pub long : length kept ≡ 256
  pub entries : All IsEntry kept
