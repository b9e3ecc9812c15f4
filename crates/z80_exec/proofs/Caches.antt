-- Instructions that are kept by their bytes.
use Rattle.std.proofs.Common.{◌≡◌, ℕ, ◌<◌, List, length, get_or, replicate, sym, subst, ◌∙◌}
use Rattle.std.specs.Int.{from_le_bytes, w32}
use Rattle.std.proofs.lemmas.List.{length-replicate, length-set}
use Rattle.std.proofs.lemmas.List.Elements.{All-replicate, All-set}
use Rattle.std.proofs.lemmas.Nat.{le_bytes_4}
use Rattle.std.specs.Prelude.{slice_set}
use Rattle.z80_exec.specs.Sample.Caches.{IsCache, IsEntry, IsInstructionOf}
use Rattle.z80_exec.specs.declared.sample.cache.CachedInstruction.{CachedInstruction}

-- an instruction of bytes whose number it has is an entry
pub entry-of : (bytes : List ℕ) (found : CachedInstruction) → length bytes ≡ 4 → ((i : ℕ) → get_or bytes i 0 < 256) → found.bytes ≡ from_le_bytes w32 bytes
    → IsInstructionOf bytes found → IsEntry found
entry-of bytes found long small number right = subst (λ (l : List ℕ). IsInstructionOf l found) (sym (le_bytes_4 bytes found.bytes long small number)) right

-- all places alike
pub same-entries : (entries : List CachedInstruction) (found : CachedInstruction) → entries ≡ replicate 256 found → IsEntry found → IsCache entries
same-entries entries found same right = rw same (record { long = length-replicate 256 found; entries = All-replicate IsEntry 256 found right })

-- another entry at a place
pub entry-set : (entries after : List CachedInstruction) (place : ℕ) (found : CachedInstruction) → after ≡ entries → IsCache entries → IsEntry found → IsCache (slice_set after place found)
entry-set entries after place found same cache right = rw same (record {
  long = length-set entries place found ∙ cache.long;
  entries = All-set IsEntry entries place found right cache.entries;
})
