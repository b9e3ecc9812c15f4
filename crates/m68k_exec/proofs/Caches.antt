-- An instruction of the cartridge is the same whatever work RAM has.
use Rattle.std.proofs.Common.{◌≡◌, ℕ, zero, suc, ◌+◌, ◌%◌, ◌^◌, ◌<◌, ◌≤◌, ◌∙◌, false, true, nat_le, ◌==◌, List, ◌∷◌, [], length, slice_index_or, refl, sym, ap, subst, arith, if◌then◌else◌}
use Rattle.std.proofs.lemmas.Bool.Decides.{nat_tests}
use Rattle.std.proofs.lemmas.List.{length-set}
use Rattle.std.proofs.lemmas.List.Elements.{All-get_or, All-set}
use Rattle.std.specs.Box.{with_value}
use Rattle.std.specs.Prelude.{slice_set}
use Rattle.m68k_decode.specs.Fields.{opcode}
use Rattle.m68k_decode.specs.Instructions.{instruction_of}
use Rattle.m68k_access.specs.Memory.{Memory, bus_address, byte_at, instruction_word, instruction_words, word_at}
use Rattle.m68k_exec.specs.Sample.Caches.{IsCacheOf, IsEntryOf, IsFixed, IsInstructionAt, entry_of, place_of}
use Rattle.m68k_exec.specs.declared.sample.cache.CachedInstruction.{CachedInstruction}
use Rattle.m68k_exec.specs.declared.sample.cache.DecodeCache.{DecodeCache}

byte-fixed : (rom ram other : List ℕ) (at : ℕ) → at < 0xe0_0000 → byte_at rom ram at ≡ byte_at rom other at
unfolding byte_at
byte-fixed rom ram other at low =
    let outside : nat_le 0xe0_0000 at ≡ false = grind (arith, nat_tests, low) in
    rw outside refl

word-fixed : (rom ram other : List ℕ) (at : ℕ) → at + 1 < 0xe0_0000 → word_at rom ram at ≡ word_at rom other at
unfolding word_at
word-fixed rom ram other at low =
    rw (byte-fixed rom ram other at (omega (arith, low)), byte-fixed rom ram other (at + 1) low) refl

instruction_word-fixed : (address : ℕ) (memory : Memory) (ram answers : List ℕ) → bus_address address + 1 < 0xe0_0000
    → instruction_word address memory ≡ instruction_word address (record { rom = memory.rom; ram = ram; answers = answers })
unfolding instruction_word
instruction_word-fixed address memory ram answers low =
    ap (λ (word : ℕ). if address % 2 == 0 then word else 0xffff) (word-fixed memory.rom memory.ram ram (bus_address address) low)

within : (address k : ℕ) → k ≤ 8 → IsFixed address → bus_address ((address + k) % 2 ^ 32) + 1 < 0xe0_0000
within address k few fixed = omega (arith, few, fixed)

words-fixed : (address : ℕ) (memory : Memory) (ram answers : List ℕ) → IsFixed address
    → instruction_words address memory ≡ instruction_words address (record { rom = memory.rom; ram = ram; answers = answers })
unfolding instruction_words
words-fixed address memory ram answers fixed =
    rw (
      instruction_word-fixed address memory ram answers (omega (arith, fixed)),
      instruction_word-fixed ((address + 2) % 2 ^ 32) memory ram answers (within address 2 (omega arith) fixed),
      instruction_word-fixed ((address + 4) % 2 ^ 32) memory ram answers (within address 4 (omega arith) fixed),
      instruction_word-fixed ((address + 6) % 2 ^ 32) memory ram answers (within address 6 (omega arith) fixed),
      instruction_word-fixed ((address + 8) % 2 ^ 32) memory ram answers (within address 8 (omega arith) fixed),
    ) refl

-- what was decoded at an address is an entry of the cartridge
pub entry-decoded : (address : ℕ) (memory : Memory) (found : CachedInstruction) → found.address ≡ address → IsInstructionAt address memory found → IsEntryOf memory.rom found
entry-decoded address memory found at right = λ fixed ram answers. record {
  first = right.first ∙ ap (λ (words : List ℕ). opcode words) (words-fixed address memory ram answers (subst IsFixed at fixed)) ∙ sym (ap (λ (n : ℕ). opcode (instruction_words n (record { rom = memory.rom; ram = ram; answers = answers }))) at);
  decoded = right.decoded ∙ ap (λ (words : List ℕ). instruction_of words) (words-fixed address memory ram answers (subst IsFixed at fixed)) ∙ sym (ap (λ (n : ℕ). instruction_of (instruction_words n (record { rom = memory.rom; ram = ram; answers = answers }))) at);
  instruction = right.instruction;
  clocks = right.clocks;
}

-- what stands for a place of none does not matter where there is one
pub any-blank : (entries : List CachedInstruction) (place : ℕ) (blank other : CachedInstruction) → place < length entries → slice_index_or entries place blank ≡ slice_index_or entries place other
any-blank [] place blank other below = absurd (omega (arith, below))
any-blank (entry ∷ entries) zero blank other below = refl
any-blank (entry ∷ entries) (suc place) blank other below = any-blank entries place blank other (omega (arith, below))

-- the entry of an address is the instruction there, if it has this address
pub entry-found : (address : ℕ) (memory : Memory) (cache : DecodeCache) (blank : CachedInstruction) → IsCacheOf memory.rom cache → (entry_of cache address blank).address ≡ address → IsFixed address
    → IsInstructionAt address memory (entry_of cache address blank)
entry-found address memory cache blank right at fixed =
    subst (λ (n : ℕ). IsInstructionAt n memory (entry_of cache address blank)) at
    (All-get_or (IsEntryOf memory.rom) cache.entries.value (place_of address) blank (omega (arith, right.long)) right.entries (subst IsFixed (sym at) fixed) memory.ram memory.answers)

-- the same of what was read
pub entry-read : (address : ℕ) (cache : DecodeCache) (blank other : CachedInstruction) (entries : List CachedInstruction) (place : ℕ) → length cache.entries.value ≡ 4096 → entries ≡ cache.entries.value → place ≡ place_of address
    → (slice_index_or entries place other).address ≡ address → (entry_of cache address blank).address ≡ address
entry-read address cache blank other entries place long same there at =
    ap (λ (entry : CachedInstruction). entry.address) (any-blank cache.entries.value (place_of address) blank other (omega (arith, long)))
    ∙ subst (λ (n : ℕ). (slice_index_or cache.entries.value n other).address ≡ address) there
    (subst (λ (list : List CachedInstruction). (slice_index_or list place other).address ≡ address) same at)

-- what is read is the instruction that the entry has
pub entry-taken : (address : ℕ) (memory : Memory) (cache : DecodeCache) (other : CachedInstruction) (entries : List CachedInstruction) (place : ℕ) → entries ≡ cache.entries.value → place ≡ place_of address
    → ((blank : CachedInstruction) → IsInstructionAt address memory (entry_of cache address blank)) → IsInstructionAt address memory (slice_index_or entries place other)
entry-taken address memory cache other entries place same there right =
    subst (λ (n : ℕ). IsInstructionAt address memory (slice_index_or entries n other)) (sym there)
    (subst (λ (list : List CachedInstruction). IsInstructionAt address memory (slice_index_or list (place_of address) other)) (sym same) (right other))

-- what is read is the instruction at an address in the cartridge, if it has this address
pub entry-kept : (address : ℕ) (memory : Memory) (cache : DecodeCache) (other : CachedInstruction) (entries : List CachedInstruction) (place : ℕ) → IsCacheOf memory.rom cache → entries ≡ cache.entries.value → place ≡ place_of address
    → (slice_index_or entries place other).address ≡ address → IsFixed address → IsInstructionAt address memory (slice_index_or entries place other)
entry-kept address memory cache other entries place right same there at fixed =
    entry-taken address memory cache other entries place same there
    (λ blank. entry-found address memory cache blank right (entry-read address cache blank other entries place right.long same there at) fixed)

-- an entry that is noted is the same instruction
entry-noted : (rom : List ℕ) (found : CachedInstruction) → IsEntryOf rom found → IsEntryOf rom (record found { refused = true })
entry-noted rom found right = λ fixed ram answers. record {
  first = (right fixed ram answers).first;
  decoded = (right fixed ram answers).decoded;
  instruction = (right fixed ram answers).instruction;
  clocks = (right fixed ram answers).clocks;
}

pub cache-noted : (rom : List ℕ) (cache : DecodeCache) (seen entries : List CachedInstruction) (place : ℕ) (blank : CachedInstruction) → IsCacheOf rom cache → seen ≡ cache.entries.value → entries ≡ cache.entries.value → place < 4096
    → IsCacheOf rom (record { entries = with_value cache.entries (slice_set entries place (record (slice_index_or seen place blank) { refused = true })) })
cache-noted rom cache seen entries place blank right read written below =
    let found : CachedInstruction = slice_index_or cache.entries.value place blank in
    rw (read, written) (record {
      long = length-set cache.entries.value place (record found { refused = true }) ∙ right.long;
      entries = All-set (IsEntryOf rom) cache.entries.value place (record found { refused = true })
          (entry-noted rom found (All-get_or (IsEntryOf rom) cache.entries.value place blank (omega (arith, below, right.long)) right.entries)) right.entries;
    })
