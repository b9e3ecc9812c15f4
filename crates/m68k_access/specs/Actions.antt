-- What an instruction does, as actions: each takes the memory and what was done before, and gives a
-- value with what was done then, or a stop. M68000 Programmer's Reference Manual, section 2; for
-- odd addresses M68000 User's Manual, section 6.3.10.
use Rattle.std.specs.Prelude.{ℕ, ◌+◌, ◌*◌, ◌/◌, ◌%◌, ◌^◌, Bool, true, false, ◌==◌, nat_lt, if◌then◌else◌, [], ◌∷◌, ◌++◌, length, slice_index, Result, Ok, Err}
use Rattle.md_word.specs.declared.main_bus.Request68.{Request68}
use Rattle.md_word.specs.declared.main_bus.Request68.TheVariants.{Read8, Read16, Write8, Write16}
use Rattle.md_word.specs.declared.size.Size.{Size}
use Rattle.md_word.specs.declared.size.Size.TheVariants.{Byte, Word, Long}
use Rattle.md_word.specs.Answers.{Done}
use Rattle.m68k_access.specs.declared.stop.Stop.{Stop}
use Rattle.m68k_access.specs.declared.stop.Stop.TheVariants.{Ask, Odd}
use Rattle.md_word.specs.Map.{is_shared}
use Rattle.m68k_access.specs.Memory.{Memory, bus_address, byte_at, is_ram, ram_after, word_at}

-- from the memory and what was done before to a value with what was done then, or a stop
abbrev pub Act : Type 0 → Type 0
Act A = Memory → Done → Result (A × Done) Stop

-- a stop is a stop of the whole
abbrev pub go_on : {A B : Type 0} → Result (A × Done) Stop → (A → Done → Result (B × Done) Stop) → Result (B × Done) Stop
go_on (Ok x) f = f x.0 x.1
go_on (Err stop) f = Err stop

-- one action, then another that knows its value
infixl 10 ◌>>=◌
abbrev pub ◌>>=◌ : {A B : Type 0} → Act A → (A → Act B) → Act B
(act >>= f) memory done = go_on (act memory done) (λ x after. f x memory after)

-- a value, with nothing done
abbrev pub give : {A : Type 0} → A → Act A
give x memory done = Ok (x, done)

-- an address at which no word or long can be accessed
abbrev pub is_odd : ℕ → Bool
is_odd address = address % 2 == 1

-- an address error
abbrev pub odd : {A : Type 0} → ℕ → Bool → Act A
odd address read memory done = Err (Odd address read done.used)

-- a shared access: the next answer, or the request that waits for it
unfoldable pub asked : Request68 → Act ℕ
asked request memory done =
    if nat_lt done.used (length memory.answers)
    then Ok (slice_index memory.answers done.used, record done { used = done.used + 1 })
    else Err (Ask request)

-- a byte answer has one byte
unfoldable pub asked_byte : ℕ → Act ℕ
asked_byte at = do
  answer ← asked (Read8 at)
  give (answer % 0x100)

-- a shared write: the answer carries nothing
unfoldable pub reported : Request68 → Act (Unit {0})
reported request = do
  answer ← asked request
  give tt

-- the byte that a private read sees: work RAM is as the instruction's own writes have left it
unfoldable pub byte_seen : ℕ → Memory → Done → ℕ
byte_seen at memory done = byte_at memory.rom (ram_after memory.ram done.writes) at

-- the word that a private read sees, its high byte first
unfoldable pub word_seen : ℕ → Memory → Done → ℕ
word_seen at memory done = word_at memory.rom (ram_after memory.ram done.writes) at

-- after a private write of a byte, which is lost outside work RAM
unfoldable pub with_byte : ℕ → ℕ → Done → Done
with_byte at value done =
    if is_ram at then record done { writes = done.writes ++ (at, value) ∷ [] } else done

-- after a private write of a word, its high byte first
unfoldable pub with_word : ℕ → ℕ → Done → Done
with_word at value done = with_byte (at + 1) (value % 0x100) (with_byte at (value / 0x100) done)

-- the byte at an address
unfoldable pub read_byte : ℕ → Act ℕ
read_byte address memory done =
    if is_shared (bus_address address) then asked_byte (bus_address address) memory done
    else Ok (byte_seen (bus_address address) memory done, done)

-- the word at an even address
unfoldable pub read_aligned : ℕ → Act ℕ
read_aligned at memory done =
    if is_shared at then asked (Read16 at) memory done else Ok (word_seen at memory done, done)

-- the word at an address
unfoldable pub read_word : ℕ → Act ℕ
read_word address memory done =
    if is_odd address then odd address true memory done else read_aligned (bus_address address) memory done

-- the long at an address: two words, that at the lower address first
unfoldable pub read_long : ℕ → Act ℕ
read_long address = do
  high ← read_word address
  low ← read_word ((address + 2) % 2 ^ 32)
  give (high * 0x1_0000 + low)

-- a byte, a word or a long at an address, as an unsigned number
unfoldable pub read : Size → ℕ → Act ℕ
read Byte address = read_byte address
read Word address = read_word address
read Long address = read_long address

-- a byte is written, on the bus where its address is shared
unfoldable pub write_byte : ℕ → ℕ → Act (Unit {0})
write_byte address value memory done =
    if is_shared (bus_address address) then reported (Write8 (bus_address address) value) memory done
    else Ok (tt, with_byte (bus_address address) value done)

-- a word is written at an even address of 24 bits, on the bus where that is shared
unfoldable pub write_aligned : ℕ → ℕ → Act (Unit {0})
write_aligned at value memory done =
    if is_shared at then reported (Write16 at value) memory done else Ok (tt, with_word at value done)

-- a word is written; at an odd address it is an address error
unfoldable pub write_word : ℕ → ℕ → Act (Unit {0})
write_word address value memory done =
    if is_odd address then odd address false memory done
    else write_aligned (bus_address address) value memory done

-- a long is written as two words, the high one first, at the lower address
unfoldable pub write_long : ℕ → ℕ → Act (Unit {0})
write_long address value = do
  first ← write_word address (value / 0x1_0000)
  write_word ((address + 2) % 2 ^ 32) (value % 0x1_0000)

-- a byte, a word or a long is written at an address
unfoldable pub write : Size → ℕ → ℕ → Act (Unit {0})
write Byte address value = write_byte address value
write Word address value = write_word address value
write Long address value = write_long address value
