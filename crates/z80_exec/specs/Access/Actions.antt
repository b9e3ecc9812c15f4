-- What an instruction does, as actions: each takes the memory and what was done before, and gives a
-- value with what was done then, or the shared access that waits for its answer.
-- Zilog UM0080, "Z80 Instruction Description".
use Rattle.std.specs.Prelude.{ℕ, ◌+◌, ◌/◌, ◌%◌, ◌||◌, nat_lt, if◌then◌else◌, [], ◌∷◌, ◌++◌, length, slice_index, Result, Ok, Err}
use Rattle.md_word.specs.Answers.{Done}
use Rattle.md_word.specs.declared.sub_bus.Request80.{Request80}
use Rattle.md_word.specs.declared.sub_bus.Request80.TheVariants.{Read, Write}
use Rattle.z80_decode.specs.Fields.{word}
use Rattle.z80_exec.specs.Access.Memory.{Memory, bank_after, byte_at, is_bank, is_ram, is_shared_read, is_shared_write, next, ram_after}

-- from the memory and what was done before to a value with what was done then, or a shared access
-- that waits
abbrev pub Act : Type 0 → Type 0
Act A = Memory → Done → Result (A × Done) Request80

-- an access that waits stops the whole
abbrev pub go_on : {A B : Type 0} → Result (A × Done) Request80 → (A → Done → Result (B × Done) Request80) → Result (B × Done) Request80
go_on (Ok x) f = f x.0 x.1
go_on (Err request) f = Err request

-- one action, then another that knows its value
infixl 10 ◌>>=◌
abbrev pub ◌>>=◌ : {A B : Type 0} → Act A → (A → Act B) → Act B
(act >>= f) memory done = go_on (act memory done) (λ x after. f x memory after)

-- a value, with nothing done
abbrev pub give : {A : Type 0} → A → Act A
give x memory done = Ok (x, done)

-- a shared access: the next answer, or the request that waits for it
unfoldable pub asked : Request80 → Act ℕ
asked request memory done =
    if nat_lt done.used (length memory.answers)
    then Ok (slice_index memory.answers done.used, record done { used = done.used + 1 })
    else Err request

-- a shared write: the answer has no value
unfoldable pub reported : Request80 → Act (Unit {0})
reported request = do
  answer ← asked request
  give tt

-- what a private read sees: RAM and the bank register are as the instruction's own writes have left
-- them
unfoldable pub byte_seen : ℕ → Memory → Done → ℕ
byte_seen at memory done =
    byte_at memory.rom (ram_after memory.ram done.writes) (bank_after memory.bank done.writes) at

-- after a private write, which is lost outside RAM and the bank register
unfoldable pub with_byte : ℕ → ℕ → Done → Done
with_byte at value done =
    if is_ram at || is_bank at then record done { writes = done.writes ++ (at, value) ∷ [] } else done

-- the byte at an address
unfoldable pub read : ℕ → Act ℕ
read at memory done =
    if is_shared_read at then asked (Read at) memory done else Ok (byte_seen at memory done, done)

-- the byte is written at an address, on the bus where that is shared
unfoldable pub write : ℕ → ℕ → Act (Unit {0})
write at value memory done =
    if is_shared_write at then reported (Write at value) memory done else Ok (tt, with_byte at value done)

-- the word at an address: its low byte first
unfoldable pub read_word : ℕ → Act ℕ
read_word at = do
  low ← read at
  high ← read (next at)
  give (word low high)

-- the word is written at an address: its low byte first
unfoldable pub write_word : ℕ → ℕ → Act (Unit {0})
write_word at value = do
  written ← write at (value % 0x100)
  write (next at) (value / 0x100)
