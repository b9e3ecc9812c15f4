-- What holds of each instruction and each sample, for any registers, memory and answers.
use Rattle.std.specs.Prelude.{ℕ, Bool, true, false, ◌≡◌, ◌≢◌, ◌⊎◌, ◌==◌, nat_le, nat_lt, not, ◌+◌, ◌-◌, ◌*◌, ◌/◌, ◌%◌, ◌^◌, ◌<◌, ◌≤◌, IsTrue, [], ◌∷◌, ◌++◌, length, Ok, Err}
use Rattle.md_word.specs.Answers as answers
use Rattle.md_word.specs.Answers.{Done}
use Rattle.md_word.specs.declared.sub_bus.Request80.{Request80}
use Rattle.md_word.specs.declared.task80.Task80.TheVariants as tasks
use Rattle.z80_alu.specs.Tasks.{computed}
use Rattle.z80_decode.specs.Instructions.{instruction_of}
use Rattle.z80_decode.specs.declared.condition.Condition.TheVariants as conditions
use Rattle.z80_decode.specs.declared.interrupt_mode.InterruptMode.TheVariants.{Mode0, Mode1}
use Rattle.z80_decode.specs.declared.op80.Op80.TheVariants as ops
use Rattle.z80_decode.specs.declared.op80.Op80.{Op80}
use Rattle.z80_decode.specs.declared.special.Special.TheVariants.{Refresh}
use Rattle.z80_parcel.specs.Parcels.{ram_size}
use Rattle.z80_exec.specs.Access.Actions.{Act, ◌>>=◌}
use Rattle.z80_exec.specs.Access.Conditions.{holds}
use Rattle.z80_exec.specs.Access.Memory.{Memory, answers_of, instruction_bytes, is_ram, private_of}
use Rattle.z80_exec.specs.Access.Operands.{pop, push}
use Rattle.z80_exec.specs.Access.Outcomes.{taken}
use Rattle.z80_exec.specs.Access.Parts.{down, high, low}
use Rattle.z80_exec.specs.Rows.Calls.{call, return_from}
use Rattle.z80_exec.specs.Rows.Control.{disabled}
use Rattle.z80_exec.specs.Sample.Bounds.{IsAccess}
use Rattle.z80_exec.specs.Sample.Entries.{enter}
use Rattle.z80_exec.specs.Sample.Execution.{row}
use Rattle.z80_exec.specs.Sample.Samples.{Ended, sampled}
use Rattle.z80_exec.specs.declared.regs80.Regs80.{Regs80}

-- two memories are the same to what takes so many answers: the first answers are the same
abbrev pub SameBelow : ℕ → Memory → Memory → Type 0
SameBelow count one other = answers.SameBelow private_of answers_of count one other

-- where it results in a value, it results in the same with any answers in place of those that it did not
-- take; and it takes no answer back
pub record IgnoresLaterAnswers {A : Type 0} (act : Act A) : Type 0 where
  pub value : (one other : Memory) (before : Done) (x : A) (after : Done) → act one before ≡ Ok (x, after) → SameBelow after.used one other → act other before ≡ Ok (x, after)
  pub taken : (memory : Memory) (before : Done) (x : A) (after : Done) → act memory before ≡ Ok (x, after) → before.used ≤ after.used

-- each instruction; and a sample that ends results in the same with any answers in place
-- of those that it did not take
pub record SamplesIgnoreLaterAnswers : Type 0 where
  pub row : (op : Op80) (regs : Regs80) → IgnoresLaterAnswers (row op regs)
  pub sampled : (cause : ℕ) (regs : Regs80) (one other : Memory) (ended : Ended) → sampled cause regs one ≡ Ok ended → SameBelow ended.used one other → sampled cause regs other ≡ Ok ended

-- a sample's clocks cover its accesses, four for the fetch and three for each, and are 23 at most; it
-- waits only where there are fewer than four answers, for a shared read or write
pub record SamplesAreBounded : Type 0 where
  pub covers : (cause : ℕ) (regs : Regs80) (memory : Memory) (ended : Ended) → sampled cause regs memory ≡ Ok ended → 4 + 3 * ended.used ≤ ended.t
  pub most : (cause : ℕ) (regs : Regs80) (memory : Memory) (ended : Ended) → sampled cause regs memory ≡ Ok ended → ended.t ≤ 23
  pub waits : (cause : ℕ) (regs : Regs80) (memory : Memory) (request : Request80) → sampled cause regs memory ≡ Err request → length memory.answers < 4
  pub asks : (cause : ℕ) (regs : Regs80) (memory : Memory) (request : Request80) → sampled cause regs memory ≡ Err request → IsAccess request

-- LD R,A
abbrev pub loads_r : Op80 → Bool
loads_r (ops.LoadToSpecial Refresh) = true
loads_r op = false

-- each instruction but LD R,A raises the low seven bits of R by 1 or by 2 and leaves bit 7; an interrupt
-- leaves R
pub record RefreshRises : Type 0 where
  pub instruction : (regs : Regs80) (memory : Memory) (ended : Ended) → sampled 0 regs memory ≡ Ok ended → loads_r (instruction_of (instruction_bytes regs.pc memory)).op ≡ false
      → (ended.regs.r / 0x80 ≡ regs.r / 0x80) × ((ended.regs.r % 0x80 ≡ (regs.r + 1) % 0x80) ⊎ (ended.regs.r % 0x80 ≡ (regs.r + 2) % 0x80))
  pub interrupt : (cause : ℕ) (regs : Regs80) (memory : Memory) (ended : Ended) → cause ≢ 0 → sampled cause regs memory ≡ Ok ended → ended.regs.r ≡ regs.r

-- a word that is pushed where RAM is below the stack pointer, its high byte first, is popped again,
-- and the registers are as before
abbrev pub PopsWhatWasPushed : Type 0
PopsWhatWasPushed = (value : ℕ) (regs : Regs80) (memory : Memory) (before : Done) → value < 2 ^ 16 → regs.sp < 2 ^ 16
    → IsTrue (is_ram (down regs.sp)) → IsTrue (is_ram (down (down regs.sp))) → length memory.ram ≡ ram_size
    → (push value regs >>= pop) memory before
    ≡ Ok (record { value = value; regs = regs }, record before { writes = (before.writes ++ (down regs.sp, high value) ∷ []) ++ (down (down regs.sp), low value) ∷ [] })

-- a call and an interrupt push the program counter, high byte first, and RET goes back: to the registers
-- before the call, and to those before the interrupt with interrupts disabled. In RAM
pub record ReturnsToTheCaller : Type 0 where
  pub call : (target : ℕ) (regs : Regs80) (memory : Memory) (before : Done) → regs.pc < 2 ^ 16 → regs.sp < 2 ^ 16
      → IsTrue (is_ram (down regs.sp)) → IsTrue (is_ram (down (down regs.sp))) → length memory.ram ≡ ram_size
      → (call target regs >>= (λ outcome. return_from outcome.regs)) memory before
      ≡ Ok (taken regs, record before { writes = (before.writes ++ (down regs.sp, high regs.pc) ∷ []) ++ (down (down regs.sp), low regs.pc) ∷ [] })
  pub interrupt : (regs : Regs80) (memory : Memory) (before : Done) → (regs.mode ≡ Mode0) ⊎ (regs.mode ≡ Mode1) → regs.pc < 2 ^ 16 → regs.sp < 2 ^ 16
      → IsTrue (is_ram (down regs.sp)) → IsTrue (is_ram (down (down regs.sp))) → length memory.ram ≡ ram_size
      → (enter regs >>= return_from) memory before
      ≡ Ok (taken (disabled regs), record before { writes = (before.writes ++ (down regs.sp, high regs.pc) ∷ []) ++ (down (down regs.sp), low regs.pc) ∷ [] })

-- F after CP of A and an operand
abbrev pub f_after : ℕ → ℕ → ℕ → ℕ
f_after a b f = (computed tasks.Cp a b f).f

-- after CP the conditions compare A with the operand: Z and NZ whether they are equal, C and NC as whole
-- numbers, M and P by the sign of the difference within a byte
pub record ConditionsCompare (a b f : ℕ) : Type 0 where
  pub zero : holds conditions.Zero (f_after a b f) ≡ (a == b)
  pub non_zero : holds conditions.NonZero (f_after a b f) ≡ not (a == b)
  pub carry : holds conditions.Carry (f_after a b f) ≡ nat_lt a b
  pub non_carry : holds conditions.NonCarry (f_after a b f) ≡ nat_le b a
  pub negative : holds conditions.Negative (f_after a b f) ≡ nat_le 0x80 ((a + 0x100 - b) % 0x100)
  pub positive : holds conditions.Positive (f_after a b f) ≡ not (nat_le 0x80 ((a + 0x100 - b) % 0x100))
