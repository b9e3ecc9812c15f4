-- What holds of each sample, for any registers, memory and answers.
use Rattle.std.specs.Prelude.{ℕ, ◌≡◌, ◌<◌, Bool, length, Ok, Err}
use Rattle.md_word.specs.declared.main_bus.Request68.{Request68}
use Rattle.md_word.specs.declared.regs.Regs.{Regs}
use Rattle.m68k_decode.specs.declared.op.Op.{Op}
use Rattle.m68k_decode.specs.Bounds.{FewCounted}
use Rattle.m68k_decode.specs.Ops.{IsSpent}
use Rattle.m68k_access.specs.declared.stop.Stop.TheVariants.{Ask, Odd}
use Rattle.m68k_access.specs.Laws.{IgnoresLaterAnswers, SameBelow}
use Rattle.m68k_access.specs.Memory.{Memory}
use Rattle.m68k_exec.specs.Sample.Bounds.{Fits, IsStatus, MayAsk}
use Rattle.m68k_exec.specs.Sample.Execution.{row}
use Rattle.m68k_exec.specs.Sample.Samples.{Ended, sampled}

-- each instruction; and a sample that ends results in the same with any answers in place
-- of those that it did not take
pub record SamplesIgnoreLaterAnswers : Type 0 where
  pub row : (op : Op) (start : ℕ) (regs : Regs) → IgnoresLaterAnswers (row op start regs)
  pub sampled : (cause : ℕ) (regs : Regs) (one other : Memory) (ended : Ended) → sampled cause regs one ≡ Ok ended → SameBelow ended.spent.accesses one other → sampled cause regs other ≡ Ok ended

-- A sample of any registers, memory and answers spends what its instruction can spend. It waits only where
-- there are fewer than 32 answers. Where an operand is at an odd address it ends in the handler of the
-- address error.
pub record SamplesAreBounded : Type 0 where
  pub spends : (cause : ℕ) (regs : Regs) (memory : Memory) (ended : Ended) → sampled cause regs memory ≡ Ok ended → IsSpent ended.op ended.spent
  pub waits : (cause : ℕ) (regs : Regs) (memory : Memory) (request : Request68) → sampled cause regs memory ≡ Err (Ask request) → length memory.answers < 32
  pub reaches : (cause : ℕ) (regs : Regs) (memory : Memory) (address : ℕ) (read : Bool) (used : ℕ) → sampled cause regs memory ≡ Err (Odd address read used) → ⊥

-- from a status register with no other bits, a sample leaves one, and asks only for the acknowledge of
-- its level or for a read or write at a shared address
pub record SamplesAskRightly : Type 0 where
  pub status : (cause : ℕ) (regs : Regs) (memory : Memory) (ended : Ended) → IsStatus regs.sr → sampled cause regs memory ≡ Ok ended → IsStatus ended.regs.sr
  pub asks : (cause : ℕ) (regs : Regs) (memory : Memory) (request : Request68) → IsStatus regs.sr → sampled cause regs memory ≡ Err (Ask request) → MayAsk cause request

-- where memory holds bytes and answers are words, a count that the time depends on is at most 64
abbrev pub CountsAreFew : Type 0
CountsAreFew = (cause : ℕ) (regs : Regs) (memory : Memory) (ended : Ended) → Fits memory → sampled cause regs memory ≡ Ok ended → ended.spent.cause ≡ 0 → FewCounted ended.op ended.spent.count
