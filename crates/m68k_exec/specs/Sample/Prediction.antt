-- What follows a write that waits for its answer, which carries nothing.
-- M68000 User's Manual, section 5, the write cycle.
use Rattle.std.specs.Prelude.{◌≡◌, ℕ, ◌+◌, ◌≤◌, true, false, [], ◌∷◌, ◌++◌, length, Result, Ok, Err}
use Rattle.m68k_decode.specs.declared.op.Op.{Op}
use Rattle.md_word.specs.Answers.{Done}
use Rattle.m68k_access.specs.Actions.{Act}
use Rattle.m68k_access.specs.Memory.{Memory}
use Rattle.m68k_access.specs.Outcomes.{Outcome, plain}
use Rattle.m68k_exec.specs.Sample.Samples.{Ended, finished, nothing, reported_by}
use Rattle.m68k_access.specs.declared.stop.Stop.{Stop}
use Rattle.m68k_access.specs.declared.stop.Stop.TheVariants.{Ask, Odd}
use Rattle.m68k_exec.specs.declared.sample.step.Predicted.{Predicted}
use Rattle.m68k_exec.specs.declared.sample.step.Step.{Step}
use Rattle.m68k_exec.specs.declared.sample.step.Step.TheVariants as steps
use Rattle.md_word.specs.declared.regs.Regs.{Regs}
use Rattle.md_word.specs.declared.spent.Spent.{Spent}
use Rattle.m68k_time.specs.Clocks.{clocks_of}

-- the same memory with one answer more
abbrev pub answered_with : ℕ → Memory → Memory
answered_with value memory = record memory { answers = memory.answers ++ value ∷ [] }

-- the answer that waits is the last one, and nothing private is written
abbrev pub all_answered : Memory → Done
all_answered memory = record { used = length memory.answers + 1; writes = [] }

-- an instruction that waits ends with the registers that are predicted, whatever it is answered; where it
-- does not wait nothing is predicted
abbrev pub Predicts : {A : Type 0} → Result A Stop → Predicted → Act Outcome → Memory → Done → Type 0
Predicts (Ok x) predicted act memory done = predicted.known ≡ false
Predicts (Err (Ask request)) predicted act memory done =
    predicted.known ≡ true → (value : ℕ) → act (answered_with value memory) done ≡ Ok (plain predicted.regs, all_answered memory)
Predicts (Err (Odd address read used)) predicted act memory done = predicted.known ≡ false

-- the clocks that are kept are those of the finish
abbrev pub TakesClocks : Predicted → Type 0
TakesClocks predicted = predicted.clocks ≡ clocks_of predicted.finish.op predicted.finish.spent

-- what an instruction met that ends with the answer that waits, takes no branch and counts nothing
abbrev pub at_last : Memory → Spent
at_last memory = record { taken = false; expired = false; count = 0; cause = 0; accesses = length memory.answers + 1 }

-- a sample that waits results in what is predicted, whatever it is answered, in the clocks that are kept
abbrev pub EndsPredicted : Step → Predicted → (Memory → Result Ended Stop) → Memory → Type 0
EndsPredicted (steps.Need request) predicted sample memory =
    predicted.known ≡ true → TakesClocks predicted × ((value : ℕ) → sample (answered_with value memory) ≡ reported_by (steps.Done predicted.finish) predicted.regs nothing)
EndsPredicted (steps.Done finish) predicted sample memory = Unit {0}

-- an action whose last access waits gives this, whatever it is answered, and these registers are predicted;
-- where it does not wait nothing is predicted
abbrev pub WaitsForLast : {A B : Type 0} → Result A Stop → Predicted → Regs → Act B → B → Memory → Done → Type 0
WaitsForLast (Ok x) predicted regs act given memory done = predicted.known ≡ false
WaitsForLast (Err (Ask request)) predicted regs act given memory done =
    predicted.known ≡ true → (predicted.regs ≡ regs) × (done.used ≤ length memory.answers) × ((value : ℕ) → act (answered_with value memory) done ≡ Ok (given, all_answered memory))
WaitsForLast (Err (Odd address read used)) predicted regs act given memory done = predicted.known ≡ false

-- what is kept of the finish is that of an instruction with nothing else to report, and its clocks
abbrev pub FinishesPredicted : Predicted → Op → Regs → Memory → Type 0
FinishesPredicted predicted op found memory =
    TakesClocks predicted × (reported_by (steps.Done predicted.finish) predicted.regs nothing ≡ Ok (finished op found (plain predicted.regs) (all_answered memory)))
