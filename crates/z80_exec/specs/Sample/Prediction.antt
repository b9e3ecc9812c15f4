-- What follows a write that waits for its answer, which has no value. Zilog UM0080, "CPU Timing".
use Rattle.std.specs.Prelude.{◌≡◌, ℕ, ◌+◌, ◌≤◌, true, false, [], ◌∷◌, ◌++◌, length, Result, Ok, Err}
use Rattle.md_word.specs.Answers.{Done, taken_alone}
use Rattle.md_word.specs.declared.sub_bus.Request80.{Request80}
use Rattle.z80_exec.specs.Access.Actions.{Act}
use Rattle.z80_exec.specs.Access.Memory.{Memory}
use Rattle.z80_exec.specs.Access.Outcomes.{Outcome, plain}
use Rattle.z80_exec.specs.Sample.Samples.{Ended, reported_by}
use Rattle.z80_exec.specs.declared.access.waiting.Waiting.{Waiting}
use Rattle.z80_exec.specs.declared.regs80.Regs80.{Regs80}
use Rattle.z80_exec.specs.declared.sample.step.Predicted80.{Predicted80}
use Rattle.z80_exec.specs.declared.sample.step.Step80.{Step80}
use Rattle.z80_exec.specs.declared.sample.step.Step80.TheVariants as steps

-- the same memory with one answer more
abbrev pub answered_with : ℕ → Memory → Memory
answered_with value memory = record memory { answers = memory.answers ++ value ∷ [] }

-- the answer that waits is the last one, and nothing private is written
abbrev pub all_answered : Memory → Done
all_answered memory = taken_alone (length memory.answers + 1)

-- an action whose access waits gives this, whatever it is answered, and these registers are predicted; where
-- it does not wait nothing is predicted
abbrev pub WaitsForLast : {A B : Type 0} → Result A Waiting → Predicted80 → Regs80 → Act B → B → Memory → Done → Type 0
WaitsForLast (Ok x) predicted regs act given memory done = predicted.known ≡ false
WaitsForLast (Err waiting) predicted regs act given memory done =
    predicted.known ≡ true → (predicted.regs ≡ regs) × (done.used ≤ length memory.answers) × ((value : ℕ) → act (answered_with value memory) done ≡ Ok (given, all_answered memory))

-- an instruction that waits ends with the registers that are predicted, whatever it is answered; where it
-- does not wait nothing is predicted
abbrev pub Predicts : {A : Type 0} → Result A Waiting → Predicted80 → Act Outcome → Memory → Done → Type 0
Predicts (Ok x) predicted act memory done = predicted.known ≡ false
Predicts (Err waiting) predicted act memory done =
    predicted.known ≡ true → (value : ℕ) → act (answered_with value memory) done ≡ Ok (plain predicted.regs, all_answered memory)

-- a sample that waits results in what is predicted, whatever it is answered
abbrev pub EndsPredicted : Step80 → Predicted80 → (Memory → Result Ended Request80) → Memory → Type 0
EndsPredicted (steps.Need waiting) predicted sample memory =
    predicted.known ≡ true → (value : ℕ) → sample (answered_with value memory) ≡ reported_by (steps.Done predicted.finish) predicted.regs (all_answered memory)
EndsPredicted (steps.Done finish) predicted sample memory = Unit {0}
