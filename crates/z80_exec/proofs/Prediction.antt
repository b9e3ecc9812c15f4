-- What follows a write that waits for its answer.
use Rattle.std.proofs.Common.{◌≡◌, ℕ, ◌+◌, ◌≤◌, ◌∙◌, true, false, nat_lt, [], length, slice_index, Result, Ok, Err, refl, sym, ap, arith}
use Rattle.std.proofs.lemmas.Bool.Decides.{nat_tests}
use Rattle.md_word.specs.Answers.{Done}
use Rattle.md_word.proofs.Answered.{answered-same, as-last, one-longer}
use Rattle.md_word.proofs.Choices.{split}
use Rattle.md_word.specs.declared.sub_bus.Request80.{Request80}
use Rattle.md_word.specs.declared.sub_bus.Request80.TheVariants.{Write}
use Rattle.z80_decode.specs.Instructions.{instruction_of}
use Rattle.z80_decode.specs.declared.decoded80.Decoded80.{Decoded80}
use Rattle.z80_decode.specs.declared.place8.Place8.{Place8}
use Rattle.z80_exec.specs.Access.Actions as actions
use Rattle.z80_exec.specs.Access.Actions.{Act}
use Rattle.z80_exec.specs.Access.Memory.{Memory, answers_of, instruction_byte, instruction_bytes, is_shared_write, private_of}
use Rattle.z80_exec.specs.Access.Operands as operands
use Rattle.z80_exec.specs.Access.Outcomes.{Outcome, plain}
use Rattle.z80_exec.specs.Rows.Loads as loads
use Rattle.z80_exec.specs.Sample.Prediction.{EndsPredicted, Predicts, WaitsForLast, all_answered, answered_with}
use Rattle.z80_exec.specs.Sample.Samples as samples
use Rattle.z80_exec.specs.declared.access.waiting.Waiting.{Waiting}
use Rattle.z80_exec.specs.declared.regs80.Regs80.{Regs80}
use Rattle.z80_exec.specs.declared.sample.step.Predicted80.{Predicted80}
use Rattle.z80_exec.specs.declared.sample.step.Step80.{Step80}
use Rattle.z80_exec.specs.declared.sample.step.Step80.TheVariants as steps
use Rattle.z80_exec.proofs.Bounds.Accesses.{answered}
use Rattle.z80_exec.proofs.Bounds.Rows as rows

-- where nothing is known nothing is predicted
pub nothing_predicted : {A : Type 0} (result : Result A Waiting) (predicted : Predicted80) (act : Act Outcome) (memory : Memory) (done : Done) → predicted.known ≡ false → Predicts result predicted act memory done
nothing_predicted (Ok x) predicted act memory done none = none
nothing_predicted (Err waiting) predicted act memory done none = λ known. absurd (let no_way = sym none ∙ known in cc)

pub nothing_waits : {A B : Type 0} (result : Result A Waiting) (predicted : Predicted80) (regs : Regs80) (act : Act B) (given : B) (memory : Memory) (done : Done) → predicted.known ≡ false → WaitsForLast result predicted regs act given memory done
nothing_waits (Ok x) predicted regs act given memory done none = none
nothing_waits (Err waiting) predicted regs act given memory done none = λ known. absurd (let no_way = sym none ∙ known in cc)

-- ---- a write that waits

reported-following : (request : Request80) (memory : Memory) (done : Done) (value : ℕ) → done.used ≡ length memory.answers → actions.reported request (answered_with value memory) done ≡ Ok (tt, record done { used = length memory.answers + 1 })
unfolding actions.reported
reported-following request memory done value last =
    let e = one-longer value memory.answers in
    let more : nat_lt done.used (length (answered_with value memory).answers) ≡ true = grind (arith, nat_tests, e, last) in
    rw (answered request (answered_with value memory) done more) (rw last refl)

pub write-following : (at written : ℕ) (memory : Memory) (done : Done) (request : Request80) → actions.write at written memory done ≡ Err request → done.used ≡ length memory.answers → done.writes ≡ []
    → (value : ℕ) → actions.write at written (answered_with value memory) done ≡ Ok (tt, all_answered memory)
unfolding actions.write
write-following at written memory done request e last empty value =
    split _ (is_shared_write at) _ _ _ e
    (λ shared v. rw shared (reported-following (Write at written) memory done value last ∙ ap (λ (d : Done). Ok (tt, d)) (as-last (length memory.answers + 1) done empty)))
    (λ shared v. absurd (cc))

-- ---- LD of 8 bits

pub load-following : (target source : Place8) (regs : Regs80) (memory : Memory) (done : Done) (from : ℕ) (mid : Done) (value : ℕ)
    → operands.fetch source regs memory done ≡ Ok (from, mid) → mid.used ≤ length memory.answers
    → operands.put target from regs (answered_with value memory) mid ≡ Ok (regs, all_answered memory)
    → loads.load target source regs (answered_with value memory) done ≡ Ok (plain regs, all_answered memory)
unfolding loads.load
load-following target source regs memory done from mid value fetched few stored =
    let again = (rows.fetch source regs).later.value memory (answered_with value memory) done from mid fetched (answered-same private_of answers_of mid.used value memory (answered_with value memory) refl refl few) in
    rw again (rw stored refl)

pub predicts-load : (A : Type 0) (waiting : Waiting) (predicted : Predicted80) (target source : Place8) (regs : Regs80) (memory : Memory) (done : Done) (from : ℕ) (mid : Done)
    → operands.fetch source regs memory done ≡ Ok (from, mid)
    → WaitsForLast {A = Unit {0}} {B = Regs80} (Err waiting) predicted regs (operands.put target from regs) regs memory mid
    → Predicts {A = A} (Err waiting) predicted (loads.load target source regs) memory done
predicts-load A waiting predicted target source regs memory done from mid fetched waits = λ known value.
    let w = waits known in
    load-following target source regs memory done from mid value fetched w.1 (w.2 value) ∙ ap (λ (r : Regs80). Ok (plain r, all_answered memory)) (sym w.0)

-- ---- the sample

bytes-answered : (address value : ℕ) (memory : Memory) → instruction_bytes address (answered_with value memory) ≡ instruction_bytes address memory
unfolding instruction_bytes instruction_byte
bytes-answered address value memory = refl

pub sample-predicts : (step : Step80) (predicted : Predicted80) (regs : Regs80) (memory : Memory) (found : Decoded80) (first : ℕ) → found ≡ instruction_of (instruction_bytes regs.pc memory) → first ≡ slice_index (instruction_bytes regs.pc memory) 0
    → EndsPredicted step predicted (samples.instruction found first regs) memory → EndsPredicted step predicted (samples.sampled 0 regs) memory
unfolding samples.sampled
sample-predicts (steps.Need waiting) predicted regs memory found first names begins ends = λ known value.
    rw (bytes-answered regs.pc value memory) (rw (sym names, sym begins) (ends known value))
sample-predicts (steps.Done finish) predicted regs memory found first names begins ends = tt
