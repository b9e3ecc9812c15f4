-- The chip that an event leaves is valid, keeps the request that waits, and predicts what comes.
use Rattle.std.proofs.Common.{◌≡◌, ℕ, true, false, List, [], Option, sym, ◌∙◌, ap, subst}
use Rattle.md_word.specs.declared.pins.Pins80.{Pins80}
use Rattle.z80_exec.specs.declared.access.waiting.Waiting.{Waiting}
use Rattle.z80_exec.specs.declared.sample.step.Predicted80.{Predicted80}
use Rattle.z80_parcel.specs.Requests.{Fits, AnswerValue80}
use Rattle.z80_chip.specs.Events.{WentAhead, answered, asked_of, begun, begun_after, handed}
use Rattle.z80_chip.specs.Held.{IsHeld, IsPredicted, WaitsFor}
use Rattle.z80_chip.specs.Validity.{Chip80Value, IsChip80}
use Rattle.z80_chip.specs.States.{State80, next_of}
use Rattle.z80_chip.proofs.Laws.{answered-ok, begun-ok, handed-ok, of, sampling}
use Rattle.z80_chip.proofs.Resting.{ahead-ok}
use Rattle.z80_chip.proofs.Waiting.{handed-predicted, handed-waits}

-- a state that is another's, over a cartridge that is another's
valid_at : (image : List ℕ) (new at : State80) → new ≡ at → IsChip80 (of image at) → IsChip80 (of image new)
valid_at image new at e valid = subst (λ (state : State80). IsChip80 (of image state)) (sym e) valid

held : (image bytes : List ℕ) (new : State80) (request : Option Waiting) (predicted : Predicted80) → bytes ≡ image → WaitsFor new.stage bytes new request → IsPredicted new.stage bytes new predicted → IsChip80 (of image new) → IsHeld (of image new) request predicted
held image bytes new request predicted same waits predicts valid = record {
  valid = valid;
  waiting = subst (λ (b : List ℕ). WaitsFor new.stage b new request) same waits;
  predicts = subst (λ (b : List ℕ). IsPredicted new.stage b new predicted) same predicts;
}

samples : (old : State80) (image : List ℕ) (value : Chip80Value) → of image old ≡ value → (next_of value.state).sample ≡ true → (next_of old).sample ≡ true
samples old image value is kind = ap (λ (v : Chip80Value). (next_of v.state).sample) is ∙ kind

pub no_answers : (image : List ℕ) (old : State80) (value : Chip80Value) → of image old ≡ value → IsChip80 (of image old) → (next_of value.state).sample ≡ true → old.answers ≡ []
no_answers image old value is ok kind = (sampling (of image old) ok (samples old image value is kind)).answers

pub after_sample : (image bytes : List ℕ) (old new : State80) (request : Option Waiting) (predicted : Predicted80) (value : Chip80Value) (pins : Pins80) → of image old ≡ value → IsChip80 (of image old)
    → (next_of value.state).sample ≡ true → bytes ≡ image → new ≡ begun bytes old pins → WaitsFor new.stage bytes new request → IsPredicted new.stage bytes new predicted → IsHeld (of image new) request predicted
after_sample image bytes old new request predicted value pins is ok kind same e waits predicts =
    held image bytes new request predicted same waits predicts (valid_at image new (begun image old pins) (e ∙ ap (λ (b : List ℕ). begun b old pins) same) (begun-ok (of image old) pins ok (samples old image value is kind)))

-- so is one that went ahead
pub ahead_kept : (image bytes : List ℕ) (old new : State80) (request : Option Waiting) (predicted : Predicted80) (value : Chip80Value) (pins : Pins80) (n end : ℕ) → of image old ≡ value → IsChip80 (of image old)
    → (next_of value.state).sample ≡ true → bytes ≡ image → WentAhead n end bytes pins old new → WaitsFor new.stage bytes new request → IsPredicted new.stage bytes new predicted → IsHeld (of image new) request predicted
ahead_kept image bytes old new request predicted value pins n end is ok kind same went waits predicts =
    let on : WentAhead n end image pins old new = subst (λ (b : List ℕ). WentAhead n end b pins old new) same went in
    held image bytes new request predicted same waits predicts (valid_at image new (begun_after n image old pins) on.is (ahead-ok image old pins n ok (samples old image value is kind) on.sample))

pub after_answer : (image bytes : List ℕ) (old new : State80) (request : Option Waiting) (predicted : Predicted80) (value : Chip80Value) (answer : AnswerValue80) → of image old ≡ value → IsChip80 (of image old)
    → (next_of value.state).sample ≡ false → Fits (asked_of value.cart value.state) answer → bytes ≡ image → new ≡ answered bytes old answer → WaitsFor new.stage bytes new request → IsPredicted new.stage bytes new predicted → IsHeld (of image new) request predicted
after_answer image bytes old new request predicted value answer is ok kind fits same e waits predicts =
    let asking : (next_of old).sample ≡ false = ap (λ (v : Chip80Value). (next_of v.state).sample) is ∙ kind in
    let fit : Fits (asked_of image old) answer = subst (λ (v : Chip80Value). Fits (asked_of v.cart v.state) answer) (sym is) fits in
    held image bytes new request predicted same waits predicts (valid_at image new (answered image old answer) (e ∙ ap (λ (b : List ℕ). answered b old answer) same) (answered-ok (of image old) answer ok asking fit))

pub after_request : (image : List ℕ) (old new : State80) (request : Option Waiting) (predicted : Predicted80) → IsChip80 (of image old) → new ≡ handed old → WaitsFor old.stage image old request → IsPredicted old.stage image old predicted → IsHeld (of image new) request predicted
after_request image old new request predicted ok e waits predicts = record {
  valid = valid_at image new (handed old) e (handed-ok (of image old) ok);
  waiting = handed-waits image old new request e waits;
  predicts = handed-predicted image old new predicted e predicts;
}
