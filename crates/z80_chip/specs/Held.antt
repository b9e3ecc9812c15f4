-- The request that the chip keeps is the one that waits, and what it predicts is what comes.
use Rattle.std.specs.Prelude.{◌≡◌, ℕ, ◌+◌, true, List, [], ◌∷◌, ◌++◌, length, IsSomeAnd, Option, Some, None, Err}
use Rattle.md_word.specs.Answers.{taken_alone}
use Rattle.z80_exec.specs.Access.Clauses.{request_of}
use Rattle.z80_exec.specs.Sample.Samples.{reported_by}
use Rattle.z80_exec.specs.declared.access.waiting.Waiting.{Waiting}
use Rattle.z80_exec.specs.declared.sample.step.Predicted80.{Predicted80}
use Rattle.z80_exec.specs.declared.sample.step.Step80.TheVariants.{Done}
use Rattle.z80_parcel.specs.Parcels.{Store}
use Rattle.z80_parcel.specs.Requests.{RequestValue80, TakeBack, request_value80_of}
use Rattle.z80_chip.specs.Events.{carried_out, handing}
use Rattle.z80_chip.specs.Validity.{Chip80Value, IsChip80}
use Rattle.z80_chip.specs.States.{State80}
use Rattle.z80_chip.specs.declared.stage.Stage.{Stage}
use Rattle.z80_chip.specs.declared.stage.Stage.TheVariants.{Sample, Access, Yield, Take}

-- at an access the processor waits for the answer to this request
abbrev pub WaitsFor : Stage → List ℕ → State80 → Option Waiting → Type 0
WaitsFor Sample cart state request = Unit {0}
WaitsFor Access cart state request = IsSomeAnd request (λ waiting. carried_out cart state state.cause ≡ Err (request_of waiting))
WaitsFor Yield cart state request = Unit {0}
WaitsFor Take cart state request = Unit {0}

-- the read or write that is kept
abbrev pub access_in : Option Waiting → RequestValue80
access_in None = TakeBack
access_in (Some waiting) = request_value80_of (request_of waiting)

-- what the next event asks, by the request that is kept and by RAM and bank register
abbrev pub asked_by : Stage → Option Waiting → Option Store → RequestValue80
asked_by Sample request store = TakeBack
asked_by Access request store = access_in request
asked_by Yield request store = handing store
asked_by Take request store = TakeBack

-- the same state with one answer more
abbrev pub answered_with : ℕ → State80 → State80
answered_with value state = record state { answers = state.answers ++ value ∷ [] }

-- what is carried out ends as it is predicted, whatever it is answered after these answers
abbrev pub PredictsEnd : Predicted80 → List ℕ → State80 → ℕ → Type 0
PredictsEnd predicted cart state cause =
    predicted.known ≡ true → (value : ℕ) → carried_out cart (answered_with value state) cause ≡ reported_by (Done predicted.finish) predicted.regs (taken_alone (length state.answers + 1))

-- at an access what is predicted comes
abbrev pub IsPredicted : Stage → List ℕ → State80 → Predicted80 → Type 0
IsPredicted Sample cart state predicted = Unit {0}
IsPredicted Access cart state predicted = PredictsEnd predicted cart state state.cause
IsPredicted Yield cart state predicted = Unit {0}
IsPredicted Take cart state predicted = Unit {0}

-- the chip is valid, and at an access waits for the answer to this request, and predicts what comes
pub record IsHeld (value : Chip80Value) (request : Option Waiting) (predicted : Predicted80) : Type 0 where
  pub valid : IsChip80 value
  pub waiting : WaitsFor value.state.stage value.cart value.state request
  pub predicts : IsPredicted value.state.stage value.cart value.state predicted
