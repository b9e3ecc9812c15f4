-- The request that the chip keeps is the one that waits, and what it predicts is what comes.
use Rattle.std.specs.Prelude.{◌≡◌, true, [], ◌∷◌, ◌++◌, List, ℕ, IsSomeAnd, Option}
use Rattle.md_word.specs.declared.main_bus.Request68.{Request68}
use Rattle.m68k_exec.specs.Sample.Prediction.{TakesClocks}
use Rattle.m68k_exec.specs.Sample.Samples.{nothing, reported_by}
use Rattle.m68k_exec.specs.declared.sample.step.Predicted.{Predicted}
use Rattle.m68k_exec.specs.declared.sample.step.Step.TheVariants.{Done}
use Rattle.m68k_chip.specs.Events.{carried_out}
use Rattle.m68k_chip.specs.Validity.{Asks, Chip68Value, IsChip68}
use Rattle.m68k_chip.specs.States.{State68}
use Rattle.m68k_chip.specs.declared.stage.Stage.{Stage}
use Rattle.m68k_chip.specs.declared.stage.Stage.TheVariants.{Sample, Access, Word}

-- at an access the processor waits for the answer to this request
abbrev pub WaitsFor : Stage → List ℕ → State68 → Option Request68 → Type 0
WaitsFor Sample cart state request = Unit {0}
WaitsFor Access cart state request = IsSomeAnd request (λ asked. Asks cart state state.cause state.answers asked)
WaitsFor Word cart state request = Unit {0}

-- what is carried out ends as it is predicted, whatever it is answered after these answers, in the clocks that are kept
abbrev pub PredictsEnd : Predicted → List ℕ → State68 → ℕ → List ℕ → Type 0
PredictsEnd predicted cart state cause answers =
    predicted.known ≡ true → TakesClocks predicted × ((value : ℕ) → carried_out cart state cause (answers ++ value ∷ []) ≡ reported_by (Done predicted.finish) predicted.regs nothing)

-- at an access what is known to come comes
abbrev pub IsPredicted : Stage → List ℕ → State68 → Predicted → Type 0
IsPredicted Sample cart state predicted = Unit {0}
IsPredicted Access cart state predicted = PredictsEnd predicted cart state state.cause state.answers
IsPredicted Word cart state predicted = Unit {0}

-- the chip is valid, and at an access waits for the answer to this request, and predicts what comes
pub record IsHeld (value : Chip68Value) (request : Option Request68) (predicted : Predicted) : Type 0 where
  pub valid : IsChip68 value
  pub waiting : WaitsFor value.state.stage value.cart value.state request
  pub predicts : IsPredicted value.state.stage value.cart value.state predicted
