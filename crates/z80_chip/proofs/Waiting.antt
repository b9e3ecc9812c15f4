-- The request that a step reports is the one that waits, and what it predicts is what comes.
use Rattle.std.proofs.Common.{◌≡◌, ℕ, ◌≤◌, true, false, List, [], Option, Some, None, Err, refl, sym, ap, subst, ◌∙◌}
use Rattle.std.specs.Prelude.{option_map}
use Rattle.z80_exec.proofs.Bounds.Samples.{most}
use Rattle.z80_exec.specs.Access.Clauses.{request_of}
use Rattle.z80_exec.specs.declared.access.waiting.Waiting.{Waiting}
use Rattle.z80_exec.specs.declared.sample.step.Predicted80.{Predicted80}
use Rattle.z80_parcel.specs.Parcels.{Store, written}
use Rattle.z80_chip.specs.Events.{Waits, asked_at, asked_in, asked_of, asking, came_to, carried_out, ended_at, handed, kept_at, went_on, went_on_with}
use Rattle.z80_chip.specs.Held.{IsPredicted, PredictsEnd, WaitsFor, answered_with, asked_by}
use Rattle.z80_chip.specs.States.{State80}
use Rattle.z80_chip.specs.Validity.{IsAt}
use Rattle.z80_chip.specs.declared.stage.Stage.{Stage}
use Rattle.z80_chip.specs.declared.stage.Stage.TheVariants.{Sample, Access, Yield, Take}

-- ---- the request

-- at a sample no request waits
pub sample-waits : (stage : Stage) (cart : List ℕ) (state : State80) (request : Option Waiting) → stage ≡ Sample → WaitsFor stage cart state request
sample-waits stage cart state request e = subst (λ (s : Stage). WaitsFor s cart state request) (sym e) tt

-- at the access that waits what was reported waits
pub asked-waits : (cart : List ℕ) (old new : State80) (cause : ℕ) (waiting : Waiting) (request : Option Waiting) → new ≡ asking old cause → request ≡ Some waiting → carried_out cart old cause ≡ Err (request_of waiting)
    → WaitsFor new.stage cart new request
asked-waits cart old new cause waiting request e same asks =
    subst (λ (s : State80). WaitsFor s.stage cart s request) (sym e) (subst (λ (r : Option Waiting). WaitsFor Access cart (asking old cause) r) (sym same) asks)

-- each state that is valid at an access waits there
pub waits-at : (stage : Stage) (cart : List ℕ) (state : State80) → IsAt stage cart state → Waits stage cart state
waits-at Sample cart state at = tt
waits-at Access cart state at = (at.store, (at.request, at.asked))
waits-at Yield cart state at = tt
waits-at Take cart state at = tt

-- what the request asks that is kept
asked-at : (stage : Stage) (cart : List ℕ) (state : State80) (request : Option Waiting) → WaitsFor stage cart state request → asked_by stage request state.store ≡ asked_at stage cart state
asked-at Sample cart state request waits = refl
asked-at Access cart state None waits = absurd waits
asked-at Access cart state (Some waiting) waits = sym (ap asked_in waits)
asked-at Yield cart state request waits = refl
asked-at Take cart state request waits = refl

pub asked-kept : (cart : List ℕ) (state : State80) (request : Option Waiting) → WaitsFor state.stage cart state request → asked_by state.stage request state.store ≡ asked_of cart state
unfolding asked_of
asked-kept cart state request waits = asked-at state.stage cart state request waits

-- what is handed over at a yield changes nothing of it
handed-at : (stage : Stage) (cart : List ℕ) (state : State80) (request : Option Waiting) → WaitsFor stage cart state request → WaitsFor stage cart (record state { store = kept_at stage state.store }) request
handed-at Sample cart state request waits = tt
handed-at Access cart state request waits = waits
handed-at Yield cart state request waits = tt
handed-at Take cart state request waits = tt

pub handed-waits : (cart : List ℕ) (state new : State80) (request : Option Waiting) → new ≡ handed state → WaitsFor state.stage cart state request → WaitsFor new.stage cart new request
unfolding handed
handed-waits cart state new request e waits =
    subst (λ (s : State80). WaitsFor s.stage cart s request) (sym e) (handed-at state.stage cart state request waits)

-- ---- what is predicted

-- at a sample nothing is predicted
pub sample-predicted : (stage : Stage) (cart : List ℕ) (state : State80) (predicted : Predicted80) → stage ≡ Sample → IsPredicted stage cart state predicted
sample-predicted stage cart state predicted e = subst (λ (s : Stage). IsPredicted s cart state predicted) (sym e) tt

-- where nothing is known nothing is predicted
pub unknown-predicted : (stage : Stage) (cart : List ℕ) (state : State80) (predicted : Predicted80) → predicted.known ≡ false → IsPredicted stage cart state predicted
unknown-predicted Sample cart state predicted none = tt
unknown-predicted Access cart state predicted none = λ known. absurd (let no_way = sym none ∙ known in cc)
unknown-predicted Yield cart state predicted none = tt
unknown-predicted Take cart state predicted none = tt

-- at the access that waits what was reported is predicted
pub asked-predicted : (cart : List ℕ) (old new : State80) (cause : ℕ) (was predicted : Predicted80) → new ≡ asking old cause → predicted ≡ was → PredictsEnd was cart old cause → IsPredicted new.stage cart new predicted
asked-predicted cart old new cause was predicted e same reports =
    subst (λ (s : State80). IsPredicted s.stage cart s predicted) (sym e) (subst (λ (p : Predicted80). IsPredicted Access cart (asking old cause) p) (sym same) reports)

-- what is handed over at a yield changes nothing of it
handed-predicted-at : (stage : Stage) (cart : List ℕ) (state : State80) (predicted : Predicted80) → IsPredicted stage cart state predicted → IsPredicted stage cart (record state { store = kept_at stage state.store }) predicted
handed-predicted-at Sample cart state predicted reports = tt
handed-predicted-at Access cart state predicted reports = reports
handed-predicted-at Yield cart state predicted reports = tt
handed-predicted-at Take cart state predicted reports = tt

pub handed-predicted : (cart : List ℕ) (state new : State80) (predicted : Predicted80) → new ≡ handed state → IsPredicted state.stage cart state predicted → IsPredicted new.stage cart new predicted
unfolding handed
handed-predicted cart state new predicted e reports =
    subst (λ (s : State80). IsPredicted s.stage cart s predicted) (sym e) (handed-predicted-at state.stage cart state predicted reports)

-- ---- the end that was predicted

-- nothing private is written
kept-store : (store : Option Store) → store ≡ option_map (written []) store
kept-store (Some store) = refl
kept-store None = refl

pub ends-predicted_end : (cart : List ℕ) (state : State80) (value : ℕ) (predicted : Predicted80) → PredictsEnd predicted cart state state.cause → predicted.known ≡ true
    → ended_at (record state { regs = predicted.regs }) predicted.finish ≡ went_on_with cart state value
unfolding went_on
ends-predicted_end cart state value predicted predicts_end known =
    ap (λ (store : Option Store). ended_at (record state { regs = predicted.regs; store = store }) predicted.finish) (kept-store state.store)
    ∙ sym (ap (came_to (answered_with value state) state.cause) (predicts_end known value))

-- it takes 23 clocks at most
pub few-clocks : (cart : List ℕ) (state : State80) (cause : ℕ) (predicted : Predicted80) → PredictsEnd predicted cart state cause → predicted.known ≡ true → predicted.finish.t ≤ 23
few-clocks cart state cause predicted reports known = most cause state.regs _ _ (reports known 0)
