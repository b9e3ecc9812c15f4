-- The request that a step reports is the one that waits, and what it predicts is what comes.
use Rattle.std.proofs.Common.{◌≡◌, ℕ, ◌-◌, ◌==◌, Bool, true, false, List, [], ◌∷◌, ◌++◌, Option, Some, None, Result, Ok, Err, refl, sym, ap, subst, ◌∙◌}
use Rattle.std.specs.Prelude.{if◌then◌else◌, nat_le}
use Rattle.md_word.specs.declared.main_bus.Request68.{Request68}
use Rattle.md_word.specs.declared.main_bus.Transfer.{Transfer}
use Rattle.m68k_exec.specs.Sample.Samples.{Ended}
use Rattle.m68k_exec.specs.declared.sample.step.Predicted.{Predicted}
use Rattle.m68k_access.specs.declared.stop.Stop.{Stop}
use Rattle.m68k_access.specs.declared.stop.Stop.TheVariants.{Ask, Odd}
use Rattle.m68k_exec.proofs.Bounds.Spends.{never_odd}
use Rattle.m68k_chip.specs.Events.{at_sample, at_word, came_to, carried_out, finished, left_by, next_source, waited, went_on, with_started, word_moved}
use Rattle.m68k_chip.specs.Held.{PredictsEnd, IsPredicted, WaitsFor}
use Rattle.m68k_chip.specs.States.{State68, none_left}
use Rattle.m68k_chip.specs.declared.stage.Stage.{Stage}
use Rattle.m68k_chip.specs.declared.stage.Stage.TheVariants.{Sample, Access, Word}
use Rattle.m68k_chip.specs.Steps.{IsPredictedEnd, IsReported, ended_by}

rested-waits : (b : Bool) (cart : List ℕ) (state : State68) (one other : ℕ) (request : Option Request68) → WaitsFor (if b then at_sample state one else at_word state other).stage cart (if b then at_sample state one else at_word state other) request
rested-waits true cart state one other request = tt
rested-waits false cart state one other request = tt

came-waits : (cart : List ℕ) (state : State68) (cause : ℕ) (answers : List ℕ) (r : Result Ended Stop) (request : Option Request68) → carried_out cart state cause answers ≡ r → IsReported r request
    → WaitsFor (came_to state cause answers r).stage cart (came_to state cause answers r) request
came-waits cart state cause answers (Ok ended) request e reported = rested-waits ((left_by state ended).transfer.words == 0) cart (left_by state ended) _ _ request
came-waits cart state cause answers (Err (Ask asked)) request e reported =
    subst (λ (q : Option Request68). WaitsFor Access cart (came_to state cause answers (Err (Ask asked))) q) (sym reported) e
came-waits cart state cause answers (Err (Odd address read used)) request e reported = absurd (never_odd cause state.regs _ address read used e)

pub went-waits : (cart : List ℕ) (state : State68) (cause : ℕ) (answers : List ℕ) (new : State68) (request : Option Request68) → new ≡ went_on cart state cause answers → IsReported (carried_out cart state cause answers) request → WaitsFor new.stage cart new request
unfolding went_on
went-waits cart state cause answers new request e reported =
    subst (λ (s : State68). WaitsFor s.stage cart s request) (sym e) (came-waits cart state cause answers (carried_out cart state cause answers) request refl reported)

pub waited-waits : (cart : List ℕ) (state new : State68) (request : Option Request68) → new ≡ waited state → WaitsFor new.stage cart new request
waited-waits cart state new request e = subst (λ (s : State68). WaitsFor s.stage cart s request) (sym e) tt

moved-waits-by : (b : Bool) (cart : List ℕ) (one other : State68) (at late : ℕ) (request : Option Request68) → WaitsFor (if b then at_sample one at else at_word other late).stage cart (if b then at_sample one at else at_word other late) request
moved-waits-by true cart one other at late request = tt
moved-waits-by false cart one other at late request = tt

pub moved-waits : (cart : List ℕ) (state new : State68) (cost : ℕ) (request : Option Request68) → new ≡ word_moved state cost → WaitsFor new.stage cart new request
moved-waits cart state new cost request e =
    subst (λ (s : State68). WaitsFor s.stage cart s request) (sym e)
    (moved-waits-by (nat_le state.transfer.words 1) cart (record state { transfer = none_left }) (record state { transfer = record { source = next_source state.transfer.source; words = state.transfer.words - 1; cost = cost } }) _ _ request)

-- what is carried out does not look at the answers that the state keeps, but at those it is given
came-apart : (state : State68) (cause : ℕ) (answers kept : List ℕ) (r : Result Ended Stop) → came_to (record state { answers = kept }) cause answers r ≡ came_to state cause answers r
came-apart state cause answers kept (Ok ended) = refl
came-apart state cause answers kept (Err stop) = refl

pub went-apart : (cart : List ℕ) (state : State68) (cause : ℕ) (answers kept : List ℕ) → went_on cart (record state { answers = kept }) cause answers ≡ went_on cart state cause answers
unfolding went_on
went-apart cart state cause answers kept = came-apart state cause answers kept (carried_out cart state cause answers)

-- ---- what is predicted

rested-predicted : (b : Bool) (cart : List ℕ) (state : State68) (one other : ℕ) (predicted : Predicted)
    → IsPredicted (if b then at_sample state one else at_word state other).stage cart (if b then at_sample state one else at_word state other) predicted
rested-predicted true cart state one other predicted = tt
rested-predicted false cart state one other predicted = tt

came-predicted : (cart : List ℕ) (state : State68) (cause : ℕ) (answers : List ℕ) (r : Result Ended Stop) (predicted : Predicted) → carried_out cart state cause answers ≡ r → IsPredictedEnd r predicted cart state cause answers
    → IsPredicted (came_to state cause answers r).stage cart (came_to state cause answers r) predicted
came-predicted cart state cause answers (Ok ended) predicted e reported = rested-predicted ((left_by state ended).transfer.words == 0) cart (left_by state ended) _ _ predicted
came-predicted cart state cause answers (Err (Ask asked)) predicted e reported = reported
came-predicted cart state cause answers (Err (Odd address read used)) predicted e reported = absurd (never_odd cause state.regs _ address read used e)

pub went-predicted : (cart : List ℕ) (state : State68) (cause : ℕ) (answers : List ℕ) (new : State68) (predicted : Predicted) → new ≡ went_on cart state cause answers → IsPredictedEnd (carried_out cart state cause answers) predicted cart state cause answers → IsPredicted new.stage cart new predicted
unfolding went_on
went-predicted cart state cause answers new predicted e reported =
    subst (λ (s : State68). IsPredicted s.stage cart s predicted) (sym e) (came-predicted cart state cause answers (carried_out cart state cause answers) predicted refl reported)

pub waited-predicted : (cart : List ℕ) (state new : State68) (predicted : Predicted) → new ≡ waited state → IsPredicted new.stage cart new predicted
waited-predicted cart state new predicted e = subst (λ (s : State68). IsPredicted s.stage cart s predicted) (sym e) tt

moved-predicted-by : (b : Bool) (cart : List ℕ) (one other : State68) (at late : ℕ) (predicted : Predicted) → IsPredicted (if b then at_sample one at else at_word other late).stage cart (if b then at_sample one at else at_word other late) predicted
moved-predicted-by true cart one other at late predicted = tt
moved-predicted-by false cart one other at late predicted = tt

pub moved-predicted : (cart : List ℕ) (state new : State68) (cost : ℕ) (predicted : Predicted) → new ≡ word_moved state cost → IsPredicted new.stage cart new predicted
moved-predicted cart state new cost predicted e =
    subst (λ (s : State68). IsPredicted s.stage cart s predicted) (sym e)
    (moved-predicted-by (nat_le state.transfer.words 1) cart (record state { transfer = none_left }) (record state { transfer = record { source = next_source state.transfer.source; words = state.transfer.words - 1; cost = cost } }) _ _ predicted)

-- where nothing is known nothing is predicted
pub unknown-predicted : (kind : Stage) (cart : List ℕ) (state : State68) (predicted : Predicted) → predicted.known ≡ false → IsPredicted kind cart state predicted
unknown-predicted Sample cart state predicted none = tt
unknown-predicted Access cart state predicted none = λ known. absurd (let no_way = sym none ∙ known in cc)
unknown-predicted Word cart state predicted none = tt

-- ---- the end that was predicted

-- a transfer that an answer starts changes nothing of it
started-predicts_end : (cart : List ℕ) (state : State68) (transfer : Option Transfer) (cause : ℕ) (answers : List ℕ) (predicted : Predicted) → PredictsEnd predicted cart state cause answers → PredictsEnd predicted cart (with_started state transfer) cause answers
started-predicts_end cart state None cause answers predicted reports = reports
started-predicts_end cart state (Some transfer) cause answers predicted reports = reports

pub ends-predicted_end : (cart : List ℕ) (state : State68) (transfer : Option Transfer) (cause : ℕ) (answers : List ℕ) (value : ℕ) (predicted : Predicted) → PredictsEnd predicted cart state cause answers → predicted.known ≡ true
    → finished (with_started state transfer) (ended_by predicted.finish predicted.regs []) ≡ went_on cart (with_started state transfer) cause (answers ++ value ∷ [])
unfolding went_on
ends-predicted_end cart state transfer cause answers value predicted reports known =
    sym (ap (came_to (with_started state transfer) cause (answers ++ value ∷ [])) ((started-predicts_end cart state transfer cause answers predicted reports known).1 value))

pub ends-waits : (cart : List ℕ) (state new : State68) (ended : Ended) (request : Option Request68) → new ≡ finished state ended → WaitsFor new.stage cart new request
ends-waits cart state new ended request e =
    subst (λ (s : State68). WaitsFor s.stage cart s request) (sym e) (rested-waits ((left_by state ended).transfer.words == 0) cart (left_by state ended) _ _ request)

pub ends-predicted : (cart : List ℕ) (state new : State68) (ended : Ended) (predicted : Predicted) → new ≡ finished state ended → IsPredicted new.stage cart new predicted
ends-predicted cart state new ended predicted e =
    subst (λ (s : State68). IsPredicted s.stage cart s predicted) (sym e) (rested-predicted ((left_by state ended).transfer.words == 0) cart (left_by state ended) _ _ predicted)
