-- What holds of the Z80 as a chip: its states are valid, and its events are at least 45 cycles apart.
use Rattle.std.proofs.Common.{◌≡◌, ℕ, ◌+◌, ◌*◌, ◌<◌, ◌≤◌, ◌⊎◌, inl, inr, Bool, true, false, List, [], ◌∷◌, ◌++◌, length, Option, Some, None, IfSome, IsSome, is_some, Result, Ok, Err, refl, sym, ap, subst, ◌∙◌, length-append, arith, lit<, if◌then◌else◌}
use Rattle.std.specs.Prelude.{option_map}
use Rattle.std.proofs.Math.ListN.{length-replicate}
use Rattle.std.proofs.lemmas.List.{get_or_append_left}
use Rattle.md_word.specs.declared.pins.Pins80.{Pins80}
use Rattle.md_word.specs.declared.sub_bus.Request80.{Request80}
use Rattle.rom_header.specs.Cartridge.{IsImage}
use Rattle.z80_exec.specs.Laws.{SameBelow}
use Rattle.z80_exec.specs.Sample.Samples.{Ended}
use Rattle.z80_exec.specs.Sample.Entries.{after_reset}
use Rattle.z80_exec.proofs.Bounds.Samples as samples
use Rattle.z80_parcel.proofs.Writes.{bank_fits, ram_fits}
use Rattle.z80_parcel.specs.Parcels.{IsStore, Store, ram_size, written}
use Rattle.z80_parcel.specs.Requests.{Byte, Fits, Nothing, Returned, AnswerValue80, store_in, value_in}
use Rattle.z80_chip.specs.Cases.{RunsWithRam, bus_case, case_of, is_reset, running_case, seen}
use Rattle.z80_chip.specs.Events.{answered, answered_at, asked_at, asked_of, begun, begun_as, came_to, carried_out, first_step, handed, handing, held, kept_at, moved, moving, step, waited, went_on, went_on_with}
use Rattle.z80_chip.specs.Validity.{Chip80Value, IsAsking, IsAt, IsBetween, IsChip80}
use Rattle.z80_chip.specs.States.{State80, is_sample, next_of, power_on}
use Rattle.z80_chip.specs.declared.case.Case.{Case}
use Rattle.z80_chip.specs.declared.case.Case.TheVariants as cases
use Rattle.z80_chip.specs.declared.stage.Stage.{Stage}
use Rattle.z80_chip.specs.declared.stage.Stage.TheVariants.{Sample, Access, Yield, Take}

abbrev pub of : List ℕ → State80 → Chip80Value
of cart state = record { cart = cart; state = state }

-- what holds of a state at a sample
pub record StandsAtSample (cart : List ℕ) (state : State80) : Type 0 where
  pub image : IsImage cart
  pub store : IfSome state.store IsStore
  pub cause : state.cause ≡ 0
  pub answers : state.answers ≡ []
  pub start : state.start ≡ state.next

-- what holds where something is carried out
record Ready (cart : List ℕ) (state : State80) : Type 0 where
  image : IsImage cart
  store : IfSome state.store IsStore
  has : IsSome state.store

-- RAM and bank register after private writes
written-ok : (writes : List (ℕ × ℕ)) (store : Option Store) → IfSome store IsStore → IfSome (option_map (written writes) store) IsStore
written-ok writes None ok = tt
written-ok writes (Some store) ok = record { ram = ram_fits store.ram writes ∙ ok.ram; bank = bank_fits store.bank writes ok.bank }

came-ok : (cart : List ℕ) (state : State80) (cause : ℕ) → Ready cart state → (r : Result Ended Request80) → carried_out cart state cause ≡ r
    → IsChip80 (of cart (came_to state cause r))
came-ok cart state cause ready (Ok ended) e = record {
  image = ready.image;
  store = written-ok ended.writes state.store ready.store;
  stands = (record { cause = refl; answers = refl }, refl);
}
came-ok cart state cause ready (Err request) e = record {
  image = ready.image;
  store = ready.store;
  stands = record { store = ready.has; place = refl; request = request; asked = e };
}

went-ok : (cart : List ℕ) (state : State80) (cause : ℕ) → Ready cart state → IsChip80 (of cart (went_on cart state cause))
unfolding went_on
went-ok cart state cause ready = came-ok cart state cause ready (carried_out cart state cause) refl

-- the reset leaves all but the registers, the halt and the count
seen-by : (b : Bool) (cart : List ℕ) (state : State80) (resets : ℕ) → StandsAtSample cart state
    → StandsAtSample cart (if b then record state { regs = after_reset; halted = false; resets = resets } else state)
seen-by true cart state resets at = record { image = at.image; store = at.store; cause = at.cause; answers = at.answers; start = at.start }
seen-by false cart state resets at = at

seen-next : (b : Bool) (state : State80) (resets : ℕ) → (if b then record state { regs = after_reset; halted = false; resets = resets } else state).next ≡ state.next
seen-next true state resets = refl
seen-next false state resets = refl

pub seen-at : (cart : List ℕ) (state : State80) (pins : Pins80) → StandsAtSample cart state → StandsAtSample cart (seen state pins)
unfolding seen
seen-at cart state pins at = seen-by (is_reset state pins) cart state pins.resets at

pub seen-stays : (state : State80) (pins : Pins80) → (seen state pins).next ≡ state.next
unfolding seen
seen-stays state pins = seen-next (is_reset state pins) state pins.resets

sample-between : (stage : Stage) (cart : List ℕ) (state : State80) → is_sample stage ≡ true → IsAt stage cart state → IsBetween state × (state.start ≡ state.next)
sample-between Sample cart state e is = is
sample-between Access cart state e is = cc
sample-between Yield cart state e is = cc
sample-between Take cart state e is = cc

pub sampling : (v : Chip80Value) → IsChip80 v → (next_of v.state).sample ≡ true → StandsAtSample v.cart v.state
unfolding next_of
sampling v ok kind =
    let at = sample-between v.state.stage v.cart v.state kind ok.stands in
    record { image = ok.image; store = ok.store; cause = at.0.cause; answers = at.0.answers; start = at.1 }

-- what is carried out has RAM
with-ram : (case : Case) → RunsWithRam case true
with-ram cases.Yield = tt
with-ram cases.Take = tt
with-ram cases.Suspended = tt
with-ram cases.InReset = tt
with-ram cases.Interrupt = refl
with-ram cases.Halted = tt
with-ram cases.Instruction = refl

runs-by : (request has : Bool) (running : Case) → RunsWithRam (bus_case request has running) has
runs-by true true running = tt
runs-by true false running = tt
runs-by false true running = with-ram running
runs-by false false running = tt

runs : (state : State80) (pins : Pins80) → RunsWithRam (case_of state pins) (is_some state.store)
unfolding case_of
runs state pins = runs-by pins.request (is_some state.store) (running_case state pins)

waited-ok : (cart : List ℕ) (state : State80) (cycles : ℕ) → StandsAtSample cart state → IsChip80 (of cart (waited state cycles))
waited-ok cart state cycles at = record {
  image = at.image;
  store = at.store;
  stands = (record { cause = at.cause; answers = at.answers }, refl);
}

moving-ok : (cart : List ℕ) (state : State80) → StandsAtSample cart state → (stage : Stage) → (stage ≡ Yield) ⊎ (stage ≡ Take) → IsChip80 (of cart (moving state stage))
moving-ok cart state at Sample (inl e) = cc
moving-ok cart state at Sample (inr e) = cc
moving-ok cart state at Access (inl e) = cc
moving-ok cart state at Access (inr e) = cc
moving-ok cart state at Yield either = record { image = at.image; store = at.store; stands = (record { cause = at.cause; answers = at.answers }, refl) }
moving-ok cart state at Take either = record { image = at.image; store = at.store; stands = (record { cause = at.cause; answers = at.answers }, refl) }

begun-case : (case : Case) (cart : List ℕ) (state : State80) → StandsAtSample cart state → RunsWithRam case (is_some state.store) → IsChip80 (of cart (begun_as case cart state))
begun-case cases.Yield cart state at runs = moving-ok cart state at Yield (inl refl)
begun-case cases.Take cart state at runs = moving-ok cart state at Take (inr refl)
begun-case cases.Suspended cart state at runs = waited-ok cart state step at
begun-case cases.InReset cart state at runs = waited-ok cart state step at
begun-case cases.Interrupt cart state at runs = went-ok cart state 1 (record { image = at.image; store = at.store; has = runs })
begun-case cases.Halted cart state at runs = waited-ok cart state first_step at
begun-case cases.Instruction cart state at runs = went-ok cart state 0 (record { image = at.image; store = at.store; has = runs })

pub begun-ok : (v : Chip80Value) (pins : Pins80) → IsChip80 v → (next_of v.state).sample ≡ true → IsChip80 (of v.cart (begun v.cart v.state pins))
unfolding begun
begun-ok v pins ok kind =
    let after : State80 = seen v.state pins in
    begun-case (case_of after pins) v.cart after (seen-at v.cart v.state pins (sampling v ok kind)) (runs after pins)

-- the end of what is carried out is after its accesses
came-later : (cart : List ℕ) (state : State80) (cause : ℕ) (r : Result Ended Request80) → carried_out cart state cause ≡ r
    → ((ended : Ended) → r ≡ Ok ended → length state.answers ≤ ended.used) → state.start + first_step + step * length state.answers ≤ (came_to state cause r).next
came-later cart state cause (Ok ended) e most =
    let time = samples.covers cause state.regs _ ended e in
    let used = most ended refl in
    omega (arith, time, used)
came-later cart state cause (Err request) e most = omega arith

went-later : (cart : List ℕ) (state : State80) (cause : ℕ) → state.answers ≡ [] → state.start + first_step ≤ (went_on cart state cause).next
unfolding went_on
went-later cart state cause none =
    let zero : length state.answers ≡ 0 = ap length none in
    let late = came-later cart state cause (carried_out cart state cause) refl (λ ended is. omega (arith, zero)) in
    omega (arith, late)

begun-late : (case : Case) (cart : List ℕ) (state : State80) → StandsAtSample cart state → state.next + step ≤ (begun_as case cart state).next
begun-late cases.Yield cart state at = let e = at.start in omega (arith, e)
begun-late cases.Take cart state at = let e = at.start in omega (arith, e)
begun-late cases.Suspended cart state at = let e = at.start in omega (arith, e)
begun-late cases.InReset cart state at = let e = at.start in omega (arith, e)
begun-late cases.Interrupt cart state at = let e = at.start in let late = went-later cart state 1 at.answers in omega (arith, e, late)
begun-late cases.Halted cart state at = let e = at.start in omega (arith, e)
begun-late cases.Instruction cart state at = let e = at.start in let late = went-later cart state 0 at.answers in omega (arith, e, late)

pub begun-later : (v : Chip80Value) (pins : Pins80) → IsChip80 v → (next_of v.state).sample ≡ true → v.state.next + step ≤ (begun v.cart v.state pins).next
unfolding begun
begun-later v pins ok kind =
    let after : State80 = seen v.state pins in
    subst (λ (n : ℕ). n + step ≤ (begun_as (case_of after pins) v.cart after).next) (seen-stays v.state pins)
    (begun-late (case_of after pins) v.cart after (seen-at v.cart v.state pins (sampling v ok kind)))

-- never more than three answers are kept
few-at : (stage : Stage) (cart : List ℕ) (state : State80) → IsAt stage cart state → length state.answers < 4
few-at Sample cart state at = let none = ap length at.0.answers in omega (arith, none)
few-at Access cart state at = samples.waits state.cause state.regs _ at.request at.asked
few-at Yield cart state at = let none = ap length at.0.answers in omega (arith, none)
few-at Take cart state at = let none = ap length at.0.answers in omega (arith, none)

pub few-answers : (v : Chip80Value) → IsChip80 v → length v.state.answers < 4
few-answers v ok = few-at v.state.stage v.cart v.state ok.stands

-- what an answer gives back
back-by : (store : Option Store) (back : Store) → Fits (handing store) (Returned back) → IsStore back
back-by (Some store) back fits = fits
back-by None back fits = fits

back-ok : (stage : Stage) (cart : List ℕ) (state : State80) (answer : AnswerValue80) → (stage ≡ Yield) ⊎ (stage ≡ Take) → Fits (asked_at stage cart state) answer → IfSome (store_in answer) IsStore
back-ok stage cart state (Byte value) either fits = tt
back-ok stage cart state Nothing either fits = tt
back-ok Sample cart state (Returned back) either fits = fits
back-ok Access cart state (Returned back) (inl e) fits = cc
back-ok Access cart state (Returned back) (inr e) fits = cc
back-ok Yield cart state (Returned back) either fits = back-by state.store back fits
back-ok Take cart state (Returned back) either fits = fits

moved-ok : (cart : List ℕ) (state : State80) (answer : AnswerValue80) → IsImage cart → IsBetween state → IfSome (store_in answer) IsStore → IsChip80 (of cart (moved state answer))
moved-ok cart state answer image between back = record {
  image = image;
  store = back;
  stands = (record { cause = between.cause; answers = between.answers }, refl);
}

answered-by : (stage : Stage) (v : Chip80Value) (answer : AnswerValue80) → IsChip80 v → IsAt stage v.cart v.state → is_sample stage ≡ false → Fits (asked_at stage v.cart v.state) answer
    → IsChip80 (of v.cart (answered_at stage v.cart v.state answer))
answered-by Sample v answer ok at kind fits = cc
answered-by Access v answer ok at kind fits =
    went-ok v.cart (record v.state { answers = v.state.answers ++ value_in answer ∷ [] }) v.state.cause (record { image = ok.image; store = ok.store; has = at.store })
answered-by Yield v answer ok at kind fits = moved-ok v.cart v.state answer ok.image at.0 (back-ok Yield v.cart v.state answer (inl refl) fits)
answered-by Take v answer ok at kind fits = moved-ok v.cart v.state answer ok.image at.0 (back-ok Take v.cart v.state answer (inr refl) fits)

pub answered-ok : (v : Chip80Value) (answer : AnswerValue80) → IsChip80 v → (next_of v.state).sample ≡ false → Fits (asked_of v.cart v.state) answer → IsChip80 (of v.cart (answered v.cart v.state answer))
unfolding answered next_of asked_of
answered-ok v answer ok kind fits = answered-by v.state.stage v answer ok ok.stands kind fits

-- what waited takes more than the answers that it had: with no more it would wait again
answers-same : (cart ram : List ℕ) (bank : ℕ) (answers : List ℕ) (x count : ℕ) → count ≤ length answers
    → SameBelow count (record { rom = cart; ram = ram; bank = bank; answers = answers ++ x ∷ [] }) (record { rom = cart; ram = ram; bank = bank; answers = answers })
answers-same cart ram bank answers x count few = record {
  same = refl;
  enough = few;
  answers = λ k less. sym (get_or_append_left answers (x ∷ []) 0 k (omega (arith, less, few)));
}

different : (ended : Ended) (request : Request80) → Ok ended ≡ Err request → ⊥
different ended request e = cc

fewer : (a n : ℕ) → (n + 1 ≤ a) ⊎ (a ≤ n)
fewer a n = grind arith

takes-more : (cart : List ℕ) (state : State80) (x : ℕ) (request : Request80) (ended : Ended) → carried_out cart state state.cause ≡ Err request
    → carried_out cart (record state { answers = state.answers ++ x ∷ [] }) state.cause ≡ Ok ended → length state.answers + 1 ≤ ended.used
takes-more cart state x request ended asks e =
    elim (fewer ended.used (length state.answers)) [
      | inl more ↦ more
      | inr less ↦ absurd (different ended request (sym (samples.same_sample state.cause state.regs _ _ ended e (answers-same cart (held state.store).ram (held state.store).bank state.answers x ended.used less)) ∙ asks))
    ]

asked-late : (v : Chip80Value) (answer : AnswerValue80) → IsAsking v.cart v.state → v.state.next + step ≤ (went_on_with v.cart v.state (value_in answer)).next
unfolding went_on
asked-late v answer a =
    let x : ℕ = value_in answer in
    let more : State80 = record v.state { answers = v.state.answers ++ x ∷ [] } in
    let counted = length-append v.state.answers (x ∷ []) in
    let place = a.place in
    let late = came-later v.cart more v.state.cause (carried_out v.cart more v.state.cause) refl
    (λ ended is. (let taken = takes-more v.cart v.state x a.request ended a.asked is in omega (arith, taken, counted))) in
    omega (arith, place, late, counted)

late-by : (stage : Stage) (v : Chip80Value) (answer : AnswerValue80) → IsAt stage v.cart v.state → is_sample stage ≡ false → v.state.next + step ≤ (answered_at stage v.cart v.state answer).next
late-by Sample v answer at kind = cc
late-by Access v answer at kind = asked-late v answer at
late-by Yield v answer at kind = let e = at.1 in omega (arith, e)
late-by Take v answer at kind = let e = at.1 in omega (arith, e)

pub answered-later : (v : Chip80Value) (answer : AnswerValue80) → IsChip80 v → (next_of v.state).sample ≡ false → v.state.next + step ≤ (answered v.cart v.state answer).next
unfolding answered next_of
answered-later v answer ok kind = late-by v.state.stage v answer ok.stands kind

-- the Z80 at power-on
pub power_on-ok : (cart : List ℕ) → IsImage cart → IsChip80 (of cart power_on)
unfolding power_on
power_on-ok cart image = record {
  image = image;
  store = record { ram = length-replicate {A = ℕ} ram_size 0; bank = lit< tt };
  stands = (record { cause = refl; answers = refl }, refl);
}

-- a yield hands its RAM over, and nothing else changes
kept-ok : (stage : Stage) (store : Option Store) → IfSome store IsStore → IfSome (kept_at stage store) IsStore
kept-ok Sample store ok = ok
kept-ok Access store ok = ok
kept-ok Yield store ok = tt
kept-ok Take store ok = ok

stands-on : (stage : Stage) (cart : List ℕ) (state : State80) → IsAt stage cart state → IsAt stage cart (record state { store = kept_at stage state.store })
stands-on Sample cart state at = (record { cause = at.0.cause; answers = at.0.answers }, at.1)
stands-on Access cart state at = at
stands-on Yield cart state at = (record { cause = at.0.cause; answers = at.0.answers }, at.1)
stands-on Take cart state at = (record { cause = at.0.cause; answers = at.0.answers }, at.1)

pub handed-ok : (v : Chip80Value) → IsChip80 v → IsChip80 (of v.cart (handed v.state))
unfolding handed
handed-ok v ok = record {
  image = ok.image;
  store = kept-ok v.state.stage v.state.store ok.store;
  stands = stands-on v.state.stage v.cart v.state ok.stands;
}
