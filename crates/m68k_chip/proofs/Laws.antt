-- What holds of the 68000 as a chip: its states are valid, and its events are at least 28 cycles apart.
use Rattle.std.proofs.Common.{◌≡◌, ℕ, ◌+◌, ◌-◌, ◌*◌, ◌%◌, ◌^◌, ◌<◌, ◌≤◌, ◌==◌, inl, inr, Bool, true, false, List, [], ◌∷◌, ◌++◌, length, Option, Some, None, IfSome, is_some, IsTrue, Result, Ok, Err, refl, sym, ap, subst, ◌∙◌, length-append, arith}
use Rattle.std.specs.Prelude.{if◌then◌else◌, ◌||◌, nat_le, nat_lt}
use Rattle.std.proofs.Math.ListN.{length-set, length-replicate}
use Rattle.std.proofs.lemmas.Bool.{cases_lt}
use Rattle.std.proofs.lemmas.Bool.Decides.{nat_tests}
use Rattle.std.proofs.lemmas.List.{get_or_append_left}
use Rattle.md_word.specs.declared.main_bus.Answer68.{Answer68}
use Rattle.md_word.specs.declared.main_bus.Request68.{Request68}
use Rattle.md_word.specs.declared.main_bus.Transfer.{Transfer}
use Rattle.rom_header.specs.Cartridge.{IsImage}
use Rattle.m68k_access.specs.Memory.{ram_after, ram_size, stored}
use Rattle.m68k_access.specs.Laws.{SameBelow}
use Rattle.m68k_exec.specs.Sample.Bounds.{IsStatus}
use Rattle.m68k_exec.specs.Sample.Samples.{Ended}
use Rattle.m68k_access.specs.declared.stop.Stop.{Stop}
use Rattle.m68k_access.specs.declared.stop.Stop.TheVariants.{Ask, Odd}
use Rattle.m68k_exec.proofs.Bounds.KeepsSamples.{status_kept}
use Rattle.m68k_exec.proofs.Bounds.Spends.{never_odd, waits}
use Rattle.m68k_exec.proofs.Later.Samples as later
use Rattle.m68k_chip.specs.Cases.{case_of, cause_of, mask_of}
use Rattle.m68k_chip.specs.Events.{answered, answered_at, at_sample, at_word, begun, begun_with, came_to, carried_out, end_of, left_by, next_source, request_at, request_in, request_of, step, waited, went_on, with_started}
use Rattle.m68k_chip.specs.Validity.{AreFit, Asks, Chip68Value, Fits, FitsValue, IsAsking, IsAt, IsBetween, IsKnownCause, IsChip68, IsWordCost, IsStarted, IsTransfer}
use Rattle.m68k_chip.specs.States.{State68, is_sample, next_of, none_left, power_on}
use Rattle.m68k_chip.specs.declared.case.Case.TheVariants.{Halted, Trace, Interrupt, Stopped, Instruction}
use Rattle.m68k_chip.specs.declared.stage.Stage.{Stage}
use Rattle.m68k_chip.specs.declared.stage.Stage.TheVariants.{Sample, Access, Word}
use Rattle.m68k_chip.proofs.Fitting.{fit-more}
use Rattle.m68k_chip.proofs.Resting.{raised, rested-later, rested-ok}
use Rattle.m68k_chip.proofs.SampleTimes.{suffices}

abbrev pub of : List ℕ → State68 → Chip68Value
of cart state = record { cart = cart; state = state }

-- an interrupt level that the pins can have
abbrev pub IsLevel : ℕ → Type 0
IsLevel level = IsTrue (level == 0 || level == 4 || level == 6)

level-cause : (level : ℕ) → IsLevel level → IsKnownCause level
level-cause level known = grind (arith, nat_tests)

-- what a sample carries out is a cause, and the processor is not halted
abbrev pub IsChosen : State68 → Option ℕ → Type 0
IsChosen state None = Unit {0}
IsChosen state (Some cause) = IsKnownCause cause × (state.halted ≡ None)

pick : (state : State68) (level : ℕ) → IsLevel level → (halted : Option ℕ) (trace above stopped : Bool) → state.halted ≡ halted
    → IsChosen state (cause_of (if is_some halted then Halted else (if trace then Trace else (if above then Interrupt level else (if stopped then Stopped else Instruction)))))
pick state level known (Some since) trace above stopped e = tt
pick state level known None true above stopped e = (inr (inr (inr refl)), e)
pick state level known None false true stopped e = (level-cause level known, e)
pick state level known None false false true e = tt
pick state level known None false false false e = (inl refl, e)

pub chosen : (state : State68) (level : ℕ) → IsLevel level → IsChosen state (cause_of (case_of state level))
unfolding case_of
chosen state level known = pick state level known state.halted state.trace (nat_lt (mask_of state.regs) level) state.stopped refl

-- what holds where something is carried out with these answers
pub record Ready (cart : List ℕ) (state : State68) (cause : ℕ) (answers : List ℕ) : Type 0 where
  pub image : IsImage cart
  pub ram : length state.ram ≡ ram_size
  pub status : IsStatus state.regs.sr
  pub transfer : IsTransfer state.transfer
  pub running : state.halted ≡ None
  pub known : IsKnownCause cause
  pub fit : AreFit cart state cause answers

ram-length : (ram : List ℕ) (writes : List (ℕ × ℕ)) → length (ram_after ram writes) ≡ length ram
ram-length ram [] = refl
ram-length ram (w ∷ ws) = ram-length (stored ram w) ws ∙ length-set {A = ℕ} ram _ (w.1 % 0x100)

pub halts-early : (b : Bool) (start end : ℕ) → start < end → IfSome (if b then Some start else None) (λ since. since < end)
halts-early true start end less = less
halts-early false start end less = tt

-- the end of a sample is at least 28 cycles after its start for none, and 28 more for each access
pub end-late : (cart : List ℕ) (state : State68) (cause : ℕ) (answers : List ℕ) (ended : Ended) → carried_out cart state cause answers ≡ Ok ended → state.start + step * ended.spent.accesses + step ≤ end_of state ended
end-late cart state cause answers ended e = let time = suffices cause state.regs _ ended e in omega (arith, time)

came-ok : (cart : List ℕ) (state : State68) (cause : ℕ) (answers : List ℕ) → Ready cart state cause answers → (r : Result Ended Stop) → carried_out cart state cause answers ≡ r
    → IsChip68 (of cart (came_to state cause answers r))
came-ok cart state cause answers ready (Ok ended) e =
    let late = end-late cart state cause answers ended e in
    rested-ok cart (left_by state ended) (end_of state ended) (record {
      image = ready.image;
      ram = ram-length state.ram ended.writes ∙ ready.ram;
      status = status_kept cause state.regs _ ended ready.status e;
      transfer = ready.transfer;
      halted = halts-early ended.halted state.start (end_of state ended) (omega (arith, late));
      cause = refl;
      answers = refl;
    })
came-ok cart state cause answers ready (Err (Ask request)) e = record {
  image = ready.image;
  ram = ready.ram;
  status = ready.status;
  transfer = ready.transfer;
  halted = subst (λ (h : Option ℕ). IfSome h (λ since. since < state.start + step * (length answers + 1))) (sym ready.running) tt;
  stands = record { place = refl; cause = ready.known; running = ready.running; request = request; asked = e; fit = ready.fit };
}
came-ok cart state cause answers ready (Err (Odd address read used)) e = absurd (never_odd cause state.regs _ address read used e)

pub went-ok : (cart : List ℕ) (state : State68) (cause : ℕ) (answers : List ℕ) → Ready cart state cause answers → IsChip68 (of cart (went_on cart state cause answers))
unfolding went_on
went-ok cart state cause answers ready = came-ok cart state cause answers ready (carried_out cart state cause answers) refl

-- at a sample nothing is carried out, and no word is left
pub sample-between : (stage : Stage) (cart : List ℕ) (state : State68) → is_sample stage ≡ true → IsAt stage cart state → IsBetween state × (state.transfer ≡ none_left)
sample-between Sample cart state e is = is
sample-between Access cart state e is = cc
sample-between Word cart state e is = cc

pub none-before : (cart : List ℕ) (state : State68) (cause : ℕ) → AreFit cart state cause []
none-before cart state cause k h = absurd (omega (arith, h))

waited-ok : (v : Chip68Value) → IsChip68 v → IsBetween v.state → v.state.transfer ≡ none_left → IsChip68 (of v.cart (waited v.state))
waited-ok v ok between none = record {
  image = ok.image;
  ram = ok.ram;
  status = ok.status;
  transfer = ok.transfer;
  halted = raised v.state.halted v.state.next (v.state.start + step) (let e = between.start in omega (arith, e)) ok.halted;
  stands = (record { start = refl; cause = between.cause; answers = between.answers }, none);
}

begun-by : (v : Chip68Value) → IsChip68 v → IsBetween v.state → v.state.transfer ≡ none_left → (c : Option ℕ) → IsChosen v.state c → IsChip68 (of v.cart (begun_with v.cart v.state c))
begun-by v ok between none None chosen = waited-ok v ok between none
begun-by v ok between none (Some cause) chosen = went-ok v.cart v.state cause [] (record {
  image = ok.image;
  ram = ok.ram;
  status = ok.status;
  transfer = ok.transfer;
  running = chosen.1;
  known = chosen.0;
  fit = none-before v.cart v.state cause;
})

pub begun-ok : (v : Chip68Value) (level : ℕ) → IsLevel level → IsChip68 v → (next_of v.state).sample ≡ true → IsChip68 (of v.cart (begun v.cart v.state level))
unfolding begun next_of
begun-ok v level known ok kind =
    let at = sample-between v.state.stage v.cart v.state kind ok.stands in
    begun-by v ok at.0 at.1 (cause_of (case_of v.state level)) (chosen v.state level known)

came-later : (cart : List ℕ) (state : State68) (cause : ℕ) (answers : List ℕ) (r : Result Ended Stop) → carried_out cart state cause answers ≡ r
    → ((ended : Ended) → r ≡ Ok ended → length answers ≤ ended.spent.accesses) → state.start + step * (length answers + 1) ≤ (came_to state cause answers r).next
came-later cart state cause answers (Ok ended) e most =
    let late = end-late cart state cause answers ended e in
    let taken = most ended refl in
    let rests = rested-later (left_by state ended) (end_of state ended) in
    omega (arith, late, taken, rests)
came-later cart state cause answers (Err (Ask request)) e most = omega arith
came-later cart state cause answers (Err (Odd address read used)) e most = absurd (never_odd cause state.regs _ address read used e)

begun-late : (v : Chip68Value) → IsBetween v.state → (c : Option ℕ) → v.state.next + step ≤ (begun_with v.cart v.state c).next
unfolding went_on
begun-late v between None = let e = between.start in omega (arith, e)
begun-late v between (Some cause) =
    let e = between.start in
    let late = came-later v.cart v.state cause [] (carried_out v.cart v.state cause []) refl (λ ended is. omega arith) in
    omega (arith, e, late)

pub begun-later : (v : Chip68Value) (level : ℕ) → IsChip68 v → (next_of v.state).sample ≡ true → v.state.next + step ≤ (begun v.cart v.state level).next
unfolding begun next_of
begun-later v level ok kind =
    let at = sample-between v.state.stage v.cart v.state kind ok.stands in
    begun-late v at.0 (cause_of (case_of v.state level))

-- never more than 31 answers are kept
few-at : (stage : Stage) (cart : List ℕ) (state : State68) → IsAt stage cart state → length state.answers < 32
few-at Sample cart state at = let none = ap length at.0.answers in omega (arith, none)
few-at Access cart state at = waits state.cause state.regs _ at.request at.asked
few-at Word cart state at = let none = ap length at.0.answers in omega (arith, none)

pub few-answers : (v : Chip68Value) → IsChip68 v → length v.state.answers < 32
few-answers v ok = few-at v.state.stage v.cart v.state ok.stands

source-by : (transfer : Transfer) → IsTransfer transfer → transfer.source < 2 ^ 24
source-by transfer (inl none) = let zero = ap (λ (t : Transfer). t.source) none in omega (arith, zero)
source-by transfer (inr started) = started.on_bus

pub source-low : (v : Chip68Value) → IsChip68 v → v.state.transfer.source < 2 ^ 24
source-low v ok = source-by v.state.transfer ok.transfer

-- a transfer that an answer starts changes nothing of what is carried out
started-ok : (state : State68) (t : Option Transfer) → IsTransfer state.transfer → IfSome t IsStarted → IsTransfer (with_started state t).transfer
started-ok state None old new = old
started-ok state (Some t) old new = inr new

started-same : (cart : List ℕ) (state : State68) (t : Option Transfer) (cause : ℕ) (answers : List ℕ) → carried_out cart (with_started state t) cause answers ≡ carried_out cart state cause answers
started-same cart state None cause answers = refl
started-same cart state (Some t) cause answers = refl

started-fit : (cart : List ℕ) (state : State68) (t : Option Transfer) (cause : ℕ) (answers : List ℕ) → AreFit cart state cause answers → AreFit cart (with_started state t) cause answers
started-fit cart state None cause answers fit = fit
started-fit cart state (Some t) cause answers fit = fit

abbrev pub Same : State68 → State68 → Type 0
Same old new = (new.ram ≡ old.ram) × (new.regs ≡ old.regs) × (new.halted ≡ old.halted) × (new.start ≡ old.start) × (new.cause ≡ old.cause)

pub started-rest : (state : State68) (t : Option Transfer) → Same state (with_started state t)
started-rest state None = (refl, refl, refl, refl, refl)
started-rest state (Some t) = (refl, refl, refl, refl, refl)

-- the request that is asked for
asked-request : (r : Result Ended Stop) (request : Request68) → r ≡ Err (Ask request) → request_in r ≡ request
asked-request r request e = ap request_in e

pub ready-more : (v : Chip68Value) (answer : Answer68) (ok : IsChip68 v) (a : IsAsking v.cart v.state) → Fits (request_in (carried_out v.cart v.state v.state.cause v.state.answers)) answer
    → Ready v.cart (with_started v.state answer.transfer) v.state.cause (v.state.answers ++ answer.value ∷ [])
ready-more v answer ok a fits =
    let rest = started-rest v.state answer.transfer in
    let value : FitsValue a.request answer.value = subst (λ r. FitsValue r answer.value) (asked-request _ a.request a.asked) fits.value in
    record {
      image = ok.image;
      ram = ap length rest.0 ∙ ok.ram;
      status = subst (λ regs. IsStatus regs.sr) (sym rest.1) ok.status;
      transfer = started-ok v.state answer.transfer ok.transfer fits.transfer;
      running = rest.2 ∙ a.running;
      known = a.cause;
      fit = started-fit v.cart v.state answer.transfer v.state.cause _
          (fit-more v.cart v.state v.state.cause v.state.answers a.request answer.value a.fit a.asked value);
    }

-- a word of a transfer
next-even : (source : ℕ) → source % 2 ≡ 0 → source < 2 ^ 24 → (next_source source % 2 ≡ 0) × (next_source source < 2 ^ 24)
next-even source even below = (omega (arith, even), omega (arith, below))

one-more : (transfer : Transfer) (cost : ℕ) → nat_le transfer.words 1 ≡ false → IsTransfer transfer → IsWordCost cost
    → IsTransfer (record { source = next_source transfer.source; words = transfer.words - 1; cost = cost })
one-more transfer cost more (inl none) is = let zero : transfer.words ≡ 0 = ap (λ (t : Transfer). t.words) none in absurd (grind (arith, nat_tests))
one-more transfer cost more (inr started) is =
    let most = started.most in
    let next = next-even transfer.source started.even started.on_bus in
    inr (record { some = grind (arith, nat_tests); most = omega (arith, most); even = next.0; on_bus = next.1; cost = is })

moved-by : (b : Bool) (v : Chip68Value) (cost : ℕ) → nat_le v.state.transfer.words 1 ≡ b → IsChip68 v → IsBetween v.state → IsWordCost cost
    → IsChip68 (of v.cart (if b then at_sample (record v.state { transfer = none_left }) (v.state.next + step) else at_word (record v.state { transfer = record { source = next_source v.state.transfer.source; words = v.state.transfer.words - 1; cost = cost } }) (v.state.next + cost)))
moved-by true v cost e ok between is = record {
  image = ok.image;
  ram = ok.ram;
  status = ok.status;
  transfer = inl refl;
  halted = raised v.state.halted v.state.next (v.state.next + step) (omega arith) ok.halted;
  stands = (record { start = refl; cause = between.cause; answers = between.answers }, refl);
}
moved-by false v cost e ok between is = record {
  image = ok.image;
  ram = ok.ram;
  status = ok.status;
  transfer = one-more v.state.transfer cost e ok.transfer is;
  halted = raised v.state.halted v.state.next (v.state.next + cost) (omega arith) ok.halted;
  stands = (record { start = refl; cause = between.cause; answers = between.answers }, grind (arith, nat_tests, e));
}

answered-by : (stage : Stage) (v : Chip68Value) (answer : Answer68) → IsChip68 v → IsAt stage v.cart v.state → is_sample stage ≡ false → Fits (request_at stage v.cart v.state) answer
    → IsChip68 (of v.cart (answered_at stage v.cart v.state answer))
answered-by Sample v answer ok at kind fits = cc
answered-by Access v answer ok at kind fits = went-ok v.cart _ _ _ (ready-more v answer ok at fits)
answered-by Word v answer ok at kind fits = moved-by (nat_le v.state.transfer.words 1) v answer.cost refl ok at.0 fits.cost

pub answered-ok : (v : Chip68Value) (answer : Answer68) → IsChip68 v → (next_of v.state).sample ≡ false → Fits (request_of v.cart v.state) answer → IsChip68 (of v.cart (answered v.cart v.state answer))
unfolding answered next_of request_of
answered-ok v answer ok kind fits = answered-by v.state.stage v answer ok ok.stands kind fits

-- what waited takes more than the answers that it had: with no more it would wait again
answers-same : (cart ram answers : List ℕ) (x count : ℕ) → count ≤ length answers
    → SameBelow count (record { rom = cart; ram = ram; answers = answers ++ x ∷ [] }) (record { rom = cart; ram = ram; answers = answers })
answers-same cart ram answers x count few = record { same = refl; enough = few; answers = λ k less. sym (get_or_append_left answers (x ∷ []) 0 k (omega (arith, less, few))) }

different : (ended : Ended) (stop : Stop) → Ok ended ≡ Err stop → ⊥
different ended stop e = cc

takes-more : (cart : List ℕ) (state : State68) (cause : ℕ) (answers : List ℕ) (x : ℕ) (request : Request68) (ended : Ended) → Asks cart state cause answers request
    → carried_out cart state cause (answers ++ x ∷ []) ≡ Ok ended → length answers + 1 ≤ ended.spent.accesses
takes-more cart state cause answers x request ended asks e =
    elim (cases_lt (length answers) ended.spent.accesses) [
      | inl more ↦ omega (arith, more)
      | inr less ↦ absurd (different ended (Ask request) (sym (later.sampled cause state.regs _ _ ended e (answers-same cart state.ram answers x ended.spent.accesses less)) ∙ asks))
    ]

asked-late : (v : Chip68Value) (answer : Answer68) → IsAsking v.cart v.state → v.state.next + step ≤ (went_on v.cart (with_started v.state answer.transfer) v.state.cause (v.state.answers ++ answer.value ∷ [])).next
unfolding went_on
asked-late v answer a =
    let rest = started-rest v.state answer.transfer in
    let counted = length-append v.state.answers (answer.value ∷ []) in
    let start = rest.3 in
    let place = a.place in
    let late = came-later v.cart (with_started v.state answer.transfer) v.state.cause (v.state.answers ++ answer.value ∷ []) (carried_out v.cart (with_started v.state answer.transfer) v.state.cause (v.state.answers ++ answer.value ∷ [])) refl
    (λ ended is. (let more = takes-more v.cart v.state v.state.cause v.state.answers answer.value a.request ended a.asked (sym (started-same v.cart v.state answer.transfer v.state.cause (v.state.answers ++ answer.value ∷ [])) ∙ is) in omega (arith, more, counted))) in
    omega (arith, place, late, counted, start)

cost-late : (cost : ℕ) → IsWordCost cost → step ≤ cost
cost-late cost (inl is) = omega (arith, is)
cost-late cost (inr is) = omega (arith, is)

moved-late : (b : Bool) (state : State68) (cost : ℕ) → IsWordCost cost
    → state.next + step ≤ (if b then at_sample (record state { transfer = none_left }) (state.next + step) else at_word (record state { transfer = record { source = next_source state.transfer.source; words = state.transfer.words - 1; cost = cost } }) (state.next + cost)).next
moved-late true state cost is = omega arith
moved-late false state cost is = let least = cost-late cost is in omega (arith, least)

late-by : (stage : Stage) (v : Chip68Value) (answer : Answer68) → IsAt stage v.cart v.state → is_sample stage ≡ false → Fits (request_at stage v.cart v.state) answer
    → v.state.next + step ≤ (answered_at stage v.cart v.state answer).next
late-by Sample v answer at kind fits = cc
late-by Access v answer at kind fits = asked-late v answer at
late-by Word v answer at kind fits = moved-late (nat_le v.state.transfer.words 1) v.state answer.cost fits.cost

pub answered-later : (v : Chip68Value) (answer : Answer68) → IsChip68 v → (next_of v.state).sample ≡ false → Fits (request_of v.cart v.state) answer → v.state.next + step ≤ (answered v.cart v.state answer).next
unfolding answered next_of request_of
answered-later v answer ok kind fits = late-by v.state.stage v answer ok.stands kind fits

pub power_on-ok : (image : List ℕ) → IsImage image → IsChip68 (of image (power_on image))
unfolding power_on
power_on-ok image ok = record {
  image = ok;
  ram = length-replicate {A = ℕ} ram_size 0;
  status = refl;
  transfer = inl refl;
  halted = tt;
  stands = (record { start = refl; cause = refl; answers = refl }, refl);
}
