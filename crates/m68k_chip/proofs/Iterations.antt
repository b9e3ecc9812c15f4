-- An iteration is the same at each time at which it is gone through.
use Rattle.std.proofs.Common.{◌≡◌, ℕ, zero, suc, ◌+◌, ◌-◌, ◌*◌, ◌<◌, ◌≤◌, ◌==◌, Bool, true, false, inl, inr, List, [], ◌∷◌, ◌++◌, length, Option, Some, None, IfSome, is_some, Result, Ok, Err, refl, sym, ap, subst, ◌∙◌, arith}
use Rattle.std.specs.Prelude.{◌&&◌, if◌then◌else◌, max, nat_lt}
use Rattle.std.proofs.lemmas.Bool.{and_parts}
use Rattle.std.proofs.lemmas.Bool.Decides.{nat_tests}
use Rattle.std.proofs.Math.Nat.{eq-or-lt_of_le}
use Rattle.md_word.specs.declared.main_bus.Answer68.{Answer68}
use Rattle.md_word.specs.declared.main_bus.Request68.{Request68}
use Rattle.md_word.specs.declared.main_bus.Transfer.{Transfer}
use Rattle.md_word.specs.declared.regs.Regs.{Regs}
use Rattle.m68k_exec.specs.Sample.Samples.{Ended}
use Rattle.m68k_access.specs.declared.stop.Stop.{Stop}
use Rattle.m68k_exec.specs.declared.sample.step.Predicted.{Predicted}
use Rattle.m68k_chip.specs.Cases.{case_of, cause_of, mask_of}
use Rattle.m68k_chip.specs.Events.{WentAhead, answered, asking, at_sample, at_word, begun, begun_after, begun_with, came_to, carried_out, end_of, finished, left_by, rested, step, waited, went_on}
use Rattle.m68k_chip.specs.Held.{IsPredicted, IsHeld, WaitsFor}
use Rattle.m68k_chip.specs.Iterations.{HasWatched, IsAnswered, IsAside, IsIteration, IsOn, following, reading, sampling}
use Rattle.m68k_chip.specs.States.{State68, next_of, state_of}
use Rattle.m68k_chip.specs.Validity.{IsChip68}
use Rattle.m68k_chip.specs.declared.case.Case.TheVariants.{Halted, Trace, Interrupt, Stopped, Instruction}
use Rattle.m68k_chip.specs.declared.iteration.Iteration.{Iteration}
use Rattle.m68k_chip.specs.declared.iteration.Place.{Place}
use Rattle.m68k_chip.specs.declared.iteration.Place.TheVariants.{Away, PastRead, AtRead}
use Rattle.m68k_chip.specs.declared.watched.Watched.{Watched}
use Rattle.m68k_chip.specs.declared.sequencer.Sequencer.{Sequencer}
use Rattle.m68k_chip.proofs.Ahead.{more-ahead, one-ahead}
use Rattle.m68k_chip.proofs.Laws.{IsLevel, begun-ok, of}

-- ---- a state so many cycles later

abbrev pub shifted : ℕ → Option ℕ → Option ℕ
shifted n None = None
shifted n (Some cycle) = Some (cycle + n)

abbrev pub later : ℕ → State68 → State68
later n state = record state { next = state.next + n; start = state.start + n; halted = shifted n state.halted }

rested-shifted : (n end : ℕ) (state : State68) (none : Bool)
    → (if none then at_sample (later n state) (end + n) else at_word (later n state) (end + n + state.transfer.cost)) ≡ later n (if none then at_sample state end else at_word state (end + state.transfer.cost))
rested-shifted n end state true = refl
rested-shifted n end state false = ap (at_word (later n state)) (let e : end + n + state.transfer.cost ≡ end + state.transfer.cost + n = omega arith in e)

halts-shifted : (n start : ℕ) (halts : Bool) → (if halts then Some (start + n) else None) ≡ shifted n (if halts then Some start else None)
halts-shifted n start true = refl
halts-shifted n start false = refl

left-shifted : (n : ℕ) (state : State68) (ended : Ended) → left_by (later n state) ended ≡ later n (left_by state ended)
left-shifted n state ended = ap (λ (h : Option ℕ). record (left_by (later n state) ended) { halted = h }) (halts-shifted n state.start ended.halted)

ends-shifted : (n : ℕ) (state : State68) (ended : Ended) → end_of (later n state) ended ≡ end_of state ended + n
ends-shifted n state ended = omega arith

finished-shifted : (n : ℕ) (state : State68) (ended : Ended) → finished (later n state) ended ≡ later n (finished state ended)
finished-shifted n state ended =
    ap (λ (s : State68). rested s (end_of (later n state) ended)) (left-shifted n state ended)
    ∙ ap (rested (later n (left_by state ended))) (ends-shifted n state ended)
    ∙ rested-shifted n (end_of state ended) (left_by state ended) ((left_by state ended).transfer.words == 0)

asking-shifted : (n : ℕ) (state : State68) (cause : ℕ) (answers : List ℕ) → asking (later n state) cause answers ≡ later n (asking state cause answers)
asking-shifted n state cause answers =
    ap (λ (m : ℕ). record (asking (later n state) cause answers) { next = m }) (let e : state.start + n + step * (length answers + 1) ≡ state.start + step * (length answers + 1) + n = omega arith in e)

came-shifted : (n : ℕ) (state : State68) (cause : ℕ) (answers : List ℕ) (r : Result Ended Stop) → came_to (later n state) cause answers r ≡ later n (came_to state cause answers r)
came-shifted n state cause answers (Ok ended) = finished-shifted n state ended
came-shifted n state cause answers (Err stop) = asking-shifted n state cause answers

went-shifted : (cart : List ℕ) (n : ℕ) (state : State68) (cause : ℕ) (answers : List ℕ) → went_on cart (later n state) cause answers ≡ later n (went_on cart state cause answers)
unfolding went_on
went-shifted cart n state cause answers = came-shifted n state cause answers (carried_out cart state cause answers)

-- ---- what comes at a sample does not depend on the time

still-halted : (n : ℕ) (halted : Option ℕ) → is_some (shifted n halted) ≡ is_some halted
still-halted n None = refl
still-halted n (Some cycle) = refl

case-shifted : (n : ℕ) (state : State68) (level : ℕ) → case_of (later n state) level ≡ case_of state level
unfolding case_of
case-shifted n state level =
    ap (λ (b : Bool). if b then Halted else (if state.trace then Trace else (if nat_lt (mask_of state.regs) level then Interrupt level else (if state.stopped then Stopped else Instruction)))) (still-halted n state.halted)

waited-shifted : (n : ℕ) (state : State68) → waited (later n state) ≡ later n (waited state)
waited-shifted n state = ap (at_sample (later n state)) (let e : state.start + n + step ≡ state.start + step + n = omega arith in e)

with-shifted : (cart : List ℕ) (n : ℕ) (state : State68) (cause : Option ℕ) → begun_with cart (later n state) cause ≡ later n (begun_with cart state cause)
with-shifted cart n state None = waited-shifted n state
with-shifted cart n state (Some cause) = went-shifted cart n state cause []

begun-shifted : (cart : List ℕ) (n : ℕ) (state : State68) (level : ℕ) → begun cart (later n state) level ≡ later n (begun cart state level)
unfolding begun
begun-shifted cart n state level =
    ap (λ c. begun_with cart (later n state) (cause_of c)) (case-shifted n state level) ∙ with-shifted cart n state (cause_of (case_of state level))

pub ahead-shifted : (count : ℕ) (cart : List ℕ) (n : ℕ) (state : State68) (level : ℕ) → begun_after count cart (later n state) level ≡ later n (begun_after count cart state level)
unfolding begun_after
ahead-shifted zero cart n state level = refl
ahead-shifted (suc count) cart n state level =
    ap (λ (s : State68). begun cart s level) (ahead-shifted count cart n state level) ∙ begun-shifted cart n (begun_after count cart state level) level

reading-shifted : (n : ℕ) (ram : List ℕ) (regs : Regs) (start : ℕ) → reading ram regs (start + n) ≡ later n (reading ram regs start)
reading-shifted n ram regs start = ap (λ (m : ℕ). record (reading ram regs (start + n)) { next = m }) (let e : start + n + step ≡ start + step + n = omega arith in e)

-- the answer to a read may come at any time
answered-shifted : (cart : List ℕ) (n : ℕ) (ram : List ℕ) (regs : Regs) (start : ℕ) (answer : Answer68) (started : Option Transfer) → answer.transfer ≡ started
    → answered cart (reading ram regs (start + n)) answer ≡ later n (answered cart (reading ram regs start) answer)
unfolding answered
answered-shifted cart n ram regs start answer None e =
    rw e (ap (λ (s : State68). went_on cart s 0 ([] ++ answer.value ∷ [])) (reading-shifted n ram regs start) ∙ went-shifted cart n (reading ram regs start) 0 ([] ++ answer.value ∷ []))
answered-shifted cart n ram regs start answer (Some transfer) e =
    rw e (ap (λ (s : State68). went_on cart (record s { transfer = transfer }) 0 ([] ++ answer.value ∷ [])) (reading-shifted n ram regs start)
    ∙ went-shifted cart n (record (reading ram regs start) { transfer = transfer }) 0 ([] ++ answer.value ∷ []))

-- ---- the iteration once more

since : (a b : ℕ) → a ≤ b → a + (b - a) ≡ b
since a b late = omega (arith, late)

pub answered-again : (iteration : Iteration) (cart ram : List ℕ) (at : ℕ) → IsAnswered iteration cart ram → iteration.start ≤ at → answered cart (reading ram iteration.from at) iteration.answer ≡ sampling ram iteration.after (at + iteration.first)
answered-again iteration cart ram at is late =
    let n = at - iteration.start in
    let there : iteration.start + n ≡ at = since iteration.start at late in
    ap (λ (m : ℕ). answered cart (reading ram iteration.from m) iteration.answer) (sym there)
    ∙ answered-shifted cart n ram iteration.from iteration.start iteration.answer iteration.answer.transfer refl
    ∙ ap (later n) is
    ∙ ap (sampling ram iteration.after) (let e : iteration.start + iteration.first + n ≡ at + iteration.first = omega (arith, there) in e)

pub ahead-again : (iteration : Iteration) (cart ram : List ℕ) (at end : ℕ) → IsIteration iteration cart ram → following iteration ≤ at → at + iteration.last < end → WentAhead iteration.samples end cart iteration.level (sampling ram iteration.after at) (reading ram iteration.from (at + iteration.rest))
unfolding next_of
ahead-again iteration cart ram at end is late low =
    let n = at - following iteration in
    let there : following iteration + n ≡ at = since (following iteration) at late in
    let same : (k : ℕ) → begun_after k cart (sampling ram iteration.after at) iteration.level ≡ later n (begun_after k cart (sampling ram iteration.after (following iteration)) iteration.level)
    = λ k. ap (λ (m : ℕ). begun_after k cart (sampling ram iteration.after m) iteration.level) (sym there) ∙ ahead-shifted k cart n (sampling ram iteration.after (following iteration)) iteration.level in
    record {
      some = is.some;
      sample = λ k some most. ap (λ (s : State68). (next_of s).sample) (same k) ∙ is.sample k some most;
      below = λ k some most. omega (arith, ap (λ (s : State68). s.next) (same k), is.below k some most, there, low);
      is = sym (same iteration.samples ∙ ap (later n) is.back ∙ sym (reading-shifted n ram iteration.from (following iteration + iteration.rest))
          ∙ ap (reading ram iteration.from) (let e : following iteration + iteration.rest + n ≡ at + iteration.rest = omega (arith, there) in e));
    }

-- ---- a chip that goes ahead stays valid

pub ahead-valid : (count : ℕ) (cart : List ℕ) (state : State68) (level : ℕ) → IsLevel level → IsChip68 (of cart state) → (next_of state).sample ≡ true
    → ((k : ℕ) → 1 ≤ k → k < count → (next_of (begun_after k cart state level)).sample ≡ true) → IsChip68 (of cart (begun_after count cart state level))
unfolding begun_after
ahead-valid zero cart state level known ok kind samples = ok
ahead-valid (suc zero) cart state level known ok kind samples = begun-ok (of cart state) level known ok kind
ahead-valid (suc (suc count)) cart state level known ok kind samples =
    begun-ok (of cart (begun_after (suc count) cart state level)) level known
    (ahead-valid (suc count) cart state level known ok kind (λ k some most. samples k some (omega arith))) (samples (suc count) (omega arith) (omega arith))

-- ---- an iteration that is closed

pub cycles-are : (a b cycles : ℕ) (found : Option ℕ) → IfSome found (λ n. a + n ≡ b) → found ≡ Some cycles → a + cycles ≡ b
cycles-are a b cycles found is e = subst (λ (o : Option ℕ). IfSome o (λ n. a + n ≡ b)) e is

pub placed : (place : Place) (iteration : Iteration) (cart ram : List ℕ) → IsIteration iteration cart ram → IsIteration (record iteration { place = place }) cart ram
placed place iteration cart ram is = record { answered = is.answered; some = is.some; sample = is.sample; below = is.below; back = is.back }

pub closed : (iteration : Iteration) (cart ram : List ℕ) (before after : State68) (watched : Watched) (end level begun last rest start : ℕ) (regs : Regs) → IsAnswered iteration cart before.ram → before ≡ sampling before.ram iteration.after (following iteration)
    → HasWatched watched end cart level before after → before.start ≡ begun → ram ≡ before.ram → after ≡ reading ram regs start → regs ≡ iteration.from → begun + last ≡ watched.latest → begun + rest ≡ start
    → IsIteration (record iteration { place = AtRead; samples = watched.samples; level = level; last = last; rest = rest }) cart ram × (after ≡ reading ram iteration.from start) × (iteration.start ≤ start)
closed iteration cart ram before after watched end level begun last rest start regs answered stands seen starts same reads again latest comes =
    let is : before ≡ sampling ram iteration.after (following iteration) = subst (λ (r : List ℕ). before ≡ sampling r iteration.after (following iteration)) (sym same) stands in
    let at : begun ≡ following iteration = sym starts ∙ ap (λ (s : State68). s.start) stands in
    let there : after ≡ reading ram iteration.from start = reads ∙ ap (λ (r : Regs). reading ram r start) again in (
      record {
        answered = subst (λ (r : List ℕ). IsAnswered iteration cart r) (sym same) answered;
        some = seen.led.some;
        sample = λ k some most. subst (λ (s : State68). (next_of (begun_after k cart s level)).sample ≡ true) is (seen.led.sample k some most);
        below = λ k some most. omega (arith, at, latest, subst (λ (s : State68). (begun_after k cart s level).next ≤ watched.latest) is (seen.latest k some most));
        back = sym (ap (λ (s : State68). begun_after watched.samples cart s level) is) ∙ sym seen.led.is ∙ there ∙ ap (reading ram iteration.from) (let e : start ≡ following iteration + rest = omega (arith, comes, at) in e);
      },
      there,
      omega (arith, comes, at),
    )

-- where no iteration is known nothing is to be shown
pub away : (place : Place) (iteration : Iteration) (cart : List ℕ) (state : State68) (request : Option Request68) (predicted : Predicted) → place ≡ Away → IsOn place iteration cart state request predicted
away place iteration cart state request predicted e = subst (λ (p : Place). IsOn p iteration cart state request predicted) (sym e) tt

-- ---- what is seen of samples

pub one-watched : (cart : List ℕ) (state : State68) (level end : ℕ) (after : State68) (latest : ℕ) (quiet : Bool) → after ≡ begun cart state level → (quiet ≡ true → after.ram ≡ state.ram)
    → HasWatched (record { samples = 1; latest = latest; quiet = quiet }) end cart level state after
one-watched cart state level end after latest quiet is still = record {
  led = one-ahead cart state level end after is;
  latest = λ k some most. absurd (omega arith);
  quiet = still;
}

pub more-watched : (cart : List ℕ) (state : State68) (level end : ℕ) (watched : Watched) (cycle : ℕ) (quiet : Bool) (now after : State68) → cycle ≡ now.next → HasWatched watched end cart level state now → (next_of now).sample ≡ true → now.next < end
    → after ≡ begun cart now level → (quiet ≡ true → after.ram ≡ now.ram) → HasWatched (record { samples = watched.samples + 1; latest = max watched.latest cycle; quiet = watched.quiet && quiet }) end cart level state after
more-watched cart state level end watched cycle quiet now after at seen kind low is still = record {
  led = more-ahead cart state level end watched.samples now after seen.led kind low is;
  latest = λ k some most. elim (eq-or-lt_of_le {n = k} {m = watched.samples} (omega (arith, most))) [
    | inr before ↦ (let e = seen.latest k some before in omega (arith, e))
    | inl last ↦ (let e : (begun_after k cart state level).next ≡ now.next = ap (λ (n : ℕ). (begun_after n cart state level).next) last ∙ sym (ap (λ (s : State68). s.next) seen.led.is) in omega (arith, e, at))
  ];
  quiet = λ all. let parts = and_parts watched.quiet quiet all in still parts.1 ∙ seen.quiet parts.0;
}

-- ---- at the read, and after its answer

pub at-read : (iteration : Iteration) (cart : List ℕ) (state : State68) (place : Place) (request : Option Request68) (predicted : Predicted) → IsOn place iteration cart state request predicted → place ≡ AtRead → IsOn AtRead iteration cart state request predicted
at-read iteration cart state place request predicted on is = subst (λ (p : Place). IsOn p iteration cart state request predicted) is on

following-read : (iteration : Iteration) (cart : List ℕ) (state : State68) (place : Place) (request : Option Request68) (predicted : Predicted) → IsOn place iteration cart state request predicted → place ≡ PastRead → IsOn PastRead iteration cart state request predicted
following-read iteration cart state place request predicted on is = subst (λ (p : Place). IsOn p iteration cart state request predicted) is on

-- the answer is the one that is known
pub answers-again : (iteration : Iteration) (cart : List ℕ) (old new : State68) (place : Place) (request : Option Request68) (predicted : Predicted) (answer : Answer68) → IsOn place iteration cart old request predicted → place ≡ AtRead → answer ≡ iteration.answer
    → new ≡ sampling old.ram iteration.after (old.start + iteration.first) → new ≡ answered cart old answer
answers-again iteration cart old new place request predicted answer on is same comes =
    let at = at-read iteration cart old place request predicted on is in
    comes
    ∙ sym (answered-again iteration cart old.ram old.start at.0.answered at.2)
    ∙ ap (λ (s : State68). answered cart s iteration.answer) (sym at.1)
    ∙ ap (answered cart old) (sym same)

pub stands-following : (iteration : Iteration) (cart : List ℕ) (old new : State68) (place : Place) (request : Option Request68) (predicted : Predicted) → IsOn place iteration cart old request predicted → place ≡ AtRead
    → WaitsFor old.stage cart old request → IsPredicted old.stage cart old predicted → new ≡ sampling old.ram iteration.after (old.start + iteration.first) → IsOn PastRead (record iteration { place = PastRead }) cart new request predicted
stands-following iteration cart old new place request predicted on is waits predicts comes =
    let at = at-read iteration cart old place request predicted on is in
    subst (λ (s : State68). IsOn PastRead (record iteration { place = PastRead }) cart s request predicted) (sym comes) (
      placed PastRead iteration cart old.ram at.0,
      refl,
      omega (arith, at.2),
      subst (λ (s : State68). WaitsFor s.stage cart s request) at.1 waits,
      subst (λ (s : State68). IsPredicted s.stage cart s predicted) at.1 predicts,
    )

pub sampling-waits : (cart ram : List ℕ) (regs : Regs) (cycle : ℕ) (new : State68) (request : Option Request68) → new ≡ sampling ram regs cycle → WaitsFor new.stage cart new request
sampling-waits cart ram regs cycle new request e = subst (λ (s : State68). WaitsFor s.stage cart s request) (sym e) tt

pub sampling-predicts : (cart ram : List ℕ) (regs : Regs) (cycle : ℕ) (new : State68) (predicted : Predicted) → new ≡ sampling ram regs cycle → IsPredicted new.stage cart new predicted
sampling-predicts cart ram regs cycle new predicted e = subst (λ (s : State68). IsPredicted s.stage cart s predicted) (sym e) tt

-- at the read all registers and numbers are those of it
pub reads-here : (iteration : Iteration) (cart ram : List ℕ) (sequencer : Sequencer) (place : Place) (request : Option Request68) (predicted : Predicted) → IsOn place iteration cart (state_of sequencer ram) request predicted → place ≡ AtRead
    → (other : List ℕ) → state_of sequencer other ≡ reading other sequencer.regs sequencer.start
reads-here iteration cart ram sequencer place request predicted on is other =
    let at = (at-read iteration cart (state_of sequencer ram) place request predicted on is).1 in
    ap (λ (s : State68). record s { ram = other }) at ∙ ap (λ (r : Regs). reading other r sequencer.start) (sym (ap (λ (s : State68). s.regs) at))

pub samples-here : (iteration : Iteration) (cart ram : List ℕ) (sequencer : Sequencer) (place : Place) (request : Option Request68) (predicted : Predicted) → IsOn place iteration cart (state_of sequencer ram) request predicted → place ≡ PastRead
    → (other : List ℕ) → state_of sequencer other ≡ sampling other sequencer.regs sequencer.start
samples-here iteration cart ram sequencer place request predicted on is other =
    let at = (following-read iteration cart (state_of sequencer ram) place request predicted on is).1 in
    ap (λ (s : State68). record s { ram = other }) at ∙ ap (λ (r : Regs). sampling other r sequencer.start) (sym (ap (λ (s : State68). s.regs) at))

-- the samples lead back to the read
pub goes-round : (iteration : Iteration) (cart : List ℕ) (old new : State68) (place : Place) (request : Option Request68) (predicted : Predicted) (level end : ℕ) → IsOn place iteration cart old request predicted → place ≡ PastRead → level ≡ iteration.level → old.start + iteration.last < end
    → new ≡ reading old.ram iteration.from (old.start + iteration.rest) → WentAhead iteration.samples end cart level old new
goes-round iteration cart old new place request predicted level end on is same low comes =
    let at = following-read iteration cart old place request predicted on is in
    let went = ahead-again iteration cart old.ram old.start end at.0 at.2 low in
    subst (λ (s : State68). WentAhead iteration.samples end cart level s new) (sym at.1)
    (subst (λ (s : State68). WentAhead iteration.samples end cart level (sampling old.ram iteration.after old.start) s) (sym comes)
    (subst (λ (l : ℕ). WentAhead iteration.samples end cart l (sampling old.ram iteration.after old.start) (reading old.ram iteration.from (old.start + iteration.rest))) (sym same) went))

pub held-again : (iteration : Iteration) (cart : List ℕ) (old new : State68) (place : Place) (request : Option Request68) (predicted : Predicted) (level end : ℕ) → IsLevel level → IsOn place iteration cart old request predicted → place ≡ PastRead
    → IsChip68 (of cart old) → (next_of old).sample ≡ true → WentAhead iteration.samples end cart level old new → new ≡ reading old.ram iteration.from (old.start + iteration.rest) → IsHeld (of cart new) request predicted
held-again iteration cart old new place request predicted level end known on is ok kind went comes =
    let at = following-read iteration cart old place request predicted on is in
    record {
      valid = subst (λ (s : State68). IsChip68 (of cart s)) (sym went.is) (ahead-valid iteration.samples cart old level known ok kind went.sample);
      waiting = subst (λ (s : State68). WaitsFor s.stage cart s request) (sym comes) at.3;
      predicts = subst (λ (s : State68). IsPredicted s.stage cart s predicted) (sym comes) at.4;
    }

pub stands-again : (iteration : Iteration) (cart : List ℕ) (old new : State68) (place : Place) (request : Option Request68) (predicted : Predicted) → IsOn place iteration cart old request predicted → place ≡ PastRead
    → new ≡ reading old.ram iteration.from (old.start + iteration.rest) → IsOn AtRead (record iteration { place = AtRead }) cart new request predicted
stands-again iteration cart old new place request predicted on is comes =
    let at = following-read iteration cart old place request predicted on is in
    subst (λ (s : State68). IsOn AtRead (record iteration { place = AtRead }) cart s request predicted) (sym comes)
    (placed AtRead iteration cart old.ram at.0, refl, omega (arith, at.2))

pub no-sample : (ram : List ℕ) (regs : Regs) (start : ℕ) (new : State68) → new ≡ reading ram regs start → (next_of new).sample ≡ true → ⊥
unfolding next_of
no-sample ram regs start new e sample = let no_way : false ≡ true = ap (λ (s : State68). (next_of s).sample) (sym e) ∙ sample in cc

-- the read that was kept is the one that was answered
pub read-taken : (cart bytes before ram : List ℕ) (state after : State68) (regs : Regs) (start : ℕ) (kept answer : Answer68) → bytes ≡ cart → state ≡ reading before regs start → kept ≡ answer → after ≡ answered bytes state answer → ram ≡ before
    → answered cart (reading ram regs start) kept ≡ after
read-taken cart bytes before ram state after regs start kept answer same stands is comes quiet =
    ap (λ (r : List ℕ). answered cart (reading r regs start) kept) quiet ∙ ap (λ (s : State68). answered cart s kept) (sym stands) ∙ ap (answered cart state) is ∙ ap (λ (b : List ℕ). answered b state answer) (sym same) ∙ sym comes

pub away-aside : (iteration : Iteration) (cart ram : List ℕ) → iteration.place ≡ Away → IsAside iteration cart ram
away-aside iteration cart ram e known = absurd (let no_way = sym e ∙ known in cc)

pub none-counted : (count : ℕ) → (count == 0) ≡ true → count ≡ 0
none-counted count is = grind (arith, nat_tests, is)
