-- The answer to an access, and the samples after it.
use Rattle.std.proofs.Common.{◌≡◌, ℕ, zero, suc, ◌+◌, ◌<◌, ◌≤◌, true, false, List, Option, refl, sym, ap, subst, arith}
use Rattle.md_word.specs.declared.main_bus.Answer68.{Answer68}
use Rattle.md_word.specs.declared.main_bus.Request68.{Request68}
use Rattle.m68k_exec.specs.declared.sample.step.Predicted.{Predicted}
use Rattle.m68k_chip.specs.Events.{SampledOn, WentAhead, answered, begun_after, request_of}
use Rattle.m68k_chip.specs.Held.{IsHeld, IsPredicted, WaitsFor}
use Rattle.m68k_chip.specs.Iterations.{IsOn, reading, sampling}
use Rattle.m68k_chip.specs.States.{State68, next_of}
use Rattle.m68k_chip.specs.Validity.{Chip68Value, Fits, IsChip68}
use Rattle.m68k_chip.specs.declared.iteration.Iteration.{Iteration}
use Rattle.m68k_chip.specs.declared.iteration.Place.{Place}
use Rattle.m68k_chip.specs.declared.iteration.Place.TheVariants.{AtRead}
use Rattle.m68k_chip.proofs.Iterations.{ahead-again, answers-again, at-read}
use Rattle.m68k_chip.proofs.Laws.{IsLevel, answered-later, answered-ok, begun-later, begun-ok, of}

kinds-from : (cart : List ℕ) (level end n : ℕ) (before after : State68) → WentAhead n end cart level before after → (next_of before).sample ≡ true → (k : ℕ) → k < n → (next_of (begun_after k cart before level)).sample ≡ true
unfolding begun_after
kinds-from cart level end n before after went kind zero most = kind
kinds-from cart level end n before after went kind (suc k) most = went.sample (suc k) (omega arith) most

lows-from : (cart : List ℕ) (level end n : ℕ) (before after : State68) → WentAhead n end cart level before after → before.next < end → (k : ℕ) → k < n → (begun_after k cart before level).next < end
unfolding begun_after
lows-from cart level end n before after went low zero most = low
lows-from cart level end n before after went low (suc k) most = went.below (suc k) (omega arith) most

-- samples of which the first lies below the cycle too
pub all-on : (cart : List ℕ) (level end n : ℕ) (before after : State68) → WentAhead n end cart level before after → (next_of before).sample ≡ true → before.next < end → SampledOn n end cart level before after
all-on cart level end n before after went kind low = record {
  sample = kinds-from cart level end n before after went kind;
  below = lows-from cart level end n before after went low;
  is = went.is;
}

valid-on : (n : ℕ) (cart : List ℕ) (state : State68) (level : ℕ) → IsLevel level → IsChip68 (of cart state) → ((k : ℕ) → k < n → (next_of (begun_after k cart state level)).sample ≡ true) → IsChip68 (of cart (begun_after n cart state level))
unfolding begun_after
valid-on zero cart state level known ok samples = ok
valid-on (suc n) cart state level known ok samples =
    begun-ok (of cart (begun_after n cart state level)) level known (valid-on n cart state level known ok (λ k most. samples k (omega arith))) (samples n (omega arith))

begun-on-later : (n : ℕ) (cart : List ℕ) (level : ℕ) (state : State68) → IsLevel level → IsChip68 (of cart state) → ((k : ℕ) → k < n → (next_of (begun_after k cart state level)).sample ≡ true) → state.next + n ≤ (begun_after n cart state level).next
unfolding begun_after
begun-on-later zero cart level state known ok samples = omega arith
begun-on-later (suc n) cart level state known ok samples =
    let before = begun-on-later n cart level state known ok (λ k most. samples k (omega arith)) in
    let valid = valid-on n cart state level known ok (λ k most. samples k (omega arith)) in
    let one = begun-later (of cart (begun_after n cart state level)) level valid (samples n (omega arith)) in
    omega (arith, before, one)

-- samples take a cycle each, or more
pub on-later : (v : Chip68Value) (level end n : ℕ) (after : State68) → IsLevel level → IsChip68 v → SampledOn n end v.cart level v.state after → v.state.next + n ≤ after.next
on-later v level end n after known ok on =
    let late = begun-on-later n v.cart level v.state known ok on.sample in
    let is = ap (λ (s : State68). s.next) on.is in
    omega (arith, late, is)

-- and the access before them too
pub answered-on-later : (v : Chip68Value) (answer : Answer68) (level end n : ℕ) (after : State68) → IsLevel level → IsChip68 v → (next_of v.state).sample ≡ false → Fits (request_of v.cart v.state) answer
    → SampledOn n end v.cart level (answered v.cart v.state answer) after → v.state.next + n < after.next
answered-on-later v answer level end n after known ok kind fits on =
    let one = answered-later v answer ok kind fits in
    let more = on-later (of v.cart (answered v.cart v.state answer)) level end n after known (answered-ok v answer ok kind fits) on in
    omega (arith, one, more)

-- at the read, where it is answered as on the iteration, the samples of the iteration lead to the read again
pub gone-round : (iteration : Iteration) (cart : List ℕ) (old new : State68) (place : Place) (request : Option Request68) (predicted : Predicted) (answer : Answer68) (level end : ℕ) → IsOn place iteration cart old request predicted → place ≡ AtRead
    → answer ≡ iteration.answer → level ≡ iteration.level → old.start + iteration.first + iteration.last < end → new ≡ reading old.ram iteration.from (old.start + iteration.first + iteration.rest) → SampledOn iteration.samples end cart level (answered cart old answer) new
unfolding next_of
gone-round iteration cart old new place request predicted answer level end on is same pins low comes =
    let at = at-read iteration cart old place request predicted on is in
    let between : State68 = sampling old.ram iteration.after (old.start + iteration.first) in
    let led : between ≡ answered cart old answer = answers-again iteration cart old between place request predicted answer on is same refl in
    let late = at.2 in
    let went = ahead-again iteration cart old.ram (old.start + iteration.first) end at.0 (omega (arith, late)) low in
    let all = all-on cart iteration.level end iteration.samples between (reading old.ram iteration.from (old.start + iteration.first + iteration.rest)) went refl (omega (arith, low)) in
    subst (λ (l : ℕ). SampledOn iteration.samples end cart l (answered cart old answer) new) (sym pins)
    (subst (λ (s : State68). SampledOn iteration.samples end cart iteration.level s new) led
    (subst (λ (s : State68). SampledOn iteration.samples end cart iteration.level between s) (sym comes) all))

-- it is at the read again, with all else as it was
pub reads-again : (iteration : Iteration) (cart : List ℕ) (old new : State68) (place : Place) (request : Option Request68) (predicted : Predicted) (n : ℕ) → IsOn place iteration cart old request predicted → place ≡ AtRead
    → new ≡ reading old.ram iteration.from (old.start + n) → IsOn place iteration cart new request predicted
reads-again iteration cart old new place request predicted n on is comes =
    let at = at-read iteration cart old place request predicted on is in
    subst (λ (p : Place). IsOn p iteration cart new request predicted) (sym is)
    (subst (λ (s : State68). IsOn AtRead iteration cart s request predicted) (sym comes) (at.0, refl, let late = at.2 in omega (arith, late)))

pub held-round : (iteration : Iteration) (cart : List ℕ) (old new : State68) (place : Place) (request : Option Request68) (predicted : Predicted) (answer : Answer68) (level end n : ℕ) → IsLevel level → IsOn place iteration cart old request predicted → place ≡ AtRead
    → IsHeld (of cart old) request predicted → (next_of old).sample ≡ false → Fits (request_of cart old) answer → SampledOn n end cart level (answered cart old answer) new → (m : ℕ) → new ≡ reading old.ram iteration.from (old.start + m) → IsHeld (of cart new) request predicted
held-round iteration cart old new place request predicted answer level end n known on is held kind fits went m comes =
    let at = at-read iteration cart old place request predicted on is in
    record {
      valid = subst (λ (s : State68). IsChip68 (of cart s)) (sym went.is) (valid-on n cart (answered cart old answer) level known (answered-ok (of cart old) answer held.valid kind fits) went.sample);
      waiting = subst (λ (s : State68). WaitsFor s.stage cart s request) (sym comes) (subst (λ (s : State68). WaitsFor s.stage cart s request) at.1 held.waiting);
      predicts = subst (λ (s : State68). IsPredicted s.stage cart s predicted) (sym comes) (subst (λ (s : State68). IsPredicted s.stage cart s predicted) at.1 held.predicts);
    }
