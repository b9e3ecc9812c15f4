-- Samples that led back to the same registers lead there again from each time at which they come back.
use Rattle.std.proofs.Common.{◌≡◌, ℕ, zero, suc, ◌+◌, ◌-◌, ◌*◌, ◌/◌, ◌<◌, ◌≤◌, inl, inr, Bool, true, List, refl, sym, ap, subst, ◌∙◌, arith}
use Rattle.std.specs.Prelude.{◌&&◌}
use Rattle.std.proofs.Math.Nat.{mul-le-mul_left}
use Rattle.std.proofs.lemmas.Bool.{and_parts, cases_lt}
use Rattle.md_word.specs.declared.regs.Regs.{Regs}
use Rattle.m68k_chip.specs.Events.{SampledOn, WentAhead, begun, begun_after}
use Rattle.m68k_chip.specs.Iterations.{sampling}
use Rattle.m68k_chip.specs.Repetitions.{IsMarked}
use Rattle.m68k_chip.specs.States.{State68, next_of}
use Rattle.m68k_chip.specs.declared.repetition.Mark.{Mark}
use Rattle.m68k_chip.proofs.Iterations.{ahead-shifted, later}

-- ---- samples one after another

begun-sum : (m n : ℕ) (cart : List ℕ) (state : State68) (level : ℕ) → begun_after (m + n) cart state level ≡ begun_after m cart (begun_after n cart state level) level
unfolding begun_after
begun-sum zero n cart state level = ap (λ (i : ℕ). begun_after i cart state level) (let e : 0 + n ≡ n = omega arith in e)
begun-sum (suc m) n cart state level =
    ap (λ (i : ℕ). begun_after i cart state level) (let e : suc m + n ≡ suc (m + n) = omega arith in e) ∙ ap (λ (s : State68). begun cart s level) (begun-sum m n cart state level)

pub leads-none : (cycle : ℕ) (cart : List ℕ) (level : ℕ) (state after : State68) → after ≡ state → SampledOn 0 cycle cart level state after
unfolding begun_after
leads-none cycle cart level state after same = record {
  sample = λ k few. absurd (omega arith);
  below = λ k few. absurd (omega arith);
  is = same;
}

pub leads-one : (cycle : ℕ) (cart : List ℕ) (level : ℕ) (state after : State68) → (next_of state).sample ≡ true → state.next < cycle → after ≡ begun cart state level → SampledOn 1 cycle cart level state after
unfolding begun_after
leads-one cycle cart level state after kind low is = record { sample = sample; below = below; is = is }
  where
    sample : (k : ℕ) → k < 1 → (next_of (begun_after k cart state level)).sample ≡ true
    sample zero few = kind
    sample (suc k) few = absurd (omega arith)

    below : (k : ℕ) → k < 1 → (begun_after k cart state level).next < cycle
    below zero few = low
    below (suc k) few = absurd (omega arith)

pub leads-below : (n low high : ℕ) (cart : List ℕ) (level : ℕ) (state after : State68) → low ≤ high → SampledOn n low cart level state after → SampledOn n high cart level state after
leads-below n low high cart level state after le led = record {
  sample = led.sample;
  below = λ k few. omega (arith, led.below k few, le);
  is = led.is;
}

-- a sample of the second part of a row
second : (m k : ℕ) (cart : List ℕ) (level : ℕ) (state middle : State68) → m ≤ k → middle ≡ begun_after m cart state level → begun_after k cart state level ≡ begun_after (k - m) cart middle level
second m k cart level state middle more is =
    ap (λ (i : ℕ). begun_after i cart state level) (let e : k ≡ k - m + m = omega (arith, more) in e)
    ∙ begun-sum (k - m) m cart state level
    ∙ ap (λ (s : State68). begun_after (k - m) cart s level) (sym is)

pub leads-more : (m n cycle : ℕ) (cart : List ℕ) (level : ℕ) (state middle after : State68) → SampledOn m cycle cart level state middle → SampledOn n cycle cart level middle after → SampledOn (n + m) cycle cart level state after
leads-more m n cycle cart level state middle after first next = record {
  sample = λ k few. elim (cases_lt k m) [
    | inl less ↦ first.sample k less
    | inr more ↦ ap (λ (s : State68). (next_of s).sample) (second m k cart level state middle more first.is) ∙ next.sample (k - m) (omega (arith, few, more))
  ];
  below = λ k few. elim (cases_lt k m) [
    | inl less ↦ first.below k less
    | inr more ↦ subst (λ (s : State68). s.next < cycle) (sym (second m k cart level state middle more first.is)) (next.below (k - m) (omega (arith, few, more)))
  ];
  is = next.is ∙ ap (λ (s : State68). begun_after n cart s level) first.is ∙ sym (begun-sum n m cart state level);
}

-- the same where the first part is a row of which the first sample may lie anywhere
pub went-on : (m n cycle : ℕ) (cart : List ℕ) (level : ℕ) (state middle after : State68) → WentAhead m cycle cart level state middle → SampledOn n cycle cart level middle after → WentAhead (m + n) cycle cart level state after
went-on m n cycle cart level state middle after first next = record {
  some = let some = first.some in omega (arith, some);
  sample = λ k some few. elim (cases_lt k m) [
    | inl less ↦ first.sample k some less
    | inr more ↦ ap (λ (s : State68). (next_of s).sample) (second m k cart level state middle more first.is) ∙ next.sample (k - m) (omega (arith, few, more))
  ];
  below = λ k some few. elim (cases_lt k m) [
    | inl less ↦ first.below k some less
    | inr more ↦ subst (λ (s : State68). s.next < cycle) (sym (second m k cart level state middle more first.is)) (next.below (k - m) (omega (arith, few, more)))
  ];
  is = next.is ∙ ap (λ (s : State68). begun_after n cart s level) first.is ∙ sym (begun-sum n m cart state level) ∙ ap (λ (i : ℕ). begun_after i cart state level) (let e : n + m ≡ m + n = omega arith in e);
}

-- ---- the same samples later

leads-later : (n cycle by : ℕ) (cart : List ℕ) (level : ℕ) (state after : State68) → SampledOn n cycle cart level state after → SampledOn n (cycle + by) cart level (later by state) (later by after)
unfolding next_of
leads-later n cycle by cart level state after led = record {
  sample = λ k few. ap (λ (s : State68). (next_of s).sample) (ahead-shifted k cart by state level) ∙ led.sample k few;
  below = λ k few. omega (arith, led.below k few, ap (λ (s : State68). s.next) (ahead-shifted k cart by state level));
  is = ap (later by) led.is ∙ sym (ahead-shifted n cart by state level);
}

-- what led back once leads back so many times more
repeated : (periods samples period start count span : ℕ) (cart ram : List ℕ) (level : ℕ) (regs : Regs) → count ≡ periods * samples → span ≡ periods * period
    → SampledOn samples (start + period) cart level (sampling ram regs start) (sampling ram regs (start + period)) → SampledOn count (start + period + span) cart level (sampling ram regs (start + period)) (sampling ram regs (start + period + span))
repeated zero samples period start count span cart ram level regs counted spanned led =
    subst (λ (n : ℕ). SampledOn n (start + period + span) cart level (sampling ram regs (start + period)) (sampling ram regs (start + period + span))) (let e : 0 ≡ count = omega (arith, counted) in e)
    (leads-none (start + period + span) cart level (sampling ram regs (start + period)) (sampling ram regs (start + period + span)) (ap (sampling ram regs) (let e : start + period + span ≡ start + period = omega (arith, spanned) in e)))
repeated (suc periods) samples period start count span cart ram level regs counted spanned led =
    let before = periods * period in
    let at : start + span ≡ start + period + before = omega (arith, spanned) in
    let first = repeated periods samples period start (periods * samples) before cart ram level regs refl refl led in
    let next = leads-later samples (start + period) span cart level (sampling ram regs start) (sampling ram regs (start + period)) led in
    subst (λ (n : ℕ). SampledOn n (start + period + span) cart level (sampling ram regs (start + period)) (sampling ram regs (start + period + span))) (let e : samples + periods * samples ≡ count = omega (arith, counted) in e)
    (leads-more (periods * samples) samples (start + period + span) cart level (sampling ram regs (start + period)) (sampling ram regs (start + period + before)) (sampling ram regs (start + period + span))
    (leads-below (periods * samples) (start + period + before) (start + period + span) cart level (sampling ram regs (start + period)) (sampling ram regs (start + period + before)) (omega (arith, at)) first)
    (subst (λ (cycle : ℕ). SampledOn samples (start + period + span) cart level (sampling ram regs cycle) (sampling ram regs (start + period + span))) at next))

pub passed : (periods samples cycle start end : ℕ) (cart ram : List ℕ) (level : ℕ) (regs : Regs) (state after : State68) → cycle < start → start + periods * (start - cycle) ≤ end → state ≡ sampling ram regs start
    → SampledOn samples start cart level (sampling ram regs cycle) state → after ≡ sampling ram regs (start + periods * (start - cycle)) → SampledOn (periods * samples) end cart level state after
passed periods samples cycle start end cart ram level regs state after later most stands led comes =
    let there : cycle + (start - cycle) ≡ start = omega (arith, later) in
    let once = subst (λ (c : ℕ). SampledOn samples c cart level (sampling ram regs cycle) (sampling ram regs c)) (sym there)
    (subst (λ (s : State68). SampledOn samples start cart level (sampling ram regs cycle) s) stands led) in
    let all = repeated periods samples (start - cycle) cycle (periods * samples) (periods * (start - cycle)) cart ram level regs refl refl once in
    let here = subst (λ (c : ℕ). SampledOn (periods * samples) (c + periods * (start - cycle)) cart level (sampling ram regs c) (sampling ram regs (c + periods * (start - cycle)))) there all in
    leads-below (periods * samples) (start + periods * (start - cycle)) end cart level state after most
    (subst (λ (s : State68). SampledOn (periods * samples) (start + periods * (start - cycle)) cart level s after) (sym stands)
    (subst (λ (s : State68). SampledOn (periods * samples) (start + periods * (start - cycle)) cart level (sampling ram regs start) s) (sym comes) here))

-- ---- since a mark

pub at-next : (ram : List ℕ) (regs : Regs) (start : ℕ) (state : State68) → state ≡ sampling ram regs start → state ≡ sampling ram regs state.next
at-next ram regs start state is = is ∙ ap (sampling ram regs) (sym (ap (λ (s : State68). s.next) is))

pub marked-more : (cart : List ℕ) (level : ℕ) (mark : Mark) (quiet : Bool) (now after : State68) → IsMarked mark cart level now → (next_of now).sample ≡ true → now.next < after.next → after ≡ begun cart now level → (quiet ≡ true → after.ram ≡ now.ram)
    → IsMarked (record mark { kept = mark.kept && quiet; samples = mark.samples + 1 }) cart level after
marked-more cart level mark quiet now after marked kind later is still all =
    let parts = and_parts mark.kept quiet all in
    let before = leads-below mark.samples now.next after.next cart level (sampling now.ram mark.regs mark.cycle) now (omega (arith, later)) (marked parts.0) in
    let both = leads-more mark.samples 1 after.next cart level (sampling now.ram mark.regs mark.cycle) now after before (leads-one after.next cart level now after kind later is) in
    subst (λ (n : ℕ). SampledOn n after.next cart level (sampling after.ram mark.regs mark.cycle) after) (let e : 1 + mark.samples ≡ mark.samples + 1 = omega arith in e)
    (subst (λ (ram : List ℕ). SampledOn (1 + mark.samples) after.next cart level (sampling ram mark.regs mark.cycle) after) (sym (still parts.1)) both)

-- ---- how often it fits

-- the periods end no later than the cycle below which they are counted
pub fits : (cycle start end : ℕ) → cycle < start → start < end → start + (end - start) / (start - cycle) * (start - cycle) ≤ end
fits cycle start end later below = omega arith

-- as each sample takes a cycle at least, the periods have no more samples than cycles
pub shorter : (periods samples cycle start : ℕ) → cycle + samples ≤ start → start + periods * samples ≤ start + periods * (start - cycle)
shorter periods samples cycle start early = let less = mul-le-mul_left periods (let e : samples ≤ start - cycle = omega (arith, early) in e) in omega (arith, less)
