-- A Z80 that rests: it has no RAM, or its reset is held.
use Rattle.std.proofs.Common.{◌≡◌, ℕ, zero, suc, ◌+◌, ◌-◌, ◌*◌, ◌<◌, ◌≤◌, Bool, true, false, List, Option, is_some, refl, sym, ap, subst, ◌∙◌, arith, if◌then◌else◌}
use Rattle.std.proofs.lemmas.Grind.{div_ceil_times}
use Rattle.md_word.specs.Clock.{gaps_to}
use Rattle.md_word.specs.declared.pins.Pins80.{Pins80}
use Rattle.z80_exec.specs.Sample.Entries.{after_reset}
use Rattle.z80_parcel.specs.Parcels.{Store}
use Rattle.z80_chip.specs.Cases.{bus_case, case_of, is_interrupted, is_reset, is_rest, running_case, seen}
use Rattle.z80_chip.specs.Events.{Rests, WentAhead, at_sample, begun, begun_after, begun_as, step, waited}
use Rattle.z80_chip.specs.Validity.{IsChip80}
use Rattle.z80_chip.specs.States.{State80, is_sample, next_of}
use Rattle.z80_chip.specs.declared.case.Case.{Case}
use Rattle.z80_chip.specs.declared.case.Case.TheVariants as cases
use Rattle.z80_chip.specs.declared.stage.Stage.TheVariants.{Sample}
use Rattle.z80_chip.proofs.Laws.{begun-ok, of}

-- what it would do out of reset is no rest
abbrev awake : Bool → Bool → Case
awake interrupted halted = if interrupted then cases.Interrupt else (if halted then cases.Halted else cases.Instruction)

busy : (interrupted halted : Bool) → is_rest (awake interrupted halted) ≡ true → false ≡ true
busy true halted e = e
busy false true e = e
busy false false e = e

-- by the bus, the RAM and the reset: one that rests waits, whatever else holds
rests-by : (request has reset interrupted halted interrupted' halted' : Bool) (cart : List ℕ) (state : State80)
    → is_rest (bus_case request has (if reset then cases.InReset else awake interrupted halted)) ≡ true
    → begun_as (bus_case request has (if reset then cases.InReset else awake interrupted' halted')) cart state ≡ waited state step
rests-by true true reset i h i' h' cart state e = cc
rests-by true false reset i h i' h' cart state e = refl
rests-by false false reset i h i' h' cart state e = cc
rests-by false true true i h i' h' cart state e = refl
rests-by false true false i h i' h' cart state e = let no = busy i h e in cc

-- the registers of a reset
abbrev reset_by : Bool → State80 → ℕ → State80
reset_by b state resets = if b then record state { regs = after_reset; halted = false; resets = resets } else state

reset-start : (b : Bool) (state : State80) (resets : ℕ) → (reset_by b state resets).start ≡ state.start
reset-start true state resets = refl
reset-start false state resets = refl

reset-store : (b : Bool) (state : State80) (resets : ℕ) → (reset_by b state resets).store ≡ state.store
reset-store true state resets = refl
reset-store false state resets = refl

-- a reset that was seen changes nothing when it is seen again
again : (b : Bool) (state : State80) (pins : Pins80) (cycle : ℕ) → is_reset state pins ≡ b
    → reset_by (is_reset (at_sample (reset_by b state pins.resets) cycle) pins) (at_sample (reset_by b state pins.resets) cycle) pins.resets ≡ at_sample (reset_by b state pins.resets) cycle
again true state pins cycle e = either (is_reset (at_sample (reset_by true state pins.resets) cycle) pins)
  where
    either : (b : Bool) → reset_by b (at_sample (reset_by true state pins.resets) cycle) pins.resets ≡ at_sample (reset_by true state pins.resets) cycle
    either true = refl
    either false = refl
again false state pins cycle e = ap (λ b. reset_by b (at_sample state cycle) pins.resets) e

module _ (cart : List ℕ) (state : State80) (pins : Pins80) (rest : is_rest (case_of state pins) ≡ true) where
  abbrev reset : State80
  reset = reset_by (is_reset state pins) state pins.resets

  -- where the reset was seen, it waits
  waited_on : (x : State80) → x.store ≡ state.store → begun_as (case_of x pins) cart x ≡ waited x step
  unfolding case_of running_case
  waited_on x same =
      rests-by pins.request (is_some x.store) pins.reset (is_interrupted state pins) state.halted (is_interrupted x pins) x.halted cart x
      (subst (λ (store : Option Store). is_rest (bus_case pins.request (is_some store) (running_case state pins)) ≡ true) (sym same) rest)

  first : begun cart state pins ≡ at_sample reset (state.start + step)
  unfolding begun seen
  first = waited_on reset (reset-store (is_reset state pins) state pins.resets) ∙ ap (λ c. at_sample reset (c + step)) (reset-start (is_reset state pins) state pins.resets)

  next : (cycle : ℕ) → begun cart (at_sample reset cycle) pins ≡ at_sample reset (cycle + step)
  unfolding begun seen
  next cycle =
      ap (λ x. begun_as (case_of x pins) cart x) (again (is_reset state pins) state pins cycle refl)
      ∙ waited_on (at_sample reset cycle) (reset-store (is_reset state pins) state pins.resets)

  pub all-rest : (n : ℕ) → begun_after (suc n) cart state pins ≡ at_sample reset (state.start + step * suc n)
  unfolding begun_after
  all-rest zero = first
  all-rest (suc n) = ap (λ x. begun cart x pins) (all-rest n) ∙ next (state.start + step * suc n) ∙ ap (at_sample reset) (omega arith)

  pub rests : state.stage ≡ Sample → Rests cart state pins
  unfolding begun_after
  rests stage zero = stage
  rests stage (suc n) = ap (λ (x : State80). x.stage) (all-rest n)

  pub first-start : (begun cart state pins).start ≡ state.start + step
  first-start = ap (λ (x : State80). x.start) first

  -- a Z80 that rests went ahead to the first sample that is not below a cycle
  pub rested-ahead : (end : ℕ) (begun' after : State80) → begun' ≡ begun cart state pins → after ≡ waited begun' (step * gaps_to step begun'.start end) → (n : ℕ) → n ≡ gaps_to step begun'.start end → WentAhead (1 + n) end cart pins state after
  rested-ahead end begun' after first-is is n same = subst (λ m. WentAhead m end cart pins state after) (let e = same ∙ ap (λ (x : State80). gaps_to step x.start end) (first-is ∙ first) in omega (arith, e)) (record {
    some = omega arith;
    sample = sample;
    below = below;
    is = is ∙ ap (λ (x : State80). waited x (step * gaps_to step x.start end)) (first-is ∙ first) ∙ ap (at_sample reset) (omega arith) ∙ sym (all-rest count);
  })
    where
      start : ℕ
      start = state.start + step

      count : ℕ
      count = gaps_to step start end

      sample : (k : ℕ) → 1 ≤ k → k < suc count → (begun_after k cart state pins).stage ≡ Sample
      sample zero some most = absurd (omega arith)
      sample (suc k) some most = ap (λ (x : State80). x.stage) (all-rest k)

      low : (k : ℕ) → k < count → state.start + step * suc k < end
      low k h = let most = (div_ceil_times (end - start) step (omega arith)).1 in omega arith

      below : (k : ℕ) → 1 ≤ k → k < suc count → (begun_after k cart state pins).next < end
      below zero some most = absurd (omega arith)
      below (suc k) some most = subst (λ (x : State80). x.next < end) (sym (all-rest k)) (low k (omega arith))

-- one sample alone
pub one-ahead : (cart : List ℕ) (state : State80) (pins : Pins80) (end : ℕ) (after : State80) → after ≡ begun cart state pins → WentAhead 1 end cart pins state after
unfolding begun_after
one-ahead cart state pins end after is = record {
  some = omega arith;
  sample = λ k some most. absurd (omega arith);
  below = λ k some most. absurd (omega arith);
  is = is;
}

-- samples leave a Z80
pub ahead-ok : (cart : List ℕ) (state : State80) (pins : Pins80) (n : ℕ) → IsChip80 (of cart state) → (next_of state).sample ≡ true
    → ((k : ℕ) → 1 ≤ k → k < n → (begun_after k cart state pins).stage ≡ Sample) → IsChip80 (of cart (begun_after n cart state pins))
unfolding begun_after next_of
ahead-ok cart state pins zero ok kind sample = ok
ahead-ok cart state pins (suc zero) ok kind sample = begun-ok (of cart state) pins ok kind
ahead-ok cart state pins (suc (suc n)) ok kind sample =
    begun-ok (of cart (begun_after (suc n) cart state pins)) pins (ahead-ok cart state pins (suc n) ok kind (λ k some most. sample k some (omega arith)))
    (ap is_sample (sample (suc n) (omega arith) (omega arith)))
