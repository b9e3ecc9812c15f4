-- A 68000 that is halted or stopped goes ahead.
use Rattle.std.proofs.Common.{◌≡◌, ℕ, zero, suc, ◌+◌, ◌-◌, ◌*◌, ◌<◌, ◌≤◌, true, List, None, refl, sym, ap, subst, ◌∙◌, arith}
use Rattle.std.proofs.lemmas.Grind.{div_ceil_times}
use Rattle.md_word.specs.Clock.{gaps_to}
use Rattle.m68k_chip.specs.Cases.{case_of, cause_of, is_rest}
use Rattle.m68k_chip.specs.Events.{WentAhead, at_sample, begun, begun_after, begun_with, step}
use Rattle.m68k_chip.specs.Validity.{IsBetween, IsChip68}
use Rattle.m68k_chip.specs.States.{State68, next_of, none_left}
use Rattle.m68k_chip.specs.declared.case.Case.{Case}
use Rattle.m68k_chip.specs.declared.case.Case.TheVariants.{Halted, Trace, Interrupt, Stopped, Instruction}
use Rattle.m68k_chip.proofs.Laws.{of}
use Rattle.m68k_chip.proofs.Resting.{raised}

no-cause : (case : Case) → is_rest case ≡ true → cause_of case ≡ None
no-cause Halted e = refl
no-cause Trace e = cc
no-cause (Interrupt level) e = cc
no-cause Stopped e = refl
no-cause Instruction e = cc

module _ (cart : List ℕ) (state : State68) (level : ℕ) (rest : is_rest (case_of state level) ≡ true) where
  first : begun cart state level ≡ at_sample state (state.start + step)
  unfolding begun
  first = ap (begun_with cart state) (no-cause (case_of state level) rest)

  next : (cycle : ℕ) → begun cart (at_sample state cycle) level ≡ at_sample state (cycle + step)
  unfolding begun case_of
  next cycle = ap (begun_with cart (at_sample state cycle)) (no-cause (case_of state level) rest)

  all-rest : (n : ℕ) → begun_after (suc n) cart state level ≡ at_sample state (state.start + step * suc n)
  unfolding begun_after
  all-rest zero = first
  all-rest (suc n) = ap (λ x. begun cart x level) (all-rest n) ∙ next (state.start + step * suc n) ∙ ap (at_sample state) (omega arith)

  -- it went ahead to the first sample that is not below a cycle
  pub rested-ahead : (end n : ℕ) (after : State68) → n ≡ 1 + gaps_to step (state.start + step) end → after ≡ at_sample state (state.start + step + step * gaps_to step (state.start + step) end) → WentAhead n end cart level state after
  unfolding next_of
  rested-ahead end n after number is = subst (λ m. WentAhead m end cart level state after) (let e : suc count ≡ n = omega (arith, number) in e) (record {
    some = omega arith;
    sample = sample;
    below = below;
    is = is ∙ ap (at_sample state) (omega arith) ∙ sym (all-rest count);
  })
    where
      count : ℕ
      count = gaps_to step (state.start + step) end

      sample : (k : ℕ) → 1 ≤ k → k < suc count → (next_of (begun_after k cart state level)).sample ≡ true
      sample zero some most = absurd (omega arith)
      sample (suc k) some most = ap (λ (x : State68). (next_of x).sample) (all-rest k)

      low : (k : ℕ) → k < count → state.start + step * suc k < end
      low k h = let most = (div_ceil_times (end - (state.start + step)) step (omega arith)).1 in omega arith

      below : (k : ℕ) → 1 ≤ k → k < suc count → (begun_after k cart state level).next < end
      below zero some most = absurd (omega arith)
      below (suc k) some most = subst (λ (x : State68). x.next < end) (sym (all-rest k)) (low k (omega arith))

-- one that waits on is valid
pub rested-valid : (cart : List ℕ) (state : State68) (cycle : ℕ) → IsChip68 (of cart state) → IsBetween state → state.transfer ≡ none_left → state.next ≤ cycle
    → IsChip68 (of cart (at_sample state cycle))
rested-valid cart state cycle ok between none later = record {
  image = ok.image;
  ram = ok.ram;
  status = ok.status;
  transfer = ok.transfer;
  halted = raised state.halted state.next cycle later ok.halted;
  stands = (record { start = refl; cause = between.cause; answers = between.answers }, none);
}
