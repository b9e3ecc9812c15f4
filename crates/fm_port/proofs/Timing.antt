-- Timers that are right at a cycle are right for a saved state once they are settled.
use Rattle.std.proofs.Common.{◌≡◌, ℕ, ◌+◌, ◌-◌, ◌/◌, ◌%◌, ◌<◌, ◌≤◌, Bool, true, false, eqb, inl, inr, refl, sym, ◌∙◌, subst, arith}
use Rattle.std.specs.Prelude.{◌&&◌, nat_lt}
use Rattle.std.proofs.lemmas.Bool.{and_from, cases_Bool, false≢true, and_parts, ltb-true}
use Rattle.std.proofs.Math.Nat.{mod-le}
use Rattle.std.proofs.lemmas.Nat.{mod_below}
use Rattle.md_word.specs.Coding.{flag_number}
use Rattle.fm_port.specs.PortSpelling.{are_saved_timers, is_saved_timer}
use Rattle.fm_port.specs.Timed.{AreTimed, IsTimed}
use Rattle.fm_port.specs.Timers.{both_settled, is_due, last_overflow, period_a, period_b, settled}
use Rattle.fm_port.specs.declared.timer.Timer.{Timer}
use Rattle.fm_port.specs.declared.timers.Timers.{Timers}
use Rattle.fm_port.proofs.Overflows.{settled_due, settled_none}

timed_of : (run : Bool) (at longest bit next : ℕ) → flag_number run ≡ bit → (run ≡ true → (at ≤ next) × (next < at + longest)) → (run ≡ false → next ≡ 0)
    → is_saved_timer at longest bit (flag_number run) next ≡ true
timed_of true at longest bit next is runs stands = let near = runs refl in grind (arith, is, near.0, near.1)
timed_of false at longest bit next is runs stands = let none = stands refl in grind (arith, is, none)

not_due : (at next : ℕ) → nat_lt next at ≡ false → at ≤ next
not_due at next is = grind (arith, is)

idle_late : (at next : ℕ) (run : Bool) → run ≡ true → (run && nat_lt next at) ≡ false → at ≤ next
idle_late at next true runs idle = not_due at next idle
idle_late at next false runs idle = absurd (false≢true runs)

-- the first overflow from a cycle on is less than a period after it
near_by : (at next period rest : ℕ) → rest < period → next < at → rest ≤ at - 1 - next → (at ≤ at - 1 - rest + period) × (at - 1 - rest + period < at + period)
near_by at next period rest small below part = (omega (arith, small, below, part), omega (arith, small, below, part))

near : (at next period : ℕ) → 0 < period → next < at → (at ≤ last_overflow next at period + period) × (last_overflow next at period + period < at + period)
unfolding last_overflow
near at next period some below = near_by at next period ((at - 1 - next) % period) (mod_below (at - 1 - next) period some) below (mod-le (at - 1 - next) period)

settled_timed : (at longest bit period : ℕ) (enabled : Bool) (t : Timer) → 0 < period → period ≤ longest → IsTimed at longest bit t
    → let u = settled at period enabled t in is_saved_timer at longest bit (flag_number u.run) u.next ≡ true
settled_timed at longest bit period enabled t some most is = elim (cases_Bool (is_due at t)) [
  | inl due ↦ (let parts = and_parts t.run (nat_lt t.next at) due in
      let next : ℕ = last_overflow t.next at period + period in
      let now = near at t.next period some (ltb-true t.next at parts.1) in
      subst (λ (u : Timer). is_saved_timer at longest bit (flag_number u.run) u.next ≡ true) (settled_due at period enabled t next some due refl)
      (timed_of t.run at longest bit next is.run (λ runs. (now.0, omega (arith, now.1, most))) (λ stands. absurd (false≢true (sym stands ∙ parts.0)))))
  | inr idle ↦ subst (λ (u : Timer). is_saved_timer at longest bit (flag_number u.run) u.next ≡ true) (settled_none at period enabled t idle)
      (timed_of t.run at longest bit t.next is.run (λ runs. (idle_late at t.next t.run runs idle, is.runs runs)) is.stands)
]

pub both_timed : (at : ℕ) (t u : Timers) → 0 < period_a t → 0 < period_b t → u ≡ both_settled at t → AreTimed at t → are_saved_timers at u ≡ true
unfolding both_settled period_a period_b
both_timed at t u some_a some_b is timed =
    subst (λ (v : Timers). are_saved_timers at v ≡ true) (sym is)
    (and_from _ _ (settled_timed at 1032192 (t.control % 2) _ (eqb (t.control / 4 % 2) 1) t.a some_a (omega arith) timed.a)
    (settled_timed at 4128768 (t.control / 2 % 2) _ (eqb (t.control / 8 % 2) 1) t.b some_b (omega arith) timed.b))
