-- All overflows below a cycle at once.
use Rattle.std.proofs.Common.{◌≡◌, ◌∙◌, refl, sym, ap, ℕ, zero, suc, ◌+◌, ◌-◌, ◌/◌, ◌%◌, ◌<◌, ◌≤◌, Bool, true, false, ◌||◌, ◌==◌, nat_lt, inl, inr, ◌⊎◌, arith, mod-eq_of_lt}
use Rattle.std.proofs.lemmas.Bool.{cases_lt, lt-ltb, le-ltb, cases_Bool}
use Rattle.fm_port.specs.declared.timer.Timer.{Timer}
use Rattle.fm_port.specs.declared.timers.Timers.{Timers}
use Rattle.fm_port.specs.Timers.{overflowed, settled_by, settled, is_due, last_overflow, both_settled, period_a, period_b}

-- no overflow
none_by : (n cycle period : ℕ) (enabled : Bool) (t : Timer) → is_due cycle t ≡ false → settled_by n cycle period enabled t ≡ t
unfolding settled_by
none_by zero cycle period enabled t h = refl
none_by (suc n) cycle period enabled t h = rw h refl

pub settled_none : (cycle period : ℕ) (enabled : Bool) (t : Timer) → is_due cycle t ≡ false → t ≡ settled cycle period enabled t
unfolding settled
settled_none cycle period enabled t h = sym (none_by cycle cycle period enabled t h)

-- the remainder is the same a period later
rem-more : (x period : ℕ) → 0 < period → (x + period) % period ≡ x % period
rem-more x period h = grind arith

pub either_twice : (a b : Bool) → ((a || b) || b) ≡ (a || b)
either_twice true b = refl
either_twice false true = refl
either_twice false false = refl

-- some overflows
due_by : (n cycle period : ℕ) (enabled flag : Bool) (next : ℕ) → 0 < period → next < cycle → cycle ≤ next + n
    → settled_by n cycle period enabled (record { run = true; next = next; flag = flag })
    ≡ record { run = true; next = last_overflow next cycle period + period; flag = flag || enabled }
unfolding settled_by last_overflow
due_by zero cycle period enabled flag next p h f = absurd (omega (arith, h, f))
due_by (suc n) cycle period enabled flag next p h f =
    let yes : nat_lt next cycle ≡ true = lt-ltb next cycle h in
    rw yes (elim (cases_lt (next + period) cycle) [
      | inl more ↦ (let same : cycle - 1 - (next + period) + period ≡ cycle - 1 - next = omega (arith, more) in
          let rest : (cycle - 1 - (next + period)) % period ≡ (cycle - 1 - next) % period = sym (rem-more (cycle - 1 - (next + period)) period p) ∙ ap (λ x. x % period) same in
          due_by n cycle period enabled (flag || enabled) (next + period) p more (omega (arith, f, p))
          ∙ (λ i. record { run = true; next = cycle - 1 - rest i + period; flag = either_twice flag enabled i }))
      | inr last ↦ (let no : nat_lt (next + period) cycle ≡ false = le-ltb (next + period) cycle last in
          let whole : (cycle - 1 - next) % period ≡ cycle - 1 - next = mod-eq_of_lt (omega (arith, last, h)) in
          let number : next + period ≡ cycle - 1 - (cycle - 1 - next) % period + period = omega (arith, whole, h) in
          none_by n cycle period enabled (record { run = true; next = next + period; flag = flag || enabled }) no
          ∙ (λ i. record { run = true; next = number i; flag = flag || enabled }))
    ])

pub settled_due : (cycle period : ℕ) (enabled : Bool) (t : Timer) (next : ℕ) → 0 < period → is_due cycle t ≡ true
    → next ≡ last_overflow t.next cycle period + period
    → record { run = t.run; next = next; flag = t.flag || enabled } ≡ settled cycle period enabled t
unfolding settled
settled_due cycle period enabled t next p h e =
    let run : t.run ≡ true = grind (arith, h) in
    let below : t.next < cycle = grind (arith, h) in
    (λ i. record { run = run i; next = e i; flag = t.flag || enabled })
    ∙ sym (ap (λ b. settled_by cycle cycle period enabled (record { run = b; next = t.next; flag = t.flag })) run
    ∙ due_by cycle cycle period enabled t.flag t.next p below (omega arith))

-- one overflow more or less changes nothing
step : (cycle period : ℕ) (enabled flag : Bool) (next : ℕ) → 0 < period → next < cycle
    → settled cycle period enabled (record { run = true; next = next + period; flag = flag || enabled })
    ≡ record { run = true; next = last_overflow next cycle period + period; flag = flag || enabled }
unfolding settled last_overflow
step cycle period enabled flag next p h = elim (cases_lt (next + period) cycle) [
  | inl more ↦ (let same : cycle - 1 - (next + period) + period ≡ cycle - 1 - next = omega (arith, more) in
      let rest : (cycle - 1 - (next + period)) % period ≡ (cycle - 1 - next) % period =
      sym (rem-more (cycle - 1 - (next + period)) period p) ∙ ap (λ x. x % period) same in
      due_by cycle cycle period enabled (flag || enabled) (next + period) p more (omega arith)
      ∙ (λ i. record { run = true; next = cycle - 1 - rest i + period; flag = either_twice flag enabled i }))
  | inr last ↦ (let no : nat_lt (next + period) cycle ≡ false = le-ltb (next + period) cycle last in
      let whole : (cycle - 1 - next) % period ≡ cycle - 1 - next = mod-eq_of_lt (omega (arith, last, h)) in
      let number : next + period ≡ cycle - 1 - (cycle - 1 - next) % period + period = omega (arith, whole, h) in
      none_by cycle cycle period enabled (record { run = true; next = next + period; flag = flag || enabled }) no
      ∙ (λ i. record { run = true; next = number i; flag = flag || enabled }))
]

step_any : (cycle period : ℕ) (enabled : Bool) (t : Timer) → 0 < period → is_due cycle t ≡ true
    → settled cycle period enabled (overflowed period enabled t) ≡ settled cycle period enabled t
step_any cycle period enabled t p h =
    let run : t.run ≡ true = grind (arith, h) in
    let below : t.next < cycle = grind (arith, h) in
    (λ i. settled cycle period enabled (record { run = run i; next = t.next + period; flag = t.flag || enabled }))
    ∙ step cycle period enabled t.flag t.next p below
    ∙ (λ i. record { run = sym run i; next = last_overflow t.next cycle period + period; flag = t.flag || enabled })
    ∙ settled_due cycle period enabled t (last_overflow t.next cycle period + period) p h refl

pub due_later : (a b : ℕ) (t : Timer) → a ≤ b → is_due a t ≡ true → is_due b t ≡ true
due_later a b t h d = grind (arith, h, d)

due_or_not : (a : ℕ) (t : Timer) → (is_due a t ≡ true) ⊎ (is_due a t ≡ false)
due_or_not a t = cases_Bool (is_due a t)

-- settling at two cycles is settling at the later
twice_by : (n a b period : ℕ) (enabled : Bool) → 0 < period → a ≤ b → (t : Timer)
    → settled b period enabled (settled_by n a period enabled t) ≡ settled b period enabled t
unfolding settled_by
twice_by zero a b period enabled p h t = refl
twice_by (suc n) a b period enabled p h t = elim (due_or_not a t) [
  | inl d ↦ (rw d (twice_by n a b period enabled p h (overflowed period enabled t) ∙ step_any b period enabled t p (due_later a b t h d)))
  | inr d ↦ (rw d refl)
]

twice_is : (a b period : ℕ) (enabled : Bool) → 0 < period → a ≤ b → (t : Timer)
    → settled b period enabled (settled a period enabled t) ≡ settled b period enabled t
unfolding settled
twice_is a b period enabled p h t = twice_by a a b period enabled p h t

pub settled_twice : (a b period : ℕ) (enabled : Bool) (t u : Timer) → 0 < period → u ≡ settled a period enabled t → a ≤ b
    → settled b period enabled u ≡ settled b period enabled t
settled_twice a b period enabled t u p e h = ap (settled b period enabled) e ∙ twice_is a b period enabled p h t

pub both_settled_twice : (a b : ℕ) (t u : Timers) → 0 < period_a t → 0 < period_b t → u ≡ both_settled a t → a ≤ b
    → both_settled b u ≡ both_settled b t
unfolding both_settled period_a period_b
both_settled_twice a b t u p q e h =
    ap (both_settled b) e
    ∙ (λ i. record {
      high_a = t.high_a;
      low_a = t.low_a;
      number_b = t.number_b;
      control = t.control;
      a = twice_is a b (period_a t) (t.control / 4 % 2 == 1) p h t.a i;
      b = twice_is a b (period_b t) (t.control / 8 % 2 == 1) q h t.b i;
    })
