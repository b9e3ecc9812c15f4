-- Within one cycle the 68000 moves at most once, and first.
use Rattle.std.proofs.Common.{◌≡◌, ◌≢◌, ℕ, zero, suc, ◌+◌, ◌-◌, ◌<◌, ◌≤◌, ◌==◌, ◌&&◌, ◌||◌, ◌⊎◌, inl, inr, lit<, Bool, false, cond, nat_lt, ◌++◌, Option, None, refl, sym, ap, subst, ◌∙◌, append-nil, arith, option_to_list}
use Rattle.std.proofs.lemmas.Bool.Decides.{nat_tests}
use Rattle.std.proofs.lemmas.Bool.{ne_eqb}
use Rattle.md_word.specs.Clock as clock
use Rattle.md_word.specs.Clock.{last_cycle}
use Rattle.md_word.specs.Keys.{key_lt}
use Rattle.md_word.specs.declared.key.Key.{Key}
use Rattle.md_chips.specs.Movers.{mover-lt}
use Rattle.m68k_chip.specs.Cases.{begins_at, case_of}
use Rattle.m68k_chip.specs.States.{next_of}
use Rattle.z80_chip.specs.States.{next_of as sub_next_of}
use Rattle.bus_shared.specs.Accesses.{level_of}
use Rattle.md_chips.specs.Console.{AllBelow, Console, begins_in, key_in, moved, mover, ran}
use Rattle.md_chips.specs.Rules.{gap}
use Rattle.md_chips.specs.ValidParts.{HasValidParts}
use Rattle.md_chips.proofs.Joined.{ran-add}
use Rattle.md_chips.proofs.Moves.{five-each}
use Rattle.machine_laws.specs.Paces.{ArePaced, IsPaced}
use Rattle.md_debug.specs.Going.{begun_by, least_of}

-- what is known of the runs of the five chips
pub record Known : Type 0 where
  pub valid : (m : Console) (end n : ℕ) → end ≤ clock.cycle_limit → HasValidParts m → AllBelow m end n → HasValidParts (ran m n)
  pub rise : (m : Console) (end n i : ℕ) → end ≤ clock.cycle_limit → HasValidParts m → AllBelow m end n → i < 5 → (key_in m i).cycle ≤ (key_in (ran m n) i).cycle
  pub paced : (m : Console) (end n : ℕ) → end ≤ clock.cycle_limit → HasValidParts m → AllBelow m end n → ArePaced m n

later_than : (a b : Key) → key_lt a b ≡ false → a.chip < b.chip → b.cycle < a.cycle
later_than a b late before = by a.cycle b.cycle a.chip b.chip late before where
  by : (x y c d : ℕ) → (nat_lt x y || (x == y && nat_lt c d)) ≡ false → c < d → y < x
  by x y c d late before = grind (arith, nat_tests)

chip_of : (m : Console) (i : ℕ) → i < 5 → (key_in m i).chip ≡ i
unfolding key_in next_of sub_next_of
chip_of m = five-each (λ i. (key_in m i).chip ≡ i) refl refl refl refl refl

ran_one : (m : Console) → ran m 1 ≡ moved m (mover m)
unfolding ran
ran_one m = refl

ran_none : (m : Console) → ran m 0 ≡ m
unfolding ran
ran_none m = refl

zero_or : (n : ℕ) → (n ≡ 0) ⊎ (0 < n)
zero_or zero = inl refl
zero_or (suc n) = inr (omega arith)

-- after the first move the next event of the 68000 comes later than the least cycle was
first_done : Known → (m : Console) (end n : ℕ) → end ≤ clock.cycle_limit → HasValidParts m → AllBelow m end n → 1 ≤ n → least_of m < (key_in (ran m 1) 0).cycle
first_done known m end n small has below some =
    let own : AllBelow m end 1 = λ k within. below k (omega arith) in
    let paced : IsPaced m (mover m) = subst (λ (z : Console). IsPaced z (mover z)) (ran_none m) (known.paced m end n small has below 0 (omega arith)) in
    by (zero_or (mover m)) own paced where
      by : (mover m ≡ 0) ⊎ (0 < mover m) → AllBelow m end 1 → IsPaced m (mover m) → least_of m < (key_in (ran m 1) 0).cycle
      by (inl is) own paced =
          let gap_is : gap (mover m) ≡ clock.main_gap = ap gap is in
          let later = paced.later in
          let here : (key_in (moved m (mover m)) (mover m)).cycle ≡ (key_in (ran m 1) 0).cycle =
          (λ i. (key_in (sym (ran_one m) i) (is i)).cycle) in
          omega (arith, later, gap_is, here)
      by (inr other) own paced =
          let chips : (key_in m 0).chip < (key_in m (mover m)).chip = omega (arith, chip_of m 0 (lit< tt), chip_of m (mover m) (mover-lt m)) in
          let late = later_than (key_in m 0) (key_in m (mover m)) (paced.least 0 (lit< tt)) chips in
          let rise = known.rise m end 1 0 small has own (lit< tt) in
          omega (arith, late, rise)

-- so no later move of the cycle is one of the 68000
not_again : Known → (m : Console) (n : ℕ) → least_of m < last_cycle → HasValidParts m → AllBelow m (least_of m + 1) n → (k : ℕ) → 1 ≤ k → k < n → mover (ran m k) ≢ 0
not_again known m n far has below k later within is =
    let end : ℕ = least_of m + 1 in
    let small : least_of m + 1 ≤ clock.cycle_limit = omega arith in
    let first : least_of m < (key_in (ran m 1) 0).cycle = first_done known m (least_of m + 1) n small has below (omega arith) in
    let one : AllBelow m (least_of m + 1) 1 = λ j earlier. below j (omega arith) in
    let on : 1 + (k - 1) ≡ k = omega arith in
    let rest : AllBelow (ran m 1) (least_of m + 1) (k - 1) = λ j earlier.
    subst (λ (z : Console). (key_in z (mover z)).cycle < least_of m + 1) (ran-add m 1 j) (below (1 + j) (omega arith)) in
    let rise : (key_in (ran m 1) 0).cycle ≤ (key_in (ran (ran m 1) (k - 1)) 0).cycle =
    known.rise (ran m 1) (least_of m + 1) (k - 1) 0 small (known.valid m (least_of m + 1) 1 small has one) rest (lit< tt) in
    let here : ran (ran m 1) (k - 1) ≡ ran m k = sym (ran-add m 1 (k - 1)) ∙ ap (ran m) on in
    let same : (key_in (ran (ran m 1) (k - 1)) 0).cycle ≡ (key_in (ran m k) (mover (ran m k))).cycle =
    (λ i. (key_in (here i) (sym is i)).cycle) in
    let stands = below k within in
    omega (arith, first, rise, same, stands)

-- another chip begins no instruction
begins_none : (z : Console) → mover z ≢ 0 → begins_in z ≡ None
begins_none z other =
    ap (λ (b : Bool). cond (b && (next_of z.main).sample) (begins_at (case_of z.main (level_of z.shared)) z.main.regs.pc) None) (ne_eqb (mover z) 0 other)

first_alone : (m : Console) (n : ℕ) → 1 ≤ n → ((k : ℕ) → 1 ≤ k → k < n → begins_in (ran m k) ≡ None) → begun_by m n ≡ option_to_list (begins_in m)
unfolding begun_by ran
first_alone m zero some none = absurd (omega arith)
first_alone m (suc zero) some none = refl
first_alone m (suc (suc n)) some none =
    ap (λ (o : Option ℕ). begun_by m (suc n) ++ option_to_list o) (none (suc n) (omega arith) (omega arith))
    ∙ append-nil (begun_by m (suc n))
    ∙ first_alone m (suc n) (omega arith) (λ k later within. none k later (omega arith))

pub one-has-begun : Known → (m : Console) (n : ℕ) → HasValidParts m → least_of m < last_cycle → AllBelow m (least_of m + 1) n → 1 ≤ n → begun_by m n ≡ option_to_list (begins_in m)
one-has-begun known m n has far below some =
    first_alone m n some (λ k later within. begins_none (ran m k) (not_again known m n far has below k later within))
