-- Keys only rise, and each event leaves fewer moves, also while a chip sleeps.
use Rattle.std.proofs.Common.{◌≡◌, ◌≢◌, ℕ, zero, suc, ◌+◌, ◌*◌, ◌<◌, ◌≤◌, false, cond, sym, ap, subst, arith, ◌⊎◌, inl, inr, List, [], ◌∷◌}
use Rattle.std.proofs.lemmas.Bool.Decides.{nat_tests}
use Rattle.md_word.specs.Clock.{cycle_limit}
use Rattle.md_word.specs.declared.key.Key.{Key}
use Rattle.md_word.specs.Keys.{key_lt}
use Rattle.chip_core.specs.declared.event.Event.{Event}
use Rattle.chip_core.specs.declared.event.Event.TheVariants.{Announce, Perform, Sample}
use Rattle.chip_core.specs.Chips.{Lawful, Rules}
use Rattle.chip_core.specs.Events.{AreKeys, IsEnabled, IsTidy, Leads, Reaches, Seen, after, past_access}
use Rattle.chip_core.specs.Limits.{all_moves_left, moves_left, total}
use Rattle.chip_core.specs.Machines.{Machine, IsValid, is_sample, key_of, move}
use Rattle.chip_core.proofs.Keeps.{enabled-wider, tidy-after}
use Rattle.chip_core.proofs.Keys.{by_test, same_or, total-suc, total-zero}
use Rattle.chip_core.proofs.Stages.{chip-other, key-rises}
use Rattle.chip_core.proofs.Works.{work, work-leads, work_of}

module _ {Chip Shared Pins : Type 0} (rules : Rules Chip Shared Pins) where
  -- where each bound is its chip's key, the work is told by the moves that are left
  double : (t : ℕ) (s : Seen Chip Shared) (n : ℕ) → n ≤ rules.count → AreKeys rules s rules.count → total n (work_of rules t s.machine s.bound) ≡ 2 * total n (moves_left rules t s.machine)
  double t s zero h keys = let a = total-zero (work_of rules t s.machine s.bound) in let b = total-zero (moves_left rules t s.machine) in omega arith
  double t s (suc n) h keys =
      let rest = double t s n (omega arith) keys in
      let a = total-suc n (work_of rules t s.machine s.bound) in
      let b = total-suc n (moves_left rules t s.machine) in
      let none : key_lt (s.bound n) (key_of rules s.machine n) ≡ false = subst (λ k. key_lt k (key_of rules s.machine n) ≡ false) (sym (keys n (omega arith))) (itself (key_of rules s.machine n)) in
      let last = ap (λ b. 2 * moves_left rules t s.machine n + cond b 1 0) none in
      omega arith
    where
      itself : (k : Key) → key_lt k k ≡ false
      itself k = grind (arith, nat_tests)

  -- less work is fewer moves
  pub fewer-moves : (t : ℕ) (s z : Seen Chip Shared) → AreKeys rules s rules.count → AreKeys rules z rules.count → work rules t z < work rules t s → all_moves_left rules t z.machine < all_moves_left rules t s.machine
  fewer-moves t s z keys keys-z less =
      let a = double t s rules.count (omega arith) keys in
      let b = double t z rules.count (omega arith) keys-z in
      omega arith

  pub work-keys : (t : ℕ) (s : Seen Chip Shared) → AreKeys rules s rules.count → work rules t s ≡ 2 * all_moves_left rules t s.machine
  work-keys t s keys = double t s rules.count (omega arith) keys

module _ {Chip Shared Pins : Type 0} (rules : Rules Chip Shared Pins) (chip_ok : Chip → Type 0) (shared_ok : Shared → Type 0) (law : Lawful rules chip_ok shared_ok) where
  -- keys only rise
  move-later : (m : Machine Chip Shared) → IsValid rules chip_ok shared_ok m → (i : ℕ) → i < rules.count → (key_of rules m i).cycle < cycle_limit → (k : ℕ)
      → (key_of rules m k).cycle ≤ (key_of rules (move rules m i) k).cycle
  move-later m valid i h low k = go (same_or k i)
    where
      go : (k ≡ i) ⊎ (k ≢ i) → (key_of rules m k).cycle ≤ (key_of rules (move rules m i) k).cycle
      go (inl e) = subst (λ n. (key_of rules m n).cycle ≤ (key_of rules (move rules m i) n).cycle) (sym e) (let rise = key-rises rules chip_ok shared_ok law m valid i h low in omega arith)
      go (inr ne) = let same = ap (λ (c : Chip). (rules.next c).key.cycle) (chip-other rules m i k ne) in omega arith

  pub past-later : (s : Seen Chip Shared) → IsTidy rules chip_ok shared_ok s → (i : ℕ) → i < rules.count → (key_of rules s.machine i).cycle < cycle_limit → (k : ℕ)
      → (key_of rules s.machine k).cycle ≤ (key_of rules (past_access rules s i).machine k).cycle
  past-later s tidy i h low k =
      by_test (is_sample rules s.machine i)
      (λ e. subst (λ b. (key_of rules s.machine k).cycle ≤ (key_of rules (cond b s (after rules (after rules s (Perform i)) (Announce i))).machine k).cycle) (sym e) (omega arith))
      (λ e. subst (λ b. (key_of rules s.machine k).cycle ≤ (key_of rules (cond b s (after rules (after rules s (Perform i)) (Announce i))).machine k).cycle) (sym e)
      (move-later s.machine tidy.valid i h low k))

  module _ (t : ℕ) (small : t ≤ cycle_limit) where
    pub leads-later : (s : Seen Chip Shared) → IsTidy rules chip_ok shared_ok s → (es : List Event) (z : Seen Chip Shared) → Leads rules t s es z → (k : ℕ)
        → (key_of rules s.machine k).cycle ≤ (key_of rules z.machine k).cycle
    leads-later s tidy [] z l k = let same = ap (λ (x : Seen Chip Shared). (key_of rules x.machine k).cycle) l in omega arith
    leads-later s tidy (e ∷ es) z l k =
        let rest = leads-later (after rules s e) (tidy-after rules chip_ok shared_ok law s tidy e (enabled-wider rules chip_ok shared_ok law s t cycle_limit small e l.0)) es z l.1 k in
        let first = step e l.0 in
        omega arith
      where
        step : (d : Event) → IsEnabled rules s t d → (key_of rules s.machine k).cycle ≤ (key_of rules (after rules s d).machine k).cycle
        step (Announce i) en = omega arith
        step (Perform i) en = move-later s.machine tidy.valid i en.0 (let low = en.2 in omega arith) k
        step (Sample i) en = move-later s.machine tidy.valid i en.0 (let low = en.2 in omega arith) k

    -- what enabled events lead to, from keys to keys, has no more moves left, and fewer where it is another
    pub reached-le : (s z : Seen Chip Shared) → IsTidy rules chip_ok shared_ok s → AreKeys rules s rules.count → AreKeys rules z rules.count → Reaches rules t s z
        → all_moves_left rules t z.machine ≤ all_moves_left rules t s.machine
    reached-le s z tidy keys keys-z r =
        let few = work-leads rules chip_ok shared_ok law t small s tidy r.0 z r.1 in
        let a = work-keys rules t s keys in
        let b = work-keys rules t z keys-z in
        omega arith

    pub reached-less : (s z : Seen Chip Shared) → IsTidy rules chip_ok shared_ok s → AreKeys rules s rules.count → AreKeys rules z rules.count → Reaches rules t s z → (z ≡ s → ⊥)
        → all_moves_left rules t z.machine < all_moves_left rules t s.machine
    reached-less s z tidy keys keys-z r ne = go r.0 r.1
      where
        go : (es : List Event) → Leads rules t s es z → all_moves_left rules t z.machine < all_moves_left rules t s.machine
        go [] l = absurd (ne l)
        go (e ∷ es) l =
            let few = work-leads rules chip_ok shared_ok law t small s tidy (e ∷ es) z l in
            let a = work-keys rules t s keys in
            let b = work-keys rules t z keys-z in
            omega arith
