-- One move of a machine: what it changes, what it leaves, and who makes it.
use Rattle.std.proofs.Common.{◌≡◌, ◌≢◌, ℕ, zero, suc, ◌+◌, ◌<◌, ◌≤◌, Bool, true, false, cond, ◌==◌, sym, ◌∙◌, ap, subst, arith, ◌⊎◌, inl, inr, [], ◌∷◌}
use Rattle.std.proofs.lemmas.Bool.Decides.{nat_tests}
use Rattle.md_word.specs.Clock.{cycle_limit}
use Rattle.md_word.specs.declared.key.Key.{Key}
use Rattle.chip_core.specs.Chips.{Rules, Follows, IsDue, Lawful}
use Rattle.chip_core.specs.Machines.{Machine, least_below, of_chip, key_of, is_sample, accessed, move, entries, mover, IsValid}
use Rattle.chip_core.proofs.Keys.{rank, by_test, same_or, least-in, least-is}
pub use Rattle.chip_core.specs.Equations.{move-sample, move-access, entries-sample, entries-access, chip-sample, chip-access, shared-sample, shared-access, chip-other}

module _ {Chip Shared Pins : Type 0} (rules : Rules Chip Shared Pins) where
  -- a claim on each chip holds after a move
  pub chip-each : (P : ℕ → Chip → Type 0) (m : Machine Chip Shared) (i k : ℕ) → P i ((move rules m i).chip i) → (k ≢ i → P k (m.chip k)) → P k ((move rules m i).chip k)
  chip-each P m i k here there = go (same_or k i)
    where
      go : (k ≡ i) ⊎ (k ≢ i) → P k ((move rules m i).chip k)
      go (inl e) = subst (λ n. P n ((move rules m i).chip n)) (sym e) here
      go (inr ne) = subst (λ c. P k c) (sym (chip-other rules m i k ne)) (there ne)

module _ {Chip Shared Pins : Type 0} (rules : Rules Chip Shared Pins) (chip_ok : Chip → Type 0) (shared_ok : Shared → Type 0) (law : Lawful rules chip_ok shared_ok) where
  -- the premises of the laws, at a chip of a valid machine
  pub due : (m : Machine Chip Shared) (valid : IsValid rules chip_ok shared_ok m) (i : ℕ) → i < rules.count → (key_of rules m i).cycle < cycle_limit
      → (b : Bool) → is_sample rules m i ≡ b → IsDue rules chip_ok shared_ok (m.chip i) m.shared i b
  due m valid i h below b e = record { chip = valid.chip i h; shared = valid.shared; number = valid.number i h; kind = e; cycle = below }

  -- a move leads to a next event of the same chip, at least a gap later
  pub follows : (m : Machine Chip Shared) → IsValid rules chip_ok shared_ok m → (i : ℕ) → i < rules.count → (key_of rules m i).cycle < cycle_limit
      → Follows rules.gap (key_of rules m i) (key_of rules (move rules m i) i)
  follows m valid i h below =
      by_test (is_sample rules m i)
      (λ e. subst (λ (c : Chip). Follows rules.gap (key_of rules m i) (rules.next c).key) (sym (chip-sample rules m i e)) (law.sample_next (m.chip i) m.shared i (due m valid i h below true e)))
      (λ e. subst (λ (c : Chip). Follows rules.gap (key_of rules m i) (rules.next c).key) (sym (chip-access rules m i e)) (law.access_next (m.chip i) m.shared i (due m valid i h below false e)))

  -- the same with the chip's number
  pub key-rises : (m : Machine Chip Shared) → IsValid rules chip_ok shared_ok m → (i : ℕ) → i < rules.count → (key_of rules m i).cycle < cycle_limit
      → (key_of rules m i).cycle + rules.gap i ≤ (key_of rules (move rules m i) i).cycle
  key-rises m valid i h below =
      let f = follows m valid i h below in
      let e = ap rules.gap (valid.number i h) in
      let l = f.later in
      omega arith

  pub moved_chip_ok : (m : Machine Chip Shared) → IsValid rules chip_ok shared_ok m → (i : ℕ) → i < rules.count → (key_of rules m i).cycle < cycle_limit → chip_ok ((move rules m i).chip i)
  moved_chip_ok m valid i h below =
      by_test (is_sample rules m i)
      (λ e. subst chip_ok (sym (chip-sample rules m i e)) (law.sample_chip (m.chip i) m.shared i (due m valid i h below true e)))
      (λ e. subst chip_ok (sym (chip-access rules m i e)) (law.access_chip (m.chip i) m.shared i (due m valid i h below false e)))

  pub moved_shared_ok : (m : Machine Chip Shared) → IsValid rules chip_ok shared_ok m → (i : ℕ) → i < rules.count → (key_of rules m i).cycle < cycle_limit → shared_ok (move rules m i).shared
  moved_shared_ok m valid i h below =
      by_test (is_sample rules m i)
      (λ e. subst shared_ok (sym (shared-sample rules m i e)) valid.shared)
      (λ e. subst shared_ok (sym (shared-access rules m i e)) (law.access_shared (m.chip i) m.shared i (due m valid i h below false e)))

  -- a valid machine stays valid
  pub valid-move : (m : Machine Chip Shared) → IsValid rules chip_ok shared_ok m → (i : ℕ) → i < rules.count → (key_of rules m i).cycle < cycle_limit
      → IsValid rules chip_ok shared_ok (move rules m i)
  valid-move m valid i h below = record {
    shared = moved_shared_ok m valid i h below;
    chip = λ k q. chip-each rules (λ n c. chip_ok c) m i k (moved_chip_ok m valid i h below) (λ ne. valid.chip k q);
    number = λ k q. chip-each rules (λ n c. (rules.next c).key.chip ≡ n) m i k ((follows m valid i h below).number ∙ valid.number i h) (λ ne. valid.number k q);
  }

  -- keys of chips of the count have small numbers
  pub number-small : (m : Machine Chip Shared) → IsValid rules chip_ok shared_ok m → (i : ℕ) → i < rules.count → (key_of rules m i).chip < 8
  number-small m valid i h = let e = valid.number i h in let f = law.few in omega arith

  -- the entries of an access are its chip's alone, and one
  pub entry-key : (m : Machine Chip Shared) → IsValid rules chip_ok shared_ok m → (i : ℕ) → i < rules.count → (key_of rules m i).cycle < cycle_limit → is_sample rules m i ≡ false
      → (accessed rules m i).entry.key ≡ key_of rules m i
  entry-key m valid i h below e = law.entry (m.chip i) m.shared i (due m valid i h below false e)

  pub entries-own : (m : Machine Chip Shared) → IsValid rules chip_ok shared_ok m → (i : ℕ) → i < rules.count → (key_of rules m i).cycle < cycle_limit → is_sample rules m i ≡ false
      → of_chip i (entries rules m i) ≡ (accessed rules m i).entry ∷ []
  entries-own m valid i h below e =
      let number : (accessed rules m i).entry.key.chip ≡ i = ap (λ (k : Key). k.chip) (entry-key m valid i h below e) ∙ valid.number i h in
      let test : ((accessed rules m i).entry.key.chip == i) ≡ true = grind (arith, nat_tests) in
      ap (of_chip i) (entries-access rules m i e) ∙ ap (λ b. cond b ((accessed rules m i).entry ∷ []) []) test

  pub entries-other : (m : Machine Chip Shared) → IsValid rules chip_ok shared_ok m → (i k : ℕ) → i < rules.count → (key_of rules m i).cycle < cycle_limit → k ≢ i
      → of_chip k (entries rules m i) ≡ []
  entries-other m valid i k h below ne =
      by_test (is_sample rules m i)
      (λ e. ap (of_chip k) (entries-sample rules m i e))
      (λ e.
      let number : (accessed rules m i).entry.key.chip ≡ i = ap (λ (w : Key). w.chip) (entry-key m valid i h below e) ∙ valid.number i h in
      let test : ((accessed rules m i).entry.key.chip == k) ≡ false = grind (arith, nat_tests) in
      ap (of_chip k) (entries-access rules m i e) ∙ ap (λ b. cond b ((accessed rules m i).entry ∷ []) []) test)

  -- the chip of least key

  pub mover-in : (m : Machine Chip Shared) → mover rules m < rules.count
  unfolding mover
  mover-in m = go rules.count law.some
    where
      go : (n : ℕ) → 1 ≤ n → least_below (key_of rules m) n < n
      go zero h = omega arith
      go (suc n) h = least-in (key_of rules m) n

  pub mover-least : (m : Machine Chip Shared) → IsValid rules chip_ok shared_ok m → (i : ℕ) → i < rules.count → rank (key_of rules m (mover rules m)) ≤ rank (key_of rules m i)
  unfolding mover
  mover-least m valid i h = go rules.count (λ k q. number-small m valid k q) h
    where
      go : (n : ℕ) → ((k : ℕ) → k < n → (key_of rules m k).chip < 8) → i < n → rank (key_of rules m (least_below (key_of rules m) n)) ≤ rank (key_of rules m i)
      go zero small q = omega arith
      go (suc n) small q = least-is (key_of rules m) n small i q

  -- the keys of two chips are never equal
  pub rank-apart : (m : Machine Chip Shared) → IsValid rules chip_ok shared_ok m → (i k : ℕ) → i < rules.count → k < rules.count → i ≢ k → rank (key_of rules m i) ≢ rank (key_of rules m k)
  rank-apart m valid i k h q ne =
      let a = valid.number i h in
      let b = valid.number k q in
      let f = law.few in
      omega arith
