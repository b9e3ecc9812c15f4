-- A chip that wakes up: its samples are made, and the core is one that enabled events lead to.
use Rattle.std.proofs.Common.{◌≡◌, ℕ, ◌<◌, ◌≤◌, true, false, refl, sym, ◌∙◌, ap, ap₂, subst, arith, inl, inr, length}
use Rattle.md_word.specs.Clock.{cycle_limit}
use Rattle.md_word.specs.declared.key.Key.{Key}
use Rattle.md_word.specs.Keys.{key_lt}
use Rattle.chip_core.specs.Chips.{ArePins, Lawful, Rests, Rules, RunsTo, SamplesBelow, SamplesTo, sampled}
use Rattle.chip_core.specs.Cores.{CoreValue, IsCore, chip_in, seen}
use Rattle.chip_core.specs.Events.{AreKeys, IsTidy, Reaches, Seen}
use Rattle.chip_core.specs.Limits.{all_moves_left}
use Rattle.chip_core.specs.Machines.{is_sample, key_of, put}
use Rattle.chip_core.specs.Resting.{CatchesUp, Sleeps, with_chip}
use Rattle.chip_core.proofs.Going.{samples-risen}
use Rattle.chip_core.proofs.Keeps.{key-itself}
use Rattle.chip_core.proofs.Keys.{put-each, put-other, put-same, same_or}
use Rattle.chip_core.proofs.Lists.{core-tidy, tidy-core}
use Rattle.chip_core.proofs.Turns.{put-back}
use Rattle.chip_core.proofs.Fewer.{reached-less}
use Rattle.chip_core.proofs.Asleep.{rests-now}

module _ {Chip Shared Pins : Type 0} (rules : Rules Chip Shared Pins) (chip_ok : Chip → Type 0) (shared_ok : Shared → Type 0) (law : Lawful rules chip_ok shared_ok) where
  -- the sleeper's samples, as a core
  pub tidy-with : (s : Seen Chip Shared) → IsTidy rules chip_ok shared_ok s → (i : ℕ) → i < rules.count → (c : Chip) → chip_ok c → (rules.next c).key.chip ≡ i → IsTidy rules chip_ok shared_ok (with_chip rules s i c)
  tidy-with s tidy i h c ok number = record {
    valid = record {
      shared = tidy.valid.shared;
      chip = λ k q. put-each (λ n x. chip_ok x) s.machine.chip i c k (λ _. ok) (λ _. tidy.valid.chip k q);
      number = λ k q. put-each (λ n x. (rules.next x).key.chip ≡ n) s.machine.chip i c k (λ _. number) (λ _. tidy.valid.number k q);
    };
    bound_number = λ k q. put-each (λ n b. b.chip ≡ n) s.bound i (rules.next c).key k (λ _. number) (λ _. tidy.bound_number k q);
    under = λ k q. elim (same_or k i) [
      | inl e ↦ subst (λ n. key_lt (rules.next (put s.machine.chip i c n)).key (put s.bound i (rules.next c).key n) ≡ false) (sym e)
          (ap₂ (λ (x : Chip) (b : Key). key_lt (rules.next x).key b) (put-same s.machine.chip i c) (put-same s.bound i (rules.next c).key) ∙ key-itself rules chip_ok shared_ok law (rules.next c).key)
      | inr ne ↦ ap₂ (λ (x : Chip) (b : Key). key_lt (rules.next x).key b) (put-other s.machine.chip i c k ne) (put-other s.bound i (rules.next c).key k ne) ∙ tidy.under k q
    ];
  }

  pub core-with : (v w : CoreValue Chip Shared) → IsCore rules chip_ok shared_ok v → (i : ℕ) → i < rules.count → (end : Key) → key_lt (record { cycle = cycle_limit; chip = 0 }) end ≡ false
      → (pins : Pins) → ArePins rules shared_ok pins i → (n : ℕ) (c : Chip) → SamplesTo rules n end pins (chip_in rules v.chips i) c → length w.chips ≡ rules.count → length w.bounds ≡ rules.count
      → seen rules w ≡ with_chip rules (seen rules v) i c → IsCore rules chip_ok shared_ok w
  core-with v w core i h end small pins are n c to cs bs is =
      let risen = samples-risen rules chip_ok shared_ok law pins i are h end small n (chip_in rules v.chips i) c (core.chip i h) (core.shape.number i h) to in
      core-tidy rules chip_ok shared_ok w cs bs
      (subst (λ (s : Seen Chip Shared). IsTidy rules chip_ok shared_ok s) (sym is) (tidy-with (seen rules v) (tidy-core rules chip_ok shared_ok v core) i h c risen.ok risen.number))

  -- the core of a chip whose bound is its key, with that chip
  pub catches-none : (s : Seen Chip Shared) → AreKeys rules s rules.count → (i : ℕ) → i < rules.count → (end : Key) (pins : Pins) → (SamplesBelow rules end (s.machine.chip i) → ⊥) → CatchesUp rules end i pins s s
  unfolding sampled
  catches-none s keys i h end pins ended = record {
    samples = 0;
    are = record { each = λ k q. absurd (omega arith); ended = ended };
    is = sym (ap₂ (λ (f : ℕ → Chip) (b : ℕ → Key). record { machine = record { shared = s.machine.shared; chip = f }; bound = b; journal = s.journal })
        (put-back s.machine.chip i (s.machine.chip i) refl) (put-back s.bound i (key_of rules s.machine i) (keys i h)));
  }

  pub catches-some : (s z : Seen Chip Shared) (i : ℕ) (end : Key) (pins : Pins) (n : ℕ) (c : Chip) → RunsTo rules n end pins (s.machine.chip i) c → z ≡ with_chip rules s i c → CatchesUp rules end i pins s z
  catches-some s z i end pins n c to is = record {
    samples = n;
    are = record { each = to.led.each; ended = λ b. to.ended (subst (λ x. SamplesBelow rules end x) (sym to.led.is) b) };
    is = is ∙ ap (λ x. with_chip rules s i x) to.led.is;
  }

  -- the sleeper woke up: its samples are made
  module _ (t : ℕ) (small : t ≤ cycle_limit) (s m z : Seen Chip Shared) (tidy : IsTidy rules chip_ok shared_ok s) (i : ℕ) (h : i < rules.count) (pins : Pins) (end : Key) (keys : AreKeys rules s rules.count)
      (rests : Rests rules pins (s.machine.chip i)) (after_own : key_lt (key_of rules s.machine i) end ≡ true) (sleeps : Sleeps rules t end i pins s m) (keys-m : AreKeys rules m rules.count) (up : CatchesUp rules end i pins m z) where
    pub woken-led : Reaches rules t s z
    woken-led = subst (λ (x : Seen Chip Shared). Reaches rules t s x) (sym up.is) (sleeps.led up.samples up.are)

    pub woken-keys : AreKeys rules z rules.count
    woken-keys = subst (λ (x : Seen Chip Shared). AreKeys rules x rules.count) (sym up.is)
        (λ k q. elim (same_or k i) [
          | inl e ↦ subst (λ n. put m.bound i (rules.next c).key n ≡ (rules.next (put m.machine.chip i c n)).key) (sym e)
              (put-same m.bound i (rules.next c).key ∙ ap (λ (x : Chip). (rules.next x).key) (sym (put-same m.machine.chip i c)))
          | inr ne ↦ put-other m.bound i (rules.next c).key k ne ∙ keys-m k q ∙ ap (λ (x : Chip). (rules.next x).key) (sym (put-other m.machine.chip i c k ne))
        ])
      where
        c : Chip
        c = sampled rules up.samples pins (m.machine.chip i)

    other-core : z ≡ s → ⊥
    other-core same =
        up.are.ended
        (subst (λ x. SamplesBelow rules end x)
        (sym (ap (λ (x : Seen Chip Shared). x.machine.chip i) same) ∙ ap (λ (x : Seen Chip Shared). x.machine.chip i) up.is ∙ put-same m.machine.chip i (sampled rules up.samples pins (m.machine.chip i)))
        (first-sample, after_own))
      where
        first-sample : is_sample rules s.machine i ≡ true
        first-sample = rests-now rules pins (s.machine.chip i) rests

    pub woken-less : all_moves_left rules t z.machine < all_moves_left rules t s.machine
    woken-less = reached-less rules chip_ok shared_ok law t small s z tidy keys woken-keys woken-led other-core
