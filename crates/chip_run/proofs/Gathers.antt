-- The chips put together again are the machine's.
use Rattle.std.proofs.Common.{◌≡◌, ℕ, ◌+◌, ◌<◌, ◌≤◌, sym, ◌∙◌, ap, subst, arith, List, [], ◌∷◌, ◌++◌, ◌⊎◌, inl, inr, Option, Some, IfSome, length, length-append, slice_index_or}
use Rattle.std.proofs.lemmas.Bool.{cases_lt}
use Rattle.std.proofs.Math.ListN.{get_or-append}
use Rattle.std.proofs.Math.Seq.{get_or-append_seam}
use Rattle.md_word.specs.Keys.{key_lt}
use Rattle.chip_core.specs.Chips.{Rules, Lawful}
use Rattle.chip_core.specs.Cores.{CoreValue, IsShaped, bound_in, chip_in, machine_of, seen}
use Rattle.chip_core.specs.Machines.{IsRunTo, Machine, OnPath}
use Rattle.chip_core.proofs.Ends.{is_run_to}
use Rattle.chip_core.proofs.Lists.{valid-core}
use Rattle.chip_run.specs.Held.{HeldValue, IsHeld, settled}
use Rattle.chip_run.specs.declared.held.Due.{Due}
use Rattle.chip_run.specs.declared.held.Due.TheVariants.{Nothing}
use Rattle.chip_run.specs.Locked.{IsLocked, count_of, seen_at}
use Rattle.chip_run.specs.Parts.{PartsValue}
use Rattle.chip_core.proofs.Runs.{chip-at}
use Rattle.chip_run.specs.Gathering.{Gathered}

module _ {Chip Shared Pins : Type 0} (rules : Rules Chip Shared Pins) where
  pub gathered-none : (m : Machine Chip Shared) (t k : ℕ) (chips : List Chip) → rules.count ≤ k → Gathered rules m t k chips → Gathered rules m t (k + 1) chips
  gathered-none m t k chips past g = record {
    some = λ le. absurd (omega arith);
    all = λ _. g.all past;
    are = λ i low inside. g.are i (omega arith) inside;
    quiet = λ i low inside. g.quiet i (omega arith) inside;
  }

  -- two chips on one path with equal counts are one
  pub on-path-once : (m : Machine Chip Shared) (t i n : ℕ) (c d : Chip) → OnPath rules m t i n c → OnPath rules m t i n d → c ≡ d
  on-path-once m t i n c d p q = p.is ∙ chip-at rules m i q.moves p.moves (p.made ∙ sym q.made) ∙ sym q.is

  pub gathered-some : (m : Machine Chip Shared) (t k : ℕ) (chips now : List Chip) (c : Chip) → k < rules.count → c ≡ m.chip k → t ≤ (rules.next c).key.cycle → now ≡ chips ++ c ∷ [] → Gathered rules m t k chips → Gathered rules m t (k + 1) now
  gathered-some m t k chips now c inside is late e g =
      subst (λ xs. Gathered rules m t (k + 1) xs) (sym e) (record {
        some = λ _. len;
        all = λ past. let l = len in omega arith;
        are = λ i low h. go i h (cases_lt i k) low;
        quiet = λ i low h. still i h (cases_lt i k) low;
      })
    where
      had : length chips ≡ k
      had = g.some (omega arith)

      len : length (chips ++ c ∷ []) ≡ k + 1
      len = let l = length-append chips (c ∷ []) in let h = had in omega arith

      go : (i : ℕ) → i < rules.count → (i < k) ⊎ (k ≤ i) → i < k + 1 → chip_in rules (chips ++ c ∷ []) i ≡ m.chip i
      go i h (inl less) low = get_or-append chips (c ∷ []) rules.blank i (let l = had in omega arith) ∙ g.are i less h
      go i h (inr more) low =
          let same : i ≡ length chips = let l = had in omega arith in
          let this : i ≡ k = omega arith in
          ap (λ n. slice_index_or (chips ++ c ∷ []) n rules.blank) same ∙ get_or-append_seam chips c [] rules.blank ∙ is ∙ ap m.chip (sym this)

      still : (i : ℕ) → i < rules.count → (i < k) ⊎ (k ≤ i) → i < k + 1 → t ≤ (rules.next (m.chip i)).key.cycle
      still i h (inl less) low = g.quiet i less h
      still i h (inr more) low =
          let this : i ≡ k = omega arith in
          subst (λ (x : Chip). t ≤ (rules.next x).key.cycle) (is ∙ ap m.chip (sym this)) late

  -- what one place brings
  pub put-some : (base : CoreValue Chip Shared) (t k total : ℕ) (chips now : List Chip) (h : HeldValue Chip Pins) → OnPath rules (machine_of rules base) t k h.amount h.chip → h.amount ≡ total → t ≤ (rules.next h.chip).key.cycle → k < rules.count → now ≡ chips ++ h.chip ∷ []
      → (m : Machine Chip Shared) → (k < rules.count → OnPath rules (machine_of rules base) t k total (m.chip k)) → Gathered rules m t k chips → Gathered rules m t (k + 1) now
  put-some base t k total chips now h path booked late inside e m at g =
      gathered-some m t k chips now h.chip inside
      (on-path-once (machine_of rules base) t k total h.chip (m.chip k) (subst (λ n. OnPath rules (machine_of rules base) t k n h.chip) booked path) (at inside)) late e g

module _ {Chip Shared Pins : Type 0} (rules : Rules Chip Shared Pins) (chip_ok : Chip → Type 0) (shared_ok : Shared → Type 0) where
  -- the same of a held chip
  pub put-held : (base : CoreValue Chip Shared) (t k total : ℕ) (chips now : List Chip) (b v : HeldValue Chip Pins) → b ≡ v → IsHeld rules chip_ok shared_ok base t b → (o : Option (HeldValue Chip Pins)) → o ≡ Some v
      → IfSome o (λ h. h.number ≡ k) → IfSome o (λ h. h.due ≡ Nothing) → IfSome o (λ h. t ≤ (rules.next h.chip).key.cycle) → IfSome o (λ h. h.amount ≡ total) → now ≡ chips ++ b.chip ∷ []
      → (m : Machine Chip Shared) → (k < rules.count → OnPath rules (machine_of rules base) t k total (m.chip k)) → Gathered rules m t k chips → Gathered rules m t (k + 1) now
  put-held base t k total chips now b v view hd o is number free late booked e m at g =
      let num : b.number ≡ k = ap (λ (h : HeldValue Chip Pins). h.number) view ∙ subst (λ (x : Option (HeldValue Chip Pins)). IfSome x (λ h. h.number ≡ k)) is number in
      let none : b.due ≡ Nothing = ap (λ (h : HeldValue Chip Pins). h.due) view ∙ subst (λ (x : Option (HeldValue Chip Pins)). IfSome x (λ h. h.due ≡ Nothing)) is free in
      let paid : b.amount ≡ total = ap (λ (h : HeldValue Chip Pins). h.amount) view ∙ subst (λ (x : Option (HeldValue Chip Pins)). IfSome x (λ h. h.amount ≡ total)) is booked in
      let past : t ≤ (rules.next v.chip).key.cycle = subst (λ (x : Option (HeldValue Chip Pins)). IfSome x (λ h. t ≤ (rules.next h.chip).key.cycle)) is late in
      put-some rules base t k total chips now b
      (subst (λ n. OnPath rules (machine_of rules base) t n b.amount b.chip) num (subst (λ (d : Due Pins). OnPath rules (machine_of rules base) t b.number b.amount (settled rules d b.chip)) none hd.path))
      paid (subst (λ (h : HeldValue Chip Pins). t ≤ (rules.next h.chip).key.cycle) (sym view) past) (let h = hd.inside in omega (arith, num)) e m at g

module _ {Chip Shared Pins : Type 0} (rules : Rules Chip Shared Pins) (chip_ok : Chip → Type 0) (shared_ok : Shared → Type 0) (law : Lawful rules chip_ok shared_ok) where
  module _ (base : CoreValue Chip Shared) (t : ℕ) (p : PartsValue Shared) (counts : List ℕ) (lk : IsLocked rules chip_ok shared_ok base t p counts) (chips : List Chip) (g : Gathered rules lk.machine t 5 chips) where
    is-chip : (i : ℕ) → i < rules.count → chip_in rules chips i ≡ lk.machine.chip i
    is-chip i h = g.are i (let few = law.few in omega arith) h

    pub gathered-shape : IsShaped rules chips p.bounds
    gathered-shape = record {
      chip_count = g.all law.few;
      bound_count = lk.bound_count;
      number = λ i h. ap (λ (c : Chip). (rules.next c).key.chip) (is-chip i h) ∙ lk.tidy.valid.number i h;
      bound_number = lk.tidy.bound_number;
      under = λ i h. ap (λ (c : Chip). key_lt (rules.next c).key (bound_in p.bounds i)) (is-chip i h) ∙ lk.tidy.under i h;
    }

    ended : IsRunTo rules (machine_of rules base) t lk.machine p.journal
    ended =
        is_run_to rules chip_ok shared_ok law (seen rules base) (valid-core rules chip_ok shared_ok base lk.base_core) t lk.small (seen_at lk.machine p) lk.tidy (count_of counts, lk.stands)
        (λ i h. g.quiet i (let few = law.few in omega arith) h)

    pub gathered-run : (w : CoreValue Chip Shared) → w ≡ record { shared = p.shared; chips = chips; bounds = p.bounds; journal = p.journal; room = p.room } → IsRunTo rules (machine_of rules base) t (machine_of rules w) w.journal
    gathered-run w is =
        subst (λ (v : CoreValue Chip Shared). IsRunTo rules (machine_of rules base) t (machine_of rules v) v.journal) (sym is)
        (record {
          moves = ended.moves;
          below = ended.below;
          quiet = λ i h. subst (λ (c : Chip). t ≤ (rules.next c).key.cycle) (sym (is-chip i h)) (g.quiet i (let few = law.few in omega arith) h);
          shared = sym lk.shared ∙ ended.shared;
          chips = λ i h. is-chip i h ∙ ended.chips i h;
          journal = ended.journal;
        })

  -- an empty list is the start
  pub gathered-first : (m : Machine Chip Shared) (t : ℕ) (chips : List Chip) → chips ≡ [] → Gathered rules m t 0 chips
  gathered-first m t chips e = record {
    some = λ _. ap length e;
    all = λ few. let one = law.some in absurd (omega arith);
    are = λ i low h. absurd (omega arith);
    quiet = λ i low h. absurd (omega arith);
  }

  -- where a chip is still to come, the list has room for it
  pub gathered-room : (m : Machine Chip Shared) (t k room : ℕ) (chips : List Chip) → Gathered rules m t k chips → rules.count ≤ room → k < rules.count → length chips < room
  gathered-room m t k room chips g enough low = let l = g.some (omega arith) in omega arith
