-- The chips taken out of their list are the base's, each at the start of its path.
use Rattle.std.proofs.Common.{◌≡◌, ℕ, zero, suc, ◌+◌, ◌<◌, ◌≤◌, refl, sym, ◌∙◌, ap, ap₂, subst, arith, Option, Some, IsSome, List, [], ◌∷◌, ◌++◌, ◌⊎◌, inl, inr, length, length-append, slice_index_or}
use Rattle.std.proofs.lemmas.Bool.{cases_lt}
use mathlib.Core.Path.{fun_ext}
use Rattle.std.proofs.Math.ListN.{get_or-append}
use Rattle.std.proofs.Math.Seq.{get_or-append_seam}
use Rattle.std.proofs.lemmas.List.{nil_from_length}
use Rattle.md_word.specs.Clock.{cycle_limit}
use Rattle.md_word.specs.declared.event.Entry.{Entry}
use Rattle.chip_core.specs.Chips.{Rules, Lawful}
use Rattle.chip_core.specs.Cores.{CoreValue, IsCore, chip_in, machine_of, seen}
use Rattle.chip_core.specs.Limits.{all_moves_left}
use Rattle.chip_core.specs.Machines.{Machine, OnPath}
use Rattle.chip_core.specs.Standing.{StandsFor}
use Rattle.chip_core.proofs.Keeps.{stands_first}
use Rattle.chip_core.proofs.Lists.{valid-core, tidy-core}
use Rattle.chip_core.proofs.Runs.{made-zero, run-zero}
use Rattle.chip_run.specs.Held.{HeldValue, IsHeld}
use Rattle.chip_run.specs.Locked.{IsLocked, count_of}
use Rattle.chip_run.specs.Making.{AreFirst, Remains, first_held}
use Rattle.chip_run.specs.Places.{Places, place}
use Rattle.chip_run.proofs.Places.{each-place}
use Rattle.chip_run.specs.declared.held.Due.TheVariants.{Nothing}

no-counts : (i : ℕ) → count_of (0 ∷ 0 ∷ 0 ∷ 0 ∷ 0 ∷ []) i ≡ 0
no-counts zero = refl
no-counts (suc zero) = refl
no-counts (suc (suc zero)) = refl
no-counts (suc (suc (suc zero))) = refl
no-counts (suc (suc (suc (suc zero)))) = refl
no-counts (suc (suc (suc (suc (suc i))))) = refl

module _ {Chip Shared Pins : Type 0} (rules : Rules Chip Shared Pins) where
  -- a number within the list is a chip's
  pub remains-inside : (base : CoreValue Chip Shared) (k : ℕ) (chips : List Chip) → Remains rules base (k + 1) chips → k < length chips → k < rules.count
  remains-inside base k chips r h = go (cases_lt k rules.count)
    where
      go : (k < rules.count) ⊎ (rules.count ≤ k) → k < rules.count
      go (inl low) = low
      go (inr past) = absurd (let l = r.all (omega arith) in omega arith)

  -- where the list ends before the number there is no such chip
  pub remains-none : (base : CoreValue Chip Shared) (k : ℕ) (chips : List Chip) → Remains rules base (k + 1) chips → length chips ≤ k → rules.count ≤ k
  remains-none base k chips r h = go (cases_lt k rules.count)
    where
      go : (k < rules.count) ⊎ (rules.count ≤ k) → rules.count ≤ k
      go (inl low) = absurd (let l = r.some (omega arith) in omega arith)
      go (inr past) = past

  pub remains-same : (base : CoreValue Chip Shared) (k : ℕ) (chips : List Chip) → Remains rules base (k + 1) chips → length chips ≤ k → Remains rules base k chips
  remains-same base k chips r h =
      let past = remains-none base k chips r h in
      record { some = λ le. let l = r.all (omega arith) in omega arith; all = λ _. r.all (omega arith); are = r.are }

  pub remains-less : (base : CoreValue Chip Shared) (k : ℕ) (chips now : List Chip) (c : Chip) → chips ≡ now ++ c ∷ [] → Remains rules base (k + 1) chips → k < length chips → Remains rules base k now
  remains-less base k chips now c e r h =
      let inside = remains-inside base k chips r h in
      let len = r.some (omega arith) in
      let cut = ap length e ∙ length-append now (c ∷ []) in
      record {
        some = λ _. omega arith;
        all = λ few. absurd (omega arith);
        are = λ i low. sym (get_or-append now (c ∷ []) rules.blank i low) ∙ ap (λ (xs : List Chip). slice_index_or xs i rules.blank) (sym e) ∙ r.are i (omega arith);
      }

  -- the chip at the end of the list is the base's
  last-is : (base : CoreValue Chip Shared) (k : ℕ) (chips now : List Chip) (c : Chip) → chips ≡ now ++ c ∷ [] → Remains rules base (k + 1) chips → k < length chips → c ≡ chip_in rules base.chips k
  last-is base k chips now c e r h =
      let inside = remains-inside base k chips r h in
      let len = r.some (omega arith) in
      let cut = ap length e ∙ length-append now (c ∷ []) in
      let place : length now ≡ k = omega arith in
      sym (get_or-append_seam now c [] rules.blank) ∙ ap (λ n. slice_index_or (now ++ c ∷ []) n rules.blank) place ∙ ap (λ (xs : List Chip). slice_index_or xs k rules.blank) (sym e)
      ∙ r.are k h

  -- and is at the start of its path
  path-first : (base : CoreValue Chip Shared) (t k : ℕ) (chips now : List Chip) (c : Chip) → chips ≡ now ++ c ∷ [] → Remains rules base (k + 1) chips → k < length chips → OnPath rules (machine_of rules base) t k 0 c
  path-first base t k chips now c e r h = record {
    moves = 0;
    below = record { each = λ j low. absurd (omega arith) };
    made = made-zero rules (machine_of rules base) k;
    is = last-is base k chips now c e r h ∙ ap (λ (m : Machine Chip Shared). m.chip k) (sym (run-zero rules (machine_of rules base)));
  }

  pub first-is : (base : CoreValue Chip Shared) (k : ℕ) (chips now : List Chip) (c : Chip) (amount : ℕ) → amount ≡ 0 → chips ≡ now ++ c ∷ [] → Remains rules base (k + 1) chips → k < length chips
      → Some (record { number = k; chip = c; due = Nothing; amount = amount; passes = 0 }) ≡ Some (first_held rules base k)
  first-is base k chips now c amount none e r h =
      ap₂ {C = Option (HeldValue Chip Pins)} (λ (x : Chip) (n : ℕ). Some (record { number = k; chip = x; due = Nothing; amount = n; passes = 0 })) (last-is base k chips now c e r h) none

  -- all chips that are held at the start
  pub all-first : (base : CoreValue Chip Shared) → rules.count ≤ 5 → (a b c d e : Option (HeldValue Chip Pins)) → (0 < rules.count → a ≡ Some (first_held rules base 0)) → (1 < rules.count → b ≡ Some (first_held rules base 1))
      → (2 < rules.count → c ≡ Some (first_held rules base 2)) → (3 < rules.count → d ≡ Some (first_held rules base 3)) → (4 < rules.count → e ≡ Some (first_held rules base 4)) → AreFirst rules base (a ∷ b ∷ c ∷ d ∷ e ∷ [])
  all-first base few a b c d e at0 at1 at2 at3 at4 = each-place (λ i o. i < rules.count → o ≡ Some (first_held rules base i)) a b c d e at0 at1 at2 at3 at4 (λ i past low. absurd (omega arith))

  pub first-there : (base : CoreValue Chip Shared) (hs : Places Chip Pins) → AreFirst rules base hs → (i : ℕ) → i < rules.count → IsSome (place hs i)
  first-there base hs first i low = subst (λ (o : Option (HeldValue Chip Pins)). IsSome o) (sym (first i low)) refl

  -- all chips of the base
  pub remains-all : (base : CoreValue Chip Shared) (k : ℕ) (chips : List Chip) → chips ≡ base.chips → length chips ≡ rules.count → rules.count ≤ k → Remains rules base k chips
  remains-all base k chips e len few = record { some = λ le. omega arith; all = λ _. len; are = λ i h. ap (λ (xs : List Chip). slice_index_or xs i rules.blank) e }

  pub remains-empty : (base : CoreValue Chip Shared) (chips : List Chip) → Remains rules base 0 chips → chips ≡ []
  remains-empty base chips r = nil_from_length chips (r.some (omega arith))

module _ {Chip Shared Pins : Type 0} (rules : Rules Chip Shared Pins) (chip_ok : Chip → Type 0) (shared_ok : Shared → Type 0) where
  pub held-first : (base : CoreValue Chip Shared) (t k : ℕ) (chips now : List Chip) (c : Chip) (amount : ℕ) → amount ≡ 0 → chips ≡ now ++ c ∷ [] → Remains rules base (k + 1) chips → k < length chips
      → IsHeld rules chip_ok shared_ok base t (record { number = k; chip = c; due = Nothing; amount = amount; passes = 0 })
  held-first base t k chips now c amount none e r h = record {
    inside = remains-inside rules base k chips r h;
    path = subst (λ n. OnPath rules (machine_of rules base) t k n c) (sym none) (path-first rules base t k chips now c e r h);
    due = tt;
    lease = tt;
  }

module _ {Chip Shared Pins : Type 0} (rules : Rules Chip Shared Pins) (chip_ok : Chip → Type 0) (shared_ok : Shared → Type 0) (law : Lawful rules chip_ok shared_ok) where
  -- what lies behind the lock at the start, of the core itself as base
  locked-core : (v : CoreValue Chip Shared) → IsCore rules chip_ok shared_ok v → (t : ℕ) → t ≤ cycle_limit → v.journal ≡ [] → all_moves_left rules t (machine_of rules v) ≤ v.room
      → IsLocked rules chip_ok shared_ok (record v { room = 0 }) t (record { end = t; shared = v.shared; bounds = v.bounds; journal = v.journal; room = v.room }) (0 ∷ 0 ∷ 0 ∷ 0 ∷ 0 ∷ [])
  locked-core v core t small empty room = record {
    base_core = record { shape = core.shape; shared = core.shared; chip = core.chip };
    time = refl;
    small = small;
    room = room;
    bound_count = core.shape.bound_count;
    machine = machine_of rules v;
    shared = refl;
    tidy = tidy-core rules chip_ok shared_ok v core;
    stands =
        subst (λ (count : ℕ → ℕ). StandsFor rules (machine_of rules v) (seen rules v).bound t (machine_of rules v) (seen rules v).bound v.journal count) (sym (fun_ext no-counts))
        (subst (λ (es : List Entry). StandsFor rules (machine_of rules v) (seen rules v).bound t (machine_of rules v) (seen rules v).bound es (λ i. 0)) (sym empty)
        (stands_first rules chip_ok shared_ok law (machine_of rules v) (valid-core rules chip_ok shared_ok v core) t small (seen rules v).bound));
  }

  pub locked-first : (v w base : CoreValue Chip Shared) → v ≡ w → IsCore rules chip_ok shared_ok v → (t e : ℕ) → e ≡ t → t ≤ cycle_limit → v.journal ≡ [] → all_moves_left rules t (machine_of rules v) ≤ v.room → base ≡ record v { room = 0 }
      → (counts : List ℕ) → counts ≡ 0 ∷ 0 ∷ 0 ∷ 0 ∷ 0 ∷ []
      → IsLocked rules chip_ok shared_ok base e (record { end = t; shared = w.shared; bounds = w.bounds; journal = w.journal; room = w.room }) counts
  locked-first v w base is core t e same small empty room from counts none =
      subst (λ (b : CoreValue Chip Shared). IsLocked rules chip_ok shared_ok b e (record { end = t; shared = w.shared; bounds = w.bounds; journal = w.journal; room = w.room }) counts) (sym from)
      (subst (λ (ns : List ℕ). IsLocked rules chip_ok shared_ok (record v { room = 0 }) e (record { end = t; shared = w.shared; bounds = w.bounds; journal = w.journal; room = w.room }) ns) (sym none)
      (subst (λ (n : ℕ). IsLocked rules chip_ok shared_ok (record v { room = 0 }) n (record { end = t; shared = w.shared; bounds = w.bounds; journal = w.journal; room = w.room }) (0 ∷ 0 ∷ 0 ∷ 0 ∷ 0 ∷ [])) (sym same)
      (subst (λ (x : CoreValue Chip Shared). IsLocked rules chip_ok shared_ok (record v { room = 0 }) t (record { end = t; shared = x.shared; bounds = x.bounds; journal = x.journal; room = x.room }) (0 ∷ 0 ∷ 0 ∷ 0 ∷ 0 ∷ [])) is
      (locked-core v core t small empty room))))

  -- all chips of the core that is the base
  pub remains-start : (v base : CoreValue Chip Shared) → base ≡ record v { room = 0 } → (chips : List Chip) → chips ≡ v.chips → length chips ≡ rules.count → Remains rules base 5 chips
  remains-start v base from chips same len = remains-all rules base 5 chips (same ∙ ap (λ (x : CoreValue Chip Shared). x.chips) (sym from)) len law.few

pub no-amounts : (a b c d e : ℕ) → a ≡ 0 → b ≡ 0 → c ≡ 0 → d ≡ 0 → e ≡ 0 → a ∷ b ∷ c ∷ d ∷ e ∷ [] ≡ 0 ∷ 0 ∷ 0 ∷ 0 ∷ 0 ∷ []
no-amounts a b c d e p q r s t =
    ap (λ n. n ∷ b ∷ c ∷ d ∷ e ∷ []) p ∙ ap (λ n. 0 ∷ n ∷ c ∷ d ∷ e ∷ []) q ∙ ap (λ n. 0 ∷ 0 ∷ n ∷ d ∷ e ∷ []) r ∙ ap (λ n. 0 ∷ 0 ∷ 0 ∷ n ∷ e ∷ []) s ∙ ap (λ n. 0 ∷ 0 ∷ 0 ∷ 0 ∷ n ∷ []) t
