-- The places of the held chips.
use Rattle.std.proofs.Common.{◌≡◌, ℕ, zero, suc, ◌<◌, ◌≤◌, sym, ◌∙◌, subst, arith, ◌⊎◌, inl, inr, [], ◌∷◌, Option, Some, None, IfSome, length, slice_set}
use Rattle.std.proofs.lemmas.Bool.{cases_lt}
use Rattle.std.proofs.lemmas.List.{get_or_past}
use Rattle.std.proofs.lemmas.Option.{none-some}
use Rattle.chip_core.specs.Chips.{Rules}
use Rattle.chip_core.specs.Cores.{CoreValue, machine_of}
use Rattle.chip_core.specs.Machines.{OnPath}
use Rattle.chip_run.specs.Held.{HeldValue, IsHeld, settled}
use Rattle.chip_run.specs.Locked.{LockedValue, count_of}
use Rattle.chip_run.specs.Places.{AreOnPaths, HasNumber, Places, place}
use Rattle.chip_run.specs.Sections.{IsFound, IsSection, IsTurn}
use Rattle.chip_run.specs.declared.turn.Turn.{Turn}

module _ {Chip Pins : Type 0} where
  -- a place that has a chip is one of the list
  pub place-in : (hs : Places Chip Pins) (i : ℕ) (h : HeldValue Chip Pins) → place hs i ≡ Some h → i < length hs
  place-in hs i h there = go (cases_lt i (length hs))
    where
      go : (i < length hs) ⊎ (length hs ≤ i) → i < length hs
      go (inl less) = less
      go (inr past) = absurd (none-some h (sym (get_or_past hs i None past) ∙ there))

  -- a claim on each of five places and on none
  pub each-place : (P : ℕ → Option (HeldValue Chip Pins) → Type 0) (a b c d e : Option (HeldValue Chip Pins)) → P 0 a → P 1 b → P 2 c → P 3 d → P 4 e → ((i : ℕ) → 5 ≤ i → P i None) → (i : ℕ) → P i (place (a ∷ b ∷ c ∷ d ∷ e ∷ []) i)
  each-place P a b c d e at0 at1 at2 at3 at4 past zero = at0
  each-place P a b c d e at0 at1 at2 at3 at4 past (suc zero) = at1
  each-place P a b c d e at0 at1 at2 at3 at4 past (suc (suc zero)) = at2
  each-place P a b c d e at0 at1 at2 at3 at4 past (suc (suc (suc zero))) = at3
  each-place P a b c d e at0 at1 at2 at3 at4 past (suc (suc (suc (suc zero)))) = at4
  each-place P a b c d e at0 at1 at2 at3 at4 past (suc (suc (suc (suc (suc i))))) = past (suc (suc (suc (suc (suc i))))) (omega arith)

module _ {Chip Shared Pins : Type 0} (rules : Rules Chip Shared Pins) (chip_ok : Chip → Type 0) (shared_ok : Shared → Type 0) (base : CoreValue Chip Shared) (t : ℕ) where
  path-at : (i : ℕ) (o : Option (HeldValue Chip Pins)) → HasNumber i o → IfSome o (λ h. IsHeld rules chip_ok shared_ok base t h) → IfSome o (λ h. OnPath rules (machine_of rules base) t i h.amount (settled rules h.due h.chip))
  path-at i None number held = tt
  path-at i (Some h) number held = subst (λ n. OnPath rules (machine_of rules base) t n h.amount (settled rules h.due h.chip)) number held.path

  -- each of five places has its chip on its path
  pub paths-of : (hs : Places Chip Pins) (a b c d e : Option (HeldValue Chip Pins)) → a ∷ b ∷ c ∷ d ∷ e ∷ [] ≡ hs → HasNumber 0 a → HasNumber 1 b → HasNumber 2 c → HasNumber 3 d → HasNumber 4 e
      → IfSome a (λ h. IsHeld rules chip_ok shared_ok base t h) → IfSome b (λ h. IsHeld rules chip_ok shared_ok base t h) → IfSome c (λ h. IsHeld rules chip_ok shared_ok base t h)
      → IfSome d (λ h. IsHeld rules chip_ok shared_ok base t h) → IfSome e (λ h. IsHeld rules chip_ok shared_ok base t h) → AreOnPaths rules base t hs
  paths-of hs a b c d e is na nb nc nd ne ha hb hc hd he i =
      subst (λ (xs : Places Chip Pins). IfSome (place xs i) (λ h. OnPath rules (machine_of rules base) t i h.amount (settled rules h.due h.chip))) is
      (each-place (λ n o. IfSome o (λ h. OnPath rules (machine_of rules base) t n h.amount (settled rules h.due h.chip))) a b c d e
      (path-at 0 a na ha) (path-at 1 b nb hb) (path-at 2 c nc hc) (path-at 3 d nd hd) (path-at 4 e ne he) (λ n h. tt) i)

module _ {Chip Shared Pins : Type 0} (rules : Rules Chip Shared Pins) where
  -- a section, where the code has the number of the place, the fields and what they show
  pub section-at : (i n : ℕ) → i ≡ n → (l0 l : LockedValue Shared) → l0 ≡ l → (hs0 hs : Places Chip Pins) → hs0 ≡ hs
      → (before after : HeldValue Chip Pins) → place hs0 n ≡ Some before → (answer : Turn) (l2 : LockedValue Shared) (hs2 : Places Chip Pins)
      → IsFound rules n l0.parts before (count_of l0.counts n)
      → IsTurn rules n l0.parts before answer l2.parts after → l2.counts ≡ slice_set l0.counts n after.amount → hs2 ≡ slice_set hs0 n (Some after)
      → IsSection rules i l hs answer l2 hs2
  section-at i n number l0 l locked hs0 hs helds before after there answer l2 hs2 found turn counts now =
      subst (λ (k : ℕ). IsSection rules k l hs answer l2 hs2) (sym number)
      (subst (λ (x : LockedValue Shared). IsSection rules n x hs answer l2 hs2) locked
      (subst (λ (xs : Places Chip Pins). IsSection rules n l0 xs answer l2 hs2) helds
      (record { before = before; after = after; there = there; found = found; turn = turn; counts = counts; helds = now })))
