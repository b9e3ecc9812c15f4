-- Sections that book all moves of finished chips.
use Rattle.std.proofs.Common.{◌≡◌, ◌≢◌, ℕ, suc, ◌<◌, ◌≤◌, refl, sym, ◌∙◌, ap, subst, arith, ◌⊎◌, inl, inr, List, Option, Some, None, IfSome, length, slice_set, get_or-set_same, get_or-set_other}
use Rattle.std.proofs.lemmas.Bool.{cases_lt}
use Rattle.chip_core.specs.Chips.{Rules}
use Rattle.std.proofs.lemmas.List.{get_or_past}
use Rattle.chip_core.specs.Equations.{same_or}
use Rattle.chip_run.specs.Gathering.{AreBooked, booked_at}
use Rattle.chip_run.specs.Held.{HeldValue}
use Rattle.chip_run.specs.Locked.{LockedValue, count_of}
use Rattle.chip_run.specs.Parts.{PartsValue}
use Rattle.chip_run.specs.Places.{Places, place}
use Rattle.chip_run.specs.Rounds.{IsEndedAt}
use Rattle.chip_run.specs.Sections.{IsSection, IsTurn}
use Rattle.chip_run.specs.declared.turn.Turn.{Turn}
use Rattle.chip_run.specs.declared.turn.Turn.TheVariants.{Moved, Blocked, Finished}
use Rattle.chip_run.proofs.Rounds.{stays}

module _ {Chip Shared Pins : Type 0} (rules : Rules Chip Shared Pins) where
  still-turn : (i : ℕ) (p : PartsValue Shared) (h : HeldValue Chip Pins) → p.end ≤ (rules.next h.chip).key.cycle → (answer : Turn) (q : PartsValue Shared) (k : HeldValue Chip Pins) → IsTurn rules i p h answer q k → k ≡ h
  still-turn i p h late Moved q k is = absurd (let low = is.turn.early in omega arith)
  still-turn i p h late (Blocked other bound) q k is = absurd (let low = is.0.early in omega arith)
  still-turn i p h late Finished q k is = is.1.held

  module _ (t i : ℕ) (l : LockedValue Shared) (hs : Places Chip Pins) (answer : Turn) (l2 : LockedValue Shared) (hs2 : Places Chip Pins) (end : l.parts.end ≡ t) (ended : IsEndedAt rules t hs i) (is : IsSection rules i l hs answer l2 hs2) where
    late : l.parts.end ≤ (rules.next is.before.chip).key.cycle
    late = let low : t ≤ (rules.next is.before.chip).key.cycle = subst (λ (o : Option (HeldValue Chip Pins)). IfSome o (λ h. t ≤ (rules.next h.chip).key.cycle)) is.there ended in omega (arith, end)

    same : is.after ≡ is.before
    same = still-turn i l.parts is.before late answer l2.parts is.after is.turn

    pub booked-helds : hs2 ≡ hs
    booked-helds = is.helds ∙ stays hs i is.before is.after is.there same

    pub booked-counts : l2.counts ≡ booked_at (place hs i) i l.counts
    booked-counts =
        subst (λ (o : Option (HeldValue Chip Pins)). l2.counts ≡ booked_at o i l.counts) (sym is.there)
        (is.counts ∙ ap (λ (h : HeldValue Chip Pins). slice_set l.counts i h.amount) same)

module _ {Chip Pins : Type 0} where
  -- one place more is counted
  pub book-more : (hs : Places Chip Pins) (n : ℕ) (counts counts2 : List ℕ) → n < length counts → counts2 ≡ booked_at (place hs n) n counts → ((i : ℕ) → i < n → IfSome (place hs i) (λ h. h.amount ≡ count_of counts i))
      → (i : ℕ) → i < suc n → IfSome (place hs i) (λ h. h.amount ≡ count_of counts2 i)
  book-more hs n counts counts2 inside is before i low = subst (λ cs. IfSome (place hs i) (λ h. h.amount ≡ count_of cs i)) (sym is) (go (same_or i n) (place hs n) refl)
    where
      go : (i ≡ n) ⊎ (i ≢ n) → (o : Option (HeldValue Chip Pins)) → place hs n ≡ o → IfSome (place hs i) (λ h. h.amount ≡ count_of (booked_at o n counts) i)
      go (inl same) None there = subst (λ (o : Option (HeldValue Chip Pins)). IfSome o (λ h. h.amount ≡ count_of counts i)) (sym (ap (place hs) same ∙ there)) tt
      go (inl same) (Some h) there =
          subst (λ (o : Option (HeldValue Chip Pins)). IfSome o (λ k. k.amount ≡ count_of (slice_set counts n h.amount) i)) (sym (ap (place hs) same ∙ there))
          (sym (ap (count_of (slice_set counts n h.amount)) same ∙ get_or-set_same counts n h.amount 0 inside))
      go (inr ne) None there = before i (omega arith)
      go (inr ne) (Some h) there =
          subst (λ (m : ℕ). IfSome (place hs i) (λ k. k.amount ≡ m)) (sym (get_or-set_other counts n i h.amount 0 ne)) (before i (omega arith))

  -- where the code has the fields of the places and of the counts
  pub at-booked : (hs0 hs : Places Chip Pins) → hs0 ≡ hs → (counts counts2 : List ℕ) → counts ≡ counts2 → AreBooked counts hs → (i : ℕ) → IfSome (place hs0 i) (λ h. h.amount ≡ count_of counts2 i)
  at-booked hs0 hs e counts counts2 same booked i =
      subst (λ xs. IfSome (place xs i) (λ h. h.amount ≡ count_of counts2 i)) (sym e) (subst (λ cs. IfSome (place hs i) (λ h. h.amount ≡ count_of cs i)) same (booked i))

  -- all are counted where those below the count of the places are
  pub booked-all : (n : ℕ) (hs : Places Chip Pins) (counts : List ℕ) → length hs ≤ n → ((i : ℕ) → i < n → IfSome (place hs i) (λ h. h.amount ≡ count_of counts i)) → AreBooked counts hs
  booked-all n hs counts len each i = go (cases_lt i n)
    where
      go : (i < n) ⊎ (n ≤ i) → IfSome (place hs i) (λ h. h.amount ≡ count_of counts i)
      go (inl less) = each i less
      go (inr past) = subst (λ (o : Option (HeldValue Chip Pins)). IfSome o (λ h. h.amount ≡ count_of counts i)) (sym (get_or_past hs i None (omega arith))) tt
