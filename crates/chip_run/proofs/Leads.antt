-- Of which held chips work is due, as they go between the workers.
use Rattle.std.proofs.Common.{◌≡◌, ◌≢◌, ℕ, ◌<◌, ◌≤◌, refl, sym, ◌∙◌, ap, subst, ◌⊎◌, inl, inr, Option, Some, None, IfSome, length, slice_set, get_or-set_same, get_or-set_other}
use Rattle.std.proofs.lemmas.Bool.{cases_lt}
use Rattle.std.proofs.lemmas.List.{get_or_past, set_past}
use Rattle.std.proofs.lemmas.Option.{none-some}
use Rattle.chip_core.specs.Chips.{Rules}
use Rattle.chip_core.specs.Equations.{same_or}
use Rattle.chip_run.specs.Held.{HeldValue}
use Rattle.chip_run.specs.Places.{AllFree, FreeBut, Places, place}
use Rattle.chip_run.specs.Leads.{IsTurned, IsTurnedPlace}
use Rattle.chip_run.specs.Rounds.{Made, SettlesAt}
use Rattle.chip_run.specs.declared.leading.Turned.{Turned}
use Rattle.chip_run.specs.declared.leading.Turned.TheVariants as Turns
use Rattle.chip_run.specs.declared.held.Due.TheVariants.{Nothing}
use Rattle.chip_run.proofs.Rounds.{at-free, set-free, settled-free}

module _ {Chip Pins : Type 0} where
  -- nothing is changed
  pub same-free : (hs hs2 : Places Chip Pins) → hs2 ≡ hs → AllFree hs → AllFree hs2
  same-free hs hs2 e free = subst (λ (xs : Places Chip Pins). AllFree xs) (sym e) free

  -- a place written anyhow
  pub set-but : (k : ℕ) (hs hs2 : Places Chip Pins) (o : Option (HeldValue Chip Pins)) → AllFree hs → hs2 ≡ slice_set hs k o → FreeBut k hs2
  set-but k hs hs2 o free is i h ne there = free i h (sym (get_or-set_other hs k i o None ne) ∙ ap (λ xs. place xs i) (sym is) ∙ there)

  -- a place written by the turn of the chip there
  turned-at : (n : ℕ) (hs0 hs : Places Chip Pins) → hs0 ≡ hs → AllFree hs → (r : Turned) (o : Option (HeldValue Chip Pins)) → IsTurnedPlace r o → (hs2 : Places Chip Pins) → hs2 ≡ slice_set hs0 n o
      → IsTurned n r hs2
  turned-at n hs0 hs e free Turns.WorthOffloading o due hs2 is = set-but n hs0 hs2 o (same-free hs hs0 e free) is
  turned-at n hs0 hs e free Turns.Taken o done hs2 is = set-free hs0 hs2 n o (same-free hs hs0 e free) done is
  turned-at n hs0 hs e free Turns.Away o done hs2 is = set-free hs0 hs2 n o (same-free hs hs0 e free) done is

  -- the same where the code has the number of the place
  pub turned-place : (chip n : ℕ) → chip ≡ n → (hs0 hs : Places Chip Pins) → hs0 ≡ hs → AllFree hs → (r : Turned) (o : Option (HeldValue Chip Pins)) → IsTurnedPlace r o → (hs2 : Places Chip Pins) → hs2 ≡ slice_set hs0 n o
      → IsTurned chip r hs2
  turned-place chip n at hs0 hs e free r o due hs2 is = subst (λ k. IsTurned k r hs2) (sym at) (turned-at n hs0 hs e free r o due hs2 is)

  -- the chip is laid down
  pub laid-free : (k : ℕ) (hs hs2 : Places Chip Pins) → FreeBut k hs → hs2 ≡ slice_set hs k None → AllFree hs2
  laid-free k hs hs2 but is i h there = go (same_or i k) (cases_lt k (length hs))
    where
      found : place (slice_set hs k None) i ≡ Some h
      found = ap (λ xs. place xs i) (sym is) ∙ there

      go : (i ≡ k) ⊎ (i ≢ k) → (k < length hs) ⊎ (length hs ≤ k) → h.due ≡ Nothing
      go (inl same) (inl less) = absurd (none-some h (sym (get_or-set_same hs k None None less) ∙ ap (place (slice_set hs k None)) (sym same) ∙ found))
      go (inl same) (inr past) = absurd (none-some h (sym (get_or_past hs k None past) ∙ ap (place hs) (sym same) ∙ ap (λ xs. place xs i) (sym (set_past hs k None past)) ∙ found))
      go (inr ne) q = but i h ne (sym (get_or-set_other hs k i None None ne) ∙ found)

  -- a chip is taken from where no work is due
  pub moved-free : (k : ℕ) (from hs hs2 : Places Chip Pins) → AllFree from → AllFree hs → hs2 ≡ slice_set hs k (place from k) → AllFree hs2
  moved-free k from hs hs2 theirs free is = set-free hs hs2 k (place from k) free (at-free from from refl theirs k) is

module _ {Chip Shared Pins : Type 0} (rules : Rules Chip Shared Pins) where
  -- a chip made its event, but for its private work
  pub made-but : (t k : ℕ) (hs hs2 : Places Chip Pins) → AllFree hs → Made rules t k hs hs2 → FreeBut k hs2
  made-but t k hs hs2 free m = set-but k hs hs2 (Some m.after) free m.now

  due-done : (o q : Option (HeldValue Chip Pins)) (h : HeldValue Chip Pins) → SettlesAt rules o q → q ≡ Some h → h.due ≡ Nothing
  due-done None q h is e = absurd (none-some h (sym is ∙ e))
  due-done (Some b) q h is e = subst (λ (o : Option (HeldValue Chip Pins)). IfSome o (λ x. x.due ≡ Nothing)) (sym is.1 ∙ e) (settled-free rules b.due b is.0 refl is.2)

  -- its private work is done
  pub settled-all : (k : ℕ) (hs hs2 : Places Chip Pins) → FreeBut k hs → SettlesAt rules (place hs k) (place hs2 k) → hs2 ≡ slice_set hs k (place hs2 k) → AllFree hs2
  settled-all k hs hs2 but settles is i h there = go (same_or i k)
    where
      go : (i ≡ k) ⊎ (i ≢ k) → h.due ≡ Nothing
      go (inl same) = due-done (place hs k) (place hs2 k) h settles (ap (place hs2) (sym same) ∙ there)
      go (inr ne) = but i h ne (sym (get_or-set_other hs k i (place hs2 k) None ne) ∙ ap (λ xs. place xs i) (sym is) ∙ there)
