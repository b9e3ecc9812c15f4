-- What rounds leave of the held chips.
use Rattle.std.proofs.Common.{◌≡◌, ◌≢◌, ◌↔◌, ℕ, ◌+◌, ◌<◌, ◌≤◌, Bool, true, false, refl, sym, ◌∙◌, ap, subst, arith, [], ◌∷◌, ◌⊎◌, inl, inr, Option, Some, None, IfSome, IsSome, length, slice_set, slice_index_or, get_or-set_same, get_or-set_other}
use Rattle.std.proofs.lemmas.Bool.{false≢true, cases_lt}
use Rattle.std.proofs.lemmas.List.{get_or_past, map-set, set-get_or, set-set, set_past}
use Rattle.std.proofs.Math.Seq.{map-set_same}
use Rattle.std.proofs.Math.ListN.{get_or-map}
use Rattle.std.proofs.lemmas.Option.{none-some, same_Some}
use Rattle.std.specs.Option.{option_map}
use Rattle.chip_core.specs.Chips.{Rules}
use Rattle.chip_core.specs.Equations.{by_test, same_or}
use Rattle.chip_run.specs.Held.{HeldValue}
use Rattle.chip_run.specs.Locked.{LockedValue}
use Rattle.chip_run.specs.Parts.{PartsValue}
use Rattle.chip_run.specs.Places.{AllFree, HasNumber, IsFree, Places, place}
use Rattle.chip_run.proofs.Places.{place-in}
use Rattle.chip_run.specs.Rounds.{IsEnded, IsEndedAt, IsRound, IsSeenTurn, Keeps, Made, Settles, SettlesAt, bare, bares, is_there, occupied}
use Rattle.chip_run.specs.Sections.{IsSection, IsTurn, Moves}
use Rattle.chip_run.specs.declared.held.Due.{Due}
use Rattle.chip_run.specs.declared.held.Due.TheVariants.{Nothing, Advance, Sample}
use Rattle.chip_run.specs.declared.round.Round.{Round}
use Rattle.chip_run.specs.declared.round.Round.TheVariants as Rounds
use Rattle.chip_run.specs.declared.turn.Turn.{Turn}
use Rattle.chip_run.specs.declared.turn.Turn.TheVariants.{Moved, Blocked, Finished}

module _ {Chip Pins : Type 0} where
  -- a place with no chip is none that has one
  pub free-at : (hs : Places Chip Pins) (i : ℕ) → AllFree hs → IsSome (place hs i) → IsFree hs i
  free-at hs i free some = go (place hs i) refl some
    where
      go : (o : Option (HeldValue Chip Pins)) → place hs i ≡ o → IsSome o → IsFree hs i
      go None e s = absurd (false≢true s)
      go (Some h) e s = record { held = h; there = e; free = free i h e }

  -- the same of each place, where the code has the fields
  pub at-free : (hs0 hs : Places Chip Pins) → hs0 ≡ hs → AllFree hs → (i : ℕ) → IfSome (place hs0 i) (λ h. h.due ≡ Nothing)
  at-free hs0 hs e free i = go (place hs0 i) refl
    where
      go : (o : Option (HeldValue Chip Pins)) → place hs0 i ≡ o → IfSome o (λ h. h.due ≡ Nothing)
      go None q = tt
      go (Some h) q = free i h (ap (λ xs. place xs i) (sym e) ∙ q)

  pub at-some : (hs0 hs : Places Chip Pins) → hs0 ≡ hs → (i : ℕ) → IsSome (place hs i) → IsSome (place hs0 i)
  at-some hs0 hs e i some = subst (λ xs. IsSome (place xs i)) (sym e) some

  -- a section that did not move the chip leaves all
  pub stays : (hs : Places Chip Pins) (i : ℕ) (before after : HeldValue Chip Pins) → place hs i ≡ Some before → after ≡ before → slice_set hs i (Some after) ≡ hs
  stays hs i before after there e = ap (λ (h : HeldValue Chip Pins). slice_set hs i (Some h)) e ∙ ap (slice_set hs i) (sym there) ∙ set-get_or hs i None

  place-bares : (hs : Places Chip Pins) (i : ℕ) → place (bares hs) i ≡ option_map bare (place hs i)
  place-bares hs i = get_or-map (option_map bare) hs i None

  -- passes change nothing of what is due
  pub free-same : (hs hs2 : Places Chip Pins) → bares hs2 ≡ bares hs → AllFree hs → AllFree hs2
  free-same hs hs2 same free i h there =
      go (place hs i) refl (sym (place-bares hs i) ∙ ap (λ xs. place xs i) (sym same) ∙ place-bares hs2 i ∙ ap (option_map bare) there)
    where
      go : (o : Option (HeldValue Chip Pins)) → place hs i ≡ o → option_map bare o ≡ Some (bare h) → h.due ≡ Nothing
      go None e b = absurd (none-some (bare h) b)
      go (Some k) e b = sym (ap (λ (x : HeldValue Chip Pins). x.due) (same_Some (bare k) (bare h) b)) ∙ free i k e

  occupied-bares : (hs : Places Chip Pins) → occupied (bares hs) ≡ occupied hs
  occupied-bares [] = refl
  occupied-bares (None ∷ hs) = ap (λ bs. false ∷ bs) (occupied-bares hs)
  occupied-bares (Some h ∷ hs) = ap (λ bs. true ∷ bs) (occupied-bares hs)

  occupied-set : (k : ℕ) (hs hs2 : Places Chip Pins) (before after : HeldValue Chip Pins) → place hs k ≡ Some before → hs2 ≡ slice_set hs k (Some after) → occupied hs2 ≡ occupied hs
  occupied-set k hs hs2 before after there now = ap occupied now ∙ map-set_same is_there hs k (Some after) None (ap is_there (sym there))

  occupied-at : (hs : Places Chip Pins) (i : ℕ) → slice_index_or (occupied hs) i false ≡ is_there (place hs i)
  occupied-at hs i = get_or-map is_there hs i None

  there-some : (o : Option (HeldValue Chip Pins)) → is_there o ≡ true → IsSome o
  there-some None e = absurd (false≢true e)
  there-some (Some h) e = refl

  some-there : (o : Option (HeldValue Chip Pins)) → IsSome o → is_there o ≡ true
  some-there None e = absurd (false≢true e)
  some-there (Some h) e = refl

  pub keeps-some : (hs hs2 : Places Chip Pins) → Keeps hs hs2 → (i : ℕ) → IsSome (place hs i) → IsSome (place hs2 i)
  keeps-some hs hs2 keep i some =
      there-some (place hs2 i) (sym (occupied-at hs2 i) ∙ ap (λ bs. slice_index_or bs i false) keep.same ∙ occupied-at hs i ∙ some-there (place hs i) some)

  pub keeps-itself : (hs : Places Chip Pins) → AllFree hs → Keeps hs hs
  keeps-itself hs free = record { same = refl; free = free }

  pub keeps-twice : (hs hs2 hs3 : Places Chip Pins) → Keeps hs hs2 → Keeps hs2 hs3 → Keeps hs hs3
  keeps-twice hs hs2 hs3 a b = record { same = b.same ∙ a.same; free = b.free }

  free-some : (hs : Places Chip Pins) (i : ℕ) → IsFree hs i → IsSome (place hs i)
  free-some hs i f = subst (λ (o : Option (HeldValue Chip Pins)). IsSome o) (sym f.there) refl

  pub keeps-free : (hs hs2 : Places Chip Pins) → Keeps hs hs2 → (i : ℕ) → IsFree hs i → IsFree hs2 i
  keeps-free hs hs2 keep i f = free-at hs2 i keep.free (keeps-some hs hs2 keep i (free-some hs i f))

  -- a place written, where no work is due
  pub set-free : (hs hs2 : Places Chip Pins) (w : ℕ) (o : Option (HeldValue Chip Pins)) → AllFree hs → IfSome o (λ h. h.due ≡ Nothing) → hs2 ≡ slice_set hs w o → AllFree hs2
  set-free hs hs2 w o free ok is i h there = go (same_or i w) (cases_lt w (length hs))
    where
      found : place (slice_set hs w o) i ≡ Some h
      found = ap (λ xs. place xs i) (sym is) ∙ there

      go : (i ≡ w) ⊎ (i ≢ w) → (w < length hs) ⊎ (length hs ≤ w) → h.due ≡ Nothing
      go (inl same) (inl less) = subst (λ (x : Option (HeldValue Chip Pins)). IfSome x (λ k. k.due ≡ Nothing)) (sym (get_or-set_same hs w o None less) ∙ ap (place (slice_set hs w o)) (sym same) ∙ found) ok
      go (inl same) (inr past) = free i h (ap (λ xs. place xs i) (sym (set_past hs w o past)) ∙ found)
      go (inr ne) q = free i h (sym (get_or-set_other hs w i o None ne) ∙ found)

  pub rest-some : (hs hs2 : Places Chip Pins) (w : ℕ) (o : Option (HeldValue Chip Pins)) → hs2 ≡ slice_set hs w o → (i : ℕ) → i ≢ w → IsSome (place hs i) → IsSome (place hs2 i)
  rest-some hs hs2 w o is i ne some = subst (λ (x : Option (HeldValue Chip Pins)). IsSome x) (sym (get_or-set_other hs w i o None ne) ∙ ap (λ xs. place xs i) (sym is)) some

module _ {Chip Shared Pins : Type 0} (rules : Rules Chip Shared Pins) where
  pub round-keeps-moved : (t k : ℕ) (hs hs2 : Places Chip Pins) → Made rules t k (bares hs) (bares hs2) → AllFree hs2 → Keeps hs hs2
  round-keeps-moved t k hs hs2 m free = record { same = sym (occupied-bares hs2) ∙ occupied-set k (bares hs) (bares hs2) m.before m.after m.there m.now ∙ occupied-bares hs; free = free }

  pub round-keeps-ended : (hs hs2 : Places Chip Pins) → bares hs2 ≡ bares hs → AllFree hs2 → Keeps hs hs2
  round-keeps-ended hs hs2 same free = record { same = sym (occupied-bares hs2) ∙ ap occupied same ∙ occupied-bares hs; free = free }

  settled-amount : (d : Due Pins) (h k : HeldValue Chip Pins) → Settles rules d h k → (n : ℕ) × (k.amount ≡ h.amount + n)
  settled-amount Nothing h k is = (0, ap (λ (x : HeldValue Chip Pins). x.amount) is ∙ (let e : h.amount ≡ h.amount + 0 = omega arith in e))
  settled-amount Advance h k is = (0, ap (λ (x : HeldValue Chip Pins). x.amount) is ∙ (let e : h.amount ≡ h.amount + 0 = omega arith in e))
  settled-amount (Sample pins end) h k is = (is.0, ap (λ (x : HeldValue Chip Pins). x.amount) is.2)

  pub settled-free : (d : Due Pins) (h k : HeldValue Chip Pins) → h.due ≡ d → Settles rules d h k → k.due ≡ Nothing
  settled-free Nothing h k e is = ap (λ (x : HeldValue Chip Pins). x.due) is ∙ e
  settled-free Advance h k e is = ap (λ (x : HeldValue Chip Pins). x.due) is
  settled-free (Sample pins end) h k e is = ap (λ (x : HeldValue Chip Pins). x.due) is.2

  settled-number : (d : Due Pins) (h k : HeldValue Chip Pins) → Settles rules d h k → k.number ≡ h.number
  settled-number Nothing h k is = ap (λ (x : HeldValue Chip Pins). x.number) is
  settled-number Advance h k is = ap (λ (x : HeldValue Chip Pins). x.number) is
  settled-number (Sample pins end) h k is = ap (λ (x : HeldValue Chip Pins). x.number) is.2

  -- the held chips once the one that moved has done its private work
  record Goes (k : ℕ) (hs1 hs3 : Places Chip Pins) (after : HeldValue Chip Pins) : Type 0 where
    last : HeldValue Chip Pins
    settles : Settles rules after.due after last
    now : hs3 ≡ slice_set hs1 k (Some last)

  moved-settled : (t k : ℕ) (hs1 hs2 hs3 : Places Chip Pins) (m : Made rules t k hs1 hs2) → SettlesAt rules (place hs2 k) (place hs3 k) → hs3 ≡ slice_set hs2 k (place hs3 k) → Goes k hs1 hs3 m.after
  moved-settled t k hs1 hs2 hs3 m settles e =
      let at : place hs2 k ≡ Some m.after = ap (λ xs. place xs k) m.now ∙ get_or-set_same hs1 k (Some m.after) None (place-in hs1 k m.before m.there) in
      let s : SettlesAt rules (Some m.after) (place hs3 k) = subst (λ (o : Option (HeldValue Chip Pins)). SettlesAt rules o (place hs3 k)) at settles in
      record {
        last = s.0;
        settles = s.2;
        now = e ∙ ap (slice_set hs2 k) s.1 ∙ ap (λ xs. slice_set xs k (Some s.0)) m.now ∙ set-set hs1 k (Some m.after) (Some s.0);
      }

  pub round-made : (t k : ℕ) (hs0 hs1 hs2 hs3 : Places Chip Pins) → bares hs1 ≡ bares hs0 → Made rules t k hs1 hs2 → SettlesAt rules (place hs2 k) (place hs3 k) → hs3 ≡ slice_set hs2 k (place hs3 k)
      → Made rules t k (bares hs0) (bares hs3)
  round-made t k hs0 hs1 hs2 hs3 same m settles e =
      let g = moved-settled t k hs1 hs2 hs3 m settles e in
      let n = settled-amount m.after.due m.after g.last g.settles in
      record {
        before = bare m.before;
        after = bare g.last;
        there = ap (λ xs. place xs k) (sym same) ∙ place-bares hs1 k ∙ ap (option_map bare) m.there;
        early = m.early;
        leased = m.leased + n.0;
        more = (let a = n.1 in let b = m.more in omega arith);
        now = ap bares g.now ∙ map-set (option_map bare) hs1 k (Some g.last) ∙ ap (λ xs. slice_set xs k (Some (bare g.last))) same;
      }

  pub round-free : (t k : ℕ) (hs1 hs2 hs3 : Places Chip Pins) → AllFree hs1 → Made rules t k hs1 hs2 → SettlesAt rules (place hs2 k) (place hs3 k) → hs3 ≡ slice_set hs2 k (place hs3 k) → AllFree hs3
  round-free t k hs1 hs2 hs3 free m settles e i h there = go (same_or i k)
    where
      g : Goes k hs1 hs3 m.after
      g = moved-settled t k hs1 hs2 hs3 m settles e

      go : (i ≡ k) ⊎ (i ≢ k) → h.due ≡ Nothing
      go (inl same) =
          sym (ap (λ (x : HeldValue Chip Pins). x.due) (same_Some g.last h
          (sym (get_or-set_same hs1 k (Some g.last) None (place-in hs1 k m.before m.there))
          ∙ ap (λ xs. place xs k) (sym g.now) ∙ ap (place hs3) (sym same) ∙ there)))
          ∙ settled-free m.after.due m.after g.last refl g.settles
      go (inr ne) = free i h (sym (get_or-set_other hs1 k i (Some g.last) None ne) ∙ ap (λ xs. place xs i) (sym g.now) ∙ there)

  -- a place keeps its number
  pub settled-place : (n : ℕ) (o q : Option (HeldValue Chip Pins)) → SettlesAt rules o q → HasNumber n o → HasNumber n q
  settled-place n None q is number = subst (λ (x : Option (HeldValue Chip Pins)). HasNumber n x) (sym is) tt
  settled-place n (Some h) q is number = subst (λ (x : Option (HeldValue Chip Pins)). HasNumber n x) (sym is.1) (settled-number h.due h is.0 is.2 ∙ number)

  pub at-ended : (t : ℕ) (hs0 hs : Places Chip Pins) → hs0 ≡ hs → (i : ℕ) → IsEndedAt rules t hs i → IsEndedAt rules t hs0 i
  at-ended t hs0 hs e i late = subst (λ xs. IsEndedAt rules t xs i) (sym e) late

  -- all are finished where those below the count of the places are
  pub ended-all : (t n : ℕ) (hs : Places Chip Pins) → length hs ≤ n → ((i : ℕ) → i < n → IsEndedAt rules t hs i) → IsEnded rules t hs
  ended-all t n hs len each i = go (cases_lt i n)
    where
      go : (i < n) ⊎ (n ≤ i) → IsEndedAt rules t hs i
      go (inl less) = each i less
      go (inr past) = subst (λ (o : Option (HeldValue Chip Pins)). IfSome o (λ h. t ≤ (rules.next h.chip).key.cycle)) (sym (get_or_past hs i None (omega arith))) tt

  one-more : (i : ℕ) (p : PartsValue Shared) (h : HeldValue Chip Pins) (q : PartsValue Shared) (k : HeldValue Chip Pins) → Moves rules i p h q k → k.amount ≡ h.amount + 1
  one-more i p h q k m =
      by_test (rules.next h.chip).sample
      (λ e. ap (λ (x : HeldValue Chip Pins). x.amount) ((m.sample e).1.2))
      (λ e. ap (λ (x : HeldValue Chip Pins). x.amount) ((m.access e).1))

  seen-by : (t i : ℕ) (l : LockedValue Shared) (hs : Places Chip Pins) (answer : Turn) (l2 : LockedValue Shared) (hs2 : Places Chip Pins) → l.parts.end ≡ t
      → (before after : HeldValue Chip Pins) → place hs i ≡ Some before → IsTurn rules i l.parts before answer l2.parts after → hs2 ≡ slice_set hs i (Some after) → IsSeenTurn rules t i hs answer hs2
  seen-by t i l hs Moved l2 hs2 end before after there is now = record { before = before; after = after; there = there; early = (let low = is.turn.early in omega (arith, end)); leased = 0; more = one-more i l.parts before l2.parts after is ∙ (let e : before.amount + 1 ≡ before.amount + 1 + 0 = omega arith in e); now = now }
  seen-by t i l hs (Blocked other bound) l2 hs2 end before after there is now = (
    now ∙ stays hs i before after there is.1.held,
    record { held = before; there = there; early = (let low = is.0.early in omega (arith, end)); looks = is.0.looked },
  )
  seen-by t i l hs Finished l2 hs2 end before after there is now = (
    now ∙ stays hs i before after there is.1.held,
    subst (λ (o : Option (HeldValue Chip Pins)). IfSome o (λ h. t ≤ (rules.next h.chip).key.cycle)) (sym there) (let late = is.0 in omega (arith, end)),
  )

  pub seen-turn : (t i : ℕ) (l : LockedValue Shared) (hs : Places Chip Pins) (answer : Turn) (l2 : LockedValue Shared) (hs2 : Places Chip Pins) → l.parts.end ≡ t
      → IsSection rules i l hs answer l2 hs2 → IsSeenTurn rules t i hs answer hs2
  seen-turn t i l hs answer l2 hs2 end is = seen-by t i l hs answer l2 hs2 end is.before is.after is.there is.turn is.helds

  -- whether a held chip is finished does not depend on the passes
  bare-ended : (t : ℕ) (o : Option (HeldValue Chip Pins)) → IfSome o (λ h. t ≤ (rules.next h.chip).key.cycle) → IfSome (option_map bare o) (λ h. t ≤ (rules.next h.chip).key.cycle)
  bare-ended t None late = tt
  bare-ended t (Some h) late = late

  ended-bare : (t : ℕ) (o : Option (HeldValue Chip Pins)) → IfSome (option_map bare o) (λ h. t ≤ (rules.next h.chip).key.cycle) → IfSome o (λ h. t ≤ (rules.next h.chip).key.cycle)
  ended-bare t None late = tt
  ended-bare t (Some h) late = late

  bares-ended : (t i : ℕ) (hs : Places Chip Pins) → IsEndedAt rules t hs i → IsEndedAt rules t (bares hs) i
  bares-ended t i hs late = subst (λ (o : Option (HeldValue Chip Pins)). IfSome o (λ h. t ≤ (rules.next h.chip).key.cycle)) (sym (place-bares hs i)) (bare-ended t (place hs i) late)

  ended-bares : (t i : ℕ) (hs : Places Chip Pins) → IsEndedAt rules t (bares hs) i → IsEndedAt rules t hs i
  ended-bares t i hs late = ended-bare t (place hs i) (subst (λ (o : Option (HeldValue Chip Pins)). IfSome o (λ h. t ≤ (rules.next h.chip).key.cycle)) (place-bares hs i) late)

  abbrev is_end : Round → Bool
  is_end (Rounds.Moved k) = false
  is_end Rounds.Finished = true

  -- the rounds end without a move exactly where all were finished before
  pub round-finished : (t : ℕ) (hs : Places Chip Pins) (answer : Round) (hs2 : Places Chip Pins) → IsRound rules t hs answer hs2 → (answer ≡ Rounds.Finished) ↔ IsEnded rules t hs
  round-finished t hs (Rounds.Moved k) hs2 m = (
    λ e. absurd (false≢true (ap is_end e)),
    λ ended. absurd (
        let low = m.early in
        let late : t ≤ (rules.next m.before.chip).key.cycle = subst (λ (o : Option (HeldValue Chip Pins)). IfSome o (λ h. t ≤ (rules.next h.chip).key.cycle)) m.there (bares-ended t k hs (ended k)) in
        omega arith
        ),
  )
  round-finished t hs Rounds.Finished hs2 is = (λ _ i. ended-bares t i hs (subst (λ (xs : Places Chip Pins). IsEndedAt rules t xs i) is.0 (bares-ended t i hs2 (is.1 i))), λ _. refl)
