-- What the answer of a section says.
use Rattle.std.proofs.Common.{◌≡◌, ℕ, ◌≤◌, Bool, true, false, refl, sym, ap, subst, arith, Option, IfSome, ◌↔◌}
use Rattle.std.proofs.lemmas.Bool.{false≢true}
use Rattle.md_word.specs.declared.key.Key.{Key}
use Rattle.md_word.specs.Keys.{key_lt}
use Rattle.chip_core.specs.Chips.{Rules}
use Rattle.chip_run.specs.Held.{HeldValue}
use Rattle.chip_run.specs.Locked.{LockedValue}
use Rattle.chip_run.specs.Parts.{PartsValue}
use Rattle.chip_run.specs.Sections.{HasTurnAt, IsBlocked, IsBlockedAt, IsFinishedAt, IsSection, IsTurn}
use Rattle.chip_run.specs.Steps.{HasTurn}
use Rattle.chip_run.proofs.KeyOrder.{not-both}
use Rattle.chip_run.specs.Places.{Places}
use Rattle.chip_run.specs.declared.turn.Turn.{Turn}
use Rattle.chip_run.specs.declared.turn.Turn.TheVariants.{Moved, Blocked, Finished}

abbrev is_moved : Turn → Bool
is_moved Moved = true
is_moved (Blocked other bound) = false
is_moved Finished = false

abbrev is_finished : Turn → Bool
is_finished Moved = false
is_finished (Blocked other bound) = false
is_finished Finished = true

-- the other and the bound of an answer that has them
abbrev other_of : Turn → ℕ
other_of Moved = 0
other_of (Blocked other bound) = other
other_of Finished = 0

abbrev bound_of : Turn → Key → Key
bound_of Moved k = k
bound_of (Blocked other bound) k = bound
bound_of Finished k = k

abbrev is_blocked : Turn → Bool
is_blocked Moved = false
is_blocked (Blocked other bound) = true
is_blocked Finished = false

module _ {Chip Shared Pins : Type 0} (rules : Rules Chip Shared Pins) (i : ℕ) (p : PartsValue Shared) (h : HeldValue Chip Pins) where
  not-blocked : (other : ℕ) (bound : Key) → IsBlocked rules p i h.chip other bound → HasTurn rules p i h.chip → ⊥
  not-blocked other bound b turn =
      not-both bound (rules.next h.chip).key b.below (subst (λ (k : Key). key_lt (rules.next h.chip).key k ≡ true) (sym b.is) (turn.first other b.inside b.looked))

  moved-turn : (answer : Turn) (q : PartsValue Shared) (k : HeldValue Chip Pins) → IsTurn rules i p h answer q k → (answer ≡ Moved) ↔ HasTurn rules p i h.chip
  moved-turn Moved q k is = (λ _. is.turn, λ _. refl)
  moved-turn (Blocked other bound) q k is = (λ e. absurd (false≢true (ap is_moved e)), λ turn. absurd (not-blocked other bound is.0 turn))
  moved-turn Finished q k is = (λ e. absurd (false≢true (ap is_moved e)), λ turn. absurd (let a = is.0 in let b = turn.early in omega arith))

  finished-turn : (answer : Turn) (q : PartsValue Shared) (k : HeldValue Chip Pins) → IsTurn rules i p h answer q k → (answer ≡ Finished) ↔ (p.end ≤ (rules.next h.chip).key.cycle)
  finished-turn Moved q k is = (λ e. absurd (false≢true (ap is_finished e)), λ late. absurd (let b = is.turn.early in omega arith))
  finished-turn (Blocked other bound) q k is = (λ e. absurd (false≢true (ap is_finished e)), λ late. absurd (let b = is.0.early in omega arith))
  finished-turn Finished q k is = (λ _. is.0, λ _. refl)

  blocked-turn : (answer : Turn) (q : PartsValue Shared) (k : HeldValue Chip Pins) → IsTurn rules i p h answer q k → (other : ℕ) (bound : Key) → answer ≡ Blocked other bound → IsBlocked rules p i h.chip other bound
  blocked-turn Moved q k is other bound e = absurd (false≢true (ap is_blocked e))
  blocked-turn (Blocked o b) q k is other bound e =
      subst (λ (x : ℕ). IsBlocked rules p i h.chip x bound) (ap other_of e)
      (subst (λ (x : Key). IsBlocked rules p i h.chip o x) (ap (λ (a : Turn). bound_of a b) e) is.0)
  blocked-turn Finished q k is other bound e = absurd (false≢true (ap is_blocked e))

  -- a section leaves the journal's room as it was
  pub turn-room : (answer : Turn) (q : PartsValue Shared) (k : HeldValue Chip Pins) → IsTurn rules i p h answer q k → q.room ≡ p.room
  turn-room Moved q k is = go (rules.next h.chip).sample refl
    where
      go : (b : Bool) → (rules.next h.chip).sample ≡ b → q.room ≡ p.room
      go false kind = ap (λ (x : PartsValue Shared). x.room) (is.access kind).0
      go true kind = ap (λ (x : PartsValue Shared). x.room) (is.sample kind).0
  turn-room (Blocked other bound) q k is = ap (λ (x : PartsValue Shared). x.room) is.1.parts
  turn-room Finished q k is = ap (λ (x : PartsValue Shared). x.room) is.1.parts

module _ {Chip Shared Pins : Type 0} (rules : Rules Chip Shared Pins) (i : ℕ) (l : LockedValue Shared) (hs : Places Chip Pins) (answer : Turn) (l2 : LockedValue Shared) (hs2 : Places Chip Pins)
    (is : IsSection rules i l hs answer l2 hs2) where
  pub moved-exactly : (answer ≡ Moved) ↔ HasTurnAt rules i l hs
  moved-exactly =
      subst (λ (o : Option (HeldValue Chip Pins)). (answer ≡ Moved) ↔ IfSome o (λ h. HasTurn rules l.parts i h.chip)) (sym is.there)
      (moved-turn rules i l.parts is.before answer l2.parts is.after is.turn)

  pub blocked-by : (other : ℕ) (bound : Key) → answer ≡ Blocked other bound → IsBlockedAt rules i l hs other bound
  blocked-by other bound e =
      subst (λ (o : Option (HeldValue Chip Pins)). IfSome o (λ h. IsBlocked rules l.parts i h.chip other bound)) (sym is.there)
      (blocked-turn rules i l.parts is.before answer l2.parts is.after is.turn other bound e)

  pub finished-exactly : (answer ≡ Finished) ↔ IsFinishedAt rules i l hs
  finished-exactly =
      subst (λ (o : Option (HeldValue Chip Pins)). (answer ≡ Finished) ↔ IfSome o (λ h. l.parts.end ≤ (rules.next h.chip).key.cycle)) (sym is.there)
      (finished-turn rules i l.parts is.before answer l2.parts is.after is.turn)
