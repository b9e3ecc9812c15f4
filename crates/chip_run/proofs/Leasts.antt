-- The chip of least bound.
use Rattle.std.proofs.Common.{◌≡◌, ◌≢◌, ℕ, zero, suc, ◌<◌, ◌≤◌, true, false, sym, subst, arith, ◌⊎◌, inl, inr, List, length}
use Rattle.std.proofs.lemmas.Bool.{cases_lt}
use Rattle.std.proofs.lemmas.Bool.Decides.{nat_tests}
use Rattle.md_word.specs.declared.key.Key.{Key}
use Rattle.md_word.specs.Keys.{key_lt}
use Rattle.chip_core.specs.Chips.{Lawful, Rules}
use Rattle.chip_core.specs.Cores.{bound_in}
use Rattle.chip_core.specs.Looks.{IsFirst}
use Rattle.chip_core.specs.Machines.{least_below}
use Rattle.chip_core.proofs.Keys.{least-is, rank, rank-not_lt}
use Rattle.chip_run.specs.Held.{HeldValue}
use Rattle.chip_run.specs.Parts.{PartsValue}
use Rattle.chip_run.specs.Sections.{IsFound}
use Rattle.chip_run.specs.Steps.{HasTurn, IsLeastBound}

least-at : (key : ℕ → Key) (n : ℕ) → 1 ≤ n → ((i : ℕ) → i < n → (key i).chip < 8) → (i : ℕ) → i < n → rank (key (least_below key n)) ≤ rank (key i)
least-at key zero some small i low = absurd (omega arith)
least-at key (suc n) some small i low = least-is key n small i low

-- no bound is below the least
pub least-of : (bounds : List Key) (i : ℕ) → ((j : ℕ) → j < length bounds → (bound_in bounds j).chip < 8) → i < length bounds → i ≡ least_below (bound_in bounds) (length bounds)
    → (j : ℕ) → j < length bounds → key_lt (bound_in bounds j) (bound_in bounds i) ≡ false
least-of bounds i small inside is j low =
    rank-not_lt (bound_in bounds j) (bound_in bounds i) (small j low) (small i inside)
    (subst (λ x. rank (bound_in bounds x) ≤ rank (bound_in bounds j)) (sym is) (least-at (bound_in bounds) (length bounds) (omega arith) small j low))

lesser-chip : (a b : Key) → a.chip < b.chip → key_lt b a ≡ false → key_lt a b ≡ true
lesser-chip a b less p = grind (arith, nat_tests)

greater-chip : (a b : Key) → b.chip < a.chip → key_lt b a ≡ false → key_lt a b ≡ true
greater-chip a b less p = grind (arith, nat_tests)

-- of the keys of two chips one is below the other
other-key : (a b : Key) → a.chip ≢ b.chip → key_lt b a ≡ false → key_lt a b ≡ true
other-key a b ne p = go (cases_lt a.chip b.chip) (cases_lt b.chip a.chip)
  where
    go : (a.chip < b.chip) ⊎ (b.chip ≤ a.chip) → (b.chip < a.chip) ⊎ (a.chip ≤ b.chip) → key_lt a b ≡ true
    go (inl less) q = lesser-chip a b less p
    go (inr le) (inl less) = greater-chip a b less p
    go (inr le) (inr ge) = absurd (ne (omega arith))

module _ {Chip Shared Pins : Type 0} (rules : Rules Chip Shared Pins) (chip_ok : Chip → Type 0) (shared_ok : Shared → Type 0) (law : Lawful rules chip_ok shared_ok) where
  -- where the least bound is its chip's key, all bounds are above that key
  first-least : (p : PartsValue Shared) (i total : ℕ) (h : HeldValue Chip Pins) → IsFound rules i p h total → IsLeastBound p i → bound_in p.bounds i ≡ (rules.next h.chip).key → IsFirst rules (rules.next h.chip) p.bounds i
  first-least p i total h found least reported j low looks =
      let few = law.few in
      let many = found.bound_count in
      subst (λ (k : Key). key_lt k (bound_in p.bounds j) ≡ true) reported
      (other-key (bound_in p.bounds i) (bound_in p.bounds j)
      (λ e. looks.0 (let a = found.bound_number i found.inside in let b = found.bound_number j (omega arith) in omega (arith, e)))
      (least-of p.bounds i (λ k q. let b = found.bound_number k (omega arith) in omega arith) least.inside least.least j low))

  -- it then has its turn
  pub turn-least : (p : PartsValue Shared) (i total : ℕ) (h : HeldValue Chip Pins) → IsFound rules i p h total → IsLeastBound p i → bound_in p.bounds i ≡ (rules.next h.chip).key → HasTurn rules p i h.chip
  turn-least p i total h found least reported = record {
    early = subst (λ (k : Key). k.cycle < p.end) reported least.early;
    first = first-least p i total h found least reported;
  }
