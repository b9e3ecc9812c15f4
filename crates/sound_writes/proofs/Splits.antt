-- Writes in order come before a cycle exactly where they are stamped below it.
use Rattle.std.proofs.Common.{◌≡◌, refl, sym, ℕ, ◌<◌, ◌≤◌, true, false, nat_lt, nat_le, List, [], ◌∷◌, filter, inl, inr, arith}
use Rattle.std.proofs.lemmas.Bool.{lt-ltb, le-ltb, le-leb, lt-leb, cases_lt}
use Rattle.sound_writes.specs.Course.{written_all, made_below}
use Rattle.sound_writes.specs.Order.{is_below, is_from, IsInOrder}
use Rattle.sound_writes.proofs.Filters.{filter-none, filter-all}

abbrev pub IsSplit : {A S : Type 0} (stamp : A → ℕ) (written : A → S → S) → ℕ → S → List A → Type 0
IsSplit stamp written cycle s ws =
    made_below stamp written cycle s ws
    ≡ record { chip = written_all written (filter (is_below stamp cycle) ws) s; rest = filter (is_from stamp cycle) ws }

IsSplit-made : {A S : Type 0} (stamp : A → ℕ) (written : A → S → S) (cycle : ℕ) (s : S) (w : A) (ws : List A) → stamp w < cycle
    → IsSplit stamp written cycle (written w s) ws → IsSplit stamp written cycle s (w ∷ ws)
IsSplit-made stamp written cycle s w ws h e =
    let yes : nat_lt (stamp w) cycle ≡ true = lt-ltb (stamp w) cycle h in
    let no : nat_le cycle (stamp w) ≡ false = lt-leb cycle (stamp w) h in
    simp (yes, no) e

IsSplit-waits : {A S : Type 0} (stamp : A → ℕ) (written : A → S → S) (cycle : ℕ) (s : S) (w : A) (ws : List A) → cycle ≤ stamp w
    → filter (is_below stamp cycle) ws ≡ [] → filter (is_from stamp cycle) ws ≡ ws → IsSplit stamp written cycle s (w ∷ ws)
IsSplit-waits {A = A} {S = S} stamp written cycle s w ws h none all =
    let no : nat_lt (stamp w) cycle ≡ false = le-ltb (stamp w) cycle h in
    let yes : nat_le cycle (stamp w) ≡ true = le-leb cycle (stamp w) h in
    simp (yes, no) (λ i. record { chip = written_all {A = A} {S = S} written (sym none i) s; rest = w ∷ sym all i })

pub made_below-in_order : {A S : Type 0} (stamp : A → ℕ) (written : A → S → S) (cycle low high : ℕ) (s : S) (ws : List A)
    → IsInOrder stamp low high ws → IsSplit stamp written cycle s ws
made_below-in_order stamp written cycle low high s [] o = refl
made_below-in_order stamp written cycle low high s (w ∷ ws) o = elim (cases_lt (stamp w) cycle) [
  | inl h ↦ IsSplit-made stamp written cycle s w ws h (made_below-in_order stamp written cycle (stamp w) high (written w s) ws o.2)
  | inr h ↦ IsSplit-waits stamp written cycle s w ws h
      (filter-none stamp (is_below stamp cycle) (stamp w) high ws o.2 (λ v k l. le-ltb (stamp v) cycle (omega (arith, h, k))))
      (filter-all stamp (is_from stamp cycle) (stamp w) high ws o.2 (λ v k l. le-leb cycle (stamp v) (omega (arith, h, k))))
]
