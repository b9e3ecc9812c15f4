-- Writes in the order of their stamps, cut and joined.
use Rattle.std.proofs.Common.{◌≡◌, ℕ, ◌+◌, ◌<◌, ◌≤◌, Bool, true, false, cond, not, nat_lt, List, [], ◌∷◌, ◌++◌, length, filter, inl, inr, arith}
use Rattle.std.proofs.lemmas.Bool.{cases_lt, lt-ltb, le-ltb}
use Rattle.sound_writes.specs.Order.{IsInOrder, is_below}
use Rattle.sound_writes.specs.Held.{held_with, limit, taken_below, left_from}

pub IsInOrder-low : {A : Type 0} (stamp : A → ℕ) (a b high : ℕ) (ws : List A) → a ≤ b → IsInOrder stamp b high ws → IsInOrder stamp a high ws
IsInOrder-low stamp a b high [] h o = tt
IsInOrder-low stamp a b high (w ∷ ws) h o = (omega (arith, o.0), o.1, o.2)

pub IsInOrder-high : {A : Type 0} (stamp : A → ℕ) (low a b : ℕ) (ws : List A) → a ≤ b → IsInOrder stamp low a ws → IsInOrder stamp low b ws
IsInOrder-high stamp low a b [] h o = tt
IsInOrder-high stamp low a b (w ∷ ws) h o = (o.0, omega (arith, o.1), IsInOrder-high stamp (stamp w) a b ws h o.2)

pub IsInOrder-filter : {A : Type 0} (stamp : A → ℕ) (p : A → Bool) (low high : ℕ) (ws : List A) → IsInOrder stamp low high ws → IsInOrder stamp low high (filter p ws)
IsInOrder-filter stamp p low high [] o = tt
IsInOrder-filter stamp p low high (w ∷ ws) o =
    let rest = IsInOrder-filter stamp p (stamp w) high ws o.2 in
    elim (p w) as (λ b. IsInOrder stamp low high (cond b (w ∷ filter p ws) (filter p ws))) [
      | true ↦ (o.0, o.1, rest)
      | false ↦ IsInOrder-low stamp low (stamp w) high (filter p ws) o.0 rest
    ]

-- writes after writes that end where they begin
pub IsInOrder-append : {A : Type 0} (stamp : A → ℕ) (cut high low : ℕ) (xs ys : List A) → low ≤ cut → cut ≤ high
    → IsInOrder stamp low cut xs → IsInOrder stamp cut high ys → IsInOrder stamp low high (xs ++ ys)
IsInOrder-append stamp cut high low [] ys h k p q = IsInOrder-low stamp low cut high ys h q
IsInOrder-append stamp cut high low (x ∷ xs) ys h k p q =
    (p.0, omega (arith, p.1, k), IsInOrder-append stamp cut high (stamp x) xs ys (omega (arith, p.1)) k p.2 q)

-- what a port hands on, and what it keeps
pub IsInOrder-taken_below : {A : Type 0} (stamp : A → ℕ) (cycle low high : ℕ) (ws : List A) → IsInOrder stamp low high ws
    → IsInOrder stamp low cycle (taken_below stamp cycle ws)
IsInOrder-taken_below stamp cycle low high [] o = tt
IsInOrder-taken_below stamp cycle low high (w ∷ ws) o =
    let rest = IsInOrder-taken_below stamp cycle (stamp w) high ws o.2 in
    elim (cases_lt (stamp w) cycle) [
      | inl h ↦ (let yes : nat_lt (stamp w) cycle ≡ true = lt-ltb (stamp w) cycle h in
          let longer : IsInOrder stamp low cycle (w ∷ taken_below stamp cycle ws) = (o.0, h, rest) in simp yes longer)
      | inr h ↦ (let no : nat_lt (stamp w) cycle ≡ false = le-ltb (stamp w) cycle h in
          simp no (IsInOrder-low stamp low (stamp w) cycle (taken_below stamp cycle ws) o.0 rest))
    ]

pub IsInOrder-left_from : {A : Type 0} (stamp : A → ℕ) (cycle low high : ℕ) (ws : List A) → IsInOrder stamp low high ws
    → IsInOrder stamp cycle high (left_from stamp cycle ws)
IsInOrder-left_from stamp cycle low high [] o = tt
IsInOrder-left_from stamp cycle low high (w ∷ ws) o = elim (cases_lt (stamp w) cycle) [
  | inl h ↦ (let yes : nat_lt (stamp w) cycle ≡ true = lt-ltb (stamp w) cycle h in
      simp yes (IsInOrder-left_from stamp cycle (stamp w) high ws o.2))
  | inr h ↦ (let no : nat_lt (stamp w) cycle ≡ false = le-ltb (stamp w) cycle h in
      let rest = IsInOrder-filter stamp (λ v. not (is_below stamp cycle v)) (stamp w) high ws o.2 in
      let longer : IsInOrder stamp cycle high (w ∷ left_from stamp cycle ws) = (h, o.1, rest) in simp no longer)
]

-- a write at the latest stamp, or a later one
IsInOrder-push : {A : Type 0} (stamp : A → ℕ) (low high : ℕ) (ws : List A) (v : A) → IsInOrder stamp low (stamp v + 1) ws → low ≤ stamp v
    → stamp v < high → IsInOrder stamp low high (ws ++ v ∷ [])
IsInOrder-push stamp low high [] v o h k = (h, k, tt)
IsInOrder-push stamp low high (w ∷ ws) v o h k =
    (o.0, omega (arith, o.1, k), IsInOrder-push stamp (stamp w) high ws v o.2 (omega (arith, o.1)) k)

pub IsInOrder-held_with : {A : Type 0} (stamp : A → ℕ) (low high : ℕ) (ws : List A) (v : A) → IsInOrder stamp low (stamp v + 1) ws → low ≤ stamp v
    → stamp v < high → IsInOrder stamp low high (held_with ws v)
IsInOrder-held_with stamp low high ws v o h k = elim (cases_lt (length ws) limit) [
  | inl room ↦ (let yes : nat_lt (length ws) limit ≡ true = lt-ltb (length ws) limit room in simp yes (IsInOrder-push stamp low high ws v o h k))
  | inr full ↦ (let no : nat_lt (length ws) limit ≡ false = le-ltb (length ws) limit full in
      simp no (IsInOrder-high stamp low (stamp v + 1) high ws (omega (arith, k)) o))
]
