-- Parts of a state: they lie within it, and what comes first in their bytes comes first in the state.
use Rattle.std.proofs.Common.{◌≡◌, ℕ, ◌+◌, ◌-◌, ◌<◌, ◌≤◌, leb, cond, Bool, true, false, List, [], ◌∷◌, length, get_or, refl, ap, arith, inl, inr}
use Rattle.std.proofs.lemmas.Bool.{cases_lt, leb-true, lt-ltb, le-ltb, and_parts}
use Rattle.save_state.specs.declared.layout.Part.{Part}
use Rattle.save_state.specs.Layout.{are_ordered, place_of, state_size}

-- a test that is not false is true
pub yes : (b : Bool) → ¬ (b ≡ false) → b ≡ true
yes true h = refl
yes false h = absurd (h refl)

-- where parts are after an offset, and how the first and the others do
pub at_most : (from : ℕ) (ps : List Part) → are_ordered from ps ≡ true → from ≤ state_size
at_most from [] e = leb-true from state_size e
at_most from (p ∷ ps) e =
    let h = and_parts (leb from p.place) (are_ordered (p.place + p.size) ps) e in
    omega (arith, leb-true from p.place h.0, at_most (p.place + p.size) ps h.1)

pub first_inside : (from : ℕ) (ps : List Part) (d : Part) → 1 ≤ length ps → are_ordered from ps ≡ true → (get_or ps 0 d).place + (get_or ps 0 d).size ≤ state_size
first_inside from [] d some e = absurd (omega (arith, some))
first_inside from (p ∷ ps) d some e = at_most (p.place + p.size) ps (and_parts _ (are_ordered (p.place + p.size) ps) e).1

-- an offset of the first part, and one after it
place_in : (p q : Part) (ps : List Part) (n : ℕ) → n < p.size → place_of (p ∷ (q ∷ ps)) n ≡ p.place + n
place_in p q ps n lt = ap (λ (b : Bool). cond b (p.place + n) (place_of (q ∷ ps) (n - p.size))) (lt-ltb n p.size lt)

place_after : (p q : Part) (ps : List Part) (n : ℕ) → p.size ≤ n → place_of (p ∷ (q ∷ ps)) n ≡ place_of (q ∷ ps) (n - p.size)
place_after p q ps n le = ap (λ (b : Bool). cond b (p.place + n) (place_of (q ∷ ps) (n - p.size))) (le-ltb n p.size le)

-- no offset is before the first part
pub from_first : (p : Part) (ps : List Part) (from n : ℕ) → are_ordered from (p ∷ ps) ≡ true → from ≤ place_of (p ∷ ps) n
from_first p [] from n e = omega (arith, leb-true from p.place (and_parts _ _ e).0)
from_first p (q ∷ ps) from n e =
    let h = and_parts _ (are_ordered (p.place + p.size) (q ∷ ps)) e in
    let low = leb-true from p.place h.0 in
    elim (cases_lt n p.size) [
      | inl lt ↦ omega (arith, low, place_in p q ps n lt)
      | inr le ↦ omega (arith, low, place_after p q ps n le, from_first q ps (p.place + p.size) (n - p.size) h.1)
    ]

-- a lesser place of the gathered bytes is no greater in the state
pub in_order : (ps : List Part) (from m n : ℕ) → are_ordered from ps ≡ true → m ≤ n → place_of ps m ≤ place_of ps n
in_order [] from m n e le = omega arith
in_order (p ∷ []) from m n e le = omega (arith, le)
in_order (p ∷ (q ∷ ps)) from m n e le =
    let h = and_parts _ (are_ordered (p.place + p.size) (q ∷ ps)) e in
    elim (cases_lt m p.size) [
      | inl low ↦ (elim (cases_lt n p.size) [
        | inl lt ↦ omega (arith, le, place_in p q ps m low, place_in p q ps n lt)
        | inr ge ↦ omega (arith, low, place_in p q ps m low, place_after p q ps n ge, from_first q ps (p.place + p.size) (n - p.size) h.1)
      ])
      | inr high ↦ (let ge : p.size ≤ n = omega (arith, high, le) in
          omega (arith, place_after p q ps m high, place_after p q ps n ge, in_order (q ∷ ps) (p.place + p.size) (m - p.size) (n - p.size) h.1 (omega (arith, le))))
    ]

-- and it is within the state
pub place_inside : (ps : List Part) (from n : ℕ) → are_ordered from ps ≡ true → place_of ps n ≤ state_size
place_inside [] from n e = omega arith
place_inside (p ∷ []) from n e = omega (arith, at_most (p.place + p.size) [] (and_parts _ _ e).1)
place_inside (p ∷ (q ∷ ps)) from n e =
    let h = and_parts _ (are_ordered (p.place + p.size) (q ∷ ps)) e in
    elim (cases_lt n p.size) [
      | inl lt ↦ omega (arith, lt, place_in p q ps n lt, at_most (p.place + p.size) (q ∷ ps) h.1)
      | inr ge ↦ omega (arith, place_after p q ps n ge, place_inside (q ∷ ps) (p.place + p.size) (n - p.size) h.1)
    ]
