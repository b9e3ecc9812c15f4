-- How many writes a port holds and hands on, and what holds of each of them.
use Rattle.std.proofs.Common.{◌≡◌, ℕ, ◌≤◌, Bool, true, false, nat_lt, List, [], ◌∷◌, ◌++◌, length, filter, inl, inr, length-append, arith}
use Rattle.std.specs.Prelude.{All}
use Rattle.std.proofs.lemmas.Bool.{cases_lt, lt-ltb, le-ltb}
use Rattle.std.proofs.lemmas.List.Elements.{All-push}
use Rattle.std.proofs.lemmas.List.Sums.{length-filter, count_by-le-length}
use Rattle.sound_writes.specs.Held.{held_with, limit}

-- a part is no longer than the whole
pub length-filter-most : {A : Type 0} (p : A → Bool) (m : ℕ) (ws : List A) → length ws ≤ m → length (filter p ws) ≤ m
length-filter-most p m ws h = omega (arith, length-filter p ws, count_by-le-length p ws, h)

pub length-held_with : {A : Type 0} (ws : List A) (w : A) → length ws ≤ limit → length (held_with ws w) ≤ limit
length-held_with ws w h = elim (cases_lt (length ws) limit) [
  | inl room ↦ (let yes : nat_lt (length ws) limit ≡ true = lt-ltb (length ws) limit room in
      let longer : length (ws ++ w ∷ []) ≤ limit = simp length-append (omega (arith, room)) in simp yes longer)
  | inr full ↦ (let no : nat_lt (length ws) limit ≡ false = le-ltb (length ws) limit full in simp no h)
]

pub All-held_with : {A : Type 0} (P : A → Type 0) (ws : List A) (w : A) → All P ws → P w → All P (held_with ws w)
All-held_with P ws w h here = elim (cases_lt (length ws) limit) [
  | inl room ↦ (let yes : nat_lt (length ws) limit ≡ true = lt-ltb (length ws) limit room in
      let longer : All P (ws ++ w ∷ []) = All-push P ws w h here in simp yes longer)
  | inr full ↦ (let no : nat_lt (length ws) limit ≡ false = le-ltb (length ws) limit full in simp no h)
]
