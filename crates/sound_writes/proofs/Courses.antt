-- Courses that are cut and joined.
use Rattle.std.proofs.Common.{◌≡◌, ◌∙◌, refl, ap, ℕ, ◌+◌, ◌<◌, ◌≤◌, List, [], ◌∷◌, ◌++◌, length, get_or, take, arith}
use Rattle.std.proofs.lemmas.List.{take_more}
use Rattle.sound_writes.specs.Course.{Course, written_all, made_below}

-- the course with the writes made that come before a cycle
abbrev pub due : {A S : Type 0} → (A → ℕ) → (A → S → S) → ℕ → Course A S → Course A S
due stamp written cycle c = made_below stamp written cycle c.chip c.rest

-- the chip after all writes of a course
abbrev pub finished : {A S : Type 0} → (A → S → S) → Course A S → S
finished written c = written_all written c.rest c.chip

pub due-made_below : {A S : Type 0} (stamp : A → ℕ) (written : A → S → S) (a b : ℕ) → a ≤ b → (s : S) (ws : List A)
    → due stamp written b (made_below stamp written a s ws) ≡ made_below stamp written b s ws
due-made_below stamp written a b h s [] = refl
due-made_below stamp written a b h s (w ∷ ws) = grind (arith, due-made_below stamp written a b h (written w s) ws)

pub finished-made_below : {A S : Type 0} (stamp : A → ℕ) (written : A → S → S) (a : ℕ) (s : S) (ws : List A)
    → finished written (made_below stamp written a s ws) ≡ written_all written ws s
finished-made_below stamp written a s [] = refl
finished-made_below stamp written a s (w ∷ ws) = grind (arith, finished-made_below stamp written a (written w s) ws)

pub made_below-zero : {A S : Type 0} (stamp : A → ℕ) (written : A → S → S) (s : S) (ws : List A)
    → made_below stamp written 0 s ws ≡ record { chip = s; rest = ws }
made_below-zero stamp written s [] = refl
made_below-zero stamp written s (w ∷ ws) = grind arith

pub written_all-append : {A S : Type 0} (written : A → S → S) (xs ys : List A) (s : S)
    → written_all written (xs ++ ys) s ≡ written_all written ys (written_all written xs s)
written_all-append written [] ys s = refl
written_all-append written (x ∷ xs) ys s = written_all-append written xs ys (written x s)

-- one more write
pub written_all-more : {A S : Type 0} (written : A → S → S) (ws : List A) (i : ℕ) (d : A) (s : S) → i < length ws
    → written_all written (take (i + 1) ws) s ≡ written (get_or ws i d) (written_all written (take i ws) s)
written_all-more written ws i d s h =
    ap (λ xs. written_all written xs s) (take_more ws i d h) ∙ written_all-append written (take i ws) (get_or ws i d ∷ []) s
