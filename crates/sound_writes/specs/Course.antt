-- A chip of any kind S on its way through a list of writes; `written` is the chip after a write.
use Rattle.std.specs.Prelude.{ℕ, nat_lt, if◌then◌else◌, List, [], ◌∷◌}

-- a chip, and the writes that are still to come
pub record Course (A S : Type 0) : Type 0 where
  pub chip : S
  pub rest : List A

-- the chip after these writes
abbrev pub written_all : {A S : Type 0} → (A → S → S) → List A → S → S
written_all written [] s = s
written_all written (w ∷ ws) s = written_all written ws (written w s)

-- the writes made that come before a cycle: in the list's order, up to the first that is stamped at
-- it or later
abbrev pub made_below : {A S : Type 0} → (A → ℕ) → (A → S → S) → ℕ → S → List A → Course A S
made_below stamp written cycle s [] = record { chip = s; rest = [] }
made_below stamp written cycle s (w ∷ ws) =
    if nat_lt (stamp w) cycle then made_below stamp written cycle (written w s) ws else record { chip = s; rest = w ∷ ws }
