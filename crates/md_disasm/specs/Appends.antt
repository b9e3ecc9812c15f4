-- What a call that appends to a text leaves.
use Rattle.std.specs.Prelude.{ℕ, ◌≡◌, List, ◌++◌, Result, OnOk}

-- a text was appended, where memory was there
abbrev pub Appends : {E : Type 0} → Result (Unit {0}) E → List ℕ → List ℕ → List ℕ → Type 0
Appends result old new piece = OnOk result (new ≡ old ++ piece)
