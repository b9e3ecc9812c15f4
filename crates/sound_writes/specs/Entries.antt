-- Entries of one size in bytes one after another, each as a table of fields.
use Rattle.std.specs.Prelude.{ℕ, zero, suc, ◌+◌, List, [], ◌∷◌}
use Rattle.std.specs.List.{flat_map}
use Rattle.md_fields.specs.Fields.{AreWithin, Field, spelling}

-- the bytes of entries
abbrev pub entries_bytes : {E : Type 0} → (E → List Field) → List E → List ℕ
entries_bytes fields es = flat_map (λ e. spelling (fields e)) es

-- each number of the entries fits its bytes
abbrev pub AreFit : {E : Type 0} → (E → List Field) → List E → Type 0
AreFit fields [] = Unit {0}
AreFit fields (e ∷ es) = AreWithin (fields e) × AreFit fields es

-- so many entries from an offset on, each read by its offset
abbrev pub entries_from : {E : Type 0} → ℕ → (ℕ → List ℕ → E) → ℕ → ℕ → List ℕ → List E
entries_from size entry zero place bytes = []
entries_from size entry (suc count) place bytes = entry place bytes ∷ entries_from size entry count (place + size) bytes
