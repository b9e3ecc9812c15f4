-- The writes that a port holds, as a saved state keeps them: how many, the writes, and zeros in the places that
-- are not used. This project's profile.
use Rattle.std.specs.Prelude.{ℕ, ◌*◌, nat_le, true, Bool, ◌&&◌, List, [], ◌∷◌, drop}
use Rattle.md_fields.specs.Fields.{Field, block, word}
use Rattle.md_fields.specs.Padding.{are_zeros}
use Rattle.sound_writes.specs.Entries.{entries_from}
use Rattle.sound_writes.specs.Held.{limit}

-- at most as many as a port holds, which are right together, and zeros after them
abbrev pub are_writes : {E : Type 0} → ℕ → (ℕ → List ℕ → E) → (List E → Bool) → ℕ → List ℕ → Bool
are_writes size entry right count entries =
    nat_le count limit && (right (entries_from size entry count 0 entries) && are_zeros (drop (size * count) entries))

-- the fields: count and writes are one, whose rule is at the first field
abbrev pub list_fields : ℕ → Bool → ℕ → List ℕ → List Field
list_fields total holds count entries = word count holds ∷ block total entries true ∷ []
