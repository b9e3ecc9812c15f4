-- The bytes of the journal. This project's profile.
use Rattle.std.specs.Prelude.{ℕ, List, [], ◌∷◌, ◌++◌}
use Rattle.byteorder.specs.Endian.{big_bytes}
use Rattle.md_word.specs.declared.event.Entry.{Entry}

-- cycle, chip, kind, address and value
unfoldable pub entry_bytes : Entry → List ℕ
entry_bytes e = big_bytes 8 e.key.cycle ++ e.key.chip ∷ e.kind ∷ [] ++ big_bytes 4 e.address ++ big_bytes 2 e.value
