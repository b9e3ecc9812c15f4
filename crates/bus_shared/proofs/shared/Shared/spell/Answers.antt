use Rattle.std.proofs.Common.{◌∙◌, ◌++◌, ℕ, List, length, is_some, ap, refl, arith}
use Rattle.md_fields.specs.Fields.{Field, spelling}
use Rattle.std.specs.Prelude.{option_map}
use Rattle.z80_parcel.specs.Parcels.{store_of}
use Rattle.bus_shared.specs.Board.{Board}
use Rattle.bus_shared.specs.Spelling.{board_size, lines_bytes}
use Rattle.bus_shared.proofs.Keeping.{board_spelled}
use Rattle.bus_shared.proofs.SavedLaws.{five, lines_length, same_bytes}
use Rattle.bus_shared.proofs.SpellingLaws.{board_long, store_long}
use Rattle.bus_shared.proofs.shared.Shared.spell.Goals as goal

pub put_store-requires : goal.put_store-requires
put_store-requires c =
    let store = option_map store_of c.self.inside.parcel in
    omega (arith, c.requires.room, store_long store c.self.invariant.0.store, board_long (is_some store), ap (λ (b : Board). board_size (is_some b.store)) c.self.view_is)

pub spell-requires-clause-room : goal.spell-requires-clause-room
spell-requires-clause-room c =
    let store = option_map store_of c.self.inside.parcel in
    omega (
      arith,
      c.requires.room,
      store_long store c.self.invariant.0.store,
      board_long (is_some store),
      ap (λ (b : Board). board_size (is_some b.store)) c.self.view_is,
      c.put_store.ensures.length,
      c.put_store.ensures.room,
    )

pub spell-requires-2-clause-room : goal.spell-requires-2-clause-room
spell-requires-2-clause-room c =
    let store = option_map store_of c.self.inside.parcel in
    omega (
      arith,
      c.requires.room,
      store_long store c.self.invariant.0.store,
      board_long (is_some store),
      ap (λ (b : Board). board_size (is_some b.store)) c.self.view_is,
      c.put_store.ensures.length,
      c.put_store.ensures.room,
      c.spell.ensures.length,
      c.spell.ensures.room,
    )

pub spell-requires-3 : goal.spell-requires-3
spell-requires-3 c =
    let store = option_map store_of c.self.inside.parcel in
    omega (
      arith,
      c.requires.room,
      store_long store c.self.invariant.0.store,
      board_long (is_some store),
      ap (λ (b : Board). board_size (is_some b.store)) c.self.view_is,
      c.put_store.ensures.length,
      c.put_store.ensures.room,
      c.spell.ensures.length,
      c.spell.ensures.room,
      c.spell-2.ensures.length,
      c.spell-2.ensures.room,
    )

-- the fields of the lines and the pads have 36 bytes, and are those of the board
pub put-requires : goal.put-requires
put-requires c =
    let store = option_map store_of c.self.inside.parcel in
    omega (
      arith,
      c.requires.room,
      store_long store c.self.invariant.0.store,
      board_long (is_some store),
      ap (λ (b : Board). board_size (is_some b.store)) c.self.view_is,
      c.put_store.ensures.length,
      c.put_store.ensures.room,
      c.spell.ensures.length,
      c.spell.ensures.room,
      c.spell-2.ensures.length,
      c.spell-2.ensures.room,
      c.spell-3.ensures.length,
      c.spell-3.ensures.room,
      ap (λ (fields : List Field). length (spelling fields)) c.fields.ensures.fields ∙ lines_length c.args.at c.saved_lines.result,
    )

pub returns-clause-bytes : goal.returns-clause-bytes
returns-clause-bytes c =
    five c.args.into.now.items _ _ _ _ _ _ _ _ _ _ c.put_store.ensures.bytes c.spell.ensures.bytes c.spell-2.ensures.bytes c.spell-3.ensures.bytes (c.put.ensures.bytes ∙ ap (λ (l : List ℕ). c.spell-3.new.into.items ++ l) (ap spelling c.fields.ensures.fields ∙ same_bytes c.args.at 0 c.saved_lines.result ∙ ap lines_bytes c.saved_lines.ensures))
    ∙ rw (c.deref.ensures, c.deref-2.ensures, c.deref-3.ensures, ← c.self.view_is) refl

pub returns-clause-length : goal.returns-clause-length
returns-clause-length c =
    let store = option_map store_of c.self.inside.parcel in
    omega (
      arith,
      store_long store c.self.invariant.0.store,
      board_long (is_some store),
      ap (λ (b : Board). board_size (is_some b.store)) c.self.view_is,
      c.put_store.ensures.length,
      c.spell.ensures.length,
      c.spell-2.ensures.length,
      c.spell-3.ensures.length,
      c.put.ensures.length,
      ap (λ (fields : List Field). length (spelling fields)) c.fields.ensures.fields ∙ lines_length c.args.at c.saved_lines.result,
    )

pub returns-clause-kept : goal.returns-clause-kept
returns-clause-kept c = rw (← c.self.view_is) (λ is.
    board_spelled c.args.at _ c.requires.cycle c.self.invariant.0 is
    (rw c.deref.ensures at (c.spell.ensures.kept c.args.at (omega arith) (rw c.deref.ensures is.vdp)))
    (rw c.deref-2.ensures at (c.spell-2.ensures.kept (rw c.deref-2.ensures is.timers) (rw c.deref-2.ensures is.fm)))
    (rw c.deref-3.ensures at (c.spell-3.ensures.kept c.args.at (rw c.deref-3.ensures is.psg))))
