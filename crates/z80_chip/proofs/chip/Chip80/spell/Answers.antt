use Rattle.std.proofs.Common.{◌≡◌, ◌++◌, ℕ, true, List, Option, is_some, append_assoc, ap, ◌∙◌, arith}
use Rattle.std.specs.Prelude.{option_map}
use Rattle.md_fields.specs.Fields.{sizes, spelling}
use Rattle.md_fields.proofs.Standing.{long_as_sized}
use Rattle.z80_parcel.specs.Parcels.{Store, store_of}
use Rattle.z80_parcel.specs.Spelling.{store_fields}
use Rattle.z80_chip.specs.Saved.{number_fields}
use Rattle.z80_chip.specs.Validity.{Chip80Value}
use Rattle.z80_chip.specs.Spelling.{chip_bytes, spelled_size}
use Rattle.z80_chip.specs.States.{State80, state_of}
use Rattle.z80_chip.specs.declared.saved.Saved80.{Saved80}
use Rattle.z80_chip.proofs.SpellingLaws.{least, number_size, tail_size, whole_bytes}
use Rattle.z80_chip.proofs.chip.Chip80.spell.Goals as goal

pub put-requires : goal.put-requires
put-requires c = omega (arith, long_as_sized _ c.fields.ensures.sizes ∙ ap sizes c.fields.ensures.fields ∙ number_size c.args.at _ c.of.result, c.requires, least (is_some c.args.self.now.state.store))

pub put_store-requires : goal.put_store-requires
put_store-requires c =
    let store : Option Store = option_map store_of c.self.inside.parcel in
    let size : spelled_size (is_some store) ≡ spelled_size (is_some c.args.self.now.state.store) = ap (λ (v : Chip80Value). spelled_size (is_some v.state.store)) c.self.view_is in
    omega (arith, long_as_sized _ c.fields.ensures.sizes ∙ ap sizes c.fields.ensures.fields ∙ number_size c.args.at _ c.of.result, c.put.ensures.length, c.put.ensures.room, c.requires, size, tail_size store c.self.invariant.valid.store)

pub returns-clause-bytes : goal.returns-clause-bytes
returns-clause-bytes c =
    let state : State80 = state_of c.self.inside.sequencer c.self.inside.parcel in
    c.put_store.ensures.bytes
    ∙ ap (λ (l : List ℕ). l ++ spelling (store_fields true state.store)) c.put.ensures.bytes
    ∙ append_assoc c.args.into.now.items _ (spelling (store_fields true state.store))
    ∙ ap (λ (l : List ℕ). c.args.into.now.items ++ l) (
    ap (λ (l : List ℕ). l ++ spelling (store_fields true state.store)) (ap spelling c.fields.ensures.fields ∙ ap (λ (s : Saved80). spelling (number_fields c.args.at c.is_some-has.result s)) (c.of.ensures c.self.inside.parcel))
    ∙ whole_bytes c.args.at c.is_some-has.result state ∙ ap (λ (v : Chip80Value). chip_bytes v.state) c.self.view_is)

pub returns-clause-kept : goal.returns-clause-kept
returns-clause-kept c = c.is_read_again.ensures c.args.at

pub returns-clause-length : goal.returns-clause-length
returns-clause-length c =
    let store : Option Store = option_map store_of c.self.inside.parcel in
    let size : spelled_size (is_some store) ≡ spelled_size (is_some c.args.self.now.state.store) = ap (λ (v : Chip80Value). spelled_size (is_some v.state.store)) c.self.view_is in
    omega (arith, long_as_sized _ c.fields.ensures.sizes ∙ ap sizes c.fields.ensures.fields ∙ number_size c.args.at _ c.of.result, c.put.ensures.length, c.put_store.ensures.length, size, tail_size store c.self.invariant.valid.store)
