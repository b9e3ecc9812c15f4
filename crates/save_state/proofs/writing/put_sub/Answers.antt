use Rattle.std.proofs.Common.{◌≡◌, ◌++◌, ◌∷◌, [], ℕ, List, length, is_some, ap, ◌∙◌, arith}
use Rattle.bus_shared.specs.Board.{Board}
use Rattle.md_chips.specs.Console.{Console}
use Rattle.save_state.specs.States.{holder_of, number_bytes, own_bytes}
use Rattle.save_state.proofs.Parts.{size_left}
use Rattle.save_state.proofs.WriteLaws.{holder_byte, own_cut, own_few, three}
use Rattle.save_state.proofs.writing.put_sub.Goals as goal

pub put_part-requires-clause-there : goal.put_part-requires-clause-there
put_part-requires-clause-there c =
    omega (arith, ap length c.as_slice.ensures.value, c.spell_sub.ensures.long, size_left (is_some c.args.machine.now.console.sub.state.store))

pub own_of-requires : goal.own_of-requires
own_of-requires c =
    omega (arith, ap length c.as_slice-2.ensures.value, c.spell_sub.ensures.long, size_left (is_some c.args.machine.now.console.sub.state.store))

pub put_bytes-requires-2 : goal.put_bytes-requires-2
put_bytes-requires-2 c =
    let m : Console = c.args.machine.now.console in
    let has : c.has_store-has.result ≡ is_some m.shared.store = c.has_store-has.ensures ∙ ap (λ (b : Board). is_some b.store) c.shared.ensures in
    let own = own_cut m c.has_store-has.result c.as_slice-2.result.now c.spell_sub.ensures.sub has (c.as_slice-2.ensures.value ∙ c.spell_sub.ensures.bytes) (ap length c.as_slice-2.ensures.value ∙ c.spell_sub.ensures.long) in
    omega (arith, c.requires.room, c.put_part.ensures.length, c.put_part.ensures.room, c.put_bytes.ensures.length, c.put_bytes.ensures.room, ap length (c.own_of.ensures ∙ own.1), own_few m c.spell_sub.ensures.sub)

pub returns-clause-bytes : goal.returns-clause-bytes
returns-clause-bytes c =
    let m : Console = c.args.machine.now.console in
    let has : c.has_store-has.result ≡ is_some m.shared.store = c.has_store-has.ensures ∙ ap (λ (b : Board). is_some b.store) c.shared.ensures in
    let numbers = own_cut m c.has_store-has.result c.as_slice.result.now c.spell_sub.ensures.sub has (c.as_slice.ensures.value ∙ c.spell_sub.ensures.bytes) (ap length c.as_slice.ensures.value ∙ c.spell_sub.ensures.long) in
    let own = own_cut m c.has_store-has.result c.as_slice-2.result.now c.spell_sub.ensures.sub has (c.as_slice-2.ensures.value ∙ c.spell_sub.ensures.bytes) (ap length c.as_slice-2.ensures.value ∙ c.spell_sub.ensures.long) in
    three c.args.into.now.items (number_bytes m.sub.state) (holder_of m ∷ []) (own_bytes m) c.put_part.new.into.items c.put_bytes.new.into.items c.put_bytes-2.new.into.items
    (c.put_part.ensures.bytes ∙ ap (λ (x : List ℕ). c.args.into.now.items ++ x) numbers.0)
    (c.put_bytes.ensures.bytes ∙ ap (λ (x : List ℕ). c.put_part.new.into.items ++ x) (holder_byte m c.has_store-has.result c.from.result has c.from.ensures))
    (c.put_bytes-2.ensures.bytes ∙ ap (λ (x : List ℕ). c.put_bytes.new.into.items ++ x) (c.own_of.ensures ∙ own.1))

pub returns-clause-length : goal.returns-clause-length
returns-clause-length c =
    let m : Console = c.args.machine.now.console in
    let has : c.has_store-has.result ≡ is_some m.shared.store = c.has_store-has.ensures ∙ ap (λ (b : Board). is_some b.store) c.shared.ensures in
    let own = own_cut m c.has_store-has.result c.as_slice-2.result.now c.spell_sub.ensures.sub has (c.as_slice-2.ensures.value ∙ c.spell_sub.ensures.bytes) (ap length c.as_slice-2.ensures.value ∙ c.spell_sub.ensures.long) in
    omega (arith, c.put_part.ensures.length, c.put_bytes.ensures.length, c.put_bytes-2.ensures.length, ap length (c.own_of.ensures ∙ own.1))

pub returns-clause-few : goal.returns-clause-few
returns-clause-few c = own_few c.args.machine.now.console c.spell_sub.ensures.sub
