use Rattle.std.proofs.Common.{map, string_bytes, IsOk, arith, refl}
use Rattle.std.proofs.lemmas.List.{map_push}
use Rattle.md_outer.proofs.Places.{AreApart-push}
use Rattle.md_outer.proofs.names.Names.add.Goals as goal

-- the push finds its room, and adds the name
pub invariant_of-self-2-clause-apart : goal.invariant_of-self-2-clause-apart
invariant_of-self-2-clause-apart c =
    let pushed : IsOk c.push.result = c.push.ensures.succeeds (omega (arith, c.in_ok-reserve.ensures.ok)) in
    let grown = rw pushed at c.push.ensures.items in
    AreApart-push (map string_bytes c.args.self.now.held.items) _ c.args.name.now c.args.self.now.apart c.requires.new
    (rw (grown, c.in_ok-reserve.ensures.items, map_push, c.in_ok-name.ensures.ok) refl)
