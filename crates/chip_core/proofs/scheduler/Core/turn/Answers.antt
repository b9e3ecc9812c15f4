use Rattle.std.proofs.Common.{sym, ◌∙◌, arith, vec_capacity}
use Rattle.chip_core.specs.Cores.{seen}
use Rattle.chip_core.proofs.Lists.{core_value}
use Rattle.chip_core.proofs.Staying.{free-limit, turn-none}
use Rattle.chip_core.proofs.Turns.{kind-read}
use Rattle.chip_core.proofs.scheduler.Core.turn.Goals as goal

pub returns-then-next-clause-turn : goal.returns-then-next-clause-turn
returns-then-next-clause-turn g c =
    turn-none g.C.ChipSet.rules c.args.t c.args.chip c.args.sleeper (seen g.C.ChipSet.rules c.args.self.now)
    (sym (kind-read g.C.ChipSet.rules (core_value g.C.ChipSet.rules c.self.inside.shared c.self.inside.chips.items c.self.inside.bounds.items c.self.inside.journal.items (vec_capacity c.self.inside.journal))
    c.args.self.now c.args.chip c.self.view_is (omega (arith, c.requires.chip, c.self.invariant.shape.chip_count)) c.index.result.now c.index.ensures c.next.result c.next.ensures.value) ∙ c.if-next.true)

pub stay-requires-clause-time : goal.stay-requires-clause-time
stay-requires-clause-time g c = free-limit c.args.t c.requires.time (seen g.C.ChipSet.rules c.args.self.now).bound g.C.ChipSet.rules.count c.args.chip c.args.sleeper c.free-end.result c.free-end.ensures.free
