use Rattle.chip_core.specs.Cores.{seen}
use Rattle.chip_core.specs.Events.{IsTidy}
use Rattle.chip_core.proofs.Lists.{tidy-core}
use Rattle.chip_core.proofs.Staying.{keys-turn, turn-fewer, turn-led}
use Rattle.chip_core.proofs.Turns.{own-place, reaches-on, turn-enabled}
use Rattle.chip_core.proofs.scheduler.Core.go_on.Given.{Over}
use Rattle.chip_core.proofs.scheduler.Core.go_on.Goals as goal

pub turn-requires-clause-room : goal.turn-requires-clause-room
turn-requires-clause-room g c =
    own-place g.C.ChipSet.rules c.args.t c.args.self.now.room (seen g.C.ChipSet.rules c.args.self.now) c.requires.room c.args.chip (turn-enabled g.C.ChipSet.rules c.args.t (seen g.C.ChipSet.rules c.args.self.now) c.args.chip c.requires.turn)

pub sample_on-requires-clause-keys : goal.sample_on-requires-clause-keys
sample_on-requires-clause-keys g c =
    keys-turn g.C.ChipSet.rules c.args.t c.args.chip c.args.chip (seen g.C.ChipSet.rules c.args.self.now) (seen g.C.ChipSet.rules c.turn.new.self) c.turn.result c.requires.keys c.turn.ensures.turn

tidy : (g : Over) (c : goal.After-sample_on g) → IsTidy g.C.ChipSet.rules g.C.ChipSet.chip_ok g.C.ChipSet.shared_ok (seen g.C.ChipSet.rules c.args.self.now)
tidy g c = tidy-core g.C.ChipSet.rules g.C.ChipSet.chip_ok g.C.ChipSet.shared_ok c.args.self.now c.if-rests.ensures.core

pub returns-clause-led : goal.returns-clause-led
returns-clause-led g c =
    reaches-on g.C.ChipSet.rules c.args.t (seen g.C.ChipSet.rules c.args.self.now) (seen g.C.ChipSet.rules c.turn.new.self) (seen g.C.ChipSet.rules c.sample_on.new.self)
    (turn-led g.C.ChipSet.rules g.C.ChipSet.chip_ok g.C.ChipSet.shared_ok g.met.C.ChipSet.lawful (seen g.C.ChipSet.rules c.args.self.now) (tidy g c) c.args.chip c.requires.turn.inside c.args.t c.requires.time
    (seen g.C.ChipSet.rules c.turn.new.self) c.turn.result c.turn.ensures.turn)
    c.sample_on.ensures.led

pub returns-clause-less : goal.returns-clause-less
returns-clause-less g c =
    turn-fewer g.C.ChipSet.rules g.C.ChipSet.chip_ok g.C.ChipSet.shared_ok g.met.C.ChipSet.lawful (seen g.C.ChipSet.rules c.args.self.now) (tidy g c) c.args.chip c.requires.turn.inside c.args.t c.requires.time c.args.chip
    (seen g.C.ChipSet.rules c.turn.new.self) c.turn.result c.turn.ensures.turn (seen g.C.ChipSet.rules c.sample_on.new.self) c.requires.keys c.sample_on.ensures.keys c.sample_on.ensures.led
    (λ e. (c.requires.turn.inside, e, c.requires.turn.low, λ k q ne _. c.requires.turn.first k q ne)) c.sample_on.ensures.ended
