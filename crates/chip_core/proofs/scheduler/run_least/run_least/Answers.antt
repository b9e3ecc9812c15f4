use Rattle.std.proofs.Common.{subst, sym, ◌∙◌}
use Rattle.chip_core.specs.Cores.{seen}
use Rattle.chip_core.specs.Events.{HasRoom}
use Rattle.chip_core.proofs.Lists.{tidy-core}
use Rattle.chip_core.proofs.Turns.{ends-there, first-quiet, first-there, first-turn, reaches-on, room-there}
use Rattle.chip_core.proofs.scheduler.run_least.run_least.Goals as goal

pub go_on-requires-clause-turn : goal.go_on-requires-clause-turn
go_on-requires-clause-turn g c =
    first-turn g.C.ChipSet.rules g.C.ChipSet.chip_ok g.C.ChipSet.shared_ok g.met.C.ChipSet.lawful c.args.t c.requires.time (seen g.C.ChipSet.rules c.loop-chip.core) (tidy-core g.C.ChipSet.rules g.C.ChipSet.chip_ok g.C.ChipSet.shared_ok c.loop-chip.core c.loop-chip.invariant.core) c.loop-chip.invariant.keys c.in-Some.chip c.in-Some.ensures.found.0 c.in-Some.ensures.found.1

pub go_on-requires-clause-room : goal.go_on-requires-clause-room
go_on-requires-clause-room g c =
    room-there g.C.ChipSet.rules g.C.ChipSet.chip_ok g.C.ChipSet.shared_ok g.met.C.ChipSet.lawful c.args.t c.loop-chip.core.room (seen g.C.ChipSet.rules c.args.core.now) (seen g.C.ChipSet.rules c.loop-chip.core)
    (subst (λ r. HasRoom g.C.ChipSet.rules c.args.t (seen g.C.ChipSet.rules c.args.core.now) r) (sym c.loop-chip.invariant.room) c.requires.room) c.loop-chip.invariant.led

pub loop-chip-preserved : goal.loop-chip-preserved
loop-chip-preserved g c = record {
  led = reaches-on g.C.ChipSet.rules c.args.t (seen g.C.ChipSet.rules c.args.core.now) (seen g.C.ChipSet.rules c.loop-chip.core) (seen g.C.ChipSet.rules c.go_on.new.self) c.loop-chip.invariant.led c.go_on.ensures.led;
  keys = c.go_on.ensures.keys;
  room = c.go_on.ensures.room ∙ c.loop-chip.invariant.room;
  core = c.go_on.ensures.core;
}

pub returns-clause-run : goal.returns-clause-run
returns-clause-run g c =
    ends-there g.C.ChipSet.rules g.C.ChipSet.chip_ok g.C.ChipSet.shared_ok g.met.C.ChipSet.lawful c.args.core.now c.loop-chip.core c.known.ensures c.loop-chip.invariant.core c.args.t c.requires.time c.loop-chip.invariant.led
    (first-quiet g.C.ChipSet.rules g.C.ChipSet.chip_ok g.C.ChipSet.shared_ok g.met.C.ChipSet.lawful c.args.t c.requires.time (seen g.C.ChipSet.rules c.loop-chip.core) (tidy-core g.C.ChipSet.rules g.C.ChipSet.chip_ok g.C.ChipSet.shared_ok c.loop-chip.core c.loop-chip.invariant.core) c.loop-chip.invariant.keys c.in_default.ensures.found)

pub returns-clause-first : goal.returns-clause-first
returns-clause-first g c =
    first-there g.C.ChipSet.rules g.C.ChipSet.chip_ok g.C.ChipSet.shared_ok g.met.C.ChipSet.lawful c.args.core.now c.loop-chip.core c.known.ensures c.loop-chip.invariant.core c.args.t c.requires.time c.loop-chip.invariant.led
    (first-quiet g.C.ChipSet.rules g.C.ChipSet.chip_ok g.C.ChipSet.shared_ok g.met.C.ChipSet.lawful c.args.t c.requires.time (seen g.C.ChipSet.rules c.loop-chip.core) (tidy-core g.C.ChipSet.rules g.C.ChipSet.chip_ok g.C.ChipSet.shared_ok c.loop-chip.core c.loop-chip.invariant.core) c.loop-chip.invariant.keys c.in_default.ensures.found)
