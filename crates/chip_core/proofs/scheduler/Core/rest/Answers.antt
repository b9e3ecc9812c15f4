use Rattle.std.proofs.Common.{subst, sym}
use Rattle.chip_core.specs.Chips.{Rests}
use Rattle.chip_core.specs.Cores.{chip_in, seen}
use Rattle.chip_core.specs.Resting.{Sleeps}
use Rattle.chip_core.proofs.Lists.{tidy-core}
use Rattle.chip_core.proofs.Waking.{woken-keys, woken-led, woken-less}
use Rattle.chip_core.proofs.scheduler.Core.rest.Goals as goal

pub returns-clause-led : goal.returns-clause-led
returns-clause-led g c =
    woken-led g.C.ChipSet.rules g.C.ChipSet.chip_ok g.C.ChipSet.shared_ok g.met.C.ChipSet.lawful c.args.t c.requires.time (seen g.C.ChipSet.rules c.args.self.now) (seen g.C.ChipSet.rules c.others_on-end.new.self) (seen g.C.ChipSet.rules c.catch_up.new.self) (tidy-core g.C.ChipSet.rules g.C.ChipSet.chip_ok g.C.ChipSet.shared_ok c.args.self.now c.pins_of-pins.ensures.core) c.args.chip c.requires.turn.inside c.pins_of-pins.result c.others_on-end.result c.requires.keys
    (subst (λ p. Rests g.C.ChipSet.rules p (chip_in g.C.ChipSet.rules c.args.self.now.chips c.args.chip)) (sym c.pins_of-pins.ensures.value) c.requires.rests) c.others_on-end.ensures.after
    (subst (λ p. Sleeps g.C.ChipSet.rules c.args.t c.others_on-end.result c.args.chip p (seen g.C.ChipSet.rules c.args.self.now) (seen g.C.ChipSet.rules c.others_on-end.new.self)) (sym c.pins_of-pins.ensures.value) c.others_on-end.ensures.sleeps)
    c.others_on-end.ensures.keys c.catch_up.ensures.on

pub returns-clause-less : goal.returns-clause-less
returns-clause-less g c =
    woken-less g.C.ChipSet.rules g.C.ChipSet.chip_ok g.C.ChipSet.shared_ok g.met.C.ChipSet.lawful c.args.t c.requires.time (seen g.C.ChipSet.rules c.args.self.now) (seen g.C.ChipSet.rules c.others_on-end.new.self) (seen g.C.ChipSet.rules c.catch_up.new.self) (tidy-core g.C.ChipSet.rules g.C.ChipSet.chip_ok g.C.ChipSet.shared_ok c.args.self.now c.pins_of-pins.ensures.core) c.args.chip c.requires.turn.inside c.pins_of-pins.result c.others_on-end.result c.requires.keys
    (subst (λ p. Rests g.C.ChipSet.rules p (chip_in g.C.ChipSet.rules c.args.self.now.chips c.args.chip)) (sym c.pins_of-pins.ensures.value) c.requires.rests) c.others_on-end.ensures.after
    (subst (λ p. Sleeps g.C.ChipSet.rules c.args.t c.others_on-end.result c.args.chip p (seen g.C.ChipSet.rules c.args.self.now) (seen g.C.ChipSet.rules c.others_on-end.new.self)) (sym c.pins_of-pins.ensures.value) c.others_on-end.ensures.sleeps)
    c.others_on-end.ensures.keys c.catch_up.ensures.on

pub returns-clause-keys : goal.returns-clause-keys
returns-clause-keys g c =
    woken-keys g.C.ChipSet.rules g.C.ChipSet.chip_ok g.C.ChipSet.shared_ok g.met.C.ChipSet.lawful c.args.t c.requires.time (seen g.C.ChipSet.rules c.args.self.now) (seen g.C.ChipSet.rules c.others_on-end.new.self) (seen g.C.ChipSet.rules c.catch_up.new.self) (tidy-core g.C.ChipSet.rules g.C.ChipSet.chip_ok g.C.ChipSet.shared_ok c.args.self.now c.pins_of-pins.ensures.core) c.args.chip c.requires.turn.inside c.pins_of-pins.result c.others_on-end.result c.requires.keys
    (subst (λ p. Rests g.C.ChipSet.rules p (chip_in g.C.ChipSet.rules c.args.self.now.chips c.args.chip)) (sym c.pins_of-pins.ensures.value) c.requires.rests) c.others_on-end.ensures.after
    (subst (λ p. Sleeps g.C.ChipSet.rules c.args.t c.others_on-end.result c.args.chip p (seen g.C.ChipSet.rules c.args.self.now) (seen g.C.ChipSet.rules c.others_on-end.new.self)) (sym c.pins_of-pins.ensures.value) c.others_on-end.ensures.sleeps)
    c.others_on-end.ensures.keys c.catch_up.ensures.on
