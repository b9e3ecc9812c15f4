use Rattle.std.proofs.Common.{◌+◌, refl, arith}
use Rattle.chip_core.specs.Chips.{Lawful}
use Rattle.chip_core.proofs.Going.{below-end, more-samples, samples-few, samples-risen}
use Rattle.chip_core.proofs.ahead.run.Given.{Over}
use Rattle.chip_core.proofs.ahead.run.Goals as goal

lawful : (g : Over) → Lawful g.C.ChipSet.rules g.C.ChipSet.chip_ok g.C.ChipSet.shared_ok
lawful g = g.met.C.ChipSet.lawful

pub overflow_add-samples : goal.overflow_add-samples
overflow_add-samples g c =
    let few = samples-few g.C.ChipSet.rules g.C.ChipSet.chip_ok g.C.ChipSet.shared_ok (lawful g) c.args.pins.now (g.C.ChipSet.rules.next c.args.chip.now).key.chip c.requires.pins c.requires.number c.args.until.now c.requires.time (c.loop-chip.samples + c.sample_ahead-samples-in-loop-chip.result) c.args.chip.now c.sample_ahead-samples-in-loop-chip.new.chip c.next-first.ensures.ok refl
    (more-samples g.C.ChipSet.rules c.loop-chip.samples c.sample_ahead-samples-in-loop-chip.result c.args.until.now c.args.pins.now c.args.chip.now c.loop-chip.chip c.sample_ahead-samples-in-loop-chip.new.chip c.loop-chip.invariant c.sample_ahead-samples-in-loop-chip.ensures) in
    omega arith

pub loop-chip-smaller : goal.loop-chip-smaller
loop-chip-smaller g c =
    let found = samples-risen g.C.ChipSet.rules g.C.ChipSet.chip_ok g.C.ChipSet.shared_ok (lawful g) c.args.pins.now (g.C.ChipSet.rules.next c.args.chip.now).key.chip c.requires.pins c.requires.number c.args.until.now c.requires.time c.loop-chip.samples c.args.chip.now c.loop-chip.chip c.next-first.ensures.ok refl c.loop-chip.invariant in
    let rise = samples-risen g.C.ChipSet.rules g.C.ChipSet.chip_ok g.C.ChipSet.shared_ok (lawful g) c.args.pins.now (g.C.ChipSet.rules.next c.args.chip.now).key.chip c.requires.pins c.requires.number c.args.until.now c.requires.time c.sample_ahead-samples-in-loop-chip.result c.loop-chip.chip c.sample_ahead-samples-in-loop-chip.new.chip found.ok found.number c.sample_ahead-samples-in-loop-chip.ensures in
    let later = rise.later in
    let some = c.sample_ahead-samples-in-loop-chip.ensures.some in
    let low = below-end (g.C.ChipSet.rules.next c.loop-chip.chip).key c.args.until.now (c.samples_below.ensures.value.0 c.loop-chip-test.true).1 in
    omega (arith, later, some, low)

pub loop-chip-preserved : goal.loop-chip-preserved
loop-chip-preserved g c = (more-samples g.C.ChipSet.rules c.loop-chip.samples c.sample_ahead-samples-in-loop-chip.result c.args.until.now c.args.pins.now c.args.chip.now c.loop-chip.chip c.sample_ahead-samples-in-loop-chip.new.chip c.loop-chip.invariant c.sample_ahead-samples-in-loop-chip.ensures)
