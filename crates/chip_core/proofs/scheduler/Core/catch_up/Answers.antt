use Rattle.std.proofs.Common.{◌≡◌, ◌<◌, slice_set, ap, subst, ◌∙◌, arith, length, vec_capacity, length-set}
use Rattle.std.proofs.lemmas.List.{get_or_read}
use Rattle.chip_core.specs.Chips.{RunsTo}
use Rattle.chip_core.specs.Cores.{CoreValue, IsCore, chip_in, seen}
use Rattle.chip_core.specs.Resting.{CatchesUp, with_chip}
use Rattle.chip_core.proofs.Lists.{core_value}
use Rattle.chip_core.proofs.Waking.{catches-none, catches-some, core-with}
use Rattle.chip_core.proofs.Sampling.{chip-seen}
use Rattle.chip_core.proofs.scheduler.Core.catch_up.Given.{Over}
use Rattle.chip_core.proofs.scheduler.Core.catch_up.Goals as goal

pub returns-then-not-samples_below-clause-on : goal.returns-then-not-samples_below-clause-on
returns-then-not-samples_below-clause-on g c =
    catches-none g.C.ChipSet.rules g.C.ChipSet.chip_ok g.C.ChipSet.shared_ok g.met.C.ChipSet.lawful (seen g.C.ChipSet.rules c.args.self.now) c.requires.keys c.args.chip c.requires.chip c.args.end.now c.args.pins.now
    (λ b. let below = c.samples_below.ensures.value.1 b in let not = c.if-not-samples_below.true in cc)

-- the fields as they were, and as the code left them
abbrev before : (g : Over) → goal.After-self-2-1 g → CoreValue g.row.C-Chip.Denot g.row.C-Shared.Denot
before g c = core_value g.C.ChipSet.rules c.self.inside.shared c.self.inside.chips.items c.self.inside.bounds.items c.self.inside.journal.items (vec_capacity c.self.inside.journal)

abbrev now : (g : Over) → goal.After-self-2-1 g → CoreValue g.row.C-Chip.Denot g.row.C-Shared.Denot
now g c =
    core_value g.C.ChipSet.rules c.self.inside.shared (slice_set c.self.inside.chips.items c.args.chip c.run.new.chip)
    (slice_set c.self.inside.bounds.items c.args.chip c.next-next.result.key) c.self.inside.journal.items (vec_capacity c.self.inside.journal)

inside : (g : Over) (c : goal.After-self-2-1 g) → c.args.chip < length c.self.inside.chips.items
inside g c = omega (arith, c.requires.chip, c.self.invariant.shape.chip_count)

ran : (g : Over) (c : goal.After-self-2-1 g) → RunsTo g.C.ChipSet.rules c.run.result c.args.end.now c.args.pins.now (chip_in g.C.ChipSet.rules c.self.inside.chips.items c.args.chip) c.run.new.chip
ran g c =
    subst (λ x. RunsTo g.C.ChipSet.rules c.run.result c.args.end.now c.args.pins.now x c.run.new.chip)
    (get_or_read c.self.inside.chips.items c.args.chip c.index_mut-held.result.now (inside g c) c.index_mut-held.ensures.value g.C.ChipSet.rules.blank) c.run.ensures

left : (g : Over) (c : goal.After-self-2-1 g) → seen g.C.ChipSet.rules (now g c) ≡ with_chip g.C.ChipSet.rules (seen g.C.ChipSet.rules (before g c)) c.args.chip c.run.new.chip
left g c =
    chip-seen g.C.ChipSet.rules c.self.inside.shared c.self.inside.chips.items c.self.inside.bounds.items c.self.inside.journal.items (vec_capacity c.self.inside.journal) c.args.chip c.run.new.chip c.next-next.result.key
    (inside g c) (omega (arith, c.requires.chip, c.self.invariant.shape.bound_count)) (ap (λ n. n.key) c.next-next.ensures.value)

core : (g : Over) (c : goal.After-self-2-1 g) → IsCore g.C.ChipSet.rules g.C.ChipSet.chip_ok g.C.ChipSet.shared_ok (now g c)
core g c =
    core-with g.C.ChipSet.rules g.C.ChipSet.chip_ok g.C.ChipSet.shared_ok g.met.C.ChipSet.lawful (before g c) (now g c) c.self.invariant c.args.chip c.requires.chip c.args.end.now c.requires.time
    c.args.pins.now c.requires.pins c.run.result c.run.new.chip (ran g c).led
    (length-set c.self.inside.chips.items c.args.chip c.run.new.chip ∙ c.self.invariant.shape.chip_count)
    (length-set c.self.inside.bounds.items c.args.chip c.next-next.result.key ∙ c.self.invariant.shape.bound_count) (left g c)

pub invariant_of-self : goal.invariant_of-self
invariant_of-self g c = core g c

pub returns-clause-on : goal.returns-clause-on
returns-clause-on g c =
    subst (λ (v : CoreValue g.row.C-Chip.Denot g.row.C-Shared.Denot). CatchesUp g.C.ChipSet.rules c.args.end.now c.args.chip c.args.pins.now (seen g.C.ChipSet.rules v) (seen g.C.ChipSet.rules (now g c))) c.self.view_is
    (catches-some g.C.ChipSet.rules g.C.ChipSet.chip_ok g.C.ChipSet.shared_ok g.met.C.ChipSet.lawful (seen g.C.ChipSet.rules (before g c)) (seen g.C.ChipSet.rules (now g c)) c.args.chip c.args.end.now c.args.pins.now c.run.result c.run.new.chip (ran g c) (left g c))

pub returns-clause-core : goal.returns-clause-core
returns-clause-core g c = core g c
