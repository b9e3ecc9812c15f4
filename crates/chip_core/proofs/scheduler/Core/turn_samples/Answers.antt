use Rattle.std.proofs.Common.{◌<◌, slice_set, ap, sym, subst, ◌∙◌, arith, length, vec_capacity, length-set}
use Rattle.std.proofs.lemmas.List.{get_or_read}
use Rattle.md_word.specs.Clock.{cycle_limit}
use Rattle.chip_core.specs.Chips.{SamplesTo}
use Rattle.chip_core.specs.Cores.{CoreValue, IsCore, seen}
use Rattle.chip_core.specs.Events.{SamplesOn}
use Rattle.chip_core.specs.Looks.{IsLimit}
use Rattle.chip_core.proofs.Lists.{core_value}
use Rattle.chip_core.proofs.Sampling.{chip-seen, core-sampled, limit-cycle, samples-on}
use Rattle.chip_core.proofs.scheduler.Core.turn_samples.Given.{Over}
use Rattle.chip_core.proofs.scheduler.Core.turn_samples.Goals as goal

pub sample_ahead-requires-clause-time : goal.sample_ahead-requires-clause-time
sample_ahead-requires-clause-time g c = limit-cycle g.C.ChipSet.rules cycle_limit (seen g.C.ChipSet.rules c.args.self.now).bound g.C.ChipSet.rules.count c.args.chip c.args.end.now c.requires.limit

-- the fields as they were, and as the code left them
abbrev before : (g : Over) → goal.After-self-2-1 g → CoreValue g.row.C-Chip.Denot g.row.C-Shared.Denot
before g c = core_value g.C.ChipSet.rules c.self.inside.shared c.self.inside.chips.items c.self.inside.bounds.items c.self.inside.journal.items (vec_capacity c.self.inside.journal)

abbrev now : (g : Over) → goal.After-self-2-1 g → CoreValue g.row.C-Chip.Denot g.row.C-Shared.Denot
now g c =
    core_value g.C.ChipSet.rules c.self.inside.shared (slice_set c.self.inside.chips.items c.args.chip c.sample_ahead.new.chip)
    (slice_set c.self.inside.bounds.items c.args.chip c.next-next.result.key) c.self.inside.journal.items (vec_capacity c.self.inside.journal)

inside : (g : Over) (c : goal.After-self-2-1 g) → c.args.chip < length c.self.inside.chips.items
inside g c = omega (arith, c.requires.chip, c.self.invariant.shape.chip_count)

on : (g : Over) (c : goal.After-self-2-1 g) → SamplesOn g.C.ChipSet.rules c.args.end.now c.args.chip (seen g.C.ChipSet.rules (before g c)) (seen g.C.ChipSet.rules (now g c))
on g c =
    samples-on g.C.ChipSet.rules (seen g.C.ChipSet.rules (before g c)) c.args.chip c.args.pins.now
    (c.requires.pins ∙ ap (λ (v : CoreValue g.row.C-Chip.Denot g.row.C-Shared.Denot). g.C.ChipSet.rules.pins v.shared c.args.chip) (sym c.self.view_is)) c.sample_ahead.result c.args.end.now c.sample_ahead.new.chip (seen g.C.ChipSet.rules (now g c))
    (subst (λ x. SamplesTo g.C.ChipSet.rules c.sample_ahead.result c.args.end.now c.args.pins.now x c.sample_ahead.new.chip)
    (get_or_read c.self.inside.chips.items c.args.chip c.index_mut-held.result.now (inside g c) c.index_mut-held.ensures.value g.C.ChipSet.rules.blank) c.sample_ahead.ensures)
    (chip-seen g.C.ChipSet.rules c.self.inside.shared c.self.inside.chips.items c.self.inside.bounds.items c.self.inside.journal.items (vec_capacity c.self.inside.journal) c.args.chip c.sample_ahead.new.chip c.next-next.result.key
    (inside g c) (omega (arith, c.requires.chip, c.self.invariant.shape.bound_count)) (ap (λ n. n.key) c.next-next.ensures.value))

core : (g : Over) (c : goal.After-self-2-1 g) → IsCore g.C.ChipSet.rules g.C.ChipSet.chip_ok g.C.ChipSet.shared_ok (now g c)
core g c =
    core-sampled g.C.ChipSet.rules g.C.ChipSet.chip_ok g.C.ChipSet.shared_ok g.met.C.ChipSet.lawful (before g c) (now g c) c.self.invariant c.args.chip c.requires.chip c.args.end.now
    (subst (λ (v : CoreValue g.row.C-Chip.Denot g.row.C-Shared.Denot). IsLimit g.C.ChipSet.rules cycle_limit (seen g.C.ChipSet.rules v).bound g.C.ChipSet.rules.count c.args.chip c.args.end.now) (sym c.self.view_is) c.requires.limit)
    (on g c) (length-set c.self.inside.chips.items c.args.chip c.sample_ahead.new.chip ∙ c.self.invariant.shape.chip_count)
    (length-set c.self.inside.bounds.items c.args.chip c.next-next.result.key ∙ c.self.invariant.shape.bound_count)

pub invariant_of-self : goal.invariant_of-self
invariant_of-self g c = core g c

pub returns-clause-on : goal.returns-clause-on
returns-clause-on g c =
    subst (λ (v : CoreValue g.row.C-Chip.Denot g.row.C-Shared.Denot). SamplesOn g.C.ChipSet.rules c.args.end.now c.args.chip (seen g.C.ChipSet.rules v) (seen g.C.ChipSet.rules (now g c))) c.self.view_is (on g c)

pub returns-clause-core : goal.returns-clause-core
returns-clause-core g c = core g c
