use Rattle.std.proofs.Common.{◌-◌, arith, lit<, le_trans}
use Rattle.chip_core.specs.Cores.{machine_of}
use Rattle.chip_core.specs.Machines.{IsValid, Machine}
use Rattle.bus_shared.specs.Board.{Board, IsBoard}
use Rattle.md_chips.specs.Refinement.{console_of}
use Rattle.md_chips.specs.Rules.{IsChip, five}
use Rattle.md_chips.specs.declared.chips.Chip.{Chip}
use Rattle.md_chips.proofs.Segments.{batches-few, few_entries, fm_batches-few, segment-pairs, segment-run, within-few}
use Rattle.md_chips.proofs.laws.know_segments.Goals as goal

pub returns-clause-few : goal.returns-clause-few
returns-clause-few c = λ v from to quiet near far.
    le_trans (c.limits.ensures.within (machine_of five v) from to (omega arith) quiet) (within-few (console_of (machine_of five v)).pal (to - from) (omega (arith, near)))

pub returns-clause-run : goal.returns-clause-run
returns-clause-run c = λ v w from to core quiet near far samples after runs.
    let first : Machine Chip Board = machine_of five v in
    let valid : IsValid five IsChip IsBoard first = c.stages.ensures.core v core in
    segment-run first (machine_of five w) from to w.journal runs
    (λ n below. c.stages.ensures.valid first to n (omega arith) valid below) c.stages.ensures.mover
    (c.stages.ensures.core w after)
    (λ n below. le_trans (c.limits.ensures.made first to n 3 (omega arith) valid below (lit< tt)) (fm_batches-few (console_of first).pal first from to near quiet))
    (λ n below. le_trans (c.limits.ensures.made first to n 4 (omega arith) valid below (lit< tt)) (batches-few (console_of first).pal first from to near quiet))
    samples valid quiet near

pub returns-clause-entries : goal.returns-clause-entries
returns-clause-entries c = λ v w from to core quiet near far runs.
    let first : Machine Chip Board = machine_of five v in
    let valid : IsValid five IsChip IsBoard first = c.stages.ensures.core v core in
    few_entries first from to runs (c.limits.ensures.entered first to runs.moves (omega arith) valid runs.below)
    (c.limits.ensures.within first from to (omega arith) quiet) (console_of first).pal near

pub returns-clause-samples : goal.returns-clause-samples
returns-clause-samples c = λ v w from to core quiet near far samples runs.
    let first : Machine Chip Board = machine_of five v in
    let valid : IsValid five IsChip IsBoard first = c.stages.ensures.core v core in
    segment-pairs first (machine_of five w) from to w.journal runs
    (λ n below. c.stages.ensures.valid first to n (omega arith) valid below) c.stages.ensures.mover (console_of first).pal
    (λ n below. le_trans (c.limits.ensures.made first to n 4 (omega arith) valid below (lit< tt)) (batches-few (console_of first).pal first from to near quiet))
    samples
