use Rattle.std.proofs.Common.{arith}
use Rattle.md_chips.proofs.Regions.{run_stays}
use Rattle.md_machine.proofs.runs.run_workers.Goals as goal

pub run_core-requires-clause-room : goal.run_core-requires-clause-room
run_core-requires-clause-room g c κs within = omega (arith, c.know_segments.ensures.few c.args.core c.args.from c.args.to c.requires.quiet c.requires.near c.requires.far)

pub returns-clause-run : goal.returns-clause-run
returns-clause-run g c =
    c.know_segments.ensures.run c.args.core c.run_core.result c.args.from c.args.to c.requires.core c.requires.quiet c.requires.near c.requires.far c.requires.media
    c.run_core.ensures.core c.run_core.ensures.run

pub returns-clause-entries : goal.returns-clause-entries
returns-clause-entries g c =
    c.know_segments.ensures.entries c.args.core c.run_core.result c.args.from c.args.to c.requires.core c.requires.quiet c.requires.near c.requires.far c.run_core.ensures.run

pub returns-clause-region : goal.returns-clause-region
returns-clause-region g c = run_stays _ _ _ _ _ (c.know_segments.ensures.run c.args.core c.run_core.result c.args.from c.args.to c.requires.core c.requires.quiet c.requires.near c.requires.far c.requires.media
    c.run_core.ensures.core c.run_core.ensures.run)

pub returns-clause-samples : goal.returns-clause-samples
returns-clause-samples g c =
    c.know_segments.ensures.samples c.args.core c.run_core.result c.args.from c.args.to c.requires.core c.requires.quiet c.requires.near c.requires.far c.requires.media c.run_core.ensures.run
