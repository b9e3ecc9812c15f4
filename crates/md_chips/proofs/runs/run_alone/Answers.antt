use Rattle.std.proofs.Common.{length, ap, arith}
use Rattle.md_chips.proofs.Regions.{run_stays}
use Rattle.md_chips.proofs.runs.run_alone.Goals as goal

pub room-requires-clause-room : goal.room-requires-clause-room
room-requires-clause-room c = omega (arith, c.know_segments.ensures.few c.args.core c.args.from c.args.to c.requires.quiet c.requires.near c.requires.far, ap length c.requires.entries)

pub returns-clause-run : goal.returns-clause-run
returns-clause-run c =
    c.know_segments.ensures.run c.args.core c.run_least.new.core c.args.from c.args.to c.requires.core c.requires.quiet c.requires.near c.requires.far c.requires.media
    c.run_least.ensures.core (c.run_least.ensures.first c.requires.entries)

pub returns-clause-entries : goal.returns-clause-entries
returns-clause-entries c =
    c.know_segments.ensures.entries c.args.core c.run_least.new.core c.args.from c.args.to c.requires.core c.requires.quiet c.requires.near c.requires.far
    (c.run_least.ensures.first c.requires.entries)

pub returns-clause-region : goal.returns-clause-region
returns-clause-region c = run_stays _ _ _ _ _ (c.know_segments.ensures.run c.args.core c.run_least.new.core c.args.from c.args.to c.requires.core c.requires.quiet c.requires.near c.requires.far c.requires.media
    c.run_least.ensures.core (c.run_least.ensures.first c.requires.entries))

pub returns-clause-samples : goal.returns-clause-samples
returns-clause-samples c =
    c.know_segments.ensures.samples c.args.core c.run_least.new.core c.args.from c.args.to c.requires.core c.requires.quiet c.requires.near c.requires.far c.requires.media
    (c.run_least.ensures.first c.requires.entries)
