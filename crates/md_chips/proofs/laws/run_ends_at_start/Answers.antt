use Rattle.md_chips.proofs.Counts.{fm-goes-on, psg-goes-on}
use Rattle.md_chips.proofs.FrameCounts.{line-goes-on}
use Rattle.md_chips.proofs.laws.run_ends_at_start.Goals as goal

pub returns : goal.returns
returns c = λ start z end entries output is later run. record {
  quiet = run.quiet;
  line = line-goes-on start z end entries output is later run;
  fm = fm-goes-on start z end entries output is later run;
  psg = psg-goes-on start z end entries output is later run;
}
