use Rattle.md_args.proofs.Alike.{but_workers_alike}
use Rattle.md_args.proofs.laws.workers_change_nothing_else.Goals as goal

pub returns : goal.returns
returns c before after count other fits other_fits = but_workers_alike count other fits other_fits before after
