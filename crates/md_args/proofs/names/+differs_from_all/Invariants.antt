use Rattle.std.proofs.Common.{length}
use Rattle.md_args.proofs.names.+differs_from_all.Given as goal

abbrev pub decreases-differs_from_all : goal.decreases-differs_from_all
decreases-differs_from_all l = length l.others.now
