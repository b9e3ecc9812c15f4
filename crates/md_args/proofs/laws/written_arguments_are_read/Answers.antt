use Rattle.md_args.proofs.Spellings.{run_written}
use Rattle.md_args.proofs.laws.written_arguments_are_read.Goals as goal

pub returns : goal.returns
returns c = run_written
