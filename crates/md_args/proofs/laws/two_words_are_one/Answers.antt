use Rattle.md_args.proofs.Alike.{written_alike}
use Rattle.md_args.proofs.laws.two_words_are_one.Goals as goal

pub returns : goal.returns
returns c = written_alike
