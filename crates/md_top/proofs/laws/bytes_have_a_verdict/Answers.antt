use Rattle.md_top.proofs.Fetched.{verdict_of}
use Rattle.md_top.proofs.laws.bytes_have_a_verdict.Goals as goal

pub returns : goal.returns
returns c = verdict_of c.args.bytes.now c.read.result c.read.ensures.found c.read.ensures.form c.read.ensures.memory
