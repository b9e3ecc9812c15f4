use Rattle.md_rollback.proofs.Expected.{none-made}
use Rattle.md_rollback.proofs.words.none_given.Goals as goal

pub returns : goal.returns
returns c = none-made c.loop-frame.words.items c.loop-frame.frame c.loop-frame-test.false c.loop-frame.auto.frame-end c.loop-frame.invariant.none
