use Rattle.std.proofs.Common.{◌∙◌, ap, arith}
use Rattle.sound_writes.proofs.Rest.{read_more}
use Rattle.sound_writes.proofs.saved.read_writes.Goals as goal

pub loop-index-preserved : goal.loop-index-preserved
loop-index-preserved g c = record {
  read = read_more g.W.WriteEntry.size g.W.WriteEntry.entry g.W.WriteEntry.write_of c.args.count c.loop-index.index c.args.entries.now _ _ c.write.result c.loop-index-test.true
      (c.write.ensures ∙ ap g.W.WriteEntry.write_of c.read.ensures) c.push.ensures.items
      ∙ c.loop-index.invariant.read;
  length = omega (arith, c.push.ensures.len, c.loop-index.invariant.length);
}
