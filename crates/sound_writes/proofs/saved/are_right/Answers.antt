use Rattle.std.proofs.Common.{◌∙◌, ap, sym}
use Rattle.sound_writes.proofs.Rest.{all_more, all_none, all_not}
use Rattle.sound_writes.proofs.saved.are_right.Goals as goal

pub loop-index-preserved : goal.loop-index-preserved
loop-index-preserved g c =
    sym (all_more g.W.WriteEntry.size g.W.WriteEntry.entry g.W.WriteEntry.is_right c.args.count c.loop-index.index c.args.entries.now c.loop-index-test.true
    (sym (c.is_right.ensures ∙ ap g.W.WriteEntry.is_right c.read.ensures) ∙ c.if-not-is_right.false))
    ∙ c.loop-index.invariant

pub returns-then-not-is_right : goal.returns-then-not-is_right
returns-then-not-is_right g c =
    sym (all_not g.W.WriteEntry.size g.W.WriteEntry.entry g.W.WriteEntry.is_right c.args.count c.loop-index.index c.args.entries.now c.loop-index-test.true
    (sym (c.is_right.ensures ∙ ap g.W.WriteEntry.is_right c.read.ensures) ∙ c.if-not-is_right.true))
    ∙ c.loop-index.invariant

pub returns : goal.returns
returns g c = sym (all_none g.W.WriteEntry.size g.W.WriteEntry.entry g.W.WriteEntry.is_right c.args.count c.loop-index.index c.args.entries.now c.loop-index-test.false) ∙ c.loop-index.invariant
