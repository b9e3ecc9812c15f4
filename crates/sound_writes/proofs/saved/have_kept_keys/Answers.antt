use Rattle.std.proofs.Common.{◌∙◌, ap, sym, map}
use Rattle.sound_writes.specs.Entries.{entries_from}
use Rattle.sound_writes.specs.Keys.{after, all_fit, fits}
use Rattle.sound_writes.specs.declared.earliest.Earliest.{Earliest}
use Rattle.sound_writes.proofs.Rest.{fit_more, fit_none, fit_not, rest_keys}
use Rattle.sound_writes.proofs.Spaced.{all_kept}
use Rattle.sound_writes.proofs.saved.have_kept_keys.Goals as goal

pub returns-then-not-fits : goal.returns-then-not-fits
returns-then-not-fits g c =
    sym (fit_not g.W.WriteEntry.size g.W.WriteEntry.entry g.W.WriteEntry.key_of c.args.at c.loop-index.earliest c.args.count c.loop-index.index c.args.entries.now c.loop-index-test.true
    (sym (c.fits.ensures ∙ ap (fits c.args.at c.loop-index.earliest) (c.key-key.ensures ∙ ap g.W.WriteEntry.key_of c.read.ensures)) ∙ c.if-not-fits.true))
    ∙ c.loop-index.invariant ∙ all_kept c.args.at (map g.W.WriteEntry.key_of (entries_from g.W.WriteEntry.size g.W.WriteEntry.entry c.args.count 0 c.args.entries.now)) c.ranges.at.fits

pub loop-index-preserved : goal.loop-index-preserved
loop-index-preserved g c =
    ap (λ (e : Earliest). all_fit c.args.at e (rest_keys g.W.WriteEntry.size g.W.WriteEntry.entry g.W.WriteEntry.key_of c.args.count c.loop-index.index c.args.entries.now))
    (c.after-earliest.ensures ∙ ap (λ k. after k c.loop-index.earliest) (c.key-key.ensures ∙ ap g.W.WriteEntry.key_of c.read.ensures))
    ∙ fit_more g.W.WriteEntry.size g.W.WriteEntry.entry g.W.WriteEntry.key_of c.args.at c.loop-index.earliest c.args.count c.loop-index.index c.args.entries.now c.loop-index-test.true
    (sym (c.fits.ensures ∙ ap (fits c.args.at c.loop-index.earliest) (c.key-key.ensures ∙ ap g.W.WriteEntry.key_of c.read.ensures)) ∙ c.if-not-fits.false)
    ∙ c.loop-index.invariant

pub returns : goal.returns
returns g c =
    sym (fit_none g.W.WriteEntry.size g.W.WriteEntry.entry g.W.WriteEntry.key_of c.args.at c.loop-index.earliest c.args.count c.loop-index.index c.args.entries.now c.loop-index-test.false)
    ∙ c.loop-index.invariant ∙ all_kept c.args.at (map g.W.WriteEntry.key_of (entries_from g.W.WriteEntry.size g.W.WriteEntry.entry c.args.count 0 c.args.entries.now)) c.ranges.at.fits
