use Rattle.save_state.proofs.ItemLaws.{fm_read}
use Rattle.save_state.proofs.items.read_fm.Goals as goal

pub returns : goal.returns
returns c =
    fm_read c.args.bytes.now c.args.at c.of.result.now c.u64_at.result c.first_batch.result c.in_ok-early.early c.unspell.result c.placed-synth.result c.with_rule-synth.result c.with_rule.result c.placed-synth.ensures c.with_rule-synth.ensures c.with_rule.ensures c.requires.cycle c.of.ensures c.u64_at.ensures c.first_batch.ensures c.in_ok-early.ensures.late c.in_ok-early.ensures.reported c.unspell.ensures.found c.unspell.ensures.only (λ p. (c.unspell.ensures.rule p).0) (λ p. (c.unspell.ensures.rule p).1)
