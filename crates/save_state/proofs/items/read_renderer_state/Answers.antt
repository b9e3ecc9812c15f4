use Rattle.save_state.proofs.ItemLaws.{renderer_state_read}
use Rattle.save_state.proofs.items.read_renderer_state.Goals as goal

pub returns : goal.returns
returns c =
    renderer_state_read c.args.bytes.now c.args.pal c.args.at c.of.result.now c.unspell.result c.placed.result c.placed.ensures c.requires.cycle c.requires.region c.of.ensures c.unspell.ensures.found c.unspell.ensures.only (λ p. (c.unspell.ensures.rule p).0) (λ p. (c.unspell.ensures.rule p).1)
