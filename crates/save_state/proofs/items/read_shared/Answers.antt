use Rattle.std.proofs.Common.{ap, ◌∙◌, eqb, ℕ}
use Rattle.save_state.proofs.ItemLaws.{shared_read}
use Rattle.save_state.proofs.Joins.{wanting}
use Rattle.save_state.proofs.items.read_shared.Goals as goal

pub returns : goal.returns
returns c =
    shared_read _ c.args.bytes.now c.args.pal c.args.at c.shared_parts-parts.result.now c.as_slice.result.now (eqb c.u8_at.result 1) c.u64_at.result c.u64_at-2.result c.unspell.result c.placed-shared.result c.with_rule.result c.placed-shared.ensures c.with_rule.ensures
    (ap (λ (n : ℕ). eqb n 1) c.u8_at.ensures) c.u64_at.ensures c.u64_at-2.ensures
    c.requires.cycle c.requires.region c.shared_parts-parts.ensures.parts (c.as_slice.ensures.value ∙ c.in_ok-kept.ensures) c.unspell.ensures.found c.unspell.ensures.only c.unspell.ensures.rule c.unspell.ensures.refused

pub returns-in_err-kept : goal.returns-in_err-kept
returns-in_err-kept c = wanting _ _ c.from_residual.result c.from_residual.ensures.1
