use Rattle.std.proofs.Common.{ap, ◌∙◌, eqb, ℕ}
use Rattle.save_state.specs.States.{is_holder}
use Rattle.save_state.proofs.ItemLaws.{sub_read}
use Rattle.save_state.proofs.Joins.{wanting}
use Rattle.save_state.proofs.items.read_sub.Goals as goal

pub returns : goal.returns
returns c =
    sub_read _ c.args.bytes.now c.args.at c.sub_parts-parts.result.now c.as_slice.result.now (eqb c.u8_at-holder.result 0) c.is_holder.result c.unspell.result c.placed-chip.result c.with_rule.result c.placed-chip.ensures c.with_rule.ensures
    (ap (λ (n : ℕ). eqb n 0) c.u8_at-holder.ensures)
    (c.is_holder.ensures ∙ (λ i. is_holder (c.u8_at-holder.ensures i) (c.u8_at.ensures i)))
    c.requires.cycle c.sub_parts-parts.ensures.parts (c.as_slice.ensures.value ∙ c.in_ok-kept.ensures) c.unspell.ensures.found c.unspell.ensures.only c.unspell.ensures.rule c.unspell.ensures.refused

pub returns-in_err-kept : goal.returns-in_err-kept
returns-in_err-kept c = wanting _ _ c.from_residual.result c.from_residual.ensures.1
