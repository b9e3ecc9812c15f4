use Rattle.std.proofs.Common.{◌∙◌, sym, ap, arith}
use Rattle.std.proofs.lemmas.List.{take_rest}
use Rattle.md_fields.specs.Padding.{are_zeros}
use Rattle.md_fields.proofs.Padding.{eight_more, eight_not}
use Rattle.md_fields.proofs.rules.are_zeros.Goals as goal

pub returns-then-u64_at-ne0 : goal.returns-then-u64_at-ne0
returns-then-u64_at-ne0 c =
    sym (eight_not c.loop-place.place c.args.bytes.now (omega (arith, c.loop-place-test.true)) (λ e. c.if-u64_at-ne0.true (c.u64_at.ensures ∙ e))) ∙ c.loop-place.invariant.rest

pub loop-place-preserved : goal.loop-place-preserved
loop-place-preserved c = record {
  within = omega (arith, c.loop-place-test.true);
  rest = eight_more c.loop-place.place c.args.bytes.now (λ i. omega (arith, c.type_inv.bytes i)) (omega (arith, c.loop-place-test.true)) (sym c.u64_at.ensures ∙ c.if-u64_at-ne0.false) ∙ c.loop-place.invariant.rest;
}

pub returns : goal.returns
returns c = c.are_single_zeros.ensures ∙ ap are_zeros (take_rest c.args.bytes.now c.loop-place.place) ∙ c.loop-place.invariant.rest
