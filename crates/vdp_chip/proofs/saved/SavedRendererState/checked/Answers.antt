use Rattle.std.proofs.Common.{Bool, inr, sym, ap, ◌∙◌, arith}
use Rattle.md_fields.specs.Fields.{sizes, first_invalid}
use Rattle.md_fields.proofs.Items.{kept}
use Rattle.vdp_chip.specs.Saved.{renderer_state_fields, fields_by}
use Rattle.vdp_chip.proofs.SavedLaws.{size_by}
use Rattle.vdp_chip.proofs.saved.SavedRendererState.checked.Goals as goal

pub first_invalid-requires : goal.first_invalid-requires
first_invalid-requires c = omega (arith, ap sizes c.fields.ensures.fields ∙ size_by c.args.at c.is_picture-holds.result c.read-saved.result)

pub returns-in-Some-clause-refused : goal.returns-in-Some-clause-refused
returns-in-Some-clause-refused c =
    let same = c.fields.ensures.fields ∙ ap (λ (b : Bool). fields_by c.args.at b c.read-saved.result) c.is_picture-holds.ensures in
    inr (record {
      saved = c.read-saved.result;
      keeps = kept (renderer_state_fields c.args.at c.args.pal) c.args.bytes.now c.read-saved.result (λ i. omega (arith, c.type_inv.bytes i)) (c.read-saved.ensures c.args.at c.args.pal);
      first = ap (first_invalid 0) (sym same) ∙ sym c.first_invalid.ensures ∙ c.in-Some.is;
    })

pub returns-in-None-clause-found : goal.returns-in-None-clause-found
returns-in-None-clause-found c =
    let same = c.fields.ensures.fields ∙ ap (λ (b : Bool). fields_by c.args.at b c.read-saved.result) c.is_picture-holds.ensures in (
      kept (renderer_state_fields c.args.at c.args.pal) c.args.bytes.now c.read-saved.result (λ i. omega (arith, c.type_inv.bytes i)) (c.read-saved.ensures c.args.at c.args.pal),
      ap (first_invalid 0) (sym same) ∙ sym c.first_invalid.ensures ∙ c.in-None.is,
    )
