use Rattle.std.proofs.Common.{inr, sym, ap, ◌∙◌, arith}
use Rattle.md_fields.specs.Fields.{sizes, first_invalid}
use Rattle.md_fields.proofs.Items.{kept}
use Rattle.vdp_ports.specs.Saved.{vdp_fields}
use Rattle.vdp_ports.proofs.SavedLaws.{fields_size}
use Rattle.vdp_ports.proofs.saved.SavedVdp.checked.Goals as goal

pub first_invalid-requires : goal.first_invalid-requires
first_invalid-requires c = omega (arith, ap sizes c.fields.ensures.fields ∙ fields_size c.args.at c.args.pal c.read-saved.result)

pub returns-in-Some-clause-refused : goal.returns-in-Some-clause-refused
returns-in-Some-clause-refused c = inr (record {
  saved = c.read-saved.result;
  keeps = kept (vdp_fields c.args.at c.args.pal) c.args.bytes.now c.read-saved.result (λ i. omega (arith, c.type_inv.bytes i)) (c.read-saved.ensures c.args.at c.args.pal);
  first = ap (first_invalid 0) (sym c.fields.ensures.fields) ∙ sym c.first_invalid.ensures ∙ c.in-Some.is;
})

pub returns-in-None-clause-found : goal.returns-in-None-clause-found
returns-in-None-clause-found c = (
  kept (vdp_fields c.args.at c.args.pal) c.args.bytes.now c.read-saved.result (λ i. omega (arith, c.type_inv.bytes i)) (c.read-saved.ensures c.args.at c.args.pal),
  ap (first_invalid 0) (sym c.fields.ensures.fields) ∙ sym c.first_invalid.ensures ∙ c.in-None.is,
)
