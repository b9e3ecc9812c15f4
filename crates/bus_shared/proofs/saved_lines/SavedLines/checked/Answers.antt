use Rattle.std.proofs.Common.{inr, sym, ap, ◌∙◌, arith}
use Rattle.md_fields.specs.Fields.{sizes, first_invalid}
use Rattle.md_fields.proofs.Items.{kept}
use Rattle.bus_shared.specs.Saved.{lines_fields}
use Rattle.bus_shared.proofs.SavedLaws.{fields_size}
use Rattle.bus_shared.proofs.saved_lines.SavedLines.checked.Goals as goal

pub first_invalid-requires : goal.first_invalid-requires
first_invalid-requires c = omega (arith, ap sizes c.fields.ensures.fields ∙ fields_size c.args.at c.read-lines.result)

pub returns-in-Some-clause-refused : goal.returns-in-Some-clause-refused
returns-in-Some-clause-refused c = inr (record {
  saved = c.read-lines.result;
  keeps = kept (lines_fields c.args.at) c.args.bytes.now c.read-lines.result (λ i. omega (arith, c.type_inv.bytes i)) (c.read-lines.ensures c.args.at);
  first = ap (first_invalid 0) (sym c.fields.ensures.fields) ∙ sym c.first_invalid.ensures ∙ c.in-Some.is;
})

pub returns-in-None-clause-found : goal.returns-in-None-clause-found
returns-in-None-clause-found c = (
  kept (lines_fields c.args.at) c.args.bytes.now c.read-lines.result (λ i. omega (arith, c.type_inv.bytes i)) (c.read-lines.ensures c.args.at),
  ap (first_invalid 0) (sym c.fields.ensures.fields) ∙ sym c.first_invalid.ensures ∙ c.in-None.is,
)
