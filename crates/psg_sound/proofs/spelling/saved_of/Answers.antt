use Rattle.std.proofs.Common.{◌∙◌, ap, sym, inr, arith}
use Rattle.md_fields.specs.Fields.{first_invalid, sizes}
use Rattle.md_fields.proofs.Items.{kept}
use Rattle.psg_sound.specs.SynthSpelling.{synth_fields}
use Rattle.psg_sound.proofs.SynthBytes.{table}
use Rattle.psg_sound.proofs.spelling.saved_of.Goals as goal

pub first_invalid-requires : goal.first_invalid-requires
first_invalid-requires c = omega (arith, ap sizes c.fields.ensures.fields ∙ table.sized c.read-saved.result)

pub returns-in-Some-clause-refused : goal.returns-in-Some-clause-refused
returns-in-Some-clause-refused c = inr (record {
  saved = c.read-saved.result;
  keeps = kept synth_fields c.args.bytes.now c.read-saved.result (λ i. omega (arith, c.type_inv.bytes i)) c.read-saved.ensures;
  first = ap (first_invalid 0) (sym c.fields.ensures.fields) ∙ sym c.first_invalid.ensures ∙ c.in-Some.is;
})

pub returns-in-None-clause-found : goal.returns-in-None-clause-found
returns-in-None-clause-found c = (
  kept synth_fields c.args.bytes.now c.read-saved.result (λ i. omega (arith, c.type_inv.bytes i)) c.read-saved.ensures,
  ap (first_invalid 0) (sym c.fields.ensures.fields) ∙ sym c.first_invalid.ensures ∙ c.in-None.is,
)
