use Rattle.std.proofs.Common.{◌∙◌, sym, inr, arith}
use Rattle.fm_chip.proofs.SynthBytes.{keeps_synth}
use Rattle.fm_chip.proofs.spelling.saved_of.Goals as goal

pub returns-in-Some-clause-refused : goal.returns-in-Some-clause-refused
returns-in-Some-clause-refused c = inr (record {
  saved = c.read-saved.result;
  keeps = keeps_synth c.args.bytes.now c.read-saved.result (λ i. omega (arith, c.type_inv.bytes i)) c.if-bytes-ne-SYNTH_SIZE.false c.read-saved.ensures;
  first = sym c.invalid.ensures ∙ c.in-Some.is;
})

pub returns-in-None-clause-found : goal.returns-in-None-clause-found
returns-in-None-clause-found c = (
  keeps_synth c.args.bytes.now c.read-saved.result (λ i. omega (arith, c.type_inv.bytes i)) c.if-bytes-ne-SYNTH_SIZE.false c.read-saved.ensures,
  sym c.invalid.ensures ∙ c.in-None.is,
)
