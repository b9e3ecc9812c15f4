use Rattle.std.proofs.Common.{◌∙◌, ap, arith}
use Rattle.md_fields.specs.Fields.{first_invalid, sizes}
use Rattle.fm_chip.proofs.SynthBytes.{head_size}
use Rattle.fm_chip.proofs.saved_synth.SavedSynth.head_invalid.Goals as goal

pub first_invalid-requires : goal.first_invalid-requires
first_invalid-requires c = omega (arith, ap sizes c.head_fields.ensures.fields ∙ head_size c.args.self.now)

pub returns : goal.returns
returns c = c.first_invalid.ensures ∙ ap (first_invalid 0) c.head_fields.ensures.fields
