use Rattle.std.proofs.Common.{◌∙◌, ap, arith}
use Rattle.md_fields.specs.Fields.{first_invalid, sizes}
use Rattle.fm_chip.proofs.SynthBytes.{last_size}
use Rattle.fm_chip.proofs.saved_synth.SavedSynth.last_invalid.Goals as goal

pub invalid_from-requires : goal.invalid_from-requires
invalid_from-requires c = omega (arith, ap sizes c.last_fields.ensures.fields ∙ last_size c.args.self.now)

pub returns : goal.returns
returns c = c.invalid_from.ensures ∙ ap (first_invalid 717) c.last_fields.ensures.fields
