use Rattle.std.proofs.Common.{◌∙◌, ap, arith}
use Rattle.md_fields.specs.Fields.{first_invalid, sizes}
use Rattle.fm_chip.proofs.SynthBytes.{four_size}
use Rattle.fm_chip.proofs.saved_operator.SavedFour.invalid_at.Goals as goal

pub invalid_from-requires : goal.invalid_from-requires
invalid_from-requires c = omega (arith, ap sizes c.fields.ensures.fields ∙ four_size c.args.self.now, c.requires)

pub returns : goal.returns
returns c = c.invalid_from.ensures ∙ ap (first_invalid c.args.place) c.fields.ensures.fields
