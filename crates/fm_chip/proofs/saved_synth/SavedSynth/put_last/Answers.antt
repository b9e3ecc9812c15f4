use Rattle.std.proofs.Common.{◌∙◌, ◌++◌, List, ℕ, ap, arith}
use Rattle.md_fields.specs.Fields.{sizes, spelling}
use Rattle.md_fields.proofs.Standing.{long_as_sized}
use Rattle.fm_chip.proofs.SynthBytes.{last_size}
use Rattle.fm_chip.proofs.saved_synth.SavedSynth.put_last.Goals as goal

pub put-requires : goal.put-requires
put-requires c = omega (arith, long_as_sized _ c.last_fields.ensures.sizes ∙ ap sizes c.last_fields.ensures.fields ∙ last_size c.args.self.now, c.requires)

pub returns-clause-bytes : goal.returns-clause-bytes
returns-clause-bytes c = c.put.ensures.bytes ∙ ap (λ (l : List ℕ). c.args.into.now.items ++ l) (ap spelling c.last_fields.ensures.fields)

pub returns-clause-length : goal.returns-clause-length
returns-clause-length c = omega (arith, long_as_sized _ c.last_fields.ensures.sizes ∙ ap sizes c.last_fields.ensures.fields ∙ last_size c.args.self.now, c.put.ensures.length)
