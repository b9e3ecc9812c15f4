use Rattle.std.proofs.Common.{◌∙◌, ◌++◌, List, ℕ, ap, arith}
use Rattle.md_fields.specs.Fields.{sizes, spelling}
use Rattle.md_fields.proofs.Standing.{long_as_sized}
use Rattle.psg_sound.specs.SynthSpelling.{synth_fields}
use Rattle.psg_sound.specs.declared.saved_synth.SavedSynth.{SavedSynth}
use Rattle.psg_sound.proofs.SynthBytes.{table}
use Rattle.psg_sound.proofs.synth.PsgSynth.spell.Goals as goal

pub put-requires : goal.put-requires
put-requires c = omega (arith, long_as_sized _ c.fields.ensures.sizes ∙ ap sizes c.fields.ensures.fields ∙ table.sized c.saved.result, c.requires)

pub returns-clause-bytes : goal.returns-clause-bytes
returns-clause-bytes c =
    c.put.ensures.bytes
    ∙ ap (λ (l : List ℕ). c.args.into.now.items ++ l) (ap spelling c.fields.ensures.fields ∙ ap (λ (s : SavedSynth). spelling (synth_fields s)) c.saved.ensures)

pub returns-clause-length : goal.returns-clause-length
returns-clause-length c =
    omega (arith, long_as_sized _ c.fields.ensures.sizes ∙ ap sizes c.fields.ensures.fields ∙ table.sized c.saved.result, c.put.ensures.length)
