use Rattle.std.proofs.Common.{◌∙◌, Ok, ap, subst, sym}
use Rattle.md_fields.proofs.Refusals.{reported_right, reported_invalid}
use Rattle.md_fields.proofs.Values.{not_refused, read_only, refused_once}
use Rattle.fm_chip.specs.SynthSpelling.{SpellsSynth, SynthInvalidAt, saved_synth_of, synth_from}
use Rattle.fm_chip.proofs.SynthBytes.{synth_again, synth_read, synth_sound, table}
use Rattle.fm_chip.proofs.synth.FmSynth.unspell.Goals as goal

pub synth_of-requires : goal.synth_of-requires
synth_of-requires c = synth_sound c.args.bytes.now c.in-Ok.saved c.in-Ok.ensures.found.0 c.in-Ok.ensures.found.1

pub returns-in-Ok-clause-found : goal.returns-in-Ok-clause-found
returns-in-Ok-clause-found c = subst (SpellsSynth c.args.bytes.now) (sym c.synth_of.ensures) (synth_read c.args.bytes.now c.in-Ok.saved c.in-Ok.ensures.found.0 c.in-Ok.ensures.found.1)

pub returns-in-Ok-clause-only : goal.returns-in-Ok-clause-only
returns-in-Ok-clause-only c = λ synth spells. ap Ok (c.synth_of.ensures ∙ read_only table saved_synth_of synth_from c.args.bytes.now c.in-Ok.saved synth (synth_again synth spells.synth) c.in-Ok.ensures.found.0 spells.keeps)

pub returns-in-Ok-clause-rule : goal.returns-in-Ok-clause-rule
returns-in-Ok-clause-rule c = reported_right _ (SynthInvalidAt c.args.bytes.now) (not_refused table c.args.bytes.now c.in-Ok.saved c.in-Ok.ensures.found.0 c.in-Ok.ensures.found.1)

pub returns-in-Err-clause-only : goal.returns-in-Err-clause-only
returns-in-Err-clause-only c = λ synth spells. absurd (not_refused table c.args.bytes.now _ spells.keeps spells.right c.in-Err.place c.in-Err.ensures.refused)

pub returns-in-Err-clause-rule : goal.returns-in-Err-clause-rule
returns-in-Err-clause-rule c = reported_invalid (SynthInvalidAt c.args.bytes.now) c.in-Err.place c.in-Err.ensures.refused (refused_once table c.args.bytes.now)
