use Rattle.std.proofs.Common.{◌≡◌, ◌∙◌, Ok, ap, subst, sym}
use Rattle.md_fields.proofs.Refusals.{reported_right, reported_invalid}
use Rattle.psg_sound.specs.Synth.{IsSynth}
use Rattle.md_fields.proofs.Values.{not_refused, read_only, refused_once}
use Rattle.psg_sound.specs.SynthSpelling.{SpellsSynth, SynthInvalidAt, saved_synth_of, synth_from}
use Rattle.psg_sound.proofs.SynthBytes.{synth_again, synth_read, synth_sound, table}
use Rattle.psg_sound.proofs.synth.PsgSynth.unspell.Goals as goal

-- what is made
made : (c : goal.After-noise) → record { latch = c.in-Ok.saved.latch; tone1 = c.tone_from.result; tone2 = c.tone_from-in-Ok.result; tone3 = c.tone_from-in-Ok-2.result; noise = c.noise.result } ≡ synth_from c.in-Ok.saved
made c = λ i. record {
  latch = c.in-Ok.saved.latch;
  tone1 = c.tone_from.ensures i;
  tone2 = c.tone_from-in-Ok.ensures i;
  tone3 = c.tone_from-in-Ok-2.ensures i;
  noise = c.noise.ensures i;
}

pub invariant_of-result : goal.invariant_of-result
invariant_of-result c = subst IsSynth (sym (made c)) (synth_sound c.args.bytes.now c.in-Ok.saved c.in-Ok.ensures.found.0 c.in-Ok.ensures.found.1)

pub returns-in-Ok-clause-found : goal.returns-in-Ok-clause-found
returns-in-Ok-clause-found c = subst (SpellsSynth c.args.bytes.now) (sym (made c)) (synth_read c.args.bytes.now c.in-Ok.saved c.in-Ok.ensures.found.0 c.in-Ok.ensures.found.1)

pub returns-in-Ok-clause-only : goal.returns-in-Ok-clause-only
returns-in-Ok-clause-only c = λ synth spells. ap Ok (made c ∙ read_only table saved_synth_of synth_from c.args.bytes.now c.in-Ok.saved synth (synth_again synth) c.in-Ok.ensures.found.0 spells.keeps)

pub returns-in-Ok-clause-rule : goal.returns-in-Ok-clause-rule
returns-in-Ok-clause-rule c = reported_right _ (SynthInvalidAt c.args.bytes.now) (not_refused table c.args.bytes.now c.in-Ok.saved c.in-Ok.ensures.found.0 c.in-Ok.ensures.found.1)

pub returns-in-Err-clause-only : goal.returns-in-Err-clause-only
returns-in-Err-clause-only c = λ synth spells. absurd (not_refused table c.args.bytes.now _ spells.keeps spells.right c.in-Err.place c.in-Err.ensures.refused)

pub returns-in-Err-clause-rule : goal.returns-in-Err-clause-rule
returns-in-Err-clause-rule c = reported_invalid (SynthInvalidAt c.args.bytes.now) c.in-Err.place c.in-Err.ensures.refused (refused_once table c.args.bytes.now)
