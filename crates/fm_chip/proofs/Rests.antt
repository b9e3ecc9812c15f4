-- A tick of an envelope that has reached the end of its release.
use Rattle.std.proofs.Common.{◌≡◌, ◌∙◌, sym, ap, ℕ, arith}
use Rattle.fm_voice.specs.Envelopes.{fallen, stepped, ticked, turned}
use Rattle.fm_voice.specs.declared.envelope.state.EnvelopeState.{EnvelopeState}
use Rattle.fm_voice.specs.declared.envelope.state.EnvelopeState.TheVariants.{Release}
use Rattle.fm_voice.specs.Steps.{step}
use Rattle.fm_chip.specs.declared.operator.Operator.{Operator}
use Rattle.fm_chip.specs.declared.channels.Channel.{Channel}
use Rattle.fm_chip.specs.declared.shapes.Shape.{Shape}
use Rattle.fm_chip.specs.declared.shapes.Shapes.{Shapes}
use Rattle.fm_chip.specs.Operators.{IsAtRest}
use Rattle.fm_chip.specs.Channels.{AreAtRest}
use Rattle.fm_chip.specs.Shapes.{all_enveloped_by, enveloped_by, rate_in}

fallen-end : (i : ℕ) → fallen i 1023 ≡ 1023
unfolding fallen
fallen-end i = omega arith

-- an operator with this attenuation and state
abbrev with_envelope : Operator → ℕ → EnvelopeState → Operator
with_envelope o v state = record { phase = o.phase; v = v; state = state; on = o.on }

at_end : (s : Shape) (counter : ℕ) (o : Operator) → enveloped_by s counter (with_envelope o 1023 Release) ≡ with_envelope o 1023 Release
unfolding enveloped_by ticked turned stepped
at_end s counter o = ap (λ v. with_envelope o v Release) (fallen-end (step counter (rate_in s Release)))

operator_rests : (s : Shape) (counter : ℕ) (o : Operator) → IsAtRest o → enveloped_by s counter o ≡ o
operator_rests s counter o rest =
    let same : with_envelope o 1023 Release ≡ o = λ i. with_envelope o (sym rest.v i) (sym rest.state i) in
    ap (enveloped_by s counter) (sym same) ∙ at_end s counter o ∙ same

pub all_rest : (s : Shapes) (counter : ℕ) (ch : Channel) → AreAtRest ch → ch ≡ all_enveloped_by s counter ch
unfolding all_enveloped_by
all_rest s counter ch rest = sym (λ i. record {
  one = operator_rests s.one counter ch.one rest.one i;
  two = operator_rests s.two counter ch.two rest.two i;
  three = operator_rests s.three counter ch.three rest.three i;
  four = operator_rests s.four counter ch.four rest.four i;
  last = ch.last;
})
