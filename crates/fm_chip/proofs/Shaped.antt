-- What follows of the kept shapes is what follows of the registers.
use Rattle.std.proofs.Common.{◌≡◌, ap, refl, ℕ, ◌∙◌, List, if◌then◌else◌}
use Rattle.fm_voice.specs.Envelopes.{stepping_state, ticked}
use Rattle.fm_voice.specs.declared.envelope.state.EnvelopeState.{EnvelopeState}
use Rattle.fm_voice.specs.declared.envelope.state.EnvelopeState.TheVariants.{Attack, Decay, Sustain, Release}
use Rattle.fm_chip.specs.declared.operator.Operator.{Operator}
use Rattle.fm_chip.specs.declared.channels.Channel.{Channel}
use Rattle.fm_chip.specs.declared.channels.Moment.{Moment}
use Rattle.fm_chip.specs.declared.shapes.Shapes.{Shapes}
use Rattle.fm_chip.specs.Registers.{rate, sustain_level}
use Rattle.fm_chip.specs.Operators.{attenuation, envelope_of, enveloped, given_envelope}
use Rattle.fm_chip.specs.Channels.{all_enveloped, attenuations, ready}
use Rattle.fm_chip.specs.Shapes.{shape_of, shapes_of, rate_in, enveloped_by, attenuation_by, all_enveloped_by, ready_by, attenuations_by}

rate_in-is : (registers : List ℕ) (c n : ℕ) (state : EnvelopeState) → rate_in (shape_of registers c n) state ≡ rate registers c n state
unfolding rate_in shape_of
rate_in-is registers c n Attack = refl
rate_in-is registers c n Decay = refl
rate_in-is registers c n Sustain = refl
rate_in-is registers c n Release = refl

enveloped-is : (registers : List ℕ) (c n counter : ℕ) (o : Operator)
    → enveloped_by (shape_of registers c n) counter o ≡ enveloped registers counter c n o
unfolding enveloped_by enveloped shape_of
enveloped-is registers c n counter o =
    ap (λ r. given_envelope (ticked counter r (sustain_level registers c n) (envelope_of o)) o) (rate_in-is registers c n (stepping_state (envelope_of o)))

all_enveloped-is : (registers : List ℕ) (c counter : ℕ) (ch : Channel)
    → all_enveloped_by (shapes_of registers c) counter ch ≡ all_enveloped registers counter c ch
unfolding all_enveloped_by all_enveloped shapes_of
all_enveloped-is registers c counter ch = λ i. record {
  one = enveloped-is registers c 0 counter ch.one i;
  two = enveloped-is registers c 1 counter ch.two i;
  three = enveloped-is registers c 2 counter ch.three i;
  four = enveloped-is registers c 3 counter ch.four i;
  last = ch.last;
}

pub ready_is : (registers : List ℕ) (c : ℕ) (m : Moment) (ch : Channel) (shapes : Shapes) → shapes ≡ shapes_of registers c
    → ready_by shapes m ch ≡ ready registers m c ch
unfolding ready_by ready
ready_is registers c m ch shapes e =
    ap (λ s. if m.ticks then all_enveloped_by s m.counter ch else ch) e
    ∙ ap (λ x. if m.ticks then x else ch) (all_enveloped-is registers c m.counter ch)

pub attenuations_is : (registers : List ℕ) (c tremolo : ℕ) (ch : Channel) (shapes : Shapes) → shapes ≡ shapes_of registers c
    → attenuations_by shapes tremolo ch ≡ attenuations registers tremolo c ch
unfolding attenuations_by attenuations attenuation_by attenuation shapes_of shape_of
attenuations_is registers c tremolo ch shapes e = ap (λ s. attenuations_by s tremolo ch) e
