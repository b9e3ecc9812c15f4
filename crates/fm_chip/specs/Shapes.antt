-- What the registers say of an operator's envelope and level, and what follows of it.
-- Yamaha, YM2608 Application Manual, operators.
use Rattle.std.specs.Prelude.{◌≡◌, ℕ, ◌+◌, ◌*◌, ◌%◌, ◌<◌, ◌≤◌, nat_le, min, false, if◌then◌else◌, List, [], ◌∷◌, length, All, slice_index_or}
use Rattle.fm_voice.specs.Envelopes.{stepping_state, ticked}
use Rattle.fm_voice.specs.declared.envelope.state.EnvelopeState.{EnvelopeState}
use Rattle.fm_voice.specs.declared.envelope.state.EnvelopeState.TheVariants.{Attack, Decay, Sustain, Release}
use Rattle.fm_chip.specs.declared.shapes.Shape.{Shape}
use Rattle.fm_chip.specs.declared.shapes.Shapes.{Shapes}
use Rattle.fm_chip.specs.declared.operator.Operator.{Operator}
use Rattle.fm_chip.specs.declared.channels.Channel.{Channel}
use Rattle.fm_chip.specs.declared.channels.Moment.{Moment}
use Rattle.fm_chip.specs.Registers.{of_operator, rate, sustain_level}
use Rattle.fm_chip.specs.Operators.{envelope_of, given_envelope}

-- the shape of operator n of channel c
unfoldable pub shape_of : List ℕ → ℕ → ℕ → Shape
shape_of registers c n = record {
  attack = rate registers c n Attack;
  decay = rate registers c n Decay;
  sustain = rate registers c n Sustain;
  release = rate registers c n Release;
  sustain_level = sustain_level registers c n;
  total_level = 8 * (of_operator registers c n 0x40 % 128);
  has_tremolo = nat_le 128 (of_operator registers c n 0x60);
}

-- the shapes of a channel's four operators
unfoldable pub shapes_of : List ℕ → ℕ → Shapes
shapes_of registers c = record {
  one = shape_of registers c 0;
  two = shape_of registers c 1;
  three = shape_of registers c 2;
  four = shape_of registers c 3;
}

-- the bounds of every shape: rates of six bits, and attenuations
pub record IsShape (s : Shape) : Type 0 where
  pub attack : s.attack < 64
  pub decay : s.decay < 64
  pub sustain : s.sustain < 64
  pub release : s.release < 64
  pub sustain_level : s.sustain_level ≤ 992
  pub total_level : s.total_level ≤ 1016

-- the bounds of a channel's four shapes
pub record AreInRange (s : Shapes) : Type 0 where
  pub one : IsShape s.one
  pub two : IsShape s.two
  pub three : IsShape s.three
  pub four : IsShape s.four

-- what stands for a shape that is not made
abbrev pub no_shape : Shape
no_shape = record { attack = 0; decay = 0; sustain = 0; release = 0; sustain_level = 0; total_level = 0; has_tremolo = false }

-- what stands for the shapes of a channel outside the list
abbrev pub no_shapes : Shapes
no_shapes = record { one = no_shape; two = no_shape; three = no_shape; four = no_shape }

-- the shapes of a channel by its number, 0 to 5
abbrev pub shapes_at : List Shapes → ℕ → Shapes
shapes_at channels c = slice_index_or channels c no_shapes

-- these are the shapes of all channels
pub record AreShapes (registers : List ℕ) (channels : List Shapes) : Type 0 where
  pub six : length channels ≡ 6
  pub each : (c : ℕ) → c < 6 → shapes_at channels c ≡ shapes_of registers c
  pub fine : All AreInRange channels

-- the rate of a shape in a state
unfoldable pub rate_in : Shape → EnvelopeState → ℕ
rate_in s Attack = s.attack
rate_in s Decay = s.decay
rate_in s Sustain = s.sustain
rate_in s Release = s.release

-- the operator after a tick of an envelope of this shape
unfoldable pub enveloped_by : Shape → ℕ → Operator → Operator
enveloped_by s counter o = given_envelope (ticked counter (rate_in s (stepping_state (envelope_of o))) s.sustain_level (envelope_of o)) o

-- the attenuation v with the total level, and with tremolo where the shape has it: at most 1023
unfoldable pub attenuation_by : Shape → ℕ → ℕ → ℕ
attenuation_by s tremolo v = min 1023 (v + s.total_level + (if s.has_tremolo then tremolo else 0))

-- the channel after a tick of all four envelopes
unfoldable pub all_enveloped_by : Shapes → ℕ → Channel → Channel
all_enveloped_by s counter ch = record {
  one = enveloped_by s.one counter ch.one;
  two = enveloped_by s.two counter ch.two;
  three = enveloped_by s.three counter ch.three;
  four = enveloped_by s.four counter ch.four;
  last = ch.last;
}

-- they tick where the moment has a tick
unfoldable pub ready_by : Shapes → Moment → Channel → Channel
ready_by s m ch = if m.ticks then all_enveloped_by s m.counter ch else ch

-- the attenuations of the four operators
unfoldable pub attenuations_by : Shapes → ℕ → Channel → List ℕ
attenuations_by s tremolo ch =
    attenuation_by s.one tremolo ch.one.v ∷
    attenuation_by s.two tremolo ch.two.v ∷
    attenuation_by s.three tremolo ch.three.v ∷
    attenuation_by s.four tremolo ch.four.v ∷ []
