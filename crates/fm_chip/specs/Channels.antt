-- A channel at a sample: its envelopes' tick, what is heard, and its phases' steps.
-- Yamaha, YM2608 Application Manual, channels; Sega, Genesis Software Manual, FM registers 2A and 2B.
use Rattle.std.specs.Prelude.{◌≡◌, ℕ, ◌/◌, ◌%◌, ◌≤◌, ◌==◌, nat_le, ℤ, pos, ◌-ℤ◌, ◌*ℤ◌, Bool, ◌&&◌, if◌then◌else◌, List, [], ◌∷◌, length, All, false, slice_index_or}
use Rattle.fm_voice.specs.declared.envelope.state.EnvelopeState.TheVariants.{Attack}
use Rattle.fm_voice.specs.Channel.{Voice, channel_voice, heard, last_after, IsLevel}
use Rattle.fm_chip.specs.declared.operator.Operator.{Operator}
use Rattle.fm_chip.specs.declared.channels.Channel.{Channel}
use Rattle.fm_chip.specs.declared.channels.Moment.{Moment}
use Rattle.fm_chip.specs.Registers.{at, of_channel}
use Rattle.fm_chip.specs.Operators.{IsAtRest, IsOperator, enveloped, attenuation, advanced}
use Rattle.fm_chip.specs.declared.steps.Steps.{Steps}
use Rattle.fm_chip.specs.Steps.{steps_of}
use Rattle.fm_chip.specs.Lfo.{tremolo}

-- an operator of which all is 0
abbrev pub blank_operator : Operator
blank_operator = record { phase = 0; v = 0; state = Attack; on = false }

-- what stands for a channel outside the list
abbrev pub blank : Channel
blank = record { one = blank_operator; two = blank_operator; three = blank_operator; four = blank_operator; last = [] }

-- a channel by its number, 0 to 5
abbrev pub channel_at : List Channel → ℕ → Channel
channel_at channels c = slice_index_or channels c blank

-- what holds of each channel
pub record IsChannel (ch : Channel) : Type 0 where
  pub one : IsOperator ch.one
  pub two : IsOperator ch.two
  pub three : IsOperator ch.three
  pub four : IsOperator ch.four
  pub last : All IsLevel ch.last
  pub pair : length ch.last ≡ 2

-- the envelopes leave nothing of the waves of all four operators
pub record IsQuiet (ch : Channel) : Type 0 where
  pub one : 832 ≤ ch.one.v
  pub two : 832 ≤ ch.two.v
  pub three : 832 ≤ ch.three.v
  pub four : 832 ≤ ch.four.v

-- all four envelopes have reached the end of their release
pub record AreAtRest (ch : Channel) : Type 0 where
  pub one : IsAtRest ch.one
  pub two : IsAtRest ch.two
  pub three : IsAtRest ch.three
  pub four : IsAtRest ch.four

-- all four envelopes tick
unfoldable pub all_enveloped : List ℕ → ℕ → ℕ → Channel → Channel
all_enveloped registers counter c ch = record {
  one = enveloped registers counter c 0 ch.one;
  two = enveloped registers counter c 1 ch.two;
  three = enveloped registers counter c 2 ch.three;
  four = enveloped registers counter c 3 ch.four;
  last = ch.last;
}

-- the phases of the four operators
unfoldable pub phases : Channel → List ℕ
phases ch = ch.one.phase ∷ ch.two.phase ∷ ch.three.phase ∷ ch.four.phase ∷ []

-- the attenuations of the four operators
unfoldable pub attenuations : List ℕ → ℕ → ℕ → Channel → List ℕ
attenuations registers tremolo c ch =
    attenuation registers tremolo c 0 ch.one.v ∷
    attenuation registers tremolo c 1 ch.two.v ∷
    attenuation registers tremolo c 2 ch.three.v ∷
    attenuation registers tremolo c 3 ch.four.v ∷ []

-- the channel as a voice, where the oscillator is at t
unfoldable pub voice_of : List ℕ → ℕ → ℕ → Channel → Voice
voice_of registers t c ch =
    channel_voice (of_channel registers c 0xb0 % 8) (of_channel registers c 0xb0 / 8 % 8) (phases ch)
    (attenuations registers (tremolo (of_channel registers c 0xb4 / 16 % 4) t) c ch) ch.last

-- the level of a byte for the converter (DAC): 80h is 0
unfoldable pub converted : ℕ → ℤ
converted value = (pos value -ℤ pos 128) *ℤ pos 64

-- the converter takes the place of channel 6, where bit 7 of register 2B is set
unfoldable pub replaces : List ℕ → ℕ → Bool
replaces registers c = (c == 5) && nat_le 128 (at registers 0x2b)

-- the channel's level, or in its place that of the byte in register 2A
unfoldable pub chosen : List ℕ → ℕ → ℤ → ℤ
chosen registers c value = if replaces registers c then converted (at registers 0x2a) else value

-- what is heard of a channel
unfoldable pub value : List ℕ → ℕ → ℕ → Channel → ℤ
value registers t c ch = chosen registers c (heard (voice_of registers t c ch))

-- the channel when it has sounded: operator 1 has one output more
unfoldable pub sounded : List ℕ → ℕ → ℕ → Channel → Channel
sounded registers t c ch = record {
  one = ch.one;
  two = ch.two;
  three = ch.three;
  four = ch.four;
  last = last_after (voice_of registers t c ch);
}

-- all four phases step
unfoldable pub all_advanced : Steps → Channel → Channel
all_advanced steps ch = record {
  one = advanced steps.one ch.one;
  two = advanced steps.two ch.two;
  three = advanced steps.three ch.three;
  four = advanced steps.four ch.four;
  last = ch.last;
}

-- the channel when it sounds
unfoldable pub ready : List ℕ → Moment → ℕ → Channel → Channel
ready registers m c ch = if m.ticks then all_enveloped registers m.counter c ch else ch

-- what is heard of the channel at the sample
unfoldable pub channel_value : List ℕ → Moment → ℕ → Channel → ℤ
channel_value registers m c ch = value registers m.t c (ready registers m c ch)

-- the channel after the sample
unfoldable pub channel_after : List ℕ → Moment → ℕ → Channel → Channel
channel_after registers m c ch = all_advanced (steps_of registers (m.t / 4) c) (sounded registers m.t c (ready registers m c ch))
