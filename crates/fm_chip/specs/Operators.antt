-- An operator: its envelope's tick, what it sounds at, its phase's step and its key.
-- Yamaha, YM2608 Application Manual, operators.
use Rattle.std.specs.Prelude.{◌≡◌, ℕ, ◌+◌, ◌*◌, ◌/◌, ◌%◌, ◌^◌, ◌<◌, ◌≤◌, nat_le, min, Bool, ◌&&◌, not, if◌then◌else◌, List}
use Rattle.fm_voice.specs.Envelopes.{EnvelopeValue, stepping_state, ticked, keyed}
use Rattle.fm_voice.specs.declared.envelope.state.EnvelopeState.TheVariants.{Release}
use Rattle.fm_voice.specs.Phase.{step_of}
use Rattle.fm_chip.specs.declared.operator.Operator.{Operator}
use Rattle.fm_chip.specs.Registers.{frequency_of, rate, of_operator, sustain_level}
use Rattle.fm_chip.specs.Lfo.{gain}

-- what holds of each operator
pub record IsOperator (o : Operator) : Type 0 where
  pub phase : o.phase < 2 ^ 20
  pub v : o.v ≤ 1023

-- its envelope has reached the end of its release
pub record IsAtRest (o : Operator) : Type 0 where
  pub v : o.v ≡ 1023
  pub state : o.state ≡ Release

-- its envelope
abbrev pub envelope_of : Operator → EnvelopeValue
envelope_of o = record { v = o.v; state = o.state; on = o.on }

-- the operator with another envelope
abbrev pub given_envelope : EnvelopeValue → Operator → Operator
given_envelope l o = record { phase = o.phase; v = l.v; state = l.state; on = l.on }

-- the operator after a tick of its envelope
unfoldable pub enveloped : List ℕ → ℕ → ℕ → ℕ → Operator → Operator
enveloped registers counter c n o =
    given_envelope (ticked counter (rate registers c n (stepping_state (envelope_of o))) (sustain_level registers c n) (envelope_of o)) o

-- the attenuation: the envelope, the level and tremolo
unfoldable pub attenuation : List ℕ → ℕ → ℕ → ℕ → ℕ → ℕ
attenuation registers tremolo c n v =
    min 1023 (v + 8 * (of_operator registers c n 0x40 % 128) + (if nat_le 128 (of_operator registers c n 0x60) then tremolo else 0))

-- the step of its phase, by its frequency with vibrato at q of its 32 places, its detune and its multiple
unfoldable pub phase_step : List ℕ → ℕ → ℕ → ℕ → ℕ → ℕ
phase_step registers depth q c n =
    step_of (frequency_of registers c n).fnum (gain (frequency_of registers c n).fnum depth q) (frequency_of registers c n).block
    (of_operator registers c n 0x30 / 16 % 8) (of_operator registers c n 0x30 % 16)

-- the phase a step on
unfoldable pub advanced : ℕ → Operator → Operator
advanced step o = record { phase = (o.phase + step) % 2 ^ 20; v = o.v; state = o.state; on = o.on }

-- its key put on or off; a key-on starts the phase again
unfoldable pub pressed : Bool → ℕ → Operator → Operator
pressed on attack o = given_envelope (keyed on attack (envelope_of o)) (record o { phase = if on && not o.on then 0 else o.phase })
