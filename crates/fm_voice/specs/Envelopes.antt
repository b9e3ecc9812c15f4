-- The envelope of an operator: a tick and a key.
-- Yamaha, YM2608 Application Manual, envelope generator; the steps are this project's profile.
use Rattle.std.specs.Prelude.{ℕ, ◌+◌, ◌*◌, ◌==◌, nat_lt, nat_le, min, pos, neg_ℤ, ◌+ℤ◌, Bool, true, false, ◌&&◌, not, if◌then◌else◌}
use Rattle.std.specs.Int.{int_div_euclid}
use Rattle.std.specs.Int.RustNames.{unsigned_abs}
use Rattle.fm_voice.specs.declared.envelope.Envelope.{Envelope}
use Rattle.fm_voice.specs.declared.envelope.state.EnvelopeState.{EnvelopeState}
use Rattle.fm_voice.specs.declared.envelope.state.EnvelopeState.TheVariants.{Attack, Decay, Sustain, Release}
use Rattle.fm_voice.specs.Steps.{step}

-- an envelope as plain data
pub record EnvelopeValue : Type 0 where
  -- the attenuation: 0 the loudest, 1,023 silence
  pub v : ℕ
  pub state : EnvelopeState
  pub on : Bool

-- the data of an envelope, apart from the bounds that it keeps
abbrev pub plain : Envelope → EnvelopeValue
plain e = record { v = e.v; state = e.state; on = e.on }

-- whether it is an attack
abbrev pub is_attack : EnvelopeState → Bool
is_attack Attack = true
is_attack Decay = false
is_attack Sustain = false
is_attack Release = false

-- the state in which it steps: an attack that has reached 0 is a decay
abbrev pub stepping_state : EnvelopeValue → EnvelopeState
stepping_state e = if is_attack e.state && (e.v == 0) then Decay else e.state

-- the envelope in the state in which it steps
unfoldable pub turned : EnvelopeValue → EnvelopeValue
turned e = record e { state = stepping_state e }

-- attack adds (−(v + 1)·i)/16, rounded down
unfoldable pub attacked : ℕ → ℕ → ℕ
attacked i v = unsigned_abs (pos v +ℤ int_div_euclid (neg_ℤ (pos ((v + 1) * i))) (pos 16))

-- decay adds i where the attenuation is below the sustain level
unfoldable pub decayed : ℕ → ℕ → ℕ → ℕ
decayed i level v = if nat_lt v level then v + i else v

-- sustain and release add i, up to silence
unfoldable pub fallen : ℕ → ℕ → ℕ
fallen i v = min (v + i) 1023

-- a step by i in a state: a decay that ends at the sustain level or above it goes to sustain
abbrev pub stepped_in : EnvelopeState → ℕ → ℕ → EnvelopeValue → EnvelopeValue
stepped_in Attack i level e = record e { v = attacked i e.v }
stepped_in Decay i level e = record e { v = decayed i level e.v; state = if nat_le level (decayed i level e.v) then Sustain else Decay }
stepped_in Sustain i level e = record e { v = fallen i e.v }
stepped_in Release i level e = record e { v = fallen i e.v }

-- a step by i in the state that it has
unfoldable pub stepped : ℕ → ℕ → EnvelopeValue → EnvelopeValue
stepped i level e = stepped_in e.state i level e

-- the envelope after a tick: the rate is that of the state in which it steps
unfoldable pub ticked : ℕ → ℕ → ℕ → EnvelopeValue → EnvelopeValue
ticked counter rate level e = stepped (step counter rate) level (turned e)

-- the envelope after its key was put on or off, by the attack's rate: a key-on starts the
-- attack, at full level where the rate is 62 or more; one that is off gives release
unfoldable pub keyed : Bool → ℕ → EnvelopeValue → EnvelopeValue
keyed on rate e =
    if not on then record e { on = false; state = Release } else (
    if e.on then e else record { v = if nat_le 62 rate then 0 else e.v; state = Attack; on = true })
