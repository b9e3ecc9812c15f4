-- The programmable sound generator: its registers, a write and a tick.
-- Texas Instruments SN76489AN data sheet.
use Rattle.std.specs.Prelude.{ℕ, ◌/◌, ◌%◌, ◌<◌, ◌==◌, nat_le, ℤ, ◌+ℤ◌, Bool, false, if◌then◌else◌}
use Rattle.psg_sound.specs.declared.divider.Divider.{Divider}
use Rattle.psg_sound.specs.declared.noise.Noise.{Noise}
use Rattle.psg_sound.specs.declared.tone.Tone.{Tone}
use Rattle.psg_sound.specs.Voices.{IsTone, IsNoise, tone_ticked, noise_ticked, with_tone_period, with_tone_volume, with_noise_control, with_noise_volume, tone_level, noise_level}

-- the chip: its register for data bytes, and its channels
pub record Synth : Type 0 where
  -- the register that data bytes go to: twice the channel, and 1 more for its volume
  pub latch : ℕ
  pub tone1 : Tone
  pub tone2 : Tone
  pub tone3 : Tone
  pub noise : Noise

-- what holds of each chip
pub record IsSynth (s : Synth) : Type 0 where
  pub latch : s.latch < 8
  pub tone1 : IsTone s.tone1
  pub tone2 : IsTone s.tone2
  pub tone3 : IsTone s.tone3
  pub noise : IsNoise s.noise

-- every counter runs out at the next tick
abbrev pub first_divider : Divider
first_divider = record { counter = 1; bit = false }

-- a tone channel at power-on
abbrev pub silent_tone : Tone
silent_tone = record { period = 0; volume = 15; divider = first_divider }

-- at power-on every channel is silent
abbrev pub at_power_on : Synth
at_power_on = record {
  latch = 0;
  tone1 = silent_tone;
  tone2 = silent_tone;
  tone3 = silent_tone;
  noise = record { control = 0; volume = 15; divider = first_divider; register = 0x8000 };
}

-- a byte with bit 7 set selects a register by its bits 6 to 4
abbrev pub latched : ℕ → Synth → Synth
latched value s = if nat_le 128 value then record s { latch = value / 16 % 8 } else s

-- a tone whose period, or whose volume, takes the byte
abbrev pub tone_stored : Bool → Bool → ℕ → Tone → Tone
tone_stored period volume value t =
    if period then with_tone_period value t else (if volume then with_tone_volume value t else t)

-- a noise channel whose control, or whose volume, takes the byte
abbrev pub noise_stored : Bool → Bool → ℕ → Noise → Noise
noise_stored control volume value n =
    if control then with_noise_control value n else (if volume then with_noise_volume value n else n)

-- the selected register takes the byte
abbrev pub stored : ℕ → Synth → Synth
stored value s = record s {
  tone1 = tone_stored (s.latch == 0) (s.latch == 1) value s.tone1;
  tone2 = tone_stored (s.latch == 2) (s.latch == 3) value s.tone2;
  tone3 = tone_stored (s.latch == 4) (s.latch == 5) value s.tone3;
  noise = noise_stored (s.latch == 6) (s.latch == 7) value s.noise;
}

-- the chip after a write of this byte
unfoldable pub written : ℕ → Synth → Synth
written value s = stored value (latched value s)

-- the chip after a tick, in which all four channels take part
unfoldable pub ticked : Synth → Synth
ticked s = record s {
  tone1 = tone_ticked s.tone1;
  tone2 = tone_ticked s.tone2;
  tone3 = tone_ticked s.tone3;
  noise = noise_ticked s.tone3.period s.noise;
}

-- the level: the sum over the channels
unfoldable pub level : Synth → ℤ
level s = ((tone_level s.tone1 +ℤ tone_level s.tone2) +ℤ tone_level s.tone3) +ℤ noise_level s.noise
