-- The four channels of the programmable sound generator.
-- Texas Instruments SN76489AN data sheet; the 16-bit noise register with taps at bits 0 and 3 is
-- Sega's.
use Rattle.std.specs.Prelude.{ℕ, ◌+◌, ◌-◌, ◌*◌, ◌/◌, ◌%◌, ◌<◌, ◌≤◌, ◌==◌, nat_le, ℤ, pos, ◌-ℤ◌, Bool, not, ◌&&◌, if◌then◌else◌, List, [], ◌∷◌, slice_index}
use Rattle.psg_sound.specs.declared.divider.Divider.{Divider}
use Rattle.psg_sound.specs.declared.noise.Noise.{Noise}
use Rattle.psg_sound.specs.declared.tone.Tone.{Tone}

-- a tick: the counter falls by one; at 0 it starts again from the period, and the bit turns
abbrev pub divided : ℕ → Divider → Divider
divided period d =
    if d.counter - 1 == 0 then record { counter = period; bit = not d.bit }
    else record { counter = d.counter - 1; bit = d.bit }

-- a period of 0 counts as 1
abbrev pub period_of : ℕ → ℕ
period_of period = if period == 0 then 1 else period

-- the amplitude of each volume: 2 dB less a step, and none at 15
abbrev pub amplitudes : List ℕ
amplitudes = 2048 ∷ 1627 ∷ 1292 ∷ 1026 ∷ 815 ∷ 648 ∷ 514 ∷ 409 ∷ 325 ∷ 258 ∷ 205 ∷ 163 ∷ 129 ∷ 103 ∷ 82 ∷ 0 ∷ []

-- a channel's part of the level: its amplitude, with the sign of its bit
abbrev pub signed_level : Bool → ℕ → ℤ
signed_level bit volume =
    let amplitude = slice_index amplitudes volume in if bit then pos amplitude else (pos 0 -ℤ pos amplitude)

-- a byte with bit 7 set holds the low four bits of the period that it selects, another the high six
abbrev pub period_written : ℕ → ℕ → ℕ
period_written value period = if nat_le 128 value then period / 16 * 16 + value % 16 else value % 64 * 16 + period % 16

-- what holds of each tone channel
pub record IsTone (t : Tone) : Type 0 where
  pub period : t.period < 1024
  pub volume : t.volume < 16
  pub low : 1 ≤ t.divider.counter
  pub high : t.divider.counter < 1024

-- a tone channel after a tick
abbrev pub tone_ticked : Tone → Tone
tone_ticked t = record t { divider = divided (period_of t.period) t.divider }

-- a tone channel whose period takes a byte
abbrev pub with_tone_period : ℕ → Tone → Tone
with_tone_period value t = record t { period = period_written value t.period }

-- a tone channel whose volume takes the low four bits of a byte
abbrev pub with_tone_volume : ℕ → Tone → Tone
with_tone_volume value t = record t { volume = value % 16 }

-- what a tone channel adds to the level
abbrev pub tone_level : Tone → ℤ
tone_level t = signed_level t.divider.bit t.volume

-- what holds of the noise channel
pub record IsNoise (n : Noise) : Type 0 where
  pub control : n.control < 16
  pub volume : n.volume < 16
  pub low : 1 ≤ n.divider.counter
  pub high : n.divider.counter < 1024
  pub register : n.register < 0x1_0000

-- the noise's period by bits 1 and 0 of its control; 3 takes that of tone 3
abbrev pub noise_period : ℕ → ℕ → ℕ
noise_period control tone3 =
    if control % 4 == 0 then 16 else (if control % 4 == 1 then 32 else (if control % 4 == 2 then 64 else period_of tone3))

-- the bit that the register takes in: bit 0, for white noise (bit 2 of the control) the parity of
-- bits 0 and 3
abbrev pub taken_in : ℕ → ℕ → ℕ
taken_in control register = if control / 4 % 2 == 1 then (register % 2 + register / 8 % 2) % 2 else register % 2

-- the 16-bit register one place to the right
abbrev pub shifted : ℕ → ℕ → ℕ
shifted control register = register / 2 + taken_in control register * 0x8000

-- the register shifts where the bit turns to 1
abbrev pub noise_ticked : ℕ → Noise → Noise
noise_ticked tone3 n =
    let after = divided (noise_period n.control tone3) n.divider in
    record n { divider = after; register = if after.bit && not n.divider.bit then shifted n.control n.register else n.register }

-- the noise channel whose control takes the low four bits of a byte: its register starts again
abbrev pub with_noise_control : ℕ → Noise → Noise
with_noise_control value n = record n { control = value % 16; register = 0x8000 }

-- the noise channel whose volume takes the low four bits of a byte
abbrev pub with_noise_volume : ℕ → Noise → Noise
with_noise_volume value n = record n { volume = value % 16 }

-- the noise's bit is the lowest of its register
abbrev pub noise_level : Noise → ℤ
noise_level n = signed_level (n.register % 2 == 1) n.volume
