-- The synthesis of the FM chip: its registers, a write and a sample.
-- Yamaha, YM2608 Application Manual; Sega, Genesis Software Manual, FM registers.
use Rattle.std.specs.Prelude.{◌≡◌, ℕ, zero, suc, ◌+◌, ◌*◌, ◌/◌, ◌%◌, ◌<◌, ◌==◌, ℤ, pos, ◌+ℤ◌, false, ◌&&◌, if◌then◌else◌, Option, None, Some, List, [], ◌∷◌, length, map, All, slice_index, slice_set, replicate}
use Rattle.std.specs.List.{range_with_len}
use Rattle.fm_voice.specs.Channel.{IsWithin}
use Rattle.fm_voice.specs.declared.envelope.state.EnvelopeState.TheVariants.{Release}
use Rattle.fm_chip.specs.declared.lfo.Lfo.{Lfo}
use Rattle.fm_chip.specs.declared.operator.Operator.{Operator}
use Rattle.fm_chip.specs.declared.channels.Channel.{Channel}
use Rattle.fm_chip.specs.declared.channels.Moment.{Moment}
use Rattle.fm_port.specs.declared.write.FmWrite.{FmWrite}
use Rattle.fm_chip.specs.Registers.{at, of_channel}
use Rattle.fm_chip.specs.Lfo.{stepped}
use Rattle.fm_chip.specs.Latches.{taken_latch, own_latch}
use Rattle.fm_chip.specs.Keys.{keyed_channel, channels_keyed}
use Rattle.fm_chip.specs.Channels.{AreAtRest, IsChannel, channel_at, channel_value, channel_after}

-- the chip: the registers and latches that were written, and what sounds by them
pub record Synth : Type 0 where
  -- 256 for each port
  pub registers : List ℕ
  -- the high halves of frequencies that were written last: channels 1 to 6, then the three of
  -- channel 3's operators
  pub latches : List ℕ
  pub lfo : Lfo
  -- the counter of the envelopes
  pub counter : ℕ
  pub channels : List Channel

-- no sample is heard of it while nothing is written: each channel's envelopes have reached the end of their
-- release, and the converter is off
pub record IsIdle (s : Synth) : Type 0 where
  pub channels : All AreAtRest s.channels
  pub converter : at s.registers 0x2b < 128

-- what holds of each chip
pub record IsSynth (s : Synth) : Type 0 where
  pub registers : length s.registers ≡ 512
  pub latches : length s.latches ≡ 9
  pub t : s.lfo.t < 128
  pub count : s.lfo.count < 108
  pub counter : s.counter < 4096
  pub channels : All IsChannel s.channels
  pub six : length s.channels ≡ 6

-- ---- at power-on every operator is silent, and all else is 0

-- an operator at power-on: at the highest attenuation, in release
abbrev pub silent_operator : Operator
silent_operator = record { phase = 0; v = 1023; state = Release; on = false }

-- a channel at power-on
abbrev pub silent : Channel
silent = record {
  one = silent_operator;
  two = silent_operator;
  three = silent_operator;
  four = silent_operator;
  last = pos 0 ∷ pos 0 ∷ [];
}

-- the chip at power-on, and after a reset
unfoldable pub at_power_on : Synth
at_power_on = record {
  registers = replicate 512 0;
  latches = replicate 9 0;
  lfo = record { t = 0; count = 0 };
  counter = 0;
  channels = replicate 6 silent;
}

-- ---- a write

-- the chip with the keys of a channel put on or off by a byte for register 28
unfoldable pub with_keys : ℕ → Synth → Synth
with_keys value s = record {
  registers = s.registers;
  latches = s.latches;
  lfo = s.lfo;
  counter = s.counter;
  channels = channels_keyed (keyed_channel value) s.registers value s.channels;
}

-- the chip with a byte in the register at a place of 512
unfoldable pub with_register : ℕ → ℕ → Synth → Synth
with_register place value s = record {
  registers = slice_set s.registers place value;
  latches = s.latches;
  lfo = s.lfo;
  counter = s.counter;
  channels = s.channels;
}

-- the chip with a byte in a latch, 0 to 8
unfoldable pub with_latch : ℕ → ℕ → Synth → Synth
with_latch n value s = record {
  registers = s.registers;
  latches = slice_set s.latches n value;
  lfo = s.lfo;
  counter = s.counter;
  channels = s.channels;
}

-- a register that takes its latch hands it to the register four further
abbrev pub taking : Option ℕ → ℕ → Synth → Synth
taking None place s = s
taking (Some n) place s = with_register (place + 4) (slice_index s.latches n) s

-- the chip with a byte in a register, and its latch taken, if it has one
unfoldable pub stored : ℕ → ℕ → ℕ → Synth → Synth
stored port register value s = with_register (port * 256 + register) value (taking (taken_latch port register) (port * 256 + register) s)

-- a byte for a register that is no latch; register 28 sets keys
unfoldable pub put : ℕ → ℕ → ℕ → Synth → Synth
put port register value s =
    if (port == 0) && (register == 0x28) then with_keys value (stored port register value s) else stored port register value s

-- a byte for a latch, or for another register
abbrev pub latched : Option ℕ → ℕ → ℕ → ℕ → Synth → Synth
latched None port register value s = put port register value s
latched (Some n) port register value s = with_latch n value s

-- the chip after a write; port 2 is a reset
unfoldable pub written : FmWrite → Synth → Synth
written w s = if w.port == 2 then at_power_on else latched (own_latch w.port w.register) w.port w.register w.value s

-- ---- sample number k

-- the envelopes tick at each third sample
unfoldable pub counted : ℕ → ℕ → ℕ
counted k counter = if k % 3 == 0 then (counter + 1) % 4096 else counter

-- what all channels share
unfoldable pub moment_of : ℕ → Synth → Moment
moment_of k s = record {
  ticks = (k % 3 == 0);
  counter = counted k s.counter;
  t = (stepped (at s.registers 0x22) s.lfo).t;
}

-- what a channel adds to the left: bit 7 of B4
unfoldable pub left_of : List ℕ → ℕ → ℤ → ℤ
left_of registers c value = if of_channel registers c 0xb4 / 128 % 2 == 1 then value else pos 0

-- what a channel adds to the right: bit 6 of B4
unfoldable pub right_of : List ℕ → ℕ → ℤ → ℤ
right_of registers c value = if of_channel registers c 0xb4 / 64 % 2 == 1 then value else pos 0

-- the sum of the left over the channels below a number
unfoldable pub left_below : List ℕ → Moment → List Channel → ℕ → ℤ
left_below registers m channels zero = pos 0
left_below registers m channels (suc c) =
    left_below registers m channels c +ℤ left_of registers c (channel_value registers m c (channel_at channels c))

-- the sum of the right over the channels below a number
unfoldable pub right_below : List ℕ → Moment → List Channel → ℕ → ℤ
right_below registers m channels zero = pos 0
right_below registers m channels (suc c) =
    right_below registers m channels c +ℤ right_of registers c (channel_value registers m c (channel_at channels c))

-- all channels after the sample
unfoldable pub channels_after : List ℕ → Moment → List Channel → List Channel
channels_after registers m channels = map (λ c. channel_after registers m c (channel_at channels c)) (range_with_len 0 6)

-- the sums of both sides, the left one first
unfoldable pub sides : ℕ → Synth → ℤ × ℤ
sides k s = (left_below s.registers (moment_of k s) s.channels 6, right_below s.registers (moment_of k s) s.channels 6)

-- the chip after the sample
unfoldable pub sampled : ℕ → Synth → Synth
sampled k s = record {
  registers = s.registers;
  latches = s.latches;
  lfo = stepped (at s.registers 0x22) s.lfo;
  counter = counted k s.counter;
  channels = channels_after s.registers (moment_of k s) s.channels;
}

-- the sums of the two sides lie within six levels
abbrev pub IsSides : ℤ × ℤ → Type 0
IsSides s = IsWithin 49152 s.0 × IsWithin 49152 s.1
