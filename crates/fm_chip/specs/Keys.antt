-- The keys, by a byte for register 28. Yamaha, YM2608 Application Manual, key on and off.
use Rattle.std.specs.Prelude.{ℕ, ◌+◌, ◌/◌, ◌%◌, ◌==◌, if◌then◌else◌, Option, None, Some, List, slice_set}
use Rattle.fm_voice.specs.declared.envelope.state.EnvelopeState.TheVariants.{Attack}
use Rattle.fm_chip.specs.declared.channels.Channel.{Channel}
use Rattle.fm_chip.specs.Channels.{channel_at}
use Rattle.fm_chip.specs.Operators.{pressed}
use Rattle.fm_chip.specs.Registers.{rate}

-- the channel whose keys it sets: 0, 1, 2, 4, 5, 6 are channels 1 to 6
unfoldable pub keyed_channel : ℕ → Option ℕ
keyed_channel value =
    if value % 4 == 3 then None else (
    if value / 4 % 2 == 1 then Some (value % 4 + 3) else Some (value % 4))

-- bits 7 to 4 are the keys of operators 4 to 1
unfoldable pub all_pressed : List ℕ → ℕ → ℕ → Channel → Channel
all_pressed registers value c ch = record {
  one = pressed (value / 16 % 2 == 1) (rate registers c 0 Attack) ch.one;
  two = pressed (value / 32 % 2 == 1) (rate registers c 1 Attack) ch.two;
  three = pressed (value / 64 % 2 == 1) (rate registers c 2 Attack) ch.three;
  four = pressed (value / 128 % 2 == 1) (rate registers c 3 Attack) ch.four;
  last = ch.last;
}

-- all channels, where that of a byte's keys is given
abbrev pub channels_keyed : Option ℕ → List ℕ → ℕ → List Channel → List Channel
channels_keyed None registers value channels = channels
channels_keyed (Some c) registers value channels = slice_set channels c (all_pressed registers value c (channel_at channels c))
