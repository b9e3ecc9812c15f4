-- What the registers say of a channel and of an operator.
-- A channel c of 0 to 5 is channel c modulo 3 of port c/3; an operator o is 0 to 3.
-- Yamaha, YM2608 Application Manual, FM registers.
use Rattle.std.specs.Prelude.{ℕ, ◌+◌, ◌-◌, ◌*◌, ◌/◌, ◌%◌, ◌^◌, ◌==◌, nat_lt, nat_le, min, ◌&&◌, if◌then◌else◌, List, slice_index}
use Rattle.fm_voice.specs.declared.envelope.state.EnvelopeState.{EnvelopeState}
use Rattle.fm_voice.specs.declared.envelope.state.EnvelopeState.TheVariants.{Attack, Decay, Sustain, Release}
use Rattle.fm_voice.specs.Phase.{key_code}
use Rattle.fm_chip.specs.declared.frequency.Frequency.{Frequency}

-- a register by its place, which is 256 more in the second port
abbrev pub at : List ℕ → ℕ → ℕ
at registers n = slice_index registers n

-- where the registers of a channel begin
abbrev pub base : ℕ → ℕ
base c = c / 3 * 256 + c % 3

-- register n of a channel
abbrev pub of_channel : List ℕ → ℕ → ℕ → ℕ
of_channel registers c n = slice_index registers (base c + n)

-- operators 1, 3, 2, 4 are at 0, 4, 8, 12
abbrev pub of_operator : List ℕ → ℕ → ℕ → ℕ → ℕ
of_operator registers c o n = slice_index registers (base c + n + (o % 2 * 8 + o / 2 * 4))

-- the register of the low half of a frequency: of channel 3's operators 1 to 3 in places of their own,
-- where bits 7 and 6 of register 27 are not 0
unfoldable pub frequency_place : List ℕ → ℕ → ℕ → ℕ
frequency_place registers c o =
    if (c == 2) && (nat_lt o 3 && nat_le 64 (at registers 0x27)) then (
    if o == 0 then 0xa9 else (if o == 1 then 0xaa else 0xa8))
    else base c + 0xa0

-- the frequency of which the low half is at a register
abbrev pub frequency_at : List ℕ → ℕ → Frequency
frequency_at registers place = record {
  fnum = at registers (place + 4) % 8 * 256 + at registers place;
  block = at registers (place + 4) / 8 % 8;
}

-- the frequency of an operator
unfoldable pub frequency_of : List ℕ → ℕ → ℕ → Frequency
frequency_of registers c o = frequency_at registers (frequency_place registers c o)

-- the rate of a value R
unfoldable pub rated : ℕ → ℕ → ℕ → ℕ
rated r code scale = if r == 0 then 0 else min 63 (2 * r + code / 2 ^ (3 - scale))

-- the value R of each state
unfoldable pub rate_value : List ℕ → ℕ → ℕ → EnvelopeState → ℕ
rate_value registers c o Attack = of_operator registers c o 0x50 % 32
rate_value registers c o Decay = of_operator registers c o 0x60 % 32
rate_value registers c o Sustain = of_operator registers c o 0x70 % 32
rate_value registers c o Release = of_operator registers c o 0x80 % 16 * 2 + 1

-- the rate of an operator in a state
unfoldable pub rate : List ℕ → ℕ → ℕ → EnvelopeState → ℕ
rate registers c o state =
    rated (rate_value registers c o state)
    (key_code (frequency_of registers c o).fnum (frequency_of registers c o).block)
    (of_operator registers c o 0x50 / 64)

-- the level at which decay ends
unfoldable pub sustain_level : List ℕ → ℕ → ℕ → ℕ
sustain_level registers c o =
    if of_operator registers c o 0x80 / 16 == 15 then 992 else 32 * (of_operator registers c o 0x80 / 16)
