-- The bytes of a saved state that keep the synthesis: registers, latches, oscillator, the envelopes'
-- counter, the operators channel by channel, and the last outputs of each channel. This project's profile.
use Rattle.std.specs.Prelude.{◌≡◌, ℕ, refl, ◌+◌, ◌-◌, ◌==◌, nat_le, nat_lt, true, Bool, ◌&&◌, ◌||◌, if◌then◌else◌, ℤ, pos, negsuc, List, [], ◌∷◌, ◌++◌, take, drop, slice_index, slice_index_or}
use Rattle.std.specs.Int.{w16, w32}
use Rattle.md_word.specs.Coding.{flag_number}
use Rattle.fm_voice.specs.declared.envelope.state.EnvelopeState.{EnvelopeState}
use Rattle.fm_voice.specs.declared.envelope.state.EnvelopeState.TheVariants.{Attack, Decay, Sustain, Release}
use Rattle.md_fields.specs.Fields.{Field, byte, word, long, block, spelling}
use Rattle.md_fields.specs.Items.{IsRefused, IsRight, Keeps}
use Rattle.md_fields.specs.Places.{number_at}
use Rattle.fm_chip.specs.Channels.{channel_at}
use Rattle.fm_chip.specs.Synth.{IsSynth, Synth}
use Rattle.fm_chip.specs.declared.channels.Channel.{Channel}
use Rattle.fm_chip.specs.declared.operator.Operator.{Operator}
use Rattle.fm_chip.specs.declared.saved_operator.SavedFour.{SavedFour}
use Rattle.fm_chip.specs.declared.saved_operator.SavedOperator.{SavedOperator}
use Rattle.fm_chip.specs.declared.saved_synth.SavedLast.{SavedLast}
use Rattle.fm_chip.specs.declared.saved_synth.SavedSynth.{SavedSynth}

-- how many bytes keep a chip
abbrev pub synth_size : ℕ
synth_size = 741

-- ---- an operator, and the four of a channel

-- the number of an envelope's state
abbrev pub state_number : EnvelopeState → ℕ
state_number Attack = 0
state_number Decay = 1
state_number Sustain = 2
state_number Release = 3

-- the state of a number, 0 to 3
abbrev pub state_of : ℕ → EnvelopeState
state_of n = if n == 0 then Attack else (if n == 1 then Decay else (if n == 2 then Sustain else Release))

-- a state is that of its number
pub state_again : (state : EnvelopeState) → state_of (state_number state) ≡ state
state_again Attack = refl
state_again Decay = refl
state_again Sustain = refl
state_again Release = refl

-- what is kept of an operator
abbrev pub saved_operator_of : Operator → SavedOperator
saved_operator_of o = record { phase = o.phase; v = o.v; state = state_number o.state; on = flag_number o.on }

-- the operator of which this is kept
abbrev pub operator_from : SavedOperator → Operator
operator_from s = record { phase = s.phase; v = s.v; state = state_of s.state; on = (s.on == 1) }

-- what the eight bytes at a place keep of an operator
abbrev pub operator_at : ℕ → List ℕ → SavedOperator
operator_at place bytes = record {
  phase = number_at w32 place bytes;
  v = number_at w16 (place + 4) bytes;
  state = slice_index bytes (place + 4 + 2);
  on = slice_index bytes (place + 4 + 2 + 1);
}

-- what the 32 bytes at a place keep of a channel's operators
abbrev pub four_at : ℕ → List ℕ → SavedFour
four_at place bytes = record {
  one = operator_at place bytes;
  two = operator_at (place + 8) bytes;
  three = operator_at (place + 8 + 8) bytes;
  four = operator_at (place + 8 + 8 + 8) bytes;
}

-- phases below 2^20, attenuations at most 1,023, states 0 to 3, and keys
abbrev pub operator_before : SavedOperator → List Field → List Field
operator_before s rest =
    long s.phase (nat_lt s.phase 0x10_0000)
    ∷ word s.v (nat_le s.v 1023)
    ∷ byte s.state (nat_le s.state 3)
    ∷ byte s.on (nat_le s.on 1)
    ∷ rest

-- the fields of a channel's operators, from 1 to 4
abbrev pub four_fields : SavedFour → List Field
four_fields s = operator_before s.one (operator_before s.two (operator_before s.three (operator_before s.four [])))

-- ---- the last two outputs of a channel, in two's complement

-- from −8,192 to 8,191
abbrev pub is_output : ℕ → Bool
is_output n = nat_lt n 0x2000 || nat_le 0xe000 n

-- the older output, then the newer, then the rest; the rule of both is at the first field
abbrev pub last_before : SavedLast → List Field → List Field
last_before s rest = word s.older (is_output s.older && is_output s.newer) ∷ word s.newer true ∷ rest

-- what the four bytes at a place keep of two outputs
abbrev pub last_at : ℕ → List ℕ → SavedLast
last_at place bytes = record { older = number_at w16 place bytes; newer = number_at w16 (place + 2) bytes }

-- an output as a word of two's complement
abbrev pub word_of : ℤ → ℕ
word_of (pos n) = n
word_of (negsuc n) = 0xffff - n

-- the output of a word of two's complement
abbrev pub output_of : ℕ → ℤ
output_of n = if nat_lt n 0x8000 then pos n else negsuc (0xffff - n)

-- what is kept of the last outputs
abbrev pub saved_last_of : List ℤ → SavedLast
saved_last_of last = record { older = word_of (slice_index_or last 0 (pos 0)); newer = word_of (slice_index_or last 1 (pos 0)) }

-- the last outputs of which this is kept, the older one first
abbrev pub last_from : SavedLast → List ℤ
last_from s = output_of s.older ∷ output_of s.newer ∷ []

-- ---- the chip

-- what is kept of a channel's operators
abbrev pub saved_four_of : Channel → SavedFour
saved_four_of ch = record { one = saved_operator_of ch.one; two = saved_operator_of ch.two; three = saved_operator_of ch.three; four = saved_operator_of ch.four }

-- the channel of which this is kept
abbrev pub channel_from : SavedFour → SavedLast → Channel
channel_from s last = record {
  one = operator_from s.one;
  two = operator_from s.two;
  three = operator_from s.three;
  four = operator_from s.four;
  last = last_from last;
}

-- what is kept of a chip
abbrev pub saved_synth_of : Synth → SavedSynth
saved_synth_of s = record {
  registers = s.registers;
  latches = s.latches;
  t = s.lfo.t;
  count = s.lfo.count;
  counter = s.counter;
  four1 = saved_four_of (channel_at s.channels 0);
  four2 = saved_four_of (channel_at s.channels 1);
  four3 = saved_four_of (channel_at s.channels 2);
  four4 = saved_four_of (channel_at s.channels 3);
  four5 = saved_four_of (channel_at s.channels 4);
  four6 = saved_four_of (channel_at s.channels 5);
  last1 = saved_last_of (channel_at s.channels 0).last;
  last2 = saved_last_of (channel_at s.channels 1).last;
  last3 = saved_last_of (channel_at s.channels 2).last;
  last4 = saved_last_of (channel_at s.channels 3).last;
  last5 = saved_last_of (channel_at s.channels 4).last;
  last6 = saved_last_of (channel_at s.channels 5).last;
}

-- the six channels of which this is kept
abbrev pub channels_from : SavedSynth → List Channel
channels_from s =
    channel_from s.four1 s.last1
    ∷ channel_from s.four2 s.last2
    ∷ channel_from s.four3 s.last3
    ∷ channel_from s.four4 s.last4
    ∷ channel_from s.four5 s.last5
    ∷ channel_from s.four6 s.last6
    ∷ []

-- the chip of which this is kept
abbrev pub synth_from : SavedSynth → Synth
synth_from s = record {
  registers = s.registers;
  latches = s.latches;
  lfo = record { t = s.t; count = s.count };
  counter = s.counter;
  channels = channels_from s;
}

-- what is in the bytes
abbrev pub synth_at : List ℕ → SavedSynth
synth_at bytes = record {
  registers = take 512 (drop 0 bytes);
  latches = take 9 (drop 512 bytes);
  t = slice_index bytes 521;
  count = slice_index bytes 522;
  counter = number_at w16 523 bytes;
  four1 = four_at 525 bytes;
  four2 = four_at 557 bytes;
  four3 = four_at 589 bytes;
  four4 = four_at 621 bytes;
  four5 = four_at 653 bytes;
  four6 = four_at 685 bytes;
  last1 = last_at 717 bytes;
  last2 = last_at 721 bytes;
  last3 = last_at 725 bytes;
  last4 = last_at 729 bytes;
  last5 = last_at 733 bytes;
  last6 = last_at 737 bytes;
}

-- the fields in front of the channels, and their rules: registers, latches, oscillator, counter
abbrev pub head_fields : SavedSynth → List Field
head_fields s =
    block 512 s.registers true
    ∷ block 9 s.latches true
    ∷ byte s.t (nat_lt s.t 128)
    ∷ byte s.count (nat_lt s.count 108)
    ∷ word s.counter (nat_lt s.counter 4096)
    ∷ []

-- the fields of the last outputs, from channel 1 to 6
abbrev pub last_fields : SavedSynth → List Field
last_fields s =
    last_before s.last1 (last_before s.last2 (last_before s.last3 (last_before s.last4 (last_before s.last5 (last_before s.last6 [])))))

-- the fields from channel 6's operators on
abbrev pub fields6 : SavedSynth → List Field
fields6 s = four_fields s.four6 ++ last_fields s

-- the fields from channel 5's operators on
abbrev pub fields5 : SavedSynth → List Field
fields5 s = four_fields s.four5 ++ fields6 s

-- the fields from channel 4's operators on
abbrev pub fields4 : SavedSynth → List Field
fields4 s = four_fields s.four4 ++ fields5 s

-- the fields from channel 3's operators on
abbrev pub fields3 : SavedSynth → List Field
fields3 s = four_fields s.four3 ++ fields4 s

-- the fields from channel 2's operators on
abbrev pub fields2 : SavedSynth → List Field
fields2 s = four_fields s.four2 ++ fields3 s

-- the fields from channel 1's operators on
abbrev pub fields1 : SavedSynth → List Field
fields1 s = four_fields s.four1 ++ fields2 s

-- the fields in their order, and their rules
unfoldable pub synth_fields : SavedSynth → List Field
synth_fields s = head_fields s ++ fields1 s

-- the bytes that keep a chip
abbrev pub synth_bytes : Synth → List ℕ
synth_bytes s = spelling (synth_fields (saved_synth_of s))

-- the bytes keep the chip, whose rules hold
pub record SpellsSynth (bytes : List ℕ) (s : Synth) : Type 0 where
  pub keeps : Keeps synth_fields bytes (saved_synth_of s)
  pub right : IsRight synth_fields (saved_synth_of s)
  pub synth : IsSynth s

-- bytes that keep no chip are refused at this place
abbrev pub SynthInvalidAt : List ℕ → ℕ → Type 0
SynthInvalidAt bytes place = IsRefused synth_size synth_fields bytes place
