-- The bytes of a saved state that keep the synthesis of the PSG. This project's profile.
use Rattle.std.specs.Prelude.{ℕ, ◌==◌, nat_le, nat_lt, true, Bool, ◌&&◌, List, [], ◌∷◌}
use Rattle.md_word.specs.Coding.{flag_number}
use Rattle.md_fields.specs.Fields.{Field, byte, word, spelling}
use Rattle.md_fields.specs.Items.{IsRefused, IsRight, Keeps}
use Rattle.psg_sound.specs.Synth.{Synth}
use Rattle.psg_sound.specs.declared.saved_synth.SavedSynth.{SavedSynth}
use Rattle.psg_sound.specs.declared.tone.Tone.{Tone}

-- what is kept of a chip
abbrev pub saved_synth_of : Synth → SavedSynth
saved_synth_of s = record {
  latch = s.latch;
  period1 = s.tone1.period;
  period2 = s.tone2.period;
  period3 = s.tone3.period;
  control = s.noise.control;
  volume1 = s.tone1.volume;
  volume2 = s.tone2.volume;
  volume3 = s.tone3.volume;
  volume4 = s.noise.volume;
  counter1 = s.tone1.divider.counter;
  counter2 = s.tone2.divider.counter;
  counter3 = s.tone3.divider.counter;
  counter4 = s.noise.divider.counter;
  bit1 = flag_number s.tone1.divider.bit;
  bit2 = flag_number s.tone2.divider.bit;
  bit3 = flag_number s.tone3.divider.bit;
  bit4 = flag_number s.noise.divider.bit;
  register = s.noise.register;
}

-- the tone channel of which these numbers are kept
abbrev pub tone_from : ℕ → ℕ → ℕ → ℕ → Tone
tone_from period volume counter bit = record { period = period; volume = volume; divider = record { counter = counter; bit = (bit == 1) } }

-- the chip of which this is kept
abbrev pub synth_from : SavedSynth → Synth
synth_from s = record {
  latch = s.latch;
  tone1 = tone_from s.period1 s.volume1 s.counter1 s.bit1;
  tone2 = tone_from s.period2 s.volume2 s.counter2 s.bit2;
  tone3 = tone_from s.period3 s.volume3 s.counter3 s.bit3;
  noise = record {
    control = s.control;
    volume = s.volume4;
    divider = record { counter = s.counter4; bit = (s.bit4 == 1) };
    register = s.register;
  };
}

-- a counter is 1 to 1,023
abbrev pub is_counter : ℕ → Bool
is_counter n = nat_le 1 n && nat_lt n 1024

-- the fields in their order, and their rules
abbrev pub synth_fields : SavedSynth → List Field
synth_fields s =
    byte s.latch (nat_lt s.latch 8)
    ∷ word s.period1 (nat_lt s.period1 1024)
    ∷ word s.period2 (nat_lt s.period2 1024)
    ∷ word s.period3 (nat_lt s.period3 1024)
    ∷ byte s.control (nat_lt s.control 16)
    ∷ byte s.volume1 (nat_lt s.volume1 16)
    ∷ byte s.volume2 (nat_lt s.volume2 16)
    ∷ byte s.volume3 (nat_lt s.volume3 16)
    ∷ byte s.volume4 (nat_lt s.volume4 16)
    ∷ word s.counter1 (is_counter s.counter1)
    ∷ word s.counter2 (is_counter s.counter2)
    ∷ word s.counter3 (is_counter s.counter3)
    ∷ word s.counter4 (is_counter s.counter4)
    ∷ byte s.bit1 (nat_le s.bit1 1)
    ∷ byte s.bit2 (nat_le s.bit2 1)
    ∷ byte s.bit3 (nat_le s.bit3 1)
    ∷ byte s.bit4 (nat_le s.bit4 1)
    ∷ word s.register true
    ∷ []

-- how many bytes keep a chip
abbrev pub synth_size : ℕ
synth_size = 26

-- the bytes that keep a chip
abbrev pub synth_bytes : Synth → List ℕ
synth_bytes s = spelling (synth_fields (saved_synth_of s))

-- the bytes keep the chip, whose rules hold
pub record SpellsSynth (bytes : List ℕ) (s : Synth) : Type 0 where
  pub keeps : Keeps synth_fields bytes (saved_synth_of s)
  pub right : IsRight synth_fields (saved_synth_of s)

-- bytes that keep no chip are refused at this place
abbrev pub SynthInvalidAt : List ℕ → ℕ → Type 0
SynthInvalidAt bytes place = IsRefused synth_size synth_fields bytes place
