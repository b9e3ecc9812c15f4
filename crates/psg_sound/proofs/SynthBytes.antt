-- Laws of the bytes that keep the synthesis.
use Rattle.std.proofs.Common.{◌≡◌, ℕ, ◌<◌, ◌≤◌, true, List, refl}
use Rattle.std.proofs.lemmas.Bool.{and_parts, leb-true, ltb-true}
use Rattle.md_fields.specs.Fields.{sizes}
use Rattle.md_fields.specs.Items.{IsRight, Keeps}
use Rattle.md_fields.proofs.Flags.{flag_again, flag_back}
use Rattle.md_fields.proofs.Values.{Table, fit_at, number_in, read_back, rule_at, values_at}
use Rattle.psg_sound.specs.Synth.{IsSynth, Synth}
use Rattle.psg_sound.specs.SynthSpelling.{SpellsSynth, is_counter, saved_synth_of, synth_fields, synth_from, synth_size}
use Rattle.psg_sound.specs.declared.saved_synth.SavedSynth.{SavedSynth}

-- the fields, and the numbers of their values
pub table : Table synth_size synth_fields
unfolding sizes values_at
table = record {
  back = λ values. record {
    latch = number_in values 0;
    period1 = number_in values 1;
    period2 = number_in values 2;
    period3 = number_in values 3;
    control = number_in values 4;
    volume1 = number_in values 5;
    volume2 = number_in values 6;
    volume3 = number_in values 7;
    volume4 = number_in values 8;
    counter1 = number_in values 9;
    counter2 = number_in values 10;
    counter3 = number_in values 11;
    counter4 = number_in values 12;
    bit1 = number_in values 13;
    bit2 = number_in values 14;
    bit3 = number_in values 15;
    bit4 = number_in values 16;
    register = number_in values 17;
  };
  again = λ s. refl;
  alike = λ s t bytes. refl;
  sized = λ s. refl;
}

-- the numbers that are right are those of their chip
synth_back : (s : SavedSynth) → IsRight synth_fields s → saved_synth_of (synth_from s) ≡ s
synth_back s right =
    let rule = rule_at 0 (synth_fields s) right in
    λ i. record s {
      bit1 = flag_back s.bit1 (leb-true s.bit1 1 (rule 13)) i;
      bit2 = flag_back s.bit2 (leb-true s.bit2 1 (rule 14)) i;
      bit3 = flag_back s.bit3 (leb-true s.bit3 1 (rule 15)) i;
      bit4 = flag_back s.bit4 (leb-true s.bit4 1 (rule 16)) i;
    }

-- a chip is that of its numbers
pub synth_again : (chip : Synth) → synth_from (saved_synth_of chip) ≡ chip
synth_again chip = λ i. record chip {
  tone1 = record chip.tone1 { divider = record chip.tone1.divider { bit = flag_again chip.tone1.divider.bit i } };
  tone2 = record chip.tone2 { divider = record chip.tone2.divider { bit = flag_again chip.tone2.divider.bit i } };
  tone3 = record chip.tone3 { divider = record chip.tone3.divider { bit = flag_again chip.tone3.divider.bit i } };
  noise = record chip.noise { divider = record chip.noise.divider { bit = flag_again chip.noise.divider.bit i } };
}

low : (n : ℕ) → is_counter n ≡ true → 1 ≤ n
low n e = leb-true 1 n (and_parts _ _ e).0

high : (n : ℕ) → is_counter n ≡ true → n < 1024
high n e = ltb-true n 1024 (and_parts _ _ e).1

-- the chip of numbers that are right has its registers in their ranges
pub synth_sound : (bytes : List ℕ) (s : SavedSynth) → Keeps synth_fields bytes s → IsRight synth_fields s → IsSynth (synth_from s)
synth_sound bytes s keeps right =
    let rule = rule_at 0 (synth_fields s) right in
    record {
      latch = ltb-true s.latch 8 (rule 0);
      tone1 = record { period = ltb-true s.period1 1024 (rule 1); volume = ltb-true s.volume1 16 (rule 5); low = low s.counter1 (rule 9); high = high s.counter1 (rule 9) };
      tone2 = record { period = ltb-true s.period2 1024 (rule 2); volume = ltb-true s.volume2 16 (rule 6); low = low s.counter2 (rule 10); high = high s.counter2 (rule 10) };
      tone3 = record { period = ltb-true s.period3 1024 (rule 3); volume = ltb-true s.volume3 16 (rule 7); low = low s.counter3 (rule 11); high = high s.counter3 (rule 11) };
      noise = record {
        control = ltb-true s.control 16 (rule 4);
        volume = ltb-true s.volume4 16 (rule 8);
        low = low s.counter4 (rule 12);
        high = high s.counter4 (rule 12);
        register = fit_at (synth_fields s) keeps.within 17;
      };
    }

-- what is read is spelled so
pub synth_read : (bytes : List ℕ) (s : SavedSynth) → Keeps synth_fields bytes s → IsRight synth_fields s → SpellsSynth bytes (synth_from s)
synth_read bytes s keeps right =
    let both = read_back table saved_synth_of synth_from bytes s (synth_back s right) keeps right in
    record { keeps = both.0; right = both.1 }
