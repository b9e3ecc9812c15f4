-- The bytes that keep a synthesis are read again.
use Rattle.std.proofs.Common.{◌≡◌, ℕ, ◌<◌, ◌≤◌, true, refl, arith}
use Rattle.std.specs.Prelude.{nat_le, nat_lt}
use Rattle.std.proofs.lemmas.Bool.{le-leb, lt-ltb, and_from}
use Rattle.md_fields.specs.Fields.{AllHold, AreWithin}
use Rattle.md_fields.proofs.Items.{none_invalid}
use Rattle.md_fields.proofs.Flags.{flag_byte, flag_small}
use Rattle.psg_sound.specs.Synth.{IsSynth, Synth}
use Rattle.psg_sound.specs.SynthSpelling.{SpellsSynth, is_counter, saved_synth_of, synth_bytes, synth_fields}

counter : (n : ℕ) → 1 ≤ n → n < 1024 → is_counter n ≡ true
counter n low high = and_from (nat_le 1 n) (nat_lt n 1024) (le-leb 1 n low) (lt-ltb n 1024 high)

rules_hold : (s : Synth) → IsSynth s → AllHold (synth_fields (saved_synth_of s))
unfolding AllHold
rules_hold s ok = (
  lt-ltb s.latch 8 ok.latch,
  (
    lt-ltb s.tone1.period 1024 ok.tone1.period,
    (
      lt-ltb s.tone2.period 1024 ok.tone2.period,
      (
        lt-ltb s.tone3.period 1024 ok.tone3.period,
        (
          lt-ltb s.noise.control 16 ok.noise.control,
          (
            lt-ltb s.tone1.volume 16 ok.tone1.volume,
            (
              lt-ltb s.tone2.volume 16 ok.tone2.volume,
              (
                lt-ltb s.tone3.volume 16 ok.tone3.volume,
                (
                  lt-ltb s.noise.volume 16 ok.noise.volume,
                  (
                    counter s.tone1.divider.counter ok.tone1.low ok.tone1.high,
                    (
                      counter s.tone2.divider.counter ok.tone2.low ok.tone2.high,
                      (
                        counter s.tone3.divider.counter ok.tone3.low ok.tone3.high,
                        (
                          counter s.noise.divider.counter ok.noise.low ok.noise.high,
                          (
                            flag_small s.tone1.divider.bit,
                            (flag_small s.tone2.divider.bit, (flag_small s.tone3.divider.bit, (flag_small s.noise.divider.bit, (refl, tt)))),
                          ),
                        ),
                      ),
                    ),
                  ),
                ),
              ),
            ),
          ),
        ),
      ),
    ),
  ),
)

within : (s : Synth) → IsSynth s → AreWithin (synth_fields (saved_synth_of s))
unfolding AreWithin
within s ok = (
  omega (arith, ok.latch),
  (
    omega (arith, ok.tone1.period),
    (
      omega (arith, ok.tone2.period),
      (
        omega (arith, ok.tone3.period),
        (
          omega (arith, ok.noise.control),
          (
            omega (arith, ok.tone1.volume),
            (
              omega (arith, ok.tone2.volume),
              (
                omega (arith, ok.tone3.volume),
                (
                  omega (arith, ok.noise.volume),
                  (
                    omega (arith, ok.tone1.high),
                    (
                      omega (arith, ok.tone2.high),
                      (
                        omega (arith, ok.tone3.high),
                        (
                          omega (arith, ok.noise.high),
                          (
                            flag_byte s.tone1.divider.bit,
                            (flag_byte s.tone2.divider.bit, (flag_byte s.tone3.divider.bit, (flag_byte s.noise.divider.bit, (omega (arith, ok.noise.register), tt)))),
                          ),
                        ),
                      ),
                    ),
                  ),
                ),
              ),
            ),
          ),
        ),
      ),
    ),
  ),
)

pub synth_spelled : (s : Synth) → IsSynth s → SpellsSynth (synth_bytes s) s
synth_spelled s ok = record {
  keeps = record { within = within s ok; all = refl };
  right = none_invalid 0 (synth_fields (saved_synth_of s)) (rules_hold s ok);
}
