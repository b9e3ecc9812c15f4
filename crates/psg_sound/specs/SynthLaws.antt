-- Writes, ticks and batches keep the ranges of the registers.
use Rattle.std.proofs.Common.{◌≡◌, ℕ, zero, suc, ◌+◌, ◌-◌, ◌*◌, ◌<◌, Bool, true, false, List, [], ◌∷◌, length, lit<, lit≤, arith}
use Rattle.psg_sound.specs.declared.noise.Noise.{Noise}
use Rattle.psg_sound.specs.declared.tone.Tone.{Tone}
use Rattle.psg_sound.specs.declared.write.PsgWrite.{PsgWrite}
use Rattle.psg_sound.specs.Voices.{IsTone, IsNoise, tone_ticked, noise_ticked, shifted, with_tone_period, with_tone_volume}
use Rattle.psg_sound.specs.Synth.{Synth, IsSynth, at_power_on, silent_tone, written, ticked, latched, stored, tone_stored, noise_stored}
use Rattle.psg_sound.specs.Batches.{Course, written_all, made_below, after_ticks, after_batch, samples, sample, ticks_below}
use Rattle.std.proofs.lemmas.List.FromFn.{length-map-range_with_len}
use Rattle.md_word.specs.Clock.{fm_sample, psg_tick}

IsTone-ticked : (t : Tone) → IsTone t → IsTone (tone_ticked t)
IsTone-ticked t h = record { period = h.period; volume = h.volume; low = grind (arith, h.low, h.high, h.period); high = grind (arith, h.low, h.high, h.period) }

IsTone-period : (value : ℕ) (t : Tone) → IsTone t → IsTone (with_tone_period value t)
IsTone-period value t h = record { period = grind (arith, h.period); volume = h.volume; low = h.low; high = h.high }

IsTone-volume : (value : ℕ) (t : Tone) → IsTone t → IsTone (with_tone_volume value t)
IsTone-volume value t h = record { period = h.period; volume = omega arith; low = h.low; high = h.high }

IsTone-stored : (p v : Bool) (value : ℕ) (t : Tone) → IsTone t → IsTone (tone_stored p v value t)
IsTone-stored true v value t h = IsTone-period value t h
IsTone-stored false true value t h = IsTone-volume value t h
IsTone-stored false false value t h = h

shifted-fits : (control register : ℕ) → register < 0x1_0000 → shifted control register < 0x1_0000
shifted-fits control register h = grind (arith, h)

IsNoise-ticked : (tone3 : ℕ) (n : Noise) → tone3 < 1024 → IsNoise n → IsNoise (noise_ticked tone3 n)
IsNoise-ticked tone3 n k h = record { control = h.control; volume = h.volume; low = grind (arith, h.low, h.high, k); high = grind (arith, h.low, h.high, k); register = grind (arith, shifted-fits n.control n.register h.register, h.register) }

IsNoise-stored : (c v : Bool) (value : ℕ) (n : Noise) → IsNoise n → IsNoise (noise_stored c v value n)
IsNoise-stored true v value n h = record { control = omega arith; volume = h.volume; low = h.low; high = h.high; register = lit< tt }
IsNoise-stored false true value n h = record { control = h.control; volume = omega arith; low = h.low; high = h.high; register = h.register }
IsNoise-stored false false value n h = h

IsSynth-latched : (value : ℕ) (s : Synth) → IsSynth s → IsSynth (latched value s)
IsSynth-latched value s h = record { latch = grind (arith, h.latch); tone1 = grind (arith, h.tone1); tone2 = grind (arith, h.tone2); tone3 = grind (arith, h.tone3); noise = grind (arith, h.noise) }

IsSynth-stored : (value : ℕ) (s : Synth) → IsSynth s → IsSynth (stored value s)
IsSynth-stored value s h = record {
  latch = h.latch;
  tone1 = IsTone-stored _ _ value s.tone1 h.tone1;
  tone2 = IsTone-stored _ _ value s.tone2 h.tone2;
  tone3 = IsTone-stored _ _ value s.tone3 h.tone3;
  noise = IsNoise-stored _ _ value s.noise h.noise;
}

-- a write keeps the ranges
pub IsSynth-written : (value : ℕ) (s : Synth) → IsSynth s → IsSynth (written value s)
unfolding written
IsSynth-written value s h = IsSynth-stored value (latched value s) (IsSynth-latched value s h)

-- a tick keeps the ranges
pub IsSynth-ticked : (s : Synth) → IsSynth s → IsSynth (ticked s)
unfolding ticked
IsSynth-ticked s h = record {
  latch = h.latch;
  tone1 = IsTone-ticked s.tone1 h.tone1;
  tone2 = IsTone-ticked s.tone2 h.tone2;
  tone3 = IsTone-ticked s.tone3 h.tone3;
  noise = IsNoise-ticked s.tone3.period s.noise h.tone3.period h.noise;
}

IsSynth-written_all : (ws : List PsgWrite) (s : Synth) → IsSynth s → IsSynth (written_all ws s)
IsSynth-written_all [] s h = h
IsSynth-written_all (w ∷ ws) s h = IsSynth-written_all ws (written w.value s) (IsSynth-written w.value s h)

IsSynth-made_below : (cycle : ℕ) (s : Synth) (ws : List PsgWrite) → IsSynth s → IsSynth (made_below cycle s ws).chip
IsSynth-made_below cycle s [] h = h
IsSynth-made_below cycle s (w ∷ ws) h = grind (arith, IsSynth-made_below cycle (written w.value s) ws (IsSynth-written w.value s h), h)

IsSynth-after_ticks : (t n : ℕ) (c : Course) → IsSynth c.chip → IsSynth (after_ticks t n c).chip
IsSynth-after_ticks t zero c h = h
IsSynth-after_ticks t (suc n) c h =
    IsSynth-ticked _ (IsSynth-made_below (psg_tick * (t + suc n)) (after_ticks t n c).chip (after_ticks t n c).rest (IsSynth-after_ticks t n c h))

-- a batch keeps the ranges
pub IsSynth-after_batch : (first : ℕ) (s : Synth) (ws : List PsgWrite) → IsSynth s → IsSynth (after_batch first s ws)
unfolding after_batch
IsSynth-after_batch first s ws h =
    let from = ticks_below (fm_sample * first) in
    let count = ticks_below (fm_sample * (first + 16)) - from in
    let start : Course = record { chip = s; rest = ws } in
    let course = after_ticks from count start in
    IsSynth-written_all course.rest course.chip (IsSynth-after_ticks from count start h)

-- a batch has sixteen samples
pub length-samples : (first : ℕ) (s : Synth) (ws : List PsgWrite) → length (samples first s ws) ≡ 16
unfolding samples
length-samples first s ws = length-map-range_with_len (λ k. sample first s ws (first + k)) 0 16

-- the ranges hold at power-on
pub IsSynth-at_power_on : IsSynth at_power_on
IsSynth-at_power_on =
    let tone : IsTone silent_tone = record { period = lit< tt; volume = lit< tt; low = lit≤ tt; high = lit< tt } in
    record {
      latch = lit< tt;
      tone1 = tone;
      tone2 = tone;
      tone3 = tone;
      noise = record { control = lit< tt; volume = lit< tt; low = lit≤ tt; high = lit< tt; register = lit< tt };
    }
