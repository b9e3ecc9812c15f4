-- Ticks at once: those of a divider, of a channel and of the chip.
use Rattle.std.proofs.Common.{◌≡◌, ◌∙◌, refl, ap, ℕ, zero, suc, ◌+◌, ◌-◌, ◌*◌, ◌%◌, ◌<◌, ◌≤◌, ◌==◌, Bool, true, false, not, if◌then◌else◌, List, arith}
use Rattle.std.specs.Fn.{iterate}
use Rattle.md_word.specs.Clock.{psg_tick}
use Rattle.psg_sound.specs.declared.divider.Divider.{Divider}
use Rattle.psg_sound.specs.declared.noise.Noise.{Noise}
use Rattle.psg_sound.specs.declared.tone.Tone.{Tone}
use Rattle.psg_sound.specs.declared.write.PsgWrite.{PsgWrite}
use Rattle.psg_sound.specs.Voices.{divided, noise_ticked, period_of, tone_ticked}
use Rattle.psg_sound.specs.Synth.{Synth, ticked}
use Rattle.psg_sound.specs.Batches.{AreDueFrom, Course, after_ticks, next_tick}

-- one more at the end
pub iterate-next : {A : Type 0} → (h : A → A) (n : ℕ) (x : A) → h (iterate h n x) ≡ iterate h (suc n) x
iterate-next h zero x = refl
iterate-next h (suc n) x = iterate-next h n (h x)

-- a counter that does not run out
divided-one : (period : ℕ) (d : Divider) → 1 < d.counter → divided period d ≡ record { counter = d.counter - 1; bit = d.bit }
divided-one period d h = grind arith

pub divided_still : (period n : ℕ) (d : Divider) → n < d.counter → iterate (divided period) n d ≡ record { counter = d.counter - n; bit = d.bit }
divided_still period zero d h = let count : d.counter ≡ d.counter - 0 = omega arith in λ i. record { counter = count i; bit = d.bit }
divided_still period (suc n) d h =
    let count : d.counter - 1 - n ≡ d.counter - suc n = omega arith in
    ap (iterate (divided period) n) (divided-one period d (omega arith))
    ∙ divided_still period n (record { counter = d.counter - 1; bit = d.bit }) (omega arith)
    ∙ (λ i. record { counter = count i; bit = d.bit })

-- a counter stays in its range
pub divided-range : (period : ℕ) (d : Divider) → 1 ≤ period → period < 1024 → 1 ≤ d.counter → d.counter < 1024
    → (1 ≤ (divided period d).counter) × ((divided period d).counter < 1024)
divided-range period d a b c e = (grind arith, grind arith)

-- one that runs out at each tick
pub divided_each : (n : ℕ) (bit : Bool) → iterate (divided 1) n (record { counter = 1; bit = bit }) ≡ record { counter = 1; bit = if n % 2 == 1 then not bit else bit }
divided_each zero bit = refl
divided_each (suc zero) bit = refl
divided_each (suc (suc n)) true = divided_each n true ∙ (grind arith)
divided_each (suc (suc n)) false = divided_each n false ∙ (grind arith)

-- a tone is its divider
pub tone_parts : (n : ℕ) (t : Tone) → iterate tone_ticked n t ≡ record t { divider = iterate (divided (period_of t.period)) n t.divider }
tone_parts zero t = refl
tone_parts (suc n) t = tone_parts n (tone_ticked t)

-- the noise where its counter does not run out
noise-one : (tone3 : ℕ) (s : Noise) → 1 < s.divider.counter → noise_ticked tone3 s ≡ record s { divider = record { counter = s.divider.counter - 1; bit = s.divider.bit } }
noise-one tone3 s h = grind arith

pub noise_still : (tone3 n : ℕ) (s : Noise) → n < s.divider.counter
    → iterate (noise_ticked tone3) n s ≡ record s { divider = record { counter = s.divider.counter - n; bit = s.divider.bit } }
noise_still tone3 zero s h =
    let count : s.divider.counter ≡ s.divider.counter - 0 = omega arith in
    λ i. record s { divider = record { counter = count i; bit = s.divider.bit } }
noise_still tone3 (suc n) s h =
    let count : s.divider.counter - 1 - n ≡ s.divider.counter - suc n = omega arith in
    ap (iterate (noise_ticked tone3) n) (noise-one tone3 s (omega arith))
    ∙ noise_still tone3 n (record s { divider = record { counter = s.divider.counter - 1; bit = s.divider.bit } }) (omega arith)
    ∙ (λ i. record s { divider = record { counter = count i; bit = s.divider.bit } })

-- the chip is its channels: no tick changes the period that the noise looks at
pub ticked_parts : (n : ℕ) (s : Synth) → iterate ticked n s ≡ record s {
  tone1 = iterate tone_ticked n s.tone1;
  tone2 = iterate tone_ticked n s.tone2;
  tone3 = iterate tone_ticked n s.tone3;
  noise = iterate (noise_ticked s.tone3.period) n s.noise;
}
unfolding ticked
ticked_parts zero s = refl
ticked_parts (suc n) s = ticked_parts n (ticked s)

-- ticks before which no write comes
pub ticks-alone : (t n : ℕ) (s : Synth) (ws : List PsgWrite) → AreDueFrom (psg_tick * (t + n)) ws
    → after_ticks t n (record { chip = s; rest = ws }) ≡ record { chip = iterate ticked n s; rest = ws }
ticks-alone t zero s ws h = refl
ticks-alone t (suc n) s ws h =
    ap (next_tick (psg_tick * (t + suc n))) (ticks-alone t n s ws (λ r at k. h r at (omega arith)))
    ∙ ap (λ (c : Course). record { chip = ticked c.chip; rest = c.rest }) (h (iterate ticked n s) (psg_tick * (t + suc n)) (omega arith))
    ∙ (λ i. record { chip = iterate-next ticked n s i; rest = ws })
