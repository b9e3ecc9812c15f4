-- The level by its four parts.
use Rattle.std.proofs.Common.{◌≡◌, ◌∙◌, ap, ℕ, ℤ, ◌+ℤ◌}
use Rattle.psg_sound.specs.declared.noise.Noise.{Noise}
use Rattle.psg_sound.specs.declared.tone.Tone.{Tone}
use Rattle.psg_sound.specs.Synth.{Synth, level}
use Rattle.psg_sound.specs.Voices.{tone_level, noise_level}

pub level-parts : (latch : ℕ) (t u v : Tone) (n : Noise) (s : Synth) (a b c d : ℤ)
    → record { latch = latch; tone1 = t; tone2 = u; tone3 = v; noise = n } ≡ s
    → a ≡ tone_level t → b ≡ tone_level u → c ≡ tone_level v → d ≡ noise_level n
    → ((a +ℤ b) +ℤ c) +ℤ d ≡ level s
unfolding level
level-parts latch t u v n s a b c d e p q r o =
    (λ i. ((p i +ℤ q i) +ℤ r i) +ℤ o i) ∙ ap level e
