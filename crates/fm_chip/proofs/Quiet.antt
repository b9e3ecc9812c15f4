-- A channel whose envelopes leave nothing of its waves.
use Rattle.std.proofs.Common.{◌≡◌, ℕ, zero, suc, ◌+◌, ◌≤◌, min, ℤ, pos, List, [], ◌∷◌, ap, arith}
use Rattle.fm_voice.specs.Channel.{heard, last_at}
use Rattle.fm_voice.specs.Silence.{AreSilent}
use Rattle.fm_voice.proofs.Quiet.{heard-quiet, last-quiet}
use Rattle.fm_chip.specs.declared.channels.Channel.{Channel}
use Rattle.fm_chip.specs.Channels.{IsQuiet, attenuations, sounded, voice_of}
use Rattle.fm_chip.specs.Operators.{attenuation}

weak : (v level extra : ℕ) → 832 ≤ v → 832 ≤ min 1023 (v + level + extra)
weak v level extra h = omega arith

weak-operator : (registers : List ℕ) (tremolo c n v : ℕ) → 832 ≤ v → 832 ≤ attenuation registers tremolo c n v
unfolding attenuation
weak-operator registers tremolo c n v h = weak v _ _ h

quiet-silent : (registers : List ℕ) (tremolo c : ℕ) (ch : Channel) → IsQuiet ch → AreSilent (attenuations registers tremolo c ch)
unfolding attenuations
quiet-silent registers tremolo c ch quiet zero below = weak-operator registers tremolo c 0 ch.one.v quiet.one
quiet-silent registers tremolo c ch quiet (suc zero) below = weak-operator registers tremolo c 1 ch.two.v quiet.two
quiet-silent registers tremolo c ch quiet (suc (suc zero)) below = weak-operator registers tremolo c 2 ch.three.v quiet.three
quiet-silent registers tremolo c ch quiet (suc (suc (suc zero))) below = weak-operator registers tremolo c 3 ch.four.v quiet.four
quiet-silent registers tremolo c ch quiet (suc (suc (suc (suc n)))) below = absurd (omega (arith, below))

pub quiet-heard : (registers : List ℕ) (t c : ℕ) (ch : Channel) → IsQuiet ch → pos 0 ≡ heard (voice_of registers t c ch)
unfolding voice_of
quiet-heard registers t c ch quiet = heard-quiet _ (quiet-silent registers _ c ch quiet)

-- the channel with these last outputs
abbrev pub with_last : Channel → List ℤ → Channel
with_last ch last = record { one = ch.one; two = ch.two; three = ch.three; four = ch.four; last = last }

pub quiet-sounded : (registers : List ℕ) (t c : ℕ) (ch : Channel) (b : ℤ) → IsQuiet ch → b ≡ last_at ch.last 1 → with_last ch (b ∷ pos 0 ∷ []) ≡ sounded registers t c ch
unfolding sounded voice_of
quiet-sounded registers t c ch b quiet e = ap (with_last ch) (last-quiet _ b (quiet-silent registers _ c ch quiet) e)
