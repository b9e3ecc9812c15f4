-- A channel whose operators are silent.
use Rattle.std.proofs.Common.{◌≡◌, ◌∙◌, ap, ℕ, ◌≤◌, Bool, true, false, ℤ, pos, ◌+ℤ◌, [], ◌∷◌, refl, sym, arith}
use Rattle.std.specs.Prelude.{neg_ℤ, if◌then◌else◌}
use Rattle.fm_voice.specs.Channel.{Voice, carried, clamped, four, heard, last_after, last_at, modulated, one, sent, three, two}
use Rattle.fm_voice.specs.Silence.{AreSilent}
use Rattle.fm_voice.specs.Wave.{output, wave}
use Rattle.fm_voice.proofs.Silent.{silenced}

either : (b : Bool) (m : ℕ) → m ≡ 0 → (if b then pos m else neg_ℤ (pos m)) ≡ pos 0
either true m e = ap pos e
either false m e = ap (λ n. neg_ℤ (pos n)) e

quiet : (phase : ℕ) (modulation : ℤ) (attenuation : ℕ) → 832 ≤ attenuation → output phase modulation attenuation ≡ pos 0
unfolding output wave
quiet phase modulation attenuation weak = either _ _ (silenced _ attenuation weak)

none : (b : Bool) → sent b (pos 0) ≡ pos 0
none true = refl
none false = refl

pub one-quiet : (v : Voice) → AreSilent v.attenuations → one v ≡ pos 0
unfolding one
one-quiet v silent = quiet _ _ _ (silent 0 (omega arith))

pub two-quiet : (v : Voice) → AreSilent v.attenuations → two v ≡ pos 0
unfolding two modulated
two-quiet v silent = quiet _ _ _ (silent 1 (omega arith))

pub three-quiet : (v : Voice) → AreSilent v.attenuations → three v ≡ pos 0
unfolding three modulated
three-quiet v silent = quiet _ _ _ (silent 2 (omega arith))

pub four-quiet : (v : Voice) → AreSilent v.attenuations → four v ≡ pos 0
unfolding four modulated
four-quiet v silent = quiet _ _ _ (silent 3 (omega arith))

sums : (a b c d : ℤ) → a ≡ pos 0 → b ≡ pos 0 → c ≡ pos 0 → d ≡ pos 0 → ((a +ℤ b) +ℤ c) +ℤ d ≡ pos 0
sums a b c d e f g h = λ i. ((e i +ℤ f i) +ℤ g i) +ℤ h i

carries-none : (algorithm : ℕ) → carried algorithm (pos 0) (pos 0) (pos 0) (pos 0) ≡ pos 0
unfolding carried
carries-none algorithm = sums _ _ _ _ (none _) (none _) (none _) (none _)

none-clamped : clamped (pos 0) ≡ pos 0
unfolding clamped
none-clamped = refl

pub heard-quiet : (v : Voice) → AreSilent v.attenuations → pos 0 ≡ heard v
unfolding heard
heard-quiet v silent =
    sym ((λ i. clamped (carried v.algorithm (one-quiet v silent i) (two-quiet v silent i) (three-quiet v silent i) (four-quiet v silent i)))
    ∙ ap clamped (carries-none v.algorithm) ∙ none-clamped)

pub last-quiet : (v : Voice) (b : ℤ) → AreSilent v.attenuations → b ≡ last_at v.last 1 → b ∷ pos 0 ∷ [] ≡ last_after v
unfolding last_after
last-quiet v b silent e = λ i. e i ∷ sym (one-quiet v silent) i ∷ []
