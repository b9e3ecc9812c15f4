-- A sample of a chip of which nothing is heard.
use Rattle.std.proofs.Common.{◌≡◌, ◌∙◌, refl, sym, ap, ℕ, zero, suc, ◌/◌, ◌<◌, ◌≤◌, ℤ, pos, ◌+ℤ◌, Bool, true, false, ◌&&◌, ◌==◌, if◌then◌else◌, List, [], ◌∷◌, length, arith}
use Rattle.std.specs.Prelude.{All}
use Rattle.std.proofs.lemmas.Bool.{lt-leb}
use Rattle.std.proofs.Math.Bool.{and-false}
use Rattle.fm_voice.specs.Channel.{heard, last_at}
use Rattle.fm_chip.specs.declared.channels.Channel.{Channel}
use Rattle.fm_chip.specs.declared.channels.Moment.{Moment}
use Rattle.fm_chip.specs.declared.steps.Steps.{Steps}
use Rattle.fm_chip.specs.Registers.{at}
use Rattle.fm_chip.specs.Operators.{advanced}
use Rattle.fm_chip.specs.Steps.{steps_of}
use Rattle.fm_chip.specs.Shapes.{all_enveloped_by, ready_by, shapes_of}
use Rattle.fm_chip.specs.Channels.{AreAtRest, IsQuiet, all_advanced, blank, channel_after, channel_at, channel_value, chosen, ready, replaces, sounded, value, voice_of}
use Rattle.fm_chip.specs.Synth.{IsIdle, Synth, left_below, left_of, moment_of, right_below, right_of, sides}
use Rattle.fm_chip.proofs.Quiet.{quiet-heard, quiet-sounded, with_last}
use Rattle.fm_chip.proofs.Rests.{all_rest}
use Rattle.fm_chip.proofs.Shaped.{ready_is}

if-same : {A : Type 0} (b : Bool) (x y : A) → y ≡ x → (if b then x else y) ≡ y
if-same true x y e = sym e
if-same false x y e = refl

ready-rests : (registers : List ℕ) (m : Moment) (c : ℕ) (ch : Channel) → AreAtRest ch → ready registers m c ch ≡ ch
unfolding ready_by
ready-rests registers m c ch rest =
    sym (ready_is registers c m ch (shapes_of registers c) refl)
    ∙ if-same m.ticks (all_enveloped_by (shapes_of registers c) m.counter ch) ch (all_rest (shapes_of registers c) m.counter ch rest)

quiet : (ch : Channel) → AreAtRest ch → IsQuiet ch
quiet ch rest = record {
  one = omega (arith, rest.one.v);
  two = omega (arith, rest.two.v);
  three = omega (arith, rest.three.v);
  four = omega (arith, rest.four.v);
}

-- what a sample leaves of a channel at rest
pub rest-after : (registers : List ℕ) (m : Moment) (c : ℕ) (ch : Channel) (steps : Steps) (b : ℤ) → AreAtRest ch → b ≡ last_at ch.last 1 → steps ≡ steps_of registers (m.t / 4) c
    → all_advanced steps (with_last ch (b ∷ pos 0 ∷ [])) ≡ channel_after registers m c ch
unfolding channel_after
rest-after registers m c ch steps b rest e s =
    (λ i. all_advanced (s i) (quiet-sounded registers m.t c ch b (quiet ch rest) e i))
    ∙ ap (λ x. all_advanced (steps_of registers (m.t / 4) c) (sounded registers m.t c x)) (sym (ready-rests registers m c ch rest))

pub rests-on : (ch : Channel) (steps : Steps) (last : List ℤ) → AreAtRest ch → AreAtRest (all_advanced steps (with_last ch last))
unfolding all_advanced advanced
rests-on ch steps last rest = record {
  one = record { v = rest.one.v; state = rest.one.state };
  two = record { v = rest.two.v; state = rest.two.state };
  three = record { v = rest.three.v; state = rest.three.state };
  four = record { v = rest.four.v; state = rest.four.state };
}

not-replaced : (registers : List ℕ) (c : ℕ) → at registers 0x2b < 128 → replaces registers c ≡ false
unfolding replaces
not-replaced registers c h = ap (λ (b : Bool). (c == 5) && b) (lt-leb 128 (at registers 0x2b) h) ∙ and-false (c == 5)

rest-value : (registers : List ℕ) (m : Moment) (c : ℕ) (ch : Channel) → AreAtRest ch → at registers 0x2b < 128 → channel_value registers m c ch ≡ pos 0
unfolding channel_value value chosen
rest-value registers m c ch rest off =
    rw (not-replaced registers c off)
    (ap (λ x. heard (voice_of registers m.t c x)) (ready-rests registers m c ch rest) ∙ sym (quiet-heard registers m.t c ch (quiet ch rest)))

left-none : (registers : List ℕ) (c : ℕ) → left_of registers c (pos 0) ≡ pos 0
unfolding left_of
left-none registers c = grind arith

right-none : (registers : List ℕ) (c : ℕ) → right_of registers c (pos 0) ≡ pos 0
unfolding right_of
right-none registers c = grind arith

left-idle : (registers : List ℕ) (m : Moment) (channels : List Channel) → length channels ≡ 6 → All AreAtRest channels → at registers 0x2b < 128
    → (c : ℕ) → c ≤ 6 → left_below registers m channels c ≡ pos 0
unfolding left_below
left-idle registers m channels six rest off zero most = refl
left-idle registers m channels six rest off (suc c) most =
    let none = rest-value registers m c (channel_at channels c) (rest c blank (omega (arith, six))) off in
    λ i. left-idle registers m channels six rest off c (omega arith) i +ℤ (ap (left_of registers c) none ∙ left-none registers c) i

right-idle : (registers : List ℕ) (m : Moment) (channels : List Channel) → length channels ≡ 6 → All AreAtRest channels → at registers 0x2b < 128
    → (c : ℕ) → c ≤ 6 → right_below registers m channels c ≡ pos 0
unfolding right_below
right-idle registers m channels six rest off zero most = refl
right-idle registers m channels six rest off (suc c) most =
    let none = rest-value registers m c (channel_at channels c) (rest c blank (omega (arith, six))) off in
    λ i. right-idle registers m channels six rest off c (omega arith) i +ℤ (ap (right_of registers c) none ∙ right-none registers c) i

pub sides-idle : (k : ℕ) (s : Synth) → length s.channels ≡ 6 → IsIdle s → (pos 0, pos 0) ≡ sides k s
unfolding sides
sides-idle k s six idle = sym (λ i. (left-idle s.registers (moment_of k s) s.channels six idle.channels idle.converter 6 (omega arith) i, right-idle s.registers (moment_of k s) s.channels six idle.channels idle.converter 6 (omega arith) i))
