-- What is kept of the registers depends on some of them alone.
use Rattle.std.proofs.Common.{◌≡◌, ◌≢◌, ◌∙◌, ap, sym, ℕ, ◌+◌, ◌*◌, ◌/◌, ◌%◌, ◌<◌, ◌≤◌, ◌==◌, nat_lt, nat_le, Bool, true, ◌&&◌, not, if◌then◌else◌, List, slice_index, slice_set, get_or-set_other, arith}
use Rattle.fm_voice.specs.declared.envelope.state.EnvelopeState.{EnvelopeState}
use Rattle.fm_voice.specs.declared.envelope.state.EnvelopeState.TheVariants.{Attack, Decay, Sustain, Release}
use Rattle.fm_voice.specs.Phase.{key_code, step_of}
use Rattle.fm_chip.specs.declared.shapes.Shapes.{Shapes}
use Rattle.fm_chip.specs.declared.steps.Steps.{Steps}
use Rattle.fm_chip.specs.Registers.{base, frequency_of, frequency_at, frequency_place, rate, rate_value, rated, sustain_level}
use Rattle.fm_chip.specs.Lfo.{gain}
use Rattle.fm_chip.specs.Operators.{phase_step}
use Rattle.fm_chip.specs.Steps.{AreSteps, steps_of}
use Rattle.fm_chip.specs.Shapes.{AreShapes, shape_of, shapes_of}
use Rattle.fm_chip.specs.declared.kept.Kept.{Kept}
use Rattle.fm_chip.specs.Kept.{IsFresh, forgotten, is_kept_from}

-- registers that agree on the mode of channel 3, and on all from an operator's first on
record Agree (r t : List ℕ) : Type 0 where
  mode : slice_index r 0x27 ≡ slice_index t 0x27
  rest : (k : ℕ) → 0x30 ≤ k → slice_index r k ≡ slice_index t k

agree_set : (r : List ℕ) (place value : ℕ) → place < 0x30 → place ≢ 0x27 → Agree r (slice_set r place value)
agree_set r place value h ne = record {
  mode = sym (get_or-set_other r place 0x27 value 0 (λ e. ne (sym e)));
  rest = λ k low. let other : k ≢ place = omega (arith, h, low) in sym (get_or-set_other r place k value 0 other);
}

frequency_place-same : (r t : List ℕ) → Agree r t → (c n : ℕ) → frequency_place r c n ≡ frequency_place t c n
unfolding frequency_place
frequency_place-same r t a c n =
    ap (λ mode. if (c == 2) && (nat_lt n 3 && nat_le 64 mode) then (if n == 0 then 0xa9 else (if n == 1 then 0xaa else 0xa8)) else base c + 0xa0) a.mode

far : (r : List ℕ) (c n : ℕ) → 0x30 ≤ frequency_place r c n
unfolding frequency_place
far r c n = grind arith

frequency-same : (r t : List ℕ) → Agree r t → (c n : ℕ) → frequency_of r c n ≡ frequency_of t c n
unfolding frequency_of
frequency-same r t a c n =
    let place = frequency_place t c n in
    let low = far t c n in
    let high : 0x30 ≤ place + 4 = omega (arith, low) in
    ap (frequency_at r) (frequency_place-same r t a c n)
    ∙ (λ i. record { fnum = a.rest (place + 4) high i % 8 * 256 + a.rest place low i; block = a.rest (place + 4) high i / 8 % 8 })

-- register n of an operator
operator-same : (r t : List ℕ) → Agree r t → (c o n : ℕ) → 0x30 ≤ n
    → slice_index r (base c + n + (o % 2 * 8 + o / 2 * 4)) ≡ slice_index t (base c + n + (o % 2 * 8 + o / 2 * 4))
operator-same r t a c o n h = a.rest (base c + n + (o % 2 * 8 + o / 2 * 4)) (omega (arith, h))

rate_value-same : (r t : List ℕ) → Agree r t → (c n : ℕ) (state : EnvelopeState) → rate_value r c n state ≡ rate_value t c n state
unfolding rate_value
rate_value-same r t a c n Attack = ap (λ x. x % 32) (operator-same r t a c n 0x50 (omega arith))
rate_value-same r t a c n Decay = ap (λ x. x % 32) (operator-same r t a c n 0x60 (omega arith))
rate_value-same r t a c n Sustain = ap (λ x. x % 32) (operator-same r t a c n 0x70 (omega arith))
rate_value-same r t a c n Release = ap (λ x. x % 16 * 2 + 1) (operator-same r t a c n 0x80 (omega arith))

rate-same : (r t : List ℕ) → Agree r t → (c n : ℕ) (state : EnvelopeState) → rate r c n state ≡ rate t c n state
unfolding rate
rate-same r t a c n state = λ i.
    rated (rate_value-same r t a c n state i)
    (key_code (frequency-same r t a c n i).fnum (frequency-same r t a c n i).block)
    (operator-same r t a c n 0x50 (omega arith) i / 64)

sustain_level-same : (r t : List ℕ) → Agree r t → (c n : ℕ) → sustain_level r c n ≡ sustain_level t c n
unfolding sustain_level
sustain_level-same r t a c n = ap (λ x. if x / 16 == 15 then 992 else 32 * (x / 16)) (operator-same r t a c n 0x80 (omega arith))

shape-same : (r t : List ℕ) → Agree r t → (c n : ℕ) → shape_of r c n ≡ shape_of t c n
unfolding shape_of
shape-same r t a c n = λ i. record {
  attack = rate-same r t a c n Attack i;
  decay = rate-same r t a c n Decay i;
  sustain = rate-same r t a c n Sustain i;
  release = rate-same r t a c n Release i;
  sustain_level = sustain_level-same r t a c n i;
  total_level = 8 * (operator-same r t a c n 0x40 (omega arith) i % 128);
  has_tremolo = nat_le 128 (operator-same r t a c n 0x60 (omega arith) i);
}

shapes-same : (r t : List ℕ) → Agree r t → (c : ℕ) → shapes_of r c ≡ shapes_of t c
unfolding shapes_of
shapes-same r t a c = λ i. record {
  one = shape-same r t a c 0 i;
  two = shape-same r t a c 1 i;
  three = shape-same r t a c 2 i;
  four = shape-same r t a c 3 i;
}

phase_step-same : (r t : List ℕ) → Agree r t → (depth q c n : ℕ) → phase_step r depth q c n ≡ phase_step t depth q c n
unfolding phase_step
phase_step-same r t a depth q c n = λ i.
    step_of (frequency-same r t a c n i).fnum (gain (frequency-same r t a c n i).fnum depth q) (frequency-same r t a c n i).block
    (operator-same r t a c n 0x30 (omega arith) i / 16 % 8) (operator-same r t a c n 0x30 (omega arith) i % 16)

steps-same : (r t : List ℕ) → Agree r t → (q c : ℕ) → steps_of r q c ≡ steps_of t q c
unfolding steps_of
steps-same r t a q c =
    let depth : slice_index r (base c + 0xb4) % 8 ≡ slice_index t (base c + 0xb4) % 8 = ap (λ x. x % 8) (a.rest (base c + 0xb4) (omega arith)) in
    let step : (n : ℕ) → phase_step r (slice_index r (base c + 0xb4) % 8) q c n ≡ phase_step t (slice_index t (base c + 0xb4) % 8) q c n =
    λ n. ap (λ d. phase_step r d q c n) depth ∙ phase_step-same r t a (slice_index t (base c + 0xb4) % 8) q c n in
    λ i. record { one = step 0 i; two = step 1 i; three = step 2 i; four = step 3 i }

-- a write below the operators' registers that does not change the mode changes nothing of it
steps_after : (r : List ℕ) (place value q : ℕ) (channels : List Steps) → place < 0x30 → place ≢ 0x27
    → AreSteps r q channels → AreSteps (slice_set r place value) q channels
steps_after r place value q channels h ne s = record {
  six = s.six;
  each = λ c k. s.each c k ∙ steps-same r (slice_set r place value) (agree_set r place value h ne) q c;
  small = s.small;
}

shapes_after : (r : List ℕ) (place value : ℕ) (channels : List Shapes) → place < 0x30 → place ≢ 0x27
    → AreShapes r channels → AreShapes (slice_set r place value) channels
shapes_after r place value channels h ne s = record {
  six = s.six;
  each = λ c k. s.each c k ∙ shapes-same r (slice_set r place value) (agree_set r place value h ne) c;
  fine = s.fine;
}

stays : (place : ℕ) (fresh : Bool) → fresh && not (is_kept_from place) ≡ true → (fresh ≡ true) × (place < 0x30) × (place ≢ 0x27)
stays place fresh e = (grind (arith, e), grind (arith, e), grind (arith, e))

pub fresh_after : (r : List ℕ) (place value : ℕ) (kept : Kept) → IsFresh r kept → IsFresh (slice_set r place value) (forgotten place kept)
unfolding forgotten
fresh_after r place value kept f = record {
  steps_six = f.steps_six;
  shapes_six = f.shapes_six;
  steps = λ e. let s = stays place kept.fresh e in steps_after r place value kept.place kept.steps s.1 s.2 (f.steps s.0);
  shapes = λ e. let s = stays place kept.fresh e in shapes_after r place value kept.shapes s.1 s.2 (f.shapes s.0);
}
