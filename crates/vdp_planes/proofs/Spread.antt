-- Four digits moved apart, 16 bits each.
use Rattle.std.proofs.Common.{◌≡◌, ◌∙◌, refl, subst, ap, add-zero, ℕ, suc, zero, List, length, ◌≤◌, ◌+◌, ◌-◌, ◌*◌, ◌/◌, ◌%◌, ◌^◌, ◌<◌, ◌==◌, arith}
use Rattle.std.specs.Prelude.{bit_and, slice_set}
use Rattle.std.proofs.lemmas.Nat.{and_block}
use Rattle.md_word.specs.Region.{picture_width}
use Rattle.vdp_planes.specs.Dots.{dot_of}
use Rattle.vdp_planes.specs.View.{IsFilled, has_bit}
use Rattle.vdp_planes.specs.Planes.{pixel_dot, pixel_of}
use Rattle.vdp_planes.proofs.Digits.{low_of}
use Rattle.vdp_planes.proofs.Filled.{filled_one}

low_four : (n0 n1 n2 n3 : ℕ) → n0 < 65536 → n1 < 65536 → n2 < 65536
    → bit_and (((n3 * 2 ^ 16 + n2) * 2 ^ 16 + n1) * 2 ^ 16 + n0) (((15 * 2 ^ 16 + 15) * 2 ^ 16 + 15) * 2 ^ 16 + 15) ≡ ((n3 % 16 * 2 ^ 16 + n2 % 16) * 2 ^ 16 + n1 % 16) * 2 ^ 16 + n0 % 16
low_four n0 n1 n2 n3 h0 h1 h2 =
    and_block 16 ((n3 * 2 ^ 16 + n2) * 2 ^ 16 + n1) ((15 * 2 ^ 16 + 15) * 2 ^ 16 + 15) n0 15 h0 (omega arith)
    ∙ (λ i. and_block 16 (n3 * 2 ^ 16 + n2) (15 * 2 ^ 16 + 15) n1 15 h1 (omega arith) i * 2 ^ 16 + low_of n0 i)
    ∙ (λ i. (and_block 16 n3 15 n2 15 h2 (omega arith) i * 2 ^ 16 + low_of n1 i) * 2 ^ 16 + n0 % 16)
    ∙ (λ i. ((low_of n3 i * 2 ^ 16 + low_of n2 i) * 2 ^ 16 + n1 % 16) * 2 ^ 16 + n0 % 16)

apart : (p : ℕ) → p < 65536
    → bit_and (p * 1152922604119523329 % 18446744073709551616 / 4096) 4222189076152335 ≡ p % 16 * 281474976710656 + p / 16 % 16 * 4294967296 + p / 256 % 16 * 65536 + p / 4096
apart p h =
    let e : p * 1152922604119523329 % 18446744073709551616 / 4096 ≡ ((p % 16 * 2 ^ 16 + p / 16) * 2 ^ 16 + (p % 16 * 4096 + p / 256)) * 2 ^ 16 + (p % 256 * 256 + p / 4096) = omega arith in
    let f = low_four (p % 256 * 256 + p / 4096) (p % 16 * 4096 + p / 256) (p / 16) (p % 16) (omega arith) (omega arith) (omega arith) in
    let g : bit_and (p * 1152922604119523329 % 18446744073709551616 / 4096) 4222189076152335
    ≡ ((p % 16 % 16 * 2 ^ 16 + p / 16 % 16) * 2 ^ 16 + (p % 16 * 4096 + p / 256) % 16) * 2 ^ 16 + (p % 256 * 256 + p / 4096) % 16 = ap (λ m. bit_and m 4222189076152335) e ∙ f in
    omega (arith, g)

pub words_apart : (p base n : ℕ) → p < 65536 → base < 496
    → n ≡ bit_and (p * 1152922604119523329 % 18446744073709551616 / 4096) 4222189076152335 + base * 281479271743489
    → (c : ℕ) → c < 4 → n / 2 ^ (16 * c) % 65536 ≡ base + p / 2 ^ (12 - 4 * c) % 16
words_apart p base n h u e zero low = let a = apart p h in let d : n / 1 % 65536 ≡ base + p / 4096 % 16 = omega (arith, a) in d
words_apart p base n h u e (suc zero) low = let a = apart p h in let d : n / 65536 % 65536 ≡ base + p / 256 % 16 = omega (arith, a) in d
words_apart p base n h u e (suc (suc zero)) low = let a = apart p h in let d : n / 4294967296 % 65536 ≡ base + p / 16 % 16 = omega (arith, a) in d
words_apart p base n h u e (suc (suc (suc zero))) low = let a = apart p h in let d : n / 281474976710656 % 65536 ≡ base + p / 1 % 16 = omega (arith, a) in d
words_apart p base n h u e (suc (suc (suc (suc c)))) low = absurd (omega arith)

pub left_digits : (pixels c : ℕ) → c < 4 → pixels / 65536 / 2 ^ (12 - 4 * c) % 16 ≡ pixel_of pixels (0 + c)
unfolding pixel_of
left_digits pixels zero low = let d : pixels / 65536 / 4096 % 16 ≡ pixels / 268435456 % 16 = omega arith in d
left_digits pixels (suc zero) low = let d : pixels / 65536 / 256 % 16 ≡ pixels / 16777216 % 16 = omega arith in d
left_digits pixels (suc (suc zero)) low = let d : pixels / 65536 / 16 % 16 ≡ pixels / 1048576 % 16 = omega arith in d
left_digits pixels (suc (suc (suc zero))) low = let d : pixels / 65536 / 1 % 16 ≡ pixels / 65536 % 16 = omega arith in d
left_digits pixels (suc (suc (suc (suc c)))) low = absurd (omega arith)

pub right_digits : (pixels c : ℕ) → c < 4 → pixels % 65536 / 2 ^ (12 - 4 * c) % 16 ≡ pixel_of pixels (4 + c)
unfolding pixel_of
right_digits pixels zero low = let d : pixels % 65536 / 4096 % 16 ≡ pixels / 4096 % 16 = omega arith in d
right_digits pixels (suc zero) low = let d : pixels % 65536 / 256 % 16 ≡ pixels / 256 % 16 = omega arith in d
right_digits pixels (suc (suc zero)) low = let d : pixels % 65536 / 16 % 16 ≡ pixels / 16 % 16 = omega arith in d
right_digits pixels (suc (suc (suc zero))) low = let d : pixels % 65536 / 1 % 16 ≡ pixels / 1 % 16 = omega arith in d
right_digits pixels (suc (suc (suc (suc c)))) low = absurd (omega arith)

pub pixel-below : (pixels c : ℕ) → pixel_of pixels c < 16
unfolding pixel_of
pixel-below pixels c = omega arith

-- the dot of such a word
word_dot : (name pixels column w : ℕ) → w ≡ name / 32768 % 2 * 256 + name / 8192 % 4 * 16 + pixel_of pixels column
    → dot_of w ≡ record { colour = name / 8192 % 4 * 16 + pixel_of pixels column; priority = has_bit name 32768 }
word_dot name pixels column w e =
    let p = pixel-below pixels column in
    let colour : w % 256 ≡ name / 8192 % 4 * 16 + pixel_of pixels column = omega (arith, p) in
    let priority : w / 256 % 2 ≡ name / 32768 % 2 = omega (arith, p) in
    λ i. record { colour = colour i; priority = (priority i == 1) }

pub word_at_place : (name pixels column from c w : ℕ) → w ≡ name / 32768 % 2 * 256 + name / 8192 % 4 * 16 + pixel_of pixels (column + c)
    → dot_of w ≡ pixel_dot name pixels 0 from (from + column + c)
word_at_place name pixels column from c w e =
    let place : column + c ≡ 0 + (from + column + c - from) = omega arith in
    word_dot name pixels (column + c) w e ∙ (λ i. record { colour = name / 8192 % 4 * 16 + pixel_of pixels (place i); priority = has_bit name 32768 })

step : {A : Type 0} (d : A) (from i k : ℕ) (old new : List A) (f : ℕ → A) → IsFilled d from (i + k + 1) old new f → IsFilled d from (i + (k + 1)) old new f
step d from i k old new f h = let place : i + k + 1 ≡ i + (k + 1) = omega arith in subst (λ n. IsFilled d from n old new f) place h

-- four places filled
pub four_filled : {A : Type 0} (d : A) (i : ℕ) (old : List A) (f : ℕ → A) (v0 v1 v2 v3 : A) → length old ≡ picture_width → i + 4 ≤ picture_width
    → v0 ≡ f (i + 0) → v1 ≡ f (i + 1) → v2 ≡ f (i + 2) → v3 ≡ f (i + 3)
    → IsFilled d i (i + 4) old (slice_set (slice_set (slice_set (slice_set old i v0) (i + 1) v1) (i + 2) v2) (i + 3) v3) f
four_filled d i old f v0 v1 v2 v3 whole within e0 e1 e2 e3 =
    let none : IsFilled d i i old old f = record { whole = whole; inside = λ x low high. absurd (omega arith); below = λ x low. refl; above = λ x high. refl } in
    let one = filled_one d i i old old f v0 none (omega arith) (omega arith) (e0 ∙ ap f (add-zero i)) in
    let two = filled_one d i (i + 1) old _ f v1 one (omega arith) (omega arith) e1 in
    let three = filled_one d i (i + 2) old _ f v2 (step d i i 1 old _ f two) (omega arith) (omega arith) e2 in
    let four = filled_one d i (i + 3) old _ f v3 (step d i i 2 old _ f three) (omega arith) (omega arith) e3 in
    step d i i 3 old _ f four

pub word-below : (name pixels column w : ℕ) → w ≡ name / 32768 % 2 * 256 + name / 8192 % 4 * 16 + pixel_of pixels column → w < 512
word-below name pixels column w e = let p = pixel-below pixels column in omega (arith, p)
