-- Arithmetic of lines and frames in both regions.
use Rattle.std.proofs.Common.{◌≡◌, ℕ, ◌+◌, ◌-◌, ◌*◌, ◌/◌, ◌%◌, ◌<◌, ◌≤◌, Bool, true, false, refl, arith}
use Rattle.md_word.specs.Clock as clock
use Rattle.md_word.specs.Region.{finished_at, finishes, frame_cycles, lines, picture_length, rows, scanline_length}

-- ---- the numbers of a region agree, and their bounds

pub finished-rows : (pal : Bool) → finished_at pal ≡ clock.line * rows pal
finished-rows true = refl
finished-rows false = refl

pub picture-rows : (pal : Bool) → picture_length pal ≡ scanline_length * rows pal
picture-rows true = refl
picture-rows false = refl

-- ---- one line of the frame's end within a frame's cycles

pub only_one : (pal : Bool) (from at next : ℕ) → from ≤ at → at < next → at / clock.line % lines pal ≡ rows pal → at % clock.line ≡ 0
    → next / clock.line % lines pal ≡ rows pal → next % clock.line ≡ 0 → next < from + frame_cycles pal → ⊥
only_one true from at next following before line whole other multiple near = omega (arith, following, before, line, whole, other, multiple, near)
only_one false from at next following before line whole other multiple near = omega (arith, following, before, line, whole, other, multiple, near)

-- ---- a line more

pub one-more-by : (pal : Bool) (n : ℕ) → n % lines pal ≡ rows pal → finishes pal n + 1 ≡ finishes pal (n + 1)
one-more-by true n at = omega (arith, at)
one-more-by false n at = omega (arith, at)

pub none-more-by : (pal : Bool) (n : ℕ) → (n % lines pal ≡ rows pal → ⊥) → finishes pal n ≡ finishes pal (n + 1)
none-more-by true n other = omega (arith, other)
none-more-by false n other = omega (arith, other)

-- the lines that begin below a cycle have as many of the frame's end as begin below it
pub finishes-below : (pal : Bool) (end : ℕ) → finishes pal ((end + 3419) / clock.line) ≡ (end + (frame_cycles pal - finished_at pal - 1)) / frame_cycles pal
finishes-below true end = omega arith
finishes-below false end = omega arith

-- ---- the frame whose pads' line began last

pub at_pads : (pal : Bool) (k : ℕ) → clock.line * k % frame_cycles pal ≡ clock.line * rows pal → clock.line * k / frame_cycles pal ≡ (k + 1 - (rows pal + 1)) / lines pal
at_pads true k e = omega (arith, e)
at_pads false k e = omega (arith, e)

pub beside_pads : (pal : Bool) (k : ℕ) → rows pal + 1 ≤ k → (clock.line * k % frame_cycles pal ≡ clock.line * rows pal → ⊥)
    → (k - (rows pal + 1)) / lines pal ≡ (k + 1 - (rows pal + 1)) / lines pal
beside_pads true k past e = omega (arith, past, e)
beside_pads false k past e = omega (arith, past, e)
