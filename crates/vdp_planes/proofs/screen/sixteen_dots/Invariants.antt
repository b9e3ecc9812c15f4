use Rattle.std.proofs.Common.{◌≡◌, ℕ, ◌*◌, ◌%◌, ◌<◌, length}
use Rattle.std.specs.Prelude.{slice_index}
use Rattle.vdp_planes.specs.Mixing.{part}
use Rattle.vdp_planes.proofs.screen.sixteen_dots.Given as goal

-- the dots so far have the colour
abbrev pub invariant-loop-x : goal.invariant-loop-x
invariant-loop-x l = (length l.dots ≡ 48) × ((n : ℕ) → n < 3 * l.x → slice_index l.dots n ≡ part l.colour (n % 3))
