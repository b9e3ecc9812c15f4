use Rattle.std.proofs.Common.{◌≡◌, ℕ, ◌*◌, ◌%◌, ◌<◌, length}
use Rattle.std.specs.Prelude.{slice_index}
use Rattle.md_word.specs.Region.{scanline_length}
use Rattle.vdp_planes.proofs.screen.fill_row.Given as goal

-- the dots so far are the sixteen again and again
abbrev pub invariant-loop-x : goal.invariant-loop-x
invariant-loop-x l = (length l.rgb ≡ scanline_length) × ((n : ℕ) → n < 48 * l.x → slice_index l.rgb n ≡ slice_index l.dots (n % 48))
