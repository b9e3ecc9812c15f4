-- The counts of frames and samples that are reported are those of the machine's laws.
use Rattle.std.proofs.Common.{◌≡◌, ℕ, ◌+◌, ◌-◌, ◌*◌, ◌/◌, ◌%◌, ◌∙◌, ◌<◌, ◌≤◌, cond, Bool, true, false, refl, ap, arith}
use Rattle.std.specs.Prelude.{nat_lt}
use Rattle.std.proofs.lemmas.Bool.Decides.{nat_tests}
use Rattle.md_word.specs.Region.{finished_at, frame_cycles}
use Rattle.md_chips.specs.Starts.{batches_below, frames_below}
use Rattle.run_command.specs.Counts.{count_of_frames, frames_between, pairs_between}

-- a frame is counted from the cycle after its line of the pads on
whole_of : (pal b : Bool) (end : ℕ) → nat_lt (finished_at pal) (end % frame_cycles pal) ≡ b
    → (end + (frame_cycles pal - finished_at pal - 1)) / frame_cycles pal ≡ end / frame_cycles pal + cond b 1 0
whole_of false true end is = let late : finished_at false < end % frame_cycles false = grind (arith, nat_tests) in omega (arith, late)
whole_of false false end is = let early : end % frame_cycles false ≤ finished_at false = grind (arith, nat_tests) in omega (arith, early)
whole_of true true end is = let late : finished_at true < end % frame_cycles true = grind (arith, nat_tests) in omega (arith, late)
whole_of true false end is = let early : end % frame_cycles true ≤ finished_at true = grind (arith, nat_tests) in omega (arith, early)

whole_frames : (pal : Bool) (end : ℕ) → frames_below pal end ≡ count_of_frames pal end
whole_frames pal end = whole_of pal (nat_lt (finished_at pal) (end % frame_cycles pal)) end refl

pub frames-left : (pal : Bool) (at end : ℕ) → frames_below pal end - frames_below pal at ≡ frames_between pal at end
frames-left pal at end = ap (λ (n : ℕ). n - frames_below pal at) (whole_frames pal end) ∙ ap (λ (n : ℕ). count_of_frames pal end - n) (whole_frames pal at)

pub pairs-counted : (at end : ℕ) → 16 * (batches_below end - batches_below at) ≡ pairs_between at end
pairs-counted at end = omega arith
