-- How many frames and samples a run makes.
use Rattle.std.specs.Prelude.{ℕ, ◌+◌, ◌-◌, ◌*◌, ◌/◌, ◌%◌, Bool, nat_lt, if◌then◌else◌}
use Rattle.md_word.specs.Clock.{batch}
use Rattle.md_word.specs.Region.{finished_at, frame_cycles}

-- the frames of a region that are finished below a cycle: one in each frame's cycles, and one more after
-- the start of the line after its picture
abbrev pub count_of_frames : Bool → ℕ → ℕ
count_of_frames pal cycles = cycles / frame_cycles pal + (if nat_lt (finished_at pal) (cycles % frame_cycles pal) then 1 else 0)

-- the pairs that are made below a cycle: 16 for each multiple of a batch, from the first on, that is below it
abbrev pub pairs_of : ℕ → ℕ
pairs_of cycles = 16 * ((cycles - 1) / batch)

-- the frames of a run: finished below its end, and not below its start
abbrev pub frames_between : Bool → ℕ → ℕ → ℕ
frames_between pal from end = count_of_frames pal end - count_of_frames pal from

-- the pairs of a run: made below its end, and not below its start
abbrev pub pairs_between : ℕ → ℕ → ℕ
pairs_between from end = pairs_of end - pairs_of from
