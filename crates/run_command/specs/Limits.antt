-- The limits of a run. This project's profile.
use Rattle.std.specs.Prelude.{ℕ, ◌+◌, ◌≤◌, Bool, min}
use Rattle.md_word.specs.Clock.{last_cycle}
use Rattle.md_word.specs.Region.{frame_cycles}

-- the most cycles of a segment, whose records are written together: a frame of the region
abbrev pub segment_cycles : Bool → ℕ
segment_cycles pal = frame_cycles pal

-- where the segment ends that begins at a cycle of a run
abbrev pub segment_end : Bool → ℕ → ℕ → ℕ
segment_end pal at end = min (at + segment_cycles pal) end

-- a run may end at the cycle, wherever below it begins
abbrev pub IsEnd : ℕ → Type 0
IsEnd end = (1 ≤ end) × (end ≤ last_cycle)
