-- Where a run may begin: at power-on, or where a saved state was kept.
use Rattle.std.specs.Prelude.{◌≡◌, ℕ, ◌+◌, ◌-◌, ◌*◌, ◌/◌, Bool}
use Rattle.md_word.specs.Clock as clock
use Rattle.md_word.specs.Region.{finished_at, frame_cycles}
use Rattle.md_chips.specs.Console.{Console, IsQuiet}

-- the first event of a line from a cycle on
abbrev pub first_line : ℕ → ℕ
first_line at = clock.line * ((at + 3419) / clock.line)

-- the first batch of samples from a cycle on; none is at 0
abbrev pub first_batch : ℕ → ℕ
first_batch at = clock.batch * ((at - 1) / clock.batch + 1)

-- a cycle, and the machine at it
pub record Start : Type 0 where
  pub at : ℕ
  pub console : Console

-- no event is below the cycle, and lines and batches come at their next multiples
pub record IsStart (start : Start) : Type 0 where
  pub quiet : IsQuiet start.at start.console
  pub line : start.console.line ≡ first_line start.at
  pub fm : start.console.fm_cycle ≡ first_batch start.at
  pub psg : start.console.psg_cycle ≡ first_batch start.at

-- how many batches of samples are below a cycle: one at each multiple of 16128, from the first on
abbrev pub batches_below : ℕ → ℕ
batches_below end = (end - 1) / clock.batch

-- how many frames of a region are finished below a cycle, each at the start of the line after its
-- picture
abbrev pub frames_below : Bool → ℕ → ℕ
frames_below pal end = (end + (frame_cycles pal - finished_at pal - 1)) / frame_cycles pal
