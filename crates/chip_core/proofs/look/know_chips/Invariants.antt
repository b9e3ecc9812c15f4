use Rattle.std.proofs.Common.{ℕ, ◌<◌, slice_index_or}
use Rattle.chip_core.proofs.look.know_chips.Given as goal

-- the chips so far can occur
abbrev pub invariant-loop-chip : goal.invariant-loop-chip
invariant-loop-chip g l = (k : ℕ) (d : _) → k < l.chip-index → g.C.ChipSet.chip_ok (slice_index_or l.chips k d)
