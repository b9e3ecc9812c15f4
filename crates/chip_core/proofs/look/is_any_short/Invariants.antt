use Rattle.std.proofs.Common.{ℕ, ◌<◌, ◌≤◌, slice_index_or}
use Rattle.chip_core.proofs.look.is_any_short.Given as goal

-- no chip so far is short
abbrev pub invariant-loop-chip : goal.invariant-loop-chip
invariant-loop-chip g l = (k : ℕ) → k < l.chip-index → l.t ≤ (g.C.ChipSet.rules.next (slice_index_or l.chips k g.C.ChipSet.rules.blank)).key.cycle
