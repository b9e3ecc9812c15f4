use Rattle.std.proofs.Common.{ℕ, ◌<◌, IsSome}
use Rattle.chip_run.specs.Places.{place}
use Rattle.chip_run.proofs.holding.HeldsHolder.missing.Given as goal

-- the chips of the numbers so far are held
abbrev pub invariant-loop-chip : goal.invariant-loop-chip
invariant-loop-chip g l = (i : ℕ) → i < l.chip → IsSome (place l.fn.self i)
