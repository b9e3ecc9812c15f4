use Rattle.std.proofs.Common.{◌≡◌, ℕ, ◌<◌, IfSome}
use Rattle.chip_run.specs.Locked.{count_of}
use Rattle.chip_run.specs.Places.{place}
use Rattle.chip_run.proofs.gathering.book_all.Given as goal

-- the chips are as they were, and those of the places so far are counted
abbrev pub invariant-loop-chip : goal.invariant-loop-chip
invariant-loop-chip g l = (l.helds ≡ l.fn.helds) × ((i : ℕ) → i < l.chip → IfSome (place l.fn.helds i) (λ h. h.amount ≡ count_of l.locked.counts i))
