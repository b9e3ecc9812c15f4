use Rattle.std.proofs.Common.{◌≡◌, ◌≢◌, ℕ, ◌<◌, ◌≤◌, MatchOption}
use Rattle.chip_core.specs.Cores.{bound_in}
use Rattle.chip_core.proofs.look.first_other.Given as goal

-- the first of the bounds so far
abbrev pub invariant-loop-number : goal.invariant-loop-number
invariant-loop-number g l = record {
  all : (k : ℕ) → k < l.number → k ≢ l.but → l.cycle ≤ (bound_in l.bounds k).cycle;
  found : MatchOption l.first (l.cycle ≡ l.t)
      (λ i. (i < l.number) × (i ≢ l.but) × (l.cycle ≡ (bound_in l.bounds i).cycle) × (l.cycle < l.t) × ((k : ℕ) → k < i → k ≢ l.but → l.cycle < (bound_in l.bounds k).cycle));
}
