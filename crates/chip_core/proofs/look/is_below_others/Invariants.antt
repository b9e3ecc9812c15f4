use Rattle.std.proofs.Common.{◌≡◌, ◌≢◌, ℕ, ◌<◌, true, slice_index_or}
use Rattle.md_word.specs.Keys.{key_lt}
use Rattle.chip_core.specs.Cores.{no_key}
use Rattle.chip_core.proofs.look.is_below_others.Given as goal

-- the key is below the bounds so far
abbrev pub invariant-loop-i : goal.invariant-loop-i
invariant-loop-i l = (j : ℕ) → j < l.i → j ≢ l.chip → key_lt l.key (slice_index_or l.bounds j no_key) ≡ true
