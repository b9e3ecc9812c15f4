use Rattle.std.proofs.Common.{◌≡◌, ◌≢◌, ℕ, ◌<◌, true, slice_index_or}
use Rattle.md_word.specs.Keys.{key_lt}
use Rattle.chip_core.specs.Cores.{no_key}
use Rattle.chip_core.proofs.look.is_below_writers.Given as goal

-- the key is below the bounds so far that count
abbrev pub invariant-loop-i : goal.invariant-loop-i
invariant-loop-i g l = (j : ℕ) → j < l.i → j ≢ l.chip → g.C.ChipSet.rules.writes j l.chip ≡ true → key_lt l.key (slice_index_or l.bounds j no_key) ≡ true
