-- As many gaps as lead to a cycle fall short of none.
use Rattle.std.proofs.Common.{◌≡◌, ℕ, ◌+◌, ◌-◌, ◌*◌, ◌<◌, ◌≤◌, arith}
use Rattle.std.proofs.lemmas.Grind.{div_ceil_times}
use Rattle.md_word.specs.Clock.{gaps_to}

pub reached : (gap start end next : ℕ) → 0 < gap → next ≡ start + gap * gaps_to gap start end → end ≤ next
reached gap start end next some is = let most = (div_ceil_times (end - start) gap some).0 in omega (arith, is, most)
