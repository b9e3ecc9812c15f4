-- Where the next event of a machine is.
use Rattle.std.proofs.Common.{◌≡◌, ℕ, ◌+◌, ◌≤◌, refl, arith}
use Rattle.md_word.specs.Clock as clock
use Rattle.md_chips.specs.Console.{Console, key_in, mover}
use Rattle.md_chips.specs.Starts.{IsStart, Start, first_line}
use Rattle.md_debug.specs.Going.{least_of}
use Rattle.md_chips.specs.Movers.{mover-lt}

line_key : (m : Console) → (key_in m 2).cycle ≡ m.line
unfolding key_in
line_key m = refl

pub not_before : (start : Start) → IsStart start → start.at ≤ least_of start.console
not_before start is = is.quiet (mover start.console) (mover-lt start.console)

near_line : (at : ℕ) → first_line at ≤ at + clock.line
near_line at = omega arith

pub within_line : (start : Start) → IsStart start → least_of start.console ≤ (key_in start.console 2).cycle → least_of start.console ≤ start.at + clock.line
within_line start is first = omega (arith, first, line_key start.console, is.line, near_line start.at)
