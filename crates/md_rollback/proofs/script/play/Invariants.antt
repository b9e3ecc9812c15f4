use Rattle.std.proofs.Common.{◌≡◌, ◌+◌, ◌≤◌, List, ℕ, length}
use Rattle.text_lines.specs.Lines.{lines_of}
use Rattle.debug_text.specs.Scripts.{ObeysFirst}
use Rattle.md_rollback.specs.Following.{Follows}
use Rattle.md_rollback.specs.Scripts.{ObeysLine, Script}
use Rattle.md_rollback.proofs.script.play.Given as goal

-- the lines before this one were obeyed, as many as were counted
abbrev pub invariant-loop-line : goal.invariant-loop-line
invariant-loop-line g l = record {
  window_is : l.session.window ≡ l.fn.session.window;
  fits : l.lines.number + length l.lines.rest.now ≤ length l.script;
  so_far : (cart : List ℕ) (old : Script) → Follows cart l.fn.session old → (before : List (List ℕ)) × (mid : Script)
      × ObeysFirst (ObeysLine l.fn.session.window) (lines_of l.script) before (lines_of l.lines.rest.now) old mid × Follows cart l.session mid × (l.lines.number ≡ length before);
}

abbrev pub decreases-loop-line : goal.decreases-loop-line
decreases-loop-line g l = length l.lines.rest.now
