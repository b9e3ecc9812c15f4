use Rattle.std.proofs.Common.{◌≡◌, ◌+◌, ◌≤◌, List, ℕ, [], length}
use Rattle.text_lines.specs.Lines.{lines_of}
use Rattle.debug_text.specs.Scripts.{ObeysFirst}
use Rattle.md_debug.specs.Scripts.{ObeysLine, PutsWhole, replied}
use Rattle.md_debug.proofs.script.play.Given as goal

-- the lines before this one are obeyed, as many as were counted, and their replies put
abbrev pub invariant-loop-line : goal.invariant-loop-line
invariant-loop-line g l =
    (before : List (List ℕ)) × (replies : List ℕ)
    × ObeysFirst (ObeysLine g.I.Images.size g.I.Images.spelling g.I.Images.keeps) (lines_of l.script) before (lines_of l.lines.rest.now) (replied l.fn.session []) (replied l.session replies)
    × PutsWhole g.S.Sink.observable replies (g.S.Sink.state l.fn.out) (g.S.Sink.state l.out) × (l.lines.number ≡ length before) × (l.lines.number + length l.lines.rest.now ≤ length l.script)

abbrev pub decreases-loop-line : goal.decreases-loop-line
decreases-loop-line g l = length l.lines.rest.now
