use Rattle.std.proofs.Common.{◌∙◌, ◌<◌, ◌≤◌, false, length, sym, arith}
use Rattle.std.proofs.lemmas.List.{get_or_past}
use Rattle.md_asm.specs.Seen.{cells_seen}
use Rattle.md_asm.specs.Places.{image_limit}
use Rattle.md_asm.proofs.Places.{any_on, mark_at, none_above}
use Rattle.md_asm.proofs.cells.Cells.any.Goals as goal

pub loop-left-preserved : goal.loop-left-preserved
loop-left-preserved c =
    let within : c.loop-left.at < length c.args.self.now.marks.items = omega arith in
    any_on (cells_seen c.args.self.now) c.loop-left.at c.loop-left.left (omega arith)
    (mark_at c.args.self.now.marks.items c.loop-left.at c.index.result.now within c.index.ensures c.if-index.false) ∙ c.loop-left.invariant

pub returns-else-at-lt-PLACES : goal.returns-else-at-lt-PLACES
returns-else-at-lt-PLACES c =
    sym (none_above (cells_seen c.args.self.now) image_limit
    (λ k h. let past : length c.args.self.now.marks.items ≤ k = omega arith in get_or_past c.args.self.now.marks.items k false past)
    c.loop-left.left c.loop-left.at (omega arith)) ∙ c.loop-left.invariant
