use Rattle.std.proofs.Common.{◌∙◌, ap, arith, length, List, ℕ}
use Rattle.vdp_chip.proofs.Lined.{cleared-length, undrawn_after}
use Rattle.vdp_chip.proofs.kept.draw.Goals as goal

pub draw_scanline-requires-clause-whole : goal.draw_scanline-requires-clause-whole
draw_scanline-requires-clause-whole c =
    ap (λ (bytes : List ℕ). length bytes) (c.deref_mut.ensures.value ∙ c.make_room-kept.ensures.picture) ∙ cleared-length c.args.line c.args.picture.now.value c.requires.picture

pub returns-then-line-rows-2-clause-picture : goal.returns-then-line-rows-2-clause-picture
returns-then-line-rows-2-clause-picture c = undrawn_after c.args.pal c.args.line _ c.args.picture.now.value (grind arith)

pub returns-else-line-rows-2-clause-picture : goal.returns-else-line-rows-2-clause-picture
returns-else-line-rows-2-clause-picture c = undrawn_after c.args.pal c.args.line _ c.args.picture.now.value (grind arith)
