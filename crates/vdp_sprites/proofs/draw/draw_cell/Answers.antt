use Rattle.std.proofs.Common.{◌≡◌, ◌∙◌, ◌+◌, ◌-◌, ◌%◌, sym, ap, arith}
use Rattle.vdp_planes.specs.View.{seen}
use Rattle.vdp_sprites.specs.Drawn.{pixel_dot}
use Rattle.vdp_sprites.proofs.draw.draw_cell.Goals as goal

pub returns-then-to-from : goal.returns-then-to-from
returns-then-to-from c =
    λ part old before e reach begun.
    let first : (c.args.from + 128 - c.args.sprite.x) % 8 ≡ 0 = omega (arith, c.requires.cell) in
    let end : c.args.to ≡ c.args.from + 8 = c.if-to-from.true in
    rw end
    (c.draw_whole.ensures (seen c.args.scene.now) c.args.y part old before (record {
      sprite_is = e;
      reach = λ x low high. reach x low (omega arith);
      dots = λ x low high. ap (λ n. pixel_dot c.args.sprite c.cell_pixels-pixels.result (n + (x - c.args.from))) (sym first) ∙ c.cell_pixels-pixels.ensures x low (omega arith);
    }) begun)

pub returns-else-to-from : goal.returns-else-to-from
returns-else-to-from c =
    λ part old before e reach begun.
    c.draw_run.ensures (seen c.args.scene.now) c.args.y part old before (record {
      sprite_is = e;
      reach = reach;
      dots = λ x low high. rw c.from.ensures (c.cell_pixels-pixels.ensures x low (omega (arith, c.requires.cell)));
    }) begun
