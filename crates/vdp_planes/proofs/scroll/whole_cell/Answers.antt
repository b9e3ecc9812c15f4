use Rattle.std.proofs.Common.{◌≡◌, ◌+◌, ◌%◌, ◌∙◌, arith, rules}
use Rattle.vdp_planes.specs.View.{IsFilled, clear, seen, word_at}
use Rattle.vdp_planes.specs.Planes.{name_place, point_x, run_dot}
use Rattle.vdp_planes.proofs.Masks.{eighth}
use Rattle.vdp_planes.proofs.Runs.{scrolled_drawn}
use Rattle.vdp_planes.proofs.scroll.whole_cell.Goals as goal

pub returns-clause-drawn : goal.returns-clause-drawn
unfolding name_place point_x
returns-clause-drawn c =
    let view = seen c.args.scene.now in
    let scroll = c.args.scroll.now in
    let px = c.wrapped-px.result in
    let py = c.args.py in
    let x = c.args.x in
    let e : px ≡ point_x view scroll.second scroll.y x = cc in
    let n : c.even_word-name.result ≡ word_at view (name_place view scroll.second px py) = search rules in
    let first : px % 8 ≡ 0 = eighth (x + scroll.shift) scroll.across px c.wrapped-px.ensures.value ∙ c.requires.begins in
    let drawn : IsFilled clear x (x + 8) c.args.out.now c.cell_row.new.out (run_dot view c.even_word-name.result (px % 8) (py % 8) x) = rw first c.cell_row.ensures.drawn in
    scrolled_drawn view scroll.second scroll.y x (x + 8) c.even_word-name.result px py c.args.out.now c.cell_row.new.out e
    c.requires.down n (omega (arith, first)) (omega arith) drawn
