use Rattle.std.proofs.Common.{◌≡◌, arith}
use Rattle.vdp_planes.specs.View.{seen}
use Rattle.vdp_planes.specs.Planes.{point_y}
use Rattle.vdp_planes.proofs.Runs.{point_y-run}
use Rattle.vdp_planes.proofs.scroll.draw_column.Goals as goal

pub scrolled_cell-x-requires-clause-down : goal.scrolled_cell-x-requires-clause-down
unfolding point_y
scrolled_cell-x-requires-clause-down c =
    let view = seen c.args.scene.now in
    let scroll = c.args.scroll.now in
    let f : c.wrapped-py.result ≡ point_y view scroll.second scroll.y c.args.from = cc in
    λ i low high. point_y-run view scroll.second scroll.by_columns scroll.y c.args.from i c.args.to c.wrapped-py.result c.requires.scroll.columns c.requires.column f low high

pub whole_cell-requires-clause-down : goal.whole_cell-requires-clause-down
unfolding point_y
whole_cell-requires-clause-down c =
    let view = seen c.args.scene.now in
    let scroll = c.args.scroll.now in
    let f : c.wrapped-py.result ≡ point_y view scroll.second scroll.y c.args.from = cc in
    λ i low high. point_y-run view scroll.second scroll.by_columns scroll.y c.args.from i c.args.to c.wrapped-py.result c.requires.scroll.columns c.requires.column f
    (omega (arith, c.loop-x.invariant.further)) (omega arith)

pub scrolled_cell-requires-clause-down : goal.scrolled_cell-requires-clause-down
unfolding point_y
scrolled_cell-requires-clause-down c =
    let view = seen c.args.scene.now in
    let scroll = c.args.scroll.now in
    let f : c.wrapped-py.result ≡ point_y view scroll.second scroll.y c.args.from = cc in
    λ i low high. point_y-run view scroll.second scroll.by_columns scroll.y c.args.from i c.args.to c.wrapped-py.result c.requires.scroll.columns c.requires.column f
    (omega (arith, c.loop-x.invariant.further)) high
