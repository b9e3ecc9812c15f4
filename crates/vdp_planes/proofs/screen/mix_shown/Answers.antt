use Rattle.vdp_planes.specs.View.{seen}
use Rattle.vdp_planes.proofs.Screens.{bytes_mixed, entries_whole}
use Rattle.vdp_planes.proofs.screen.mix_shown.Goals as goal

pub print-requires-clause-entries : goal.print-requires-clause-entries
print-requires-clause-entries c =
    entries_whole (seen c.args.scene.now) c.args.a.now c.args.b.now c.args.s.now c.fill_shown.new.table c.mix_indexes.new.line
    c.requires.a c.requires.b c.requires.s c.fill_shown.ensures c.mix_indexes.ensures.value

pub returns : goal.returns
returns c =
    bytes_mixed (seen c.args.scene.now) c.args.a.now c.args.b.now c.args.s.now c.fill_shown.new.table c.mix_indexes.new.line c.print.new.rgb
    c.requires.a c.requires.b c.requires.s c.fill_shown.ensures c.mix_indexes.ensures.value c.print.ensures
