use Rattle.std.proofs.Common.{arith, ap, length}
use Rattle.save_state.specs.Layout.{fm_port_part}
use Rattle.save_state.proofs.ItemLaws.{fm_few}
use Rattle.save_state.proofs.Parts.{part_long}
use Rattle.save_state.proofs.items.are_fm_writes_early.Goals as goal

pub u16_at-requires : goal.u16_at-requires
u16_at-requires c = omega (arith, ap length c.of-part.ensures, part_long fm_port_part c.args.bytes.now (omega (arith, c.requires.whole)))

pub returns-then-u16_at-eq0-clause-reported : goal.returns-then-u16_at-eq0-clause-reported
returns-then-u16_at-eq0-clause-reported c =
    fm_few c.args.bytes.now c.args.at c.of-part.result.now c.u16_at.result c.requires.cycle c.of-part.ensures c.u16_at.ensures c.if-u16_at-eq0.true
