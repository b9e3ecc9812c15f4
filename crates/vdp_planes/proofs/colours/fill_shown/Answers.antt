use Rattle.std.proofs.Common.{◌≡◌, false, rules}
use Rattle.vdp_planes.specs.View.{has_bit, register, seen}
use Rattle.vdp_planes.proofs.Palettes.{all_shown, normal_shown}
use Rattle.vdp_planes.proofs.colours.fill_shown.Goals as goal

pub returns-then-scene-eq1 : goal.returns-then-scene-eq1
returns-then-scene-eq1 c = all_shown (seen c.args.scene.now) c.fill_table.new.table c.fill_table.ensures

pub returns-else-scene-eq1 : goal.returns-else-scene-eq1
returns-else-scene-eq1 c =
    let off : has_bit (register (seen c.args.scene.now) 12) 8 ≡ false = search rules in
    normal_shown (seen c.args.scene.now) c.fill_shade.new.table off c.fill_shade.ensures.colours
