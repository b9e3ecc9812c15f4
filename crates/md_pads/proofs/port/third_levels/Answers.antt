use Rattle.std.proofs.Common.{◌∙◌, refl}
use Rattle.md_pads.specs.Buttons.{word_of, button_b, button_c, button_x, button_y, button_z, mode}
use Rattle.md_pads.proofs.Bits.{has_mask}
use Rattle.md_pads.proofs.port.third_levels.Goals as goal

pub returns-then-high : goal.returns-then-high
returns-then-high c =
    rw (
      c.if-high.true,
      c.contains.ensures tt ∙ has_mask (word_of c.args.pressed) button_c,
      c.contains-then-high.ensures tt ∙ has_mask (word_of c.args.pressed) button_b,
      c.contains-then-high-2.ensures tt ∙ has_mask (word_of c.args.pressed) mode,
      c.contains-then-high-3.ensures tt ∙ has_mask (word_of c.args.pressed) button_x,
      c.contains-then-high-4.ensures tt ∙ has_mask (word_of c.args.pressed) button_y,
      c.contains-then-high-5.ensures tt ∙ has_mask (word_of c.args.pressed) button_z,
    ) refl
