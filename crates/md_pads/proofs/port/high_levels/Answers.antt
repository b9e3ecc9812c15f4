use Rattle.std.proofs.Common.{◌∙◌, refl}
use Rattle.md_pads.specs.Buttons.{word_of, up, down, left, right, button_b, button_c}
use Rattle.md_pads.proofs.Bits.{has_mask}
use Rattle.md_pads.proofs.port.high_levels.Goals as goal

pub returns : goal.returns
returns c =
    rw (
      c.contains.ensures tt ∙ has_mask (word_of c.args.pressed) button_c,
      c.contains-2.ensures tt ∙ has_mask (word_of c.args.pressed) button_b,
      c.contains-3.ensures tt ∙ has_mask (word_of c.args.pressed) right,
      c.contains-4.ensures tt ∙ has_mask (word_of c.args.pressed) left,
      c.contains-5.ensures tt ∙ has_mask (word_of c.args.pressed) down,
      c.contains-6.ensures tt ∙ has_mask (word_of c.args.pressed) up,
    ) refl
