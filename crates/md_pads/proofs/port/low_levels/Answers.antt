use Rattle.std.proofs.Common.{◌∙◌, refl}
use Rattle.md_pads.specs.Buttons.{word_of, up, down, button_a, start}
use Rattle.md_pads.proofs.Bits.{has_mask}
use Rattle.md_pads.proofs.port.low_levels.Goals as goal

pub returns : goal.returns
returns c =
    rw (
      c.contains.ensures tt ∙ has_mask (word_of c.args.pressed) start,
      c.contains-2.ensures tt ∙ has_mask (word_of c.args.pressed) button_a,
      c.contains-3.ensures tt ∙ has_mask (word_of c.args.pressed) down,
      c.contains-4.ensures tt ∙ has_mask (word_of c.args.pressed) up,
    ) refl
