use Rattle.std.proofs.Common.{◌∙◌, refl}
use Rattle.md_pads.specs.Buttons.{word_of, button_a, start}
use Rattle.md_pads.proofs.Bits.{has_mask}
use Rattle.md_pads.proofs.port.start_and_a.Goals as goal

pub returns : goal.returns
returns c =
    rw (
      c.contains.ensures tt ∙ has_mask (word_of c.args.pressed) start,
      c.contains-2.ensures tt ∙ has_mask (word_of c.args.pressed) button_a,
    ) refl
