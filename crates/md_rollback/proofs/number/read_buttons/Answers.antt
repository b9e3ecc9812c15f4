use Rattle.std.proofs.Common.{◌∙◌, sym}
use Rattle.text_lines.proofs.Numerals.{either_is}
use Rattle.md_rollback.proofs.number.read_buttons.Goals as goal

pub returns-then-are_digits : goal.returns-then-are_digits
returns-then-are_digits c = c.ok.ensures.value ∙ either_is 16 4 c.args.word.now c.from_str_radix.result (sym c.are_digits.ensures ∙ c.if-are_digits.true) c.from_str_radix.ensures.value
