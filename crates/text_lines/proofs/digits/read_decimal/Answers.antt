use Rattle.std.proofs.Common.{◌∙◌, sym}
use Rattle.text_lines.proofs.Numerals.{decimal_is}
use Rattle.text_lines.proofs.digits.read_decimal.Goals as goal

pub returns-then-is_decimal : goal.returns-then-is_decimal
returns-then-is_decimal c = c.ok.ensures.value ∙ decimal_is c.args.word.now c.parse.result (sym c.is_decimal.ensures ∙ c.if-is_decimal.true) c.parse.ensures.value.0
