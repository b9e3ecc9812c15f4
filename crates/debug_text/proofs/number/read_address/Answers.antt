use Rattle.std.proofs.Common.{◌∙◌, sym}
use Rattle.text_lines.proofs.Numerals.{lower_is}
use Rattle.debug_text.proofs.number.read_address.Goals as goal

pub returns-then-is_address : goal.returns-then-is_address
returns-then-is_address c = c.ok.ensures.value ∙ lower_is 32 8 c.args.word.now c.from_str_radix.result (sym c.is_address.ensures ∙ c.if-is_address.true) c.from_str_radix.ensures.value
