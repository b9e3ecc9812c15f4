use Rattle.asm_laws.proofs.Ranges.{has_in, in_has}
use Rattle.asm_laws.proofs.round_trip.numbers_have_their_range.Goals as goal

pub returns : goal.returns
returns c = λ z80 line_tokens place n. (has_in z80 line_tokens place n, in_has z80 line_tokens place n)
