use Rattle.asm_laws.proofs.InRange.{lines_fit}
use Rattle.asm_laws.proofs.round_trip.numbers_are_in_range.Goals as goal

pub returns : goal.returns
returns c = λ source lines is. lines_fit source c.args.image.now lines (c.image_says_its_lines.ensures source lines is) c.known_bytes.ensures
