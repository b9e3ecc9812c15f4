use Rattle.asm_laws.proofs.RoundTrips.{lines_round_trips}
use Rattle.asm_laws.proofs.assemblies.image_says_its_lines.Goals as goal

pub returns : goal.returns
returns c = λ source lines is. lines_round_trips (record { main_again = c.texts_are_assembled.ensures.main; sub_again = c.texts_are_assembled.ensures.sub; main_least = c.codes_are_chosen.ensures.main; sub_best = c.codes_are_chosen.ensures.sub }) source c.args.image.now lines c.known_bytes.ensures is
