use Rattle.asm_laws.proofs.Kept.{keeps}
use Rattle.asm_laws.proofs.round_trip.instructions_are_kept.Goals as goal

pub returns : goal.returns
returns c = λ source outcome is. keeps source outcome is
