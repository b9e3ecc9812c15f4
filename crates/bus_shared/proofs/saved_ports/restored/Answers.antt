use Rattle.md_word.specs.declared.unspell.Unspell.TheVariants.{Rule}
use Rattle.bus_shared.proofs.SpellingLaws.{ok_not}
use Rattle.bus_shared.proofs.saved_ports.restored.Goals as goal

pub returns-in-Ok-clause-right : goal.returns-in-Ok-clause-right
returns-in-Ok-clause-right c = λ place invalid. ok_not _ (Rule place) ((c.in-Ok.ensures.rule place).1 invalid)
