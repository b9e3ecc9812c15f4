use Rattle.file_commands.proofs.ConversionCompletions.{right}
use Rattle.file_commands.proofs.conversion_laws.conversions_end_as_they_should.Goals as goal

pub returns : goal.returns
returns c = λ conversion old new completion outcome reads writes cause known. right (Unit {0}) conversion old new completion outcome tt reads writes cause known
