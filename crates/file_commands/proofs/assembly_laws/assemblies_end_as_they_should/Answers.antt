use Rattle.file_commands.proofs.AssemblyCompletions.{right}
use Rattle.file_commands.proofs.assembly_laws.assemblies_end_as_they_should.Goals as goal

pub returns : goal.returns
returns c = λ words old new completion reads writes cause. right (Unit {0}) words old new completion tt reads writes cause
