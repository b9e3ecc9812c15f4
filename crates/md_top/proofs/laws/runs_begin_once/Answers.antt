use Rattle.md_top.proofs.Starts.{one_start}
use Rattle.md_top.proofs.laws.runs_begin_once.Goals as goal

pub returns : goal.returns
returns c = one_start c.bytes_spell_one_recording.ensures c.states_keep_one_machine.ensures
