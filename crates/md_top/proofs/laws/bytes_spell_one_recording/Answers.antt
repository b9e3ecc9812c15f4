use Rattle.md_pads.proofs.Whole.{one_recording}
use Rattle.md_top.proofs.laws.bytes_spell_one_recording.Goals as goal

pub returns : goal.returns
returns c = one_recording
