use Rattle.md_rollback.proofs.Expected.{frames-stay}
use Rattle.md_rollback.proofs.input_laws.confirmed_frames_stay.Goals as goal

pub returns : goal.returns
returns c = frames-stay
