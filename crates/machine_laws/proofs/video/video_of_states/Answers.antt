use Rattle.machine_laws.proofs.VideoMoves.{spelled_has}
use Rattle.machine_laws.proofs.video.video_of_states.Goals as goal

pub returns : goal.returns
returns c = spelled_has
