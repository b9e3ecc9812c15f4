use Rattle.machine_laws.proofs.VideoMoves.{power_on_has}
use Rattle.machine_laws.proofs.video.video_at_power_on.Goals as goal

pub returns : goal.returns
returns c = power_on_has
