use Rattle.machine_laws.proofs.VideoMoves.{run_keeps}
use Rattle.machine_laws.proofs.video.video_of_runs.Goals as goal

pub returns : goal.returns
returns c = run_keeps
