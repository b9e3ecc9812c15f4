use Rattle.machine_laws.proofs.RecordedRuns.{run-with}
use Rattle.machine_laws.proofs.recordings.later_frames_are_unread.Goals as goal

pub returns : goal.returns
returns c = run-with
