use Rattle.machine_laws.proofs.VideoMoves.{renderer_state_ready, spells_renderer_state}
use Rattle.machine_laws.proofs.video.renderer_state_may_be_kept.Goals as goal

pub returns-clause-ready : goal.returns-clause-ready
returns-clause-ready c = renderer_state_ready

pub returns-clause-spells : goal.returns-clause-spells
returns-clause-spells c = spells_renderer_state
