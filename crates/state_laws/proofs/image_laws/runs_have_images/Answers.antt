use Rattle.state_laws.proofs.Machines.{run_has}
use Rattle.state_laws.proofs.image_laws.runs_have_images.Goals as goal

pub returns : goal.returns
returns c = λ images m z end entries output has later near run. run_has images m z end entries output c.runs_reach.ensures has later near run
