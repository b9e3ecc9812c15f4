use Rattle.state_laws.proofs.Machines.{keep_one}
use Rattle.state_laws.proofs.image_laws.images_keep_one_machine.Goals as goal

pub returns : goal.returns
returns c = λ images bytes a b one other. keep_one images bytes a b one other
