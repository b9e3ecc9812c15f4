use Rattle.state_laws.proofs.Machines.{image_made}
use Rattle.state_laws.proofs.state_images.StateImagesImagesMachine.image.Goals as goal

pub returns-clause-kept : goal.returns-clause-kept
returns-clause-kept c =
    image_made c.args.self.now c.args.machine.now c.write.result c.requires c.reached_may_be_kept.ensures c.write.ensures.kept c.write.ensures.bytes
