use Rattle.md_rollback.proofs.Advances.{first-session}
use Rattle.md_rollback.proofs.sessions.Session.make.Goals as goal

pub invariant_of-result : goal.invariant_of-result
invariant_of-result g c =
    let images = c.in_ok-images.images in
    let made = c.in_ok-images.ensures in
    (first-session images.cart c.args.window c.in_ok-inputs.inputs images.played c.args.machine c.requires.some c.requires.most made.machine made.played, made.most)
