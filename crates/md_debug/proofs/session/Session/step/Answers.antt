use Rattle.md_debug.proofs.Kept.{session_stepped}
use Rattle.md_debug.proofs.session.Session.step.Goals as goal

pub invariant_of-self : goal.invariant_of-self
invariant_of-self g c =
    let steps = c.step.ensures.steps in
    session_stepped (g.I.Images.size c.self.inside.images) (g.I.Images.is_own c.self.inside.images) (g.I.Images.keeps c.self.inside.images) (g.I.Images.read_back c.self.inside.images)
    c.self.inside.debuggee c.step.new.self c.self.inside.kept c.args.count steps.0 c.self.invariant steps.1.0 c.step.ensures.ready
