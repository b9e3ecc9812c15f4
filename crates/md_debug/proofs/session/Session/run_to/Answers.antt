use Rattle.md_debug.proofs.Kept.{session_ran}
use Rattle.md_debug.proofs.session.Session.run_to.Goals as goal

pub invariant_of-self : goal.invariant_of-self
invariant_of-self g c =
    let runs = c.run_to.ensures.runs in
    session_ran (g.I.Images.size c.self.inside.images) (g.I.Images.is_own c.self.inside.images) (g.I.Images.keeps c.self.inside.images) (g.I.Images.read_back c.self.inside.images)
    c.self.inside.debuggee c.run_to.new.self c.self.inside.kept c.args.end runs.0 c.self.invariant c.requires runs.1.0 c.run_to.ensures.ready
