use Rattle.std.proofs.Common.{List, ℕ, length, sym, ap, subst, ◌∙◌}
use Rattle.md_debug.proofs.Kept.{session_pushed}
use Rattle.md_debug.proofs.session.Session.keep.Goals as goal

pub invariant_of-self : goal.invariant_of-self
invariant_of-self g c =
    session_pushed (g.I.Images.size c.self.inside.images) (g.I.Images.is_own c.self.inside.images) (g.I.Images.keeps c.self.inside.images) (g.I.Images.read_back c.self.inside.images)
    c.self.inside.debuggee c.self.inside.kept c.push.new.self c.as_slice.result.now c.at-at.result c.self.invariant (ap length c.as_slice.ensures.value ∙ c.in_ok-image.ensures.sized)
    (subst (λ (l : List ℕ). g.I.Images.keeps c.self.inside.images l (g.I.Images.read_back c.self.inside.images c.self.inside.debuggee.machine)) (sym c.as_slice.ensures.value) c.in_ok-image.ensures.kept)
    c.at-at.ensures c.push.ensures.states c.push.ensures.cycles
