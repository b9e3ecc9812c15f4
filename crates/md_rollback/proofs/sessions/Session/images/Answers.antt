use Rattle.std.proofs.Common.{◌+◌, ◌≤◌, ◌∙◌, ap, sym, subst, arith}
use Rattle.md_rollback.specs.Sessions.{SessionValue}
use Rattle.md_rollback.proofs.sessions.Session.images.Goals as goal

pub returns-clause-near : goal.returns-clause-near
returns-clause-near g c = λ f few late.
    c.kept.ensures.near f (subst (λ (x : SessionValue). f ≤ x.frames) (sym c.self.view_is) few)
    (omega (arith, subst (λ (x : SessionValue). x.frames ≤ f + x.window) (sym c.self.view_is) late, c.self.invariant.1))

pub returns-clause-most : goal.returns-clause-most
returns-clause-most g c = c.kept.ensures.most ∙ c.self.invariant.1 ∙ ap (λ (x : SessionValue). x.window + 1) c.self.view_is
