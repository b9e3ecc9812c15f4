use Rattle.std.proofs.Common.{◌+◌, ◌<◌, ◌≤◌, sym, subst, length}
use Rattle.md_rollback.specs.Played.{RunImagesValue}
use Rattle.md_rollback.proofs.run_images.RunImages.kept.Goals as goal

pub returns-clause-near : goal.returns-clause-near
returns-clause-near g c = λ f few late.
    c.self.invariant.0.back f (subst (λ (r : RunImagesValue). f ≤ length r.played) (sym c.self.view_is) few)
    (subst (λ (r : RunImagesValue). length r.played < f + r.most) (sym c.self.view_is) late)
