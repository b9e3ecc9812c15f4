use Rattle.std.proofs.Common.{◌≡◌, ◌+◌, ◌∷◌, refl, subst, length, min, take, arith}
use Rattle.md_rollback.specs.Images.{Kept}
use Rattle.md_rollback.specs.contracts.kept_images.KeptImages.{the_view}
use Rattle.md_rollback.specs.declared.kept_images.KeptImages.TheInside.{Inside}
use Rattle.md_rollback.proofs.Fronts.{put-in-front}
use Rattle.md_rollback.proofs.kept_images.KeptImages.push.Goals as goal

pub returns-clause-kept : goal.returns-clause-kept
returns-clause-kept c =
    let old : Inside = c.self.inside in
    let new : Inside = record old { slots = c.put_front.new.slots; count = c.min-self-inside.result } in
    let count : new.count ≡ min (old.count + 1) (length new.slots.items) = omega (arith, c.min-self-inside.ensures, c.len.ensures, c.put_front.new.slots.ok.0) in
    subst (λ (v : Kept). the_view new ≡ record v { images = take v.most (record { frames = c.args.frames; bytes = c.args.image.now.items } ∷ v.images) }) c.self.view_is
    (put-in-front old new c.args.frames c.args.image.now c.args.image.now.items c.self.invariant.0.some c.put_front.ensures.slots refl count refl)
