use Rattle.std.proofs.Common.{◌≡◌, ◌∙◌, ◌+◌, ◌∷◌, ◌++◌, ap, refl, subst, ℕ, List, length, min, take, arith}
use Rattle.save_state.specs.States.{settled_console}
use Rattle.md_rollback.specs.Images.{Kept}
use Rattle.md_rollback.specs.contracts.kept_images.KeptImages.{the_view}
use Rattle.md_rollback.specs.declared.kept_images.KeptImages.TheInside.{Inside}
use Rattle.md_rollback.proofs.Fronts.{put-in-front}
use Rattle.md_rollback.proofs.kept_images.KeptImages.keep.Goals as goal

pub returns-clause-kept : goal.returns-clause-kept
returns-clause-kept g c =
    let old : Inside = c.self.inside in
    let new : Inside = record old { slots = c.put_front.new.slots; count = c.min-self-inside.result; next = c.put_front.new.image; apart = c.spell.new.apart } in
    let machine = c.args.machine.now in
    let bytes : List ℕ = g.R.Replays.spelling c.args.replays.now machine.at (settled_console machine.at machine.console) in
    let made : c.spell.new.into.items ≡ bytes = c.spell.ensures.bytes ∙ ap (λ (l : List ℕ). l ++ bytes) c.clear.ensures.items in
    let count : new.count ≡ min (old.count + 1) (length new.slots.items) = omega (arith, c.min-self-inside.ensures, c.len.ensures, c.put_front.new.slots.ok.0) in
    subst (λ (v : Kept). the_view new ≡ record v { images = take v.most (record { frames = c.args.frames; bytes = bytes } ∷ v.images) }) c.self.view_is
    (put-in-front old new c.args.frames c.spell.new.into bytes c.self.invariant.0.some c.put_front.ensures.slots made count refl)
