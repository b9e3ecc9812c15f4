use Rattle.std.proofs.Common.{◌≡◌, ◌≤◌, ◌-◌, ◌∙◌, ap, subst, ℕ, List, drop, length, map, take, arith}
use Rattle.md_rollback.specs.Images.{Kept, image_of}
use Rattle.md_rollback.specs.contracts.kept_images.KeptImages.{the_view}
use Rattle.md_rollback.specs.declared.kept_images.KeptImages.TheInside.{Inside}
use Rattle.md_rollback.specs.declared.kept_images.Slot.{Slot}
use Rattle.md_rollback.proofs.Pushed.{dropped, few-kept, turned-long}
use Rattle.md_rollback.proofs.kept_images.KeptImages.drop_newest.Goals as goal

pub returns : goal.returns
returns c =
    let k : Inside = c.self.inside in
    let n : ℕ = c.args.count in
    let few : n ≤ k.count = omega (arith, c.requires, ap (λ (v : Kept). length v.images) c.self.view_is, few-kept image_of k.count k.slots.items) in
    let is = c.rotate_left.ensures.items in
    subst (λ (v : Kept). the_view (record k { slots = c.rotate_left.new.self; count = k.count - n }) ≡ record v { images = drop n v.images }) c.self.view_is
    (λ i. record {
      most = (ap length is ∙ turned-long n k.slots.items) i;
      size = k.size;
      images = (ap (λ (ls : List Slot). map image_of (take (k.count - n) ls)) is ∙ dropped image_of k.count n k.slots.items few c.self.invariant.0.within) i;
    })
