-- An image is put in front of those that are kept.
use Rattle.std.proofs.Common.{◌≡◌, ◌∙◌, ap, ℕ, ◌+◌, ◌-◌, ◌≤◌, List, ◌∷◌, length, map, min, take}
use Rattle.std.specs.Global.{Vec}
use Rattle.md_rollback.specs.Images.{Image, image_of}
use Rattle.md_rollback.specs.contracts.kept_images.KeptImages.{the_view}
use Rattle.md_rollback.specs.declared.kept_images.KeptImages.TheInside.{Inside}
use Rattle.md_rollback.specs.declared.kept_images.Slot.{Slot}
use Rattle.md_rollback.proofs.Pushed.{one-more-long, pushed}

pub put-in-front : (old new : Inside) (frames : ℕ) (image : Vec ℕ) (bytes : List ℕ) → 1 ≤ length old.slots.items
    → new.slots.items ≡ record { frames = frames; bytes = image } ∷ take (length old.slots.items - 1) old.slots.items → image.items ≡ bytes
    → new.count ≡ min (old.count + 1) (length new.slots.items) → new.size ≡ old.size
    → the_view new ≡ record (the_view old) { images = take (the_view old).most (record { frames = frames; bytes = bytes } ∷ (the_view old).images) }
put-in-front old new frames image bytes some is same count size =
    let slots : List Slot = old.slots.items in
    let slot : Slot = record { frames = frames; bytes = image } in
    let long : length new.slots.items ≡ length slots = ap length is ∙ one-more-long slot slots some in
    let all : new.count ≡ min (old.count + 1) (length slots) = count ∙ ap (λ (n : ℕ). min (old.count + 1) n) long in
    let one : image_of slot ≡ record { frames = frames; bytes = bytes } = ap (λ (b : List ℕ). record { frames = frames; bytes = b }) same in
    λ i. record {
      most = long i;
      size = size i;
      images = (ap (λ (ls : List Slot). map image_of (take new.count ls)) is
          ∙ pushed image_of (length slots) old.count new.count slots slot some all
          ∙ ap (λ (x : Image). take (length slots) (x ∷ map image_of (take old.count slots))) one) i;
    }
