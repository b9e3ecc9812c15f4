-- The images that a session keeps, once frames were made.
use Rattle.std.proofs.Common.{◌≡◌, ◌∙◌, refl, sym, ap, subst, ℕ, ◌+◌, ◌<◌, ◌≤◌, List, ◌∷◌, take, arith}
use Rattle.md_pads.specs.Recording.{Frame}
use Rattle.md_chips.specs.Console.{Console}
use Rattle.md_rollback.specs.Images.{AreImagesBelow, Image, Kept}
use Rattle.md_rollback.proofs.Below.{below-with, reach-pushed, taken-below, widened}
use Rattle.md_rollback.specs.Inputs.{frame_at}
use Rattle.md_rollback.specs.Played.{AreMade, IsImageOf}

-- an image is that of another recording too, where both have the same frames before it
pub image-with : (cart : List ℕ) (spelling : ℕ → Console → List ℕ) (is_own : ℕ → Console → Type 0) (one other : List Frame) (frames : ℕ) (bytes : List ℕ)
    → ((f : ℕ) → f < frames → frame_at one f ≡ frame_at other f) → IsImageOf cart spelling is_own one frames bytes → IsImageOf cart spelling is_own other frames bytes
image-with cart spelling is_own one other frames bytes same is = record {
  kept = is.kept;
  made_with = is.made_with;
  alike = λ f early. is.alike f early ∙ same f (omega (arith, early));
  run = is.run;
  cart_is = is.cart_is;
  reached = is.reached;
  own = is.own;
  all = is.all;
}

pub images-with : (cart : List ℕ) (spelling : ℕ → Console → List ℕ) (is_own : ℕ → Console → Type 0) (one other : List Frame) (right end : ℕ) (images : List Image)
    → ((f : ℕ) → f < right → frame_at one f ≡ frame_at other f) → end ≤ right + 1
    → AreImagesBelow (IsImageOf cart spelling is_own one) end images → AreImagesBelow (IsImageOf cart spelling is_own other) end images
images-with cart spelling is_own one other right end images same early are =
    below-with (IsImageOf cart spelling is_own one) (IsImageOf cart spelling is_own other) right end images
    (λ frames bytes less is. image-with cart spelling is_own one other frames bytes (λ f before. same f (omega (arith, before, less))) is) early are

-- no frame was made yet
pub made-none : (cart : List ℕ) (spelling : ℕ → Console → List ℕ) (is_own : ℕ → Console → Type 0) (recording : List Frame) (frames : ℕ) (old : Kept)
    → AreImagesBelow (IsImageOf cart spelling is_own recording) (frames + 1) old.images → AreMade cart spelling is_own recording frames old old
made-none cart spelling is_own recording frames old are = record { each = are; back = λ window f some near reach. reach; rest = refl }

-- a frame was made, and no image kept
pub made-unkept : (cart : List ℕ) (spelling : ℕ → Console → List ℕ) (is_own : ℕ → Console → Type 0) (recording : List Frame) (frames : ℕ) (old : Kept)
    → AreImagesBelow (IsImageOf cart spelling is_own recording) (frames + 1) old.images → AreMade cart spelling is_own recording (frames + 1) old old
made-unkept cart spelling is_own recording frames old are =
    made-none cart spelling is_own recording (frames + 1) old (widened (IsImageOf cart spelling is_own recording) (frames + 1) (frames + 1 + 1) old.images (omega arith) are)

-- a frame was made, and its image kept
pub made-kept : (cart : List ℕ) (spelling : ℕ → Console → List ℕ) (is_own : ℕ → Console → Type 0) (recording : List Frame) (frames : ℕ) (bytes : List ℕ) (old new : Kept)
    → IsImageOf cart spelling is_own recording (frames + 1) bytes → AreImagesBelow (IsImageOf cart spelling is_own recording) (frames + 1) old.images
    → new ≡ record old { images = take old.most (record { frames = frames + 1; bytes = bytes } ∷ old.images) } → AreMade cart spelling is_own recording (frames + 1) old new
made-kept cart spelling is_own recording frames bytes old new one are is =
    let image : Image = record { frames = frames + 1; bytes = bytes } in
    let all : AreImagesBelow (IsImageOf cart spelling is_own recording) (frames + 1 + 1) (image ∷ old.images) = (omega arith, one, are) in
    subst (AreMade cart spelling is_own recording (frames + 1) old) (sym is)
    (record {
      each = taken-below (IsImageOf cart spelling is_own recording) old.most (frames + 1 + 1) (image ∷ old.images) all;
      back = λ window f some near reach. reach-pushed (IsImageOf cart spelling is_own recording) old.most window (frames + 1) f image old.images some near all reach;
      rest = refl;
    })

-- one more
pub made-next : (cart : List ℕ) (spelling : ℕ → Console → List ℕ) (is_own : ℕ → Console → Type 0) (recording : List Frame) (frames : ℕ) (old before new : Kept)
    → AreMade cart spelling is_own recording frames old before → AreMade cart spelling is_own recording (frames + 1) before new → AreMade cart spelling is_own recording (frames + 1) old new
made-next cart spelling is_own recording frames old before new made one = record {
  each = one.each;
  back = λ window f some near reach. one.back window f (ap (λ (k : Kept). k.most) made.rest ∙ some) near (made.back window f some (omega (arith, near)) reach);
  rest = one.rest ∙ ap (λ (k : Kept). record k { images = new.images }) made.rest;
}
