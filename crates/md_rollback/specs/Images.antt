-- The images that a session keeps, newest first. This project's profile.
use Rattle.std.specs.Prelude.{ℕ, ◌+◌, ◌<◌, ◌≤◌, All, List, [], ◌∷◌, length, slice_index_or, vec_capacity, ⊤}
use Rattle.md_rollback.specs.declared.kept_images.Slot.{Slot}

-- an image, and after how many frames it was kept
pub record Image : Type 0 where
  pub frames : ℕ
  pub bytes : List ℕ

-- how many images are kept at most, how many bytes each has at most, and the images
pub record Kept : Type 0 where
  pub most : ℕ
  pub size : ℕ
  pub images : List Image

-- the image that follows so many newer ones
abbrev pub image_at : List Image → ℕ → Image
image_at images newer = slice_index_or images newer (record { frames = 0; bytes = [] })

-- the image in a list
abbrev pub image_of : Slot → Image
image_of slot = record { frames = slot.frames; bytes = slot.bytes.items }

-- each image is one after its number of frames, by a relation; all were kept before a frame, and each earlier than the
-- one in front of it
abbrev pub AreImagesBelow : (ℕ → List ℕ → Type 0) → ℕ → List Image → Type 0
AreImagesBelow is_image end [] = ⊤
AreImagesBelow is_image end (image ∷ older) = (image.frames < end) × is_image image.frames image.bytes × AreImagesBelow is_image image.frames older

-- images reach back to the start of a frame: one of them was kept there, or at most three frames earlier
pub record ReachBackTo (frame : ℕ) (images : List Image) : Type 0 where
  pub place : ℕ
  pub within : place < length images
  pub early : (image_at images place).frames ≤ frame
  pub near : frame ≤ (image_at images place).frames + 3

-- there are lists for one image at least and for those that are kept, each with room for one, and places for the
-- lists
pub record AreSlots (slots : List Slot) (places count size : ℕ) : Type 0 where
  pub some : 1 ≤ length slots
  pub within : count ≤ length slots
  pub placed : length slots ≤ places
  pub each : All (λ slot. size ≤ vec_capacity slot.bytes) slots
