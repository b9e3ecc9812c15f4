-- What images are, and how far they reach back, where some are dropped or one more is kept.
use Rattle.std.proofs.Common.{◌≡◌, ℕ, zero, suc, ◌+◌, ◌-◌, ◌<◌, ◌≤◌, inl, inr, sym, subst, List, [], ◌∷◌, length, take, drop, arith, length-drop}
use Rattle.std.proofs.lemmas.Bool.{cases_lt}
use Rattle.std.proofs.lemmas.List.{get_or-drop, get_or-take, length-take}
use Rattle.md_rollback.specs.Images.{AreImagesBelow, Image, ReachBackTo, image_at}

-- after all images
abbrev no_image : Image
no_image = record { frames = 0; bytes = [] }

module _ (is_image : ℕ → List ℕ → Type 0) where
  pub widened : (end more : ℕ) (images : List Image) → end ≤ more → AreImagesBelow is_image end images → AreImagesBelow is_image more images
  widened end more [] less are = tt
  widened end more (x ∷ xs) less are = (omega (arith, are.0, less), are.1, are.2)

  pub taken-below : (n end : ℕ) (images : List Image) → AreImagesBelow is_image end images → AreImagesBelow is_image end (take n images)
  taken-below zero end images are = tt
  taken-below (suc n) end [] are = tt
  taken-below (suc n) end (x ∷ xs) are = (are.0, are.1, taken-below n x.frames xs are.2)

  pub image-dropped : (n end : ℕ) (images : List Image) → n < length images → AreImagesBelow is_image end (drop n images) → is_image (image_at images n).frames (image_at images n).bytes
  image-dropped n end [] within are = absurd (omega (arith, within))
  image-dropped zero end (x ∷ xs) within are = are.1
  image-dropped (suc n) end (x ∷ xs) within are = image-dropped n end xs (omega (arith, within)) are

  pub dropped-below : (n end : ℕ) (images : List Image) → n < length images → AreImagesBelow is_image end images → AreImagesBelow is_image ((image_at images n).frames + 1) (drop n images)
  dropped-below n end [] within are = absurd (omega (arith, within))
  dropped-below zero end (x ∷ xs) within are = (omega arith, are.1, are.2)
  dropped-below (suc n) end (x ∷ xs) within are = dropped-below n x.frames xs (omega (arith, within)) are.2

  -- each was kept a frame earlier at least than the one in front of it
  early-below : (n end : ℕ) (images : List Image) → n < length images → AreImagesBelow is_image end images → (image_at images n).frames + n < end
  early-below n end [] within are = absurd (omega (arith, within))
  early-below zero end (x ∷ xs) within are = omega (arith, are.0)
  early-below (suc n) end (x ∷ xs) within are = omega (arith, are.0, early-below n x.frames xs (omega (arith, within)) are.2)

  later-below : (n m end : ℕ) (images : List Image) → n ≤ m → m < length images → AreImagesBelow is_image end images → (image_at images m).frames ≤ (image_at images n).frames
  later-below n m end [] less within are = absurd (omega (arith, within))
  later-below zero zero end (x ∷ xs) less within are = omega arith
  later-below zero (suc m) end (x ∷ xs) less within are = omega (arith, early-below m x.frames xs (omega (arith, within)) are.2)
  later-below (suc n) zero end (x ∷ xs) less within are = absurd (omega (arith, less))
  later-below (suc n) (suc m) end (x ∷ xs) less within are = later-below n m x.frames xs (omega (arith, less)) (omega (arith, within)) are.2

  -- where one more is kept, the oldest may go: as many as there are then were kept within a window
  pub reach-pushed : (most window frames f : ℕ) (image : Image) (older : List Image) → most ≡ window + 1 → frames ≤ f + window
      → AreImagesBelow is_image (frames + 1) (image ∷ older) → ReachBackTo f older → ReachBackTo f (take most (image ∷ older))
  reach-pushed most window frames f image older some near are reach =
      let all : List Image = image ∷ older in
      elim (cases_lt (reach.place + 1) most) [
        | inl early ↦ record {
          place = suc reach.place;
          within = omega (arith, early, reach.within, length-take most all);
          early = subst (λ (x : Image). x.frames ≤ f) (sym (get_or-take most all (suc reach.place) no_image (omega (arith, early)))) reach.early;
          near = subst (λ (x : Image). f ≤ x.frames + 3) (sym (get_or-take most all (suc reach.place) no_image (omega (arith, early)))) reach.near;
        }
        | inr late ↦ record {
          place = window;
          within = omega (arith, some, late, reach.within, length-take most all);
          early = subst (λ (x : Image). x.frames ≤ f) (sym (get_or-take most all window no_image (omega (arith, some))))
              (omega (arith, near, early-below window (frames + 1) all (omega (arith, some, late, reach.within)) are));
          near = subst (λ (x : Image). f ≤ x.frames + 3) (sym (get_or-take most all window no_image (omega (arith, some))))
              (omega (arith, reach.near, later-below window (suc reach.place) (frames + 1) all (omega (arith, some, late)) (omega (arith, reach.within)) are));
        }
      ]

-- images of one relation are those of another, where both agree below a frame
pub below-with : (one other : ℕ → List ℕ → Type 0) (right end : ℕ) (images : List Image) → ((frames : ℕ) (bytes : List ℕ) → frames ≤ right → one frames bytes → other frames bytes)
    → end ≤ right + 1 → AreImagesBelow one end images → AreImagesBelow other end images
below-with one other right end [] same less are = tt
below-with one other right end (x ∷ xs) same less are =
    (are.0, same x.frames x.bytes (omega (arith, are.0, less)) are.1, below-with one other right x.frames xs same (omega (arith, are.0, less)) are.2)

-- the images that are dropped are too new to reach there
pub reach-following : (f n : ℕ) (images : List Image) → ((j : ℕ) → j < n → f < (image_at images j).frames) → (reach : ReachBackTo f images) → n ≤ reach.place
reach-following f n images newer reach = elim (cases_lt reach.place n) [
  | inl less ↦ absurd (omega (arith, newer reach.place less, reach.early))
  | inr following ↦ following
]

pub reach-dropped : (f n : ℕ) (images : List Image) → ((j : ℕ) → j < n → f < (image_at images j).frames) → ReachBackTo f images → ReachBackTo f (drop n images)
reach-dropped f n images newer reach =
    let following : n ≤ reach.place = reach-following f n images newer reach in
    let place : n + (reach.place - n) ≡ reach.place = omega (arith, following) in
    record {
      place = reach.place - n;
      within = omega (arith, following, reach.within, length-drop n images);
      early = subst (λ (x : Image). x.frames ≤ f) (sym (get_or-drop n images (reach.place - n) no_image))
          (subst (λ (j : ℕ). (image_at images j).frames ≤ f) (sym place) reach.early);
      near = subst (λ (x : Image). f ≤ x.frames + 3) (sym (get_or-drop n images (reach.place - n) no_image))
          (subst (λ (j : ℕ). f ≤ (image_at images j).frames + 3) (sym place) reach.near);
    }
