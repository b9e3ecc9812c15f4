-- How near the images are to the frames that were made.
use Rattle.std.proofs.Common.{◌≡◌, ◌∙◌, refl, sym, subst, Bool, true, false, ℕ, zero, suc, ◌+◌, ◌-◌, ◌%◌, ◌<◌, ◌≤◌, ◌⊎◌, inl, inr, List, ◌∷◌, length, take, arith}
use Rattle.std.specs.Prelude.{IsTrue}
use Rattle.std.proofs.lemmas.Bool.{cases_lt}
use Rattle.md_rollback.specs.Images.{Image, Kept, ReachBackTo, image_at}

-- the newest image is the last of those that are kept, one in four frames from the one after `right` on
pub record IsNewest (right frames : ℕ) (images : List Image) : Type 0 where
  pub some : 0 < length images
  pub newest : (image_at images 0).frames + (frames - right - 1) % 4 ≡ frames

-- an image that is kept is the newest
head-taken : (most : ℕ) (image : Image) (older : List Image) → 1 ≤ most → (0 < length (take most (image ∷ older))) × ((image_at (take most (image ∷ older)) 0).frames ≡ image.frames)
head-taken zero image older some = absurd (omega (arith, some))
head-taken (suc n) image older some = (omega arith, refl)

pub head-kept : (old new : Kept) (image : Image) → new ≡ record old { images = take old.most (image ∷ old.images) } → 1 ≤ old.most
    → (0 < length new.images) × ((image_at new.images 0).frames ≡ image.frames)
head-kept old new image is some =
    subst (λ (k : Kept). (0 < length k.images) × ((image_at k.images 0).frames ≡ image.frames)) (sym is) (head-taken old.most image old.images some)

none-or-some : (n : ℕ) → (n ≡ 0) ⊎ (1 ≤ n)
none-or-some zero = inl refl
none-or-some (suc n) = inr (omega arith)

false-or-true : false ≡ true → ⊥
false-or-true same = cc

-- a frame more was made
pub newest-next : (right k : ℕ) (kept : Bool) (old new : Kept) → (IsTrue kept → (right ≤ k) × ((k - right) % 4 ≡ 0)) → ((right ≤ k) × ((k - right) % 4 ≡ 0) → IsTrue kept)
    → (kept ≡ true → (0 < length new.images) × ((image_at new.images 0).frames ≡ k + 1)) → (kept ≡ false → new ≡ old)
    → (right < k → IsNewest right k old.images) → right < k + 1 → IsNewest right (k + 1) new.images
newest-next right k true old new only so head same was past =
    let at = only refl in
    record { some = (head refl).0; newest = omega (arith, (head refl).1, at.0, at.1) }
newest-next right k false old new only so head same was past = elim (none-or-some ((k - right) % 4)) [
  | inl none ↦ absurd (false-or-true (so (omega (arith, past), none)))
  | inr some ↦ (
      let before = was (omega (arith, past, some)) in
      subst (λ (m : Kept). IsNewest right (k + 1) m.images) (sym (same refl)) (record { some = before.some; newest = omega (arith, before.newest, some, past) })
      )
]

pub near-next : (right k : ℕ) (old new : Kept) → new.most ≡ old.most
    → ((window f : ℕ) → old.most ≡ window + 1 → k + 1 ≤ f + window → ReachBackTo f old.images → ReachBackTo f new.images)
    → ((window f : ℕ) → old.most ≡ window + 1 → right < f → f ≤ k → k ≤ f + window → ReachBackTo f old.images)
    → (right < k + 1 → IsNewest right (k + 1) new.images)
    → (window f : ℕ) → new.most ≡ window + 1 → right < f → f ≤ k + 1 → k + 1 ≤ f + window → ReachBackTo f new.images
near-next right k old new most back near newest window f is past within late = elim (cases_lt k f) [
  | inl here ↦ (
      let now = newest (omega (arith, past, within)) in
      record { place = 0; within = now.some; early = omega (arith, now.newest, here); near = omega (arith, now.newest, within) }
      )
  | inr before ↦ back window f (sym most ∙ is) late (near window f (sym most ∙ is) past before (omega (arith, late)))
]
