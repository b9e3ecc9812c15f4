-- The images of a run, at power-on and once frames were made again.
use Rattle.std.proofs.Common.{◌≡◌, ◌∙◌, refl, sym, ap, subst, false, ℕ, ◌+◌, ◌-◌, ◌<◌, ◌≤◌, inl, inr, List, [], ◌∷◌, length, take, drop, arith}
use Rattle.std.proofs.lemmas.Bool.{cases_lt}
use Rattle.std.proofs.lemmas.List.{take_all}
use Rattle.md_pads.specs.Recording.{Frame, no_frames}
use Rattle.md_chips.specs.Console.{Console, journal, media_after, power_on, ran}
use Rattle.md_chips.specs.Machines.{MachineValue}
use Rattle.md_chips.specs.Media.{no_media}
use Rattle.machine_laws.specs.Reached.{IsReached}
use Rattle.md_rollback.specs.Images.{AreImagesBelow, Image, Kept, ReachBackTo, image_at}
use Rattle.md_rollback.specs.Played.{AreMade, ArePlayedRight, AreRunImages, IsImageOf, IsMachineOf, IsPlayed, IsPlayedAlike, KeepsReached, RunImagesValue}
use Rattle.md_rollback.proofs.Below.{dropped-below, image-dropped, reach-dropped, reach-following}
use Rattle.md_rollback.proofs.Kept.{images-with}

-- ---- at power-on

pub one-pushed : (most : ℕ) (image : Image) (old : List Image) → 1 ≤ most → old ≡ [] → take most (image ∷ old) ≡ image ∷ []
one-pushed most image old some none = ap (λ (xs : List Image). take most (image ∷ xs)) none ∙ take_all most (image ∷ []) (omega (arith, some))

pub first-machine : (cart : List ℕ) → IsMachineOf cart [] 0 (record { at = 0; console = power_on cart no_frames false; entries = []; media = no_media })
unfolding ran journal media_after
first-machine cart = record {
  at = refl;
  run = record {
    last = power_on cart no_frames false;
    entries = [];
    output = no_media;
    run = record { moves = 0; below = λ k less. absurd (omega arith); quiet = λ i below. omega arith; console = refl; entered = refl; rendered_to = refl };
    same = refl;
  };
}

pub first-played : (cart : List ℕ) (m : MachineValue) → m ≡ record { at = 0; console = power_on cart no_frames false; entries = []; media = no_media } → IsReached 0 (power_on cart no_frames false) → IsPlayed cart [] 0 m
first-played cart m is reached =
    subst (IsPlayed cart [] 0) (sym is) (record {
      machine_is = first-machine cart;
      cart_is = refl;
      reached = reached;
      entries = refl;
      media = refl;
    })

pub first-images : (cart : List ℕ) (spelling : ℕ → Console → List ℕ) (is_ready is_own : ℕ → Console → Type 0) (most : ℕ) (played : List Frame) (kept : List Image) (bytes : List ℕ)
    → 1 ≤ most → KeepsReached cart is_ready → played ≡ [] → IsImageOf cart spelling is_own [] 0 bytes → kept ≡ record { frames = 0; bytes = bytes } ∷ []
    → AreRunImages cart spelling is_ready is_own most played kept
first-images cart spelling is_ready is_own most played kept bytes some keeps none image only =
    subst (λ (p : List Frame). AreRunImages cart spelling is_ready is_own most p kept) (sym none)
    (subst (λ (x : List Image). AreRunImages cart spelling is_ready is_own most [] x) (sym only) (record {
      some = some;
      keeps = keeps;
      each = (omega arith, image, tt);
      back = λ f few near. record { place = 0; within = omega arith; early = omega arith; near = omega (arith, few) };
    }))

-- ---- frames are made again

module _ {cart : List ℕ} {spelling : ℕ → Console → List ℕ} {is_ready is_own : ℕ → Console → Type 0} {most : ℕ} {played expected : List Frame} {kept : List Image} {right : ℕ} {run : RunImagesValue}
    (are : AreRunImages cart spelling is_ready is_own most played kept)
    (seen : record { most = most; cart = cart; played = played; images = kept } ≡ run) (of_run : ArePlayedRight run expected right) where
  known : ArePlayedRight (record { most = most; cart = cart; played = played; images = kept }) expected right
  known = subst (λ (r : RunImagesValue). ArePlayedRight r expected right) (sym seen) of_run

  -- where all were right, the machine itself is that of the expected frames so far
  pub machine-here : (machine : MachineValue) → IsPlayed run.cart run.played (length run.played) machine → right ≡ length played → IsPlayedAlike cart expected right machine
  machine-here machine made all =
      let here = subst (λ (r : RunImagesValue). IsPlayed r.cart r.played (length r.played) machine) (sym seen) made in
      record {
        made_with = played;
        alike = λ f early. known.same f (omega (arith, early));
        played = subst (λ (n : ℕ). IsPlayed cart played n machine) (sym all) here;
      }

  module _ (newer : ℕ) (later : (j : ℕ) → j < newer → right < (image_at kept j).frames) where
    -- one of the images is early enough
    pub back-few : newer < length kept
    back-few =
        let reach = are.back right known.within known.near in
        omega (arith, reach.within, reach-following right newer kept later reach)

    pub images-here : (image_at kept newer).frames ≤ right → AreImagesBelow (IsImageOf cart spelling is_own expected) ((image_at kept newer).frames + 1) (drop newer kept)
    images-here early =
        images-with cart spelling is_own played expected right ((image_at kept newer).frames + 1) (drop newer kept) known.same (omega (arith, early))
        (dropped-below (IsImageOf cart spelling is_own played) newer (length played + 1) kept back-few are.each)

    pub image-here : (image_at kept newer).frames ≤ right → IsImageOf cart spelling is_own expected (image_at kept newer).frames (image_at kept newer).bytes
    image-here early = image-dropped (IsImageOf cart spelling is_own expected) newer ((image_at kept newer).frames + 1) kept back-few (images-here early)

    pub images-next : (old new : Kept) → old.most ≡ most → AreMade cart spelling is_own expected (length expected) (record old { images = drop newer kept }) new
        → ((w f : ℕ) → new.most ≡ w + 1 → right < f → f ≤ length expected → length expected ≤ f + w → ReachBackTo f new.images)
        → AreRunImages cart spelling is_ready is_own new.most expected new.images
    images-next old new many fresh near =
        let same : new.most ≡ most = ap (λ (k : Kept). k.most) fresh.rest ∙ many in
        record {
          some = omega (arith, are.some, same);
          keeps = are.keeps;
          each = fresh.each;
          back = λ f few late. elim (cases_lt right f) [
            | inl past ↦ near (most - 1) f (omega (arith, are.some, same)) past few (omega (arith, late, same, are.some))
            | inr before ↦ fresh.back (most - 1) f (omega (arith, are.some, many)) (omega (arith, late, same, are.some))
                (reach-dropped f newer kept (λ j less. omega (arith, later j less, before))
                (are.back f (omega (arith, before, known.within)) (omega (arith, late, same, known.longer))))
          ];
        }

-- the same of an equal recording and of equal images
pub made-as : {cart : List ℕ} {spelling : ℕ → Console → List ℕ} {is_own : ℕ → Console → Type 0} {recording other : List Frame} {frames count : ℕ} {old before : Kept} (new : Kept)
    → AreMade cart spelling is_own recording frames old new → recording ≡ other → frames ≡ count → old ≡ before → AreMade cart spelling is_own other count before new
made-as {cart} {spelling} {is_own} {recording} {other} {frames} {count} {old} {before} new made same long is =
    subst (λ (k : Kept). AreMade cart spelling is_own other count k new) is
    (subst (λ (n : ℕ). AreMade cart spelling is_own other n old new) long (subst (λ (r : List Frame). AreMade cart spelling is_own r frames old new) same made))
