-- Which frames of a session are fixed, and where it has to go back to.
use Rattle.std.proofs.Common.{◌≡◌, ◌≢◌, ◌∙◌, sym, ap, ap₂, ℕ, ◌+◌, ◌<◌, ◌≤◌, ◌⊎◌, inl, inr, subst, set, take, List, length, Some, None, Result, Ok, Err, arith}
use Rattle.std.specs.Prelude.{OnErr, OnOk}
use Rattle.std.proofs.lemmas.List.{get_or-take, length-take}
use Rattle.std.proofs.lemmas.List.FromFn.{fill_by_all}
use Rattle.std.proofs.lemmas.Option.{unwrap_or-slice_get}
use Rattle.md_pads.specs.Recording.{Frame}
use Rattle.md_rollback.specs.Inputs.{AreGiven, InputsValue, IsConfirmed, IsFixed, Words, expected_frame, expected_frames, frame_at, given}
use Rattle.md_rollback.proofs.Expected.{given-expected, more-stays, pads-at, some-word}

-- a confirmed frame has the words that were given
confirmed-frame : (l r : Words) (n f : ℕ) → f < n → AreGiven l r f → IsFixed l r (expected_frames l r n) f
confirmed-frame l r n f less both =
    let one = some-word (given l f) both.0 in
    let two = some-word (given r f) both.1 in
    record {
      first = one.0;
      second = two.0;
      local_is = one.1;
      remote_is = two.1;
      played_is = pads-at l r n f less ∙ ap₂ (λ (a b : ℕ). (a, b)) (given-expected l f one.0 one.1) (given-expected r f two.0 two.1);
    }

-- so are all but the last frames, once one more is played with what is expected
pub fixed-next : (l r : Words) (n window confirmed : ℕ) → IsConfirmed l r confirmed → n < confirmed + window → (f : ℕ) → f + window < n + 1 → IsFixed l r (expected_frames l r (n + 1)) f
fixed-next l r n window confirmed is order f late = confirmed-frame l r (n + 1) f (omega (arith, late)) (is.below f (omega (arith, order, late)))

-- a fixed frame is expected as it was played
pub fixed-same : (l r : Words) (played : List Frame) (n f : ℕ) → f < n → IsFixed l r played f → frame_at played f ≡ frame_at (expected_frames l r n) f
fixed-same l r played n f less is =
    is.played_is
    ∙ ap₂ (λ (a b : ℕ). (a, b)) (sym (given-expected l f is.first is.local_is)) (sym (given-expected r f is.second is.remote_is))
    ∙ sym (pads-at l r n f less)

-- so the first frames, where all are fixed, are what is expected of so many
pub fixed-frames : (l r : Words) (played : List Frame) (n : ℕ) → n ≤ length played → ((f : ℕ) → f < n → IsFixed l r played f) → take n played ≡ expected_frames l r n
unfolding expected_frames
fixed-frames l r played n within fixed =
    fill_by_all (expected_frame l r) (take n played) n (0, 0) (omega (arith, length-take n played, within))
    (λ k less.
    get_or-take n played k (0, 0) less
    ∙ sym (unwrap_or-slice_get played k (0, 0))
    ∙ fixed-same l r played n k less (fixed k less)
    ∙ pads-at l r n k less)

late-or-not : (right window n : ℕ) → (right + window < n) ⊎ (n ≤ right + window)
late-or-not right window n = grind arith

-- the first frame that was played otherwise than it is expected is one of the last ones
pub back-within : (l r : Words) (played : List Frame) (window right : ℕ) → 1 ≤ window
    → ((f : ℕ) → f + window < length played → IsFixed l r played f)
    → (right < length played → frame_at played right ≢ frame_at (expected_frames l r (length played + 1)) right)
    → length played ≤ right + window
back-within l r played window right some fixed differs = elim (late-or-not right window (length played)) [
  | inl late ↦ absurd (differs (omega (arith, late)) (fixed-same l r played (length played + 1) right (omega (arith, late)) (fixed right late)))
  | inr within ↦ within
]

-- fixed frames stay, where another word is given
pub fixed-local : {A E : Type 0} (r : Result A E) (old new : InputsValue) (frame word f : ℕ) (played : List Frame)
    → OnOk r ((new.local ≡ set old.local frame (Some word)) × (new.remote ≡ old.remote)) → OnOk r (given old.local frame ≡ None) → OnErr r (new ≡ old)
    → IsFixed old.local old.remote played f → IsFixed new.local new.remote played f
fixed-local (Ok x) old new frame word f played made free kept is = record {
  first = is.first;
  second = is.second;
  local_is = ap (λ (w : Words). given w f) made.0 ∙ more-stays old.local frame word free f is.first is.local_is;
  remote_is = ap (λ (w : Words). given w f) made.1 ∙ is.remote_is;
  played_is = is.played_is;
}
fixed-local (Err e) old new frame word f played made free kept is = subst (λ (x : InputsValue). IsFixed x.local x.remote played f) (sym kept) is

pub fixed-remote : {A E : Type 0} (r : Result A E) (old new : InputsValue) (frame word f : ℕ) (played : List Frame)
    → OnOk r ((new.remote ≡ set old.remote frame (Some word)) × (new.local ≡ old.local)) → OnOk r (given old.remote frame ≡ None) → OnErr r (new ≡ old)
    → IsFixed old.local old.remote played f → IsFixed new.local new.remote played f
fixed-remote (Ok x) old new frame word f played made free kept is = record {
  first = is.first;
  second = is.second;
  local_is = ap (λ (w : Words). given w f) made.1 ∙ is.local_is;
  remote_is = ap (λ (w : Words). given w f) made.0 ∙ more-stays old.remote frame word free f is.second is.remote_is;
  played_is = is.played_is;
}
fixed-remote (Err e) old new frame word f played made free kept is = subst (λ (x : InputsValue). IsFixed x.local x.remote played f) (sym kept) is
