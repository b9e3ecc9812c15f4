-- What an advance needs and leaves.
use Rattle.std.proofs.Common.{◌≡◌, ◌≢◌, ◌∙◌, sym, ap, subst, ℕ, ◌+◌, ◌<◌, ◌≤◌, List, [], length, arith}
use Rattle.md_pads.specs.Recording.{Frame, IsRecording, recording_of}
use Rattle.md_chips.specs.Machines.{MachineValue}
use Rattle.md_rollback.specs.Inputs.{AreInputs, InputsValue, IsFixed, expected_frames, frame_at, most_frames}
use Rattle.md_rollback.proofs.Expected.{frames-long, frames-small}
use Rattle.md_rollback.proofs.FixedFrames.{back-within, fixed-next}
use Rattle.md_rollback.specs.Played.{ArePlayedRight, IsPlayed, RunImagesValue}
use Rattle.md_rollback.specs.Sessions.{IsSession}

pub may-be-recorded : (inputs : InputsValue) (n : ℕ) (expected : List Frame) → AreInputs inputs → n ≤ 36000 → expected ≡ expected_frames inputs.local inputs.remote n → IsRecording (recording_of expected)
may-be-recorded inputs n expected known few all =
    subst (λ (x : List Frame). IsRecording (recording_of x)) (sym all) (record {
      few = omega (arith, few, frames-long inputs.local inputs.remote n);
      words = frames-small inputs.local inputs.remote known.local_buttons known.remote_buttons n;
    })

-- what is known where the first frame that was played otherwise was found
pub record Found (inputs : InputsValue) (played expected : List Frame) (right : ℕ) : Type 0 where
  pub all : expected ≡ expected_frames inputs.local inputs.remote (length played + 1)
  pub within : right ≤ length played
  pub same : (f : ℕ) → f < right → frame_at played f ≡ frame_at expected f
  pub differs : right < length played → frame_at played right ≢ frame_at expected right

module _ (run : RunImagesValue) {window : ℕ} {inputs : InputsValue} {expected : List Frame} {machine : MachineValue} {right : ℕ}
    (session : IsSession run.cart window inputs run.played machine) (most : run.most ≡ window + 1) (found : Found inputs run.played expected right) where
  pub expected-long : length expected ≡ length run.played + 1
  expected-long = ap length found.all ∙ frames-long inputs.local inputs.remote (length run.played + 1)

  back-near : length run.played ≤ right + window
  back-near =
      back-within inputs.local inputs.remote run.played window right session.some session.fixed
      (λ less. subst (λ (x : List Frame). frame_at run.played right ≢ frame_at x right) found.all (found.differs less))

  pub played-right : ArePlayedRight run expected right
  played-right = record { longer = expected-long; within = found.within; near = omega (arith, back-near, most); same = found.same }

  pub session-next : (next : MachineValue) → AreInputs inputs → length run.played < most_frames → length run.played < inputs.confirmed + window
      → IsPlayed run.cart expected (length expected) next → IsSession run.cart window inputs expected next
  session-next next known room order made = record {
    some = session.some;
    most = session.most;
    few = omega (arith, expected-long, room);
    played_is = made;
    fixed = λ f late.
        subst (λ (x : List Frame). IsFixed inputs.local inputs.remote x f) (sym found.all)
        (fixed-next inputs.local inputs.remote (length run.played) window inputs.confirmed known.confirmed_is order f (omega (arith, late, expected-long)));
  }

-- the session at power-on
pub first-session : (cart : List ℕ) (window : ℕ) (inputs : InputsValue) (played : List Frame) (m : MachineValue)
    → 1 ≤ window → window ≤ 16 → IsPlayed cart played (length played) m → played ≡ [] → IsSession cart window inputs played m
first-session cart window inputs played m some most made none = record {
  some = some;
  most = most;
  few = omega (arith, ap length none);
  played_is = made;
  fixed = λ f late. absurd (omega (arith, late, ap length none));
}

pub found-by : (inputs : InputsValue) {played expected a b : List Frame} {right : ℕ} → expected ≡ expected_frames inputs.local inputs.remote (length a + 1)
    → a ≡ played → b ≡ expected → right ≤ length a → ((f : ℕ) → f < right → frame_at a f ≡ frame_at b f) → (right < length a → frame_at a right ≢ frame_at b right)
    → Found inputs played expected right
found-by inputs {played} {expected} {a} {b} {right} all one two within same differs = record {
  all = all ∙ ap (λ (x : List Frame). expected_frames inputs.local inputs.remote (length x + 1)) one;
  within = subst (λ (x : List Frame). right ≤ length x) one within;
  same = λ f less. ap (λ (x : List Frame). frame_at x f) (sym one) ∙ same f less ∙ ap (λ (x : List Frame). frame_at x f) two;
  differs = λ less is.
      differs (subst (λ (x : List Frame). right < length x) (sym one) less)
      (ap (λ (x : List Frame). frame_at x right) one ∙ is ∙ ap (λ (x : List Frame). frame_at x right) (sym two));
}
