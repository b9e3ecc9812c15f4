use Rattle.std.proofs.Common.{◌≡◌, ℕ, ◌+◌, ◌<◌, ◌≤◌}
use Rattle.md_rollback.specs.Images.{ReachBackTo}
use Rattle.md_rollback.specs.Played.{AreMade, IsPlayed}
use Rattle.md_rollback.proofs.Near.{IsNewest}
use Rattle.md_rollback.proofs.replaying.play.Given as goal

abbrev pub invariant-loop-frame : goal.invariant-loop-frame
invariant-loop-frame g l =
    let recording = l.initial.machine.console.shared.recording.frames in
    record {
      played : IsPlayed (g.R.Replays.cart l.replays) recording l.frame l.machine;
      recording_is : l.machine.console.shared.recording.frames ≡ recording;
      made : AreMade (g.R.Replays.cart l.replays) (g.R.Replays.spelling l.replays) (g.R.Replays.is_own l.replays) recording l.frame l.initial.images l.images;
      size : l.images.size ≡ g.R.Replays.size l.replays;
      newest : l.right < l.frame → IsNewest l.right l.frame l.images.images;
      near : (window f : ℕ) → l.images.most ≡ window + 1 → l.right < f → f ≤ l.frame → l.frame ≤ f + window → ReachBackTo f l.images.images;
    }
