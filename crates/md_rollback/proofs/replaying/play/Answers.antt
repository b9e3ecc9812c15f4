use Rattle.std.proofs.Common.{◌≡◌, ◌+◌, ◌<◌, ◌≤◌, ◌∙◌, refl, sym, subst, List, ℕ, ap, arith}
use Rattle.md_pads.specs.Recording.{Frame}
use Rattle.md_rollback.specs.Images.{AreImagesBelow, Kept}
use Rattle.md_rollback.specs.Played.{AreMade, IsImageOf, IsPlayed}
use Rattle.md_rollback.proofs.Kept.{made-next, made-none}
use Rattle.md_rollback.proofs.Near.{IsNewest, near-next, newest-next}
use Rattle.md_rollback.proofs.Steps.{frames-are}
use Rattle.md_rollback.proofs.replaying.play.Goals as goal

pub loop-frame-init : goal.loop-frame-init
loop-frame-init g c = record {
  played = c.requires.played;
  recording_is = refl;
  made = made-none (g.R.Replays.cart c.args.replays.now) (g.R.Replays.spelling c.args.replays.now) (g.R.Replays.is_own c.args.replays.now) c.args.machine.now.console.shared.recording.frames c.args.from c.args.images.now c.requires.images;
  size = c.requires.size;
  newest = λ past. absurd (omega (arith, past, c.requires.early));
  near = λ window f most past within late. absurd (omega (arith, past, within, c.requires.early));
}

pub play_next-requires-clause-images : goal.play_next-requires-clause-images
play_next-requires-clause-images g c =
    subst (λ (r : List Frame). AreImagesBelow (IsImageOf (g.R.Replays.cart c.args.replays.now) (g.R.Replays.spelling c.args.replays.now) (g.R.Replays.is_own c.args.replays.now) r) (c.loop-frame.frame + 1) c.loop-frame.images.images)
    (sym c.loop-frame.invariant.recording_is) c.loop-frame.invariant.made.each

pub loop-frame-preserved : goal.loop-frame-preserved
loop-frame-preserved g c =
    let cart = g.R.Replays.cart c.args.replays.now in
    let spelling = g.R.Replays.spelling c.args.replays.now in
    let is_own = g.R.Replays.is_own c.args.replays.now in
    let first = c.args.machine.now.console.shared.recording.frames in
    let now = subst (λ (r : List Frame). IsPlayed cart r (c.loop-frame.frame + 1) c.play_next.new.machine) c.loop-frame.invariant.recording_is c.play_next.ensures.played in
    let k = c.loop-frame.frame in
    let one = subst (λ (r : List Frame). AreMade cart spelling is_own r (c.loop-frame.frame + 1) c.loop-frame.images c.play_next.new.images) c.loop-frame.invariant.recording_is c.play_next.ensures.images in
    let most : c.play_next.new.images.most ≡ c.loop-frame.images.most = ap (λ (k : Kept). k.most) one.rest in
    let some : 1 ≤ c.loop-frame.images.most = omega (arith, c.requires.some, ap (λ (k : Kept). k.most) c.loop-frame.invariant.made.rest) in
    let newest : c.args.right < k + 1 → IsNewest c.args.right (k + 1) c.play_next.new.images.images =
    newest-next c.args.right k c.is_kept.result c.loop-frame.images c.play_next.new.images c.is_kept.ensures.0 c.is_kept.ensures.1
    (λ is. c.play_next.ensures.newest is some) c.play_next.ensures.unkept c.loop-frame.invariant.newest in
    record {
      played = now;
      recording_is = frames-are cart first _ c.play_next.new.machine.console now.machine_is.run;
      made = made-next cart spelling is_own first c.loop-frame.frame c.args.images.now c.loop-frame.images c.play_next.new.images c.loop-frame.invariant.made one;
      size = ap (λ (k : Kept). k.size) one.rest ∙ c.loop-frame.invariant.size;
      newest = newest;
      near = near-next c.args.right k c.loop-frame.images c.play_next.new.images most one.back c.loop-frame.invariant.near newest;
    }

pub returns-clause-played : goal.returns-clause-played
returns-clause-played g c =
    subst (λ (n : ℕ). IsPlayed (g.R.Replays.cart c.args.replays.now) c.args.machine.now.console.shared.recording.frames n c.loop-frame.machine)
    (omega (arith, c.loop-frame-test.false, c.loop-frame.auto.frame-end c.requires.order)) c.loop-frame.invariant.played

pub returns-clause-images : goal.returns-clause-images
returns-clause-images g c =
    subst (λ (n : ℕ). AreMade (g.R.Replays.cart c.args.replays.now) (g.R.Replays.spelling c.args.replays.now) (g.R.Replays.is_own c.args.replays.now) c.args.machine.now.console.shared.recording.frames n c.args.images.now c.loop-frame.images)
    (omega (arith, c.loop-frame-test.false, c.loop-frame.auto.frame-end c.requires.order)) c.loop-frame.invariant.made

pub returns-clause-near : goal.returns-clause-near
returns-clause-near g c = λ window f most past within late.
    let all : c.loop-frame.frame ≡ c.args.to = omega (arith, c.loop-frame-test.false, c.loop-frame.auto.frame-end c.requires.order) in
    c.loop-frame.invariant.near window f most past (omega (arith, within, all)) (omega (arith, late, all))
