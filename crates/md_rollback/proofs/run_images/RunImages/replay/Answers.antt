use Rattle.std.proofs.Common.{◌≡◌, ◌∙◌, ◌+◌, ◌<◌, ◌≤◌, ap, refl, sym, subst, List, ℕ, drop, length, arith}
use Rattle.std.specs.Prelude.{All}
use Rattle.std.proofs.lemmas.Bool.{eqb-true}
use Rattle.std.specs.Arc.{arc_value}
use Rattle.md_pads.specs.Recording.{Frame, IsFrame, IsRecording, Recorded, recording_of}
use Rattle.md_pads.proofs.Frames.{frames_are}
use Rattle.md_rollback.specs.Images.{AreImagesBelow, Kept, ReachBackTo, image_at}
use Rattle.md_rollback.specs.Played.{IsImageOf, IsPlayed, IsPlayedAlike, RunImagesValue}
use Rattle.md_rollback.proofs.Below.{widened}
use Rattle.md_rollback.proofs.Replayed.{back-few, image-here, images-here, images-next, machine-here, made-as}
use Rattle.md_rollback.proofs.Steps.{frames-are}
use Rattle.md_rollback.proofs.run_images.RunImages.replay.Goals as goal

pub shared_recording-requires : goal.shared_recording-requires
shared_recording-requires g c = subst (λ (x : List Frame). IsRecording (recording_of x)) (sym c.as_slice.ensures.value) c.requires.recording

pub stand_at-requires-clause-first : goal.stand_at-requires-clause-first
stand_at-requires-clause-first g c = ap (λ (r : Recorded). r.version) c.in_ok-recording.ensures

pub stand_at-requires-clause-buttons : goal.stand_at-requires-clause-buttons
stand_at-requires-clause-buttons g c =
    let recorded : arc_value c.in_ok-recording.recording ≡ recording_of c.args.expected.items = c.in_ok-recording.ensures ∙ ap recording_of c.as_slice.ensures.value in
    subst (λ (r : Recorded). All IsFrame r.frames) (sym recorded) (frames_are (recording_of c.args.expected.items) c.requires.recording)

pub stand_at-requires-clause-newer : goal.stand_at-requires-clause-newer
stand_at-requires-clause-newer g c = back-few c.self.invariant.0 c.self.view_is c.requires.right c.newer_than-newer.result c.newer_than-newer.ensures.newer

pub stand_at-requires-clause-early : goal.stand_at-requires-clause-early
stand_at-requires-clause-early g c = c.newer_than-newer.ensures.next (back-few c.self.invariant.0 c.self.view_is c.requires.right c.newer_than-newer.result c.newer_than-newer.ensures.newer)

pub stand_at-requires-clause-image : goal.stand_at-requires-clause-image
stand_at-requires-clause-image g c =
    let replays = c.self.inside.replays in
    let image = image_at c.self.inside.kept.images c.newer_than-newer.result in
    let recorded : arc_value c.in_ok-recording.recording ≡ recording_of c.args.expected.items = c.in_ok-recording.ensures ∙ ap recording_of c.as_slice.ensures.value in
    let few = back-few c.self.invariant.0 c.self.view_is c.requires.right c.newer_than-newer.result c.newer_than-newer.ensures.newer in
    subst (λ (r : Recorded). IsImageOf (g.R.Replays.cart replays) (g.R.Replays.spelling replays) (g.R.Replays.is_own replays) r.frames image.frames image.bytes) (sym recorded)
    (image-here c.self.invariant.0 c.self.view_is c.requires.right c.newer_than-newer.result c.newer_than-newer.ensures.newer (c.newer_than-newer.ensures.next few))

pub stand_at-requires-clause-here : goal.stand_at-requires-clause-here
stand_at-requires-clause-here g c =
    let recorded : arc_value c.in_ok-recording.recording ≡ recording_of c.args.expected.items = c.in_ok-recording.ensures ∙ ap recording_of c.as_slice.ensures.value in
    λ is.
    subst (λ (r : Recorded). IsPlayedAlike (g.R.Replays.cart c.self.inside.replays) r.frames c.args.right c.args.machine.now) (sym recorded)
    (machine-here c.self.invariant.0 c.self.view_is c.requires.right c.args.machine.now c.requires.machine (eqb-true c.args.right c.len.result is ∙ c.len.ensures ∙ c.self.inside.played.ok.0))

pub play-requires-clause-played : goal.play-requires-clause-played
play-requires-clause-played g c =
    let cart = g.R.Replays.cart c.self.inside.replays in
    let from = c.stand_at.new.machine in
    subst (λ (r : List Frame). IsPlayed cart r c.in_ok-from.from from)
    (sym (frames-are cart (arc_value c.in_ok-recording.recording).frames _ from.console c.in_ok-from.ensures.played.machine_is.run)) c.in_ok-from.ensures.played

pub play-requires-clause-some : goal.play-requires-clause-some
play-requires-clause-some g c =
    omega (arith, c.self.invariant.0.some, ap (λ (k : Kept). k.most) c.drop_newest.ensures)

pub play-requires-clause-order : goal.play-requires-clause-order
play-requires-clause-order g c =
    let long : c.len-to.result ≡ length c.args.expected.items = c.len-to.ensures ∙ c.args.expected.ok.0 in
    omega (arith, c.in_ok-from.ensures.between.1, c.requires.right.within, c.requires.right.longer, long)

pub play-requires-clause-within : goal.play-requires-clause-within
play-requires-clause-within g c =
    let long : c.len-to.result ≡ length c.args.expected.items = c.len-to.ensures ∙ c.args.expected.ok.0 in
    omega (arith, c.requires.few, long)

pub play-requires-clause-images : goal.play-requires-clause-images
play-requires-clause-images g c =
    let replays = c.self.inside.replays in
    let are = IsImageOf (g.R.Replays.cart replays) (g.R.Replays.spelling replays) (g.R.Replays.is_own replays) in
    let images = c.self.inside.kept.images in
    let newer = c.newer_than-newer.result in
    let recorded : arc_value c.in_ok-recording.recording ≡ recording_of c.args.expected.items = c.in_ok-recording.ensures ∙ ap recording_of c.as_slice.ensures.value in
    let from = c.stand_at.new.machine in
    let same : from.console.shared.recording.frames ≡ c.args.expected.items =
    frames-are _ (arc_value c.in_ok-recording.recording).frames _ from.console c.in_ok-from.ensures.played.machine_is.run ∙ ap (λ (r : Recorded). r.frames) recorded in
    let here = images-here c.self.invariant.0 c.self.view_is c.requires.right newer c.newer_than-newer.ensures.newer (c.newer_than-newer.ensures.next (back-few c.self.invariant.0 c.self.view_is c.requires.right c.newer_than-newer.result c.newer_than-newer.ensures.newer)) in
    subst (λ (k : Kept). AreImagesBelow (are from.console.shared.recording.frames) (c.in_ok-from.from + 1) k.images) (sym c.drop_newest.ensures)
    (subst (λ (r : List Frame). AreImagesBelow (are r) (c.in_ok-from.from + 1) (drop newer images)) (sym same)
    (widened (are c.args.expected.items) ((image_at images newer).frames + 1) (c.in_ok-from.from + 1) (drop newer images) (omega (arith, c.in_ok-from.ensures.between.0)) here))

pub invariant_of-self : goal.invariant_of-self
invariant_of-self g c =
    let most = c.play.new.images.most in
    let images = c.play.new.images.images in
    let recorded : arc_value c.in_ok-recording.recording ≡ recording_of c.args.expected.items = c.in_ok-recording.ensures ∙ ap recording_of c.as_slice.ensures.value in
    let from = c.stand_at.new.machine in
    let same : from.console.shared.recording.frames ≡ c.args.expected.items =
    frames-are _ (arc_value c.in_ok-recording.recording).frames _ from.console c.in_ok-from.ensures.played.machine_is.run ∙ ap (λ (r : Recorded). r.frames) recorded in
    let long : c.len-to.result ≡ length c.args.expected.items = c.len-to.ensures ∙ c.args.expected.ok.0 in
    let made = made-as c.play.new.images c.play.ensures.images same long c.drop_newest.ensures in
    let near : (w f : ℕ) → most ≡ w + 1 → c.args.right < f → f ≤ length c.args.expected.items → length c.args.expected.items ≤ f + w → ReachBackTo f images =
    subst (λ (n : ℕ). (w f : ℕ) → most ≡ w + 1 → c.args.right < f → f ≤ n → n ≤ f + w → ReachBackTo f images) long c.play.ensures.near in (
      images-next c.self.invariant.0 c.self.view_is c.requires.right c.newer_than-newer.result c.newer_than-newer.ensures.newer c.self.inside.kept c.play.new.images refl made near,
      ap (λ (k : Kept). k.size) made.rest ∙ c.self.invariant.1,
    )

pub returns-clause-machine : goal.returns-clause-machine
returns-clause-machine g c =
    let cart = g.R.Replays.cart c.self.inside.replays in
    let expected = c.args.expected.items in
    let recorded : arc_value c.in_ok-recording.recording ≡ recording_of c.args.expected.items = c.in_ok-recording.ensures ∙ ap recording_of c.as_slice.ensures.value in
    let from = c.stand_at.new.machine in
    let same : from.console.shared.recording.frames ≡ c.args.expected.items =
    frames-are _ (arc_value c.in_ok-recording.recording).frames _ from.console c.in_ok-from.ensures.played.machine_is.run ∙ ap (λ (r : Recorded). r.frames) recorded in
    let long : c.len-to.result ≡ length c.args.expected.items = c.len-to.ensures ∙ c.args.expected.ok.0 in
    subst (λ (r : RunImagesValue). IsPlayed r.cart expected (length expected) c.play.new.machine) c.self.view_is
    (subst (λ (r : List Frame). IsPlayed cart r (length expected) c.play.new.machine) same
    (subst (λ (n : ℕ). IsPlayed cart from.console.shared.recording.frames n c.play.new.machine) long c.play.ensures.played))

pub returns-clause-played : goal.returns-clause-played
returns-clause-played g c =
    let cart = g.R.Replays.cart c.self.inside.replays in
    let expected = c.args.expected.items in
    let most = c.play.new.images.most in
    let images = c.play.new.images.images in
    subst (λ (r : RunImagesValue). record { most = most; cart = cart; played = expected; images = images } ≡ record r { played = expected; images = images }) c.self.view_is
    (ap (λ (k : Kept). record { most = k.most; cart = cart; played = expected; images = images }) (c.play.ensures.images.rest ∙ ap (λ (k : Kept). record k { images = images }) c.drop_newest.ensures))
