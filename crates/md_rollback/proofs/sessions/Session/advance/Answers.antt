use Rattle.std.proofs.Common.{◌≡◌, ◌∙◌, ◌+◌, ◌<◌, ◌≤◌, ap, sym, subst, List, ℕ, length, take, arith}
use Rattle.std.proofs.lemmas.List.{length-take}
use Rattle.md_pads.specs.Recording.{Frame}
use Rattle.md_chips.specs.Machines.{MachineValue}
use Rattle.md_rollback.specs.Inputs.{expected_frames, frame_at}
use Rattle.md_rollback.specs.Played.{IsMachineOf, RunImagesValue}
use Rattle.md_rollback.specs.Sessions.{IsSession, SessionValue}
use Rattle.md_rollback.proofs.Advances.{expected-long, found-by, may-be-recorded, played-right, session-next}
use Rattle.md_rollback.proofs.Expected.{frames-long}
use Rattle.md_rollback.proofs.FixedFrames.{fixed-frames, fixed-same}
use Rattle.md_rollback.proofs.sessions.Session.advance.Goals as goal

pub expected_after-requires-clause-known : goal.expected_after-requires-clause-known
expected_after-requires-clause-known g c =
    let inputs = c.self.inside.inputs in
    let run = c.self.inside.images in
    let was = c.self.invariant.0 in
    let many : length c.played-played.result.now ≡ length run.played = ap length c.played-played.ensures in
    let fixed = c.saturating_sub-fixed.result in
    let within : fixed ≤ length run.played = omega (arith, c.saturating_sub-fixed.ensures, many) in
    let known : take fixed run.played ≡ expected_frames inputs.local inputs.remote fixed =
    fixed-frames inputs.local inputs.remote run.played fixed within (λ f less. was.fixed f (omega (arith, less, c.saturating_sub-fixed.ensures, many))) in
    let long : length (take fixed c.played-played.result.now) ≡ fixed = omega (arith, length-take fixed c.played-played.result.now, many, within) in
    ap (take fixed) c.played-played.ensures ∙ known ∙ ap (expected_frames inputs.local inputs.remote) (sym long)

pub same_frames-right-requires-clause-shorter : goal.same_frames-right-requires-clause-shorter
same_frames-right-requires-clause-shorter g c =
    let inputs = c.self.inside.inputs in
    omega (arith, ap length (c.as_slice.ensures.value ∙ c.in_ok-expected.ensures), frames-long inputs.local inputs.remote (length c.played-played.result.now + 1))

pub same_frames-right-requires-clause-known : goal.same_frames-right-requires-clause-known
same_frames-right-requires-clause-known g c =
    let inputs = c.self.inside.inputs in
    let run = c.self.inside.images in
    let expected = c.in_ok-expected.expected.items in
    let was = c.self.invariant.0 in
    let many : length c.played-played.result.now ≡ length run.played = ap length c.played-played.ensures in
    λ f less.
    let late : f + c.self.inside.window < length run.played = omega (arith, less, c.saturating_sub-fixed.ensures, many) in
    ap (λ (x : List Frame). frame_at x f) c.played-played.ensures
    ∙ fixed-same inputs.local inputs.remote run.played (length c.played-played.result.now + 1) f (omega (arith, late, many)) (was.fixed f late)
    ∙ ap (λ (x : List Frame). frame_at x f) (sym (c.as_slice.ensures.value ∙ c.in_ok-expected.ensures))

pub replay-requires-clause-recording : goal.replay-requires-clause-recording
replay-requires-clause-recording g c =
    let many = ap length c.played-played.ensures in
    may-be-recorded c.self.inside.inputs (length c.played-played.result.now + 1) c.in_ok-expected.expected.items c.known.ensures
    (omega (arith, c.if-frames-eq-MOST_FRAMES.false, c.self.invariant.0.few, many)) c.in_ok-expected.ensures

pub replay-requires-clause-few : goal.replay-requires-clause-few
replay-requires-clause-few g c =
    let inputs = c.self.inside.inputs in
    let found = found-by inputs c.in_ok-expected.ensures c.played-played.ensures c.as_slice.ensures.value c.same_frames-right.ensures.within c.same_frames-right.ensures.same c.same_frames-right.ensures.differs in
    let many = ap length c.played-played.ensures in
    omega (arith, expected-long c.self.inside.images c.self.invariant.0 c.self.invariant.1 found, c.if-frames-eq-MOST_FRAMES.false, c.self.invariant.0.few, many)

pub replay-requires-clause-right : goal.replay-requires-clause-right
replay-requires-clause-right g c =
    let inputs = c.self.inside.inputs in
    played-right c.self.inside.images c.self.invariant.0 c.self.invariant.1 (found-by inputs c.in_ok-expected.ensures c.played-played.ensures c.as_slice.ensures.value c.same_frames-right.ensures.within c.same_frames-right.ensures.same c.same_frames-right.ensures.differs)

pub invariant_of-self : goal.invariant_of-self
invariant_of-self g c =
    let inputs = c.self.inside.inputs in
    let run = c.self.inside.images in
    subst (λ (r : RunImagesValue). IsSession r.cart c.self.inside.window inputs r.played c.replay.new.machine × (r.most ≡ c.self.inside.window + 1)) (sym c.in_err-replay.ensures.err.0)
    (subst (λ (m : MachineValue). IsSession run.cart c.self.inside.window inputs run.played m × (run.most ≡ c.self.inside.window + 1)) (sym c.in_err-replay.ensures.err.1) c.self.invariant)

pub invariant_of-self-2 : goal.invariant_of-self-2
invariant_of-self-2 g c =
    let inputs = c.self.inside.inputs in
    let window = c.self.inside.window in
    let found = found-by inputs c.in_ok-expected.ensures c.played-played.ensures c.as_slice.ensures.value c.same_frames-right.ensures.within c.same_frames-right.ensures.same c.same_frames-right.ensures.differs in
    let many = ap length c.played-played.ensures in
    subst (λ (r : RunImagesValue). IsSession r.cart window inputs r.played c.replay.new.machine × (r.most ≡ window + 1)) (sym c.in_ok-replay.ensures.played) (
      session-next c.self.inside.images c.self.invariant.0 c.self.invariant.1 found c.replay.new.machine c.known.ensures
          (omega (arith, c.if-frames-eq-MOST_FRAMES.false, c.self.invariant.0.few, many))
          (omega (arith, c.if-frames-confirmed.false, c.confirmed-confirmed.ensures.confirmed, many)) c.in_ok-replay.ensures.machine,
      c.self.invariant.1,
    )

pub returns-clause-frames : goal.returns-clause-frames
returns-clause-frames g c =
    let inputs = c.self.inside.inputs in
    let long = expected-long c.self.inside.images c.self.invariant.0 c.self.invariant.1 (found-by inputs c.in_ok-expected.ensures c.played-played.ensures c.as_slice.ensures.value c.same_frames-right.ensures.within c.same_frames-right.ensures.same c.same_frames-right.ensures.differs) in
    ap (λ (r : RunImagesValue). length r.played) c.in_ok-replay.ensures.played ∙ long ∙ ap (λ (x : SessionValue). x.frames + 1) c.self.view_is

pub returns-clause-machine : goal.returns-clause-machine
returns-clause-machine g c =
    let inputs = c.self.inside.inputs in
    let expected = c.in_ok-expected.expected.items in
    let found = found-by inputs c.in_ok-expected.ensures c.played-played.ensures c.as_slice.ensures.value c.same_frames-right.ensures.within c.same_frames-right.ensures.same c.same_frames-right.ensures.differs in
    let long = expected-long c.self.inside.images c.self.invariant.0 c.self.invariant.1 found in
    let machine = c.replay.new.machine in
    let owner = machine.console.cart in
    let now = c.in_ok-replay.ensures.machine in
    let count : length c.replay.new.self.played ≡ length expected = ap (λ (r : RunImagesValue). length r.played) c.in_ok-replay.ensures.played in
    let all : IsMachineOf owner expected (length expected) machine = subst (λ (k : List ℕ). IsMachineOf k expected (length expected) machine) (sym now.cart_is) now.machine_is in
    subst (λ (x : SessionValue). IsMachineOf owner (expected_frames x.local x.remote (length c.replay.new.self.played)) (length c.replay.new.self.played) machine) c.self.view_is
    (subst (λ (n : ℕ). IsMachineOf owner (expected_frames inputs.local inputs.remote n) n machine) (sym count)
    (subst (λ (e : List Frame). IsMachineOf owner e (length expected) machine) (found.all ∙ ap (expected_frames inputs.local inputs.remote) (sym long)) all))

pub returns-clause-cart : goal.returns-clause-cart
returns-clause-cart g c =
    c.in_ok-replay.ensures.machine.cart_is ∙ sym c.self.invariant.0.played_is.cart_is ∙ ap (λ (x : SessionValue). x.machine.console.cart) c.self.view_is
