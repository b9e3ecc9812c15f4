use Rattle.std.proofs.Common.{◌+◌, arith}
use Rattle.save_state.specs.States.{settled_console}
use Rattle.md_rollback.proofs.Kept.{made-kept, made-unkept}
use Rattle.md_rollback.proofs.Near.{head-kept}
use Rattle.md_rollback.proofs.Steps.{image-made, may-be-kept, region-is}
use Rattle.md_rollback.proofs.replaying.play_next.Goals as goal

pub play_frame-requires-clause-region : goal.play_frame-requires-clause-region
play_frame-requires-clause-region g c = region-is (g.R.Replays.cart c.args.replays.now) c.args.machine.now.console.shared.recording.frames _ c.args.machine.now.console c.requires.played.machine_is.run

pub keep-requires-clause-cart : goal.keep-requires-clause-cart
keep-requires-clause-cart g c = (c.play_frame.ensures.played (g.R.Replays.cart c.args.replays.now) c.args.machine.now.console.shared.recording.frames c.requires.played).cart_is

pub keep-requires-clause-cycle : goal.keep-requires-clause-cycle
keep-requires-clause-cycle g c =
    let now = c.play_frame.ensures.played (g.R.Replays.cart c.args.replays.now) c.args.machine.now.console.shared.recording.frames c.requires.played in
    omega (arith, now.machine_is.at, c.requires.within)

pub returns-then-kept-clause-played : goal.returns-then-kept-clause-played
returns-then-kept-clause-played g c = c.play_frame.ensures.played (g.R.Replays.cart c.args.replays.now) c.args.machine.now.console.shared.recording.frames c.requires.played

pub returns-then-kept-clause-images : goal.returns-then-kept-clause-images
returns-then-kept-clause-images g c =
    let cart = g.R.Replays.cart c.args.replays.now in
    let spelling = g.R.Replays.spelling c.args.replays.now in
    let is_own = g.R.Replays.is_own c.args.replays.now in
    let recording = c.args.machine.now.console.shared.recording.frames in
    let machine = c.play_frame.new.machine in
    let now = c.play_frame.ensures.played cart recording c.requires.played in
    made-kept cart spelling is_own recording c.args.frame (spelling machine.at (settled_console machine.at machine.console)) c.args.images.now c.keep.new.self
    (image-made cart spelling is_own recording (c.args.frame + 1) machine now
    (c.keep.ensures.own (may-be-kept cart (g.R.Replays.is_ready c.args.replays.now) recording c.args.frame machine c.requires.within c.requires.keeps now)))
    c.requires.images c.keep.ensures.kept

pub returns-then-kept-clause-newest : goal.returns-then-kept-clause-newest
returns-then-kept-clause-newest g c = λ is some. head-kept c.args.images.now c.keep.new.self _ c.keep.ensures.kept some

pub returns-else-kept-clause-played : goal.returns-else-kept-clause-played
returns-else-kept-clause-played g c = c.play_frame.ensures.played (g.R.Replays.cart c.args.replays.now) c.args.machine.now.console.shared.recording.frames c.requires.played

pub returns-else-kept-clause-images : goal.returns-else-kept-clause-images
returns-else-kept-clause-images g c =
    made-unkept (g.R.Replays.cart c.args.replays.now) (g.R.Replays.spelling c.args.replays.now) (g.R.Replays.is_own c.args.replays.now) c.args.machine.now.console.shared.recording.frames c.args.frame c.args.images.now c.requires.images
