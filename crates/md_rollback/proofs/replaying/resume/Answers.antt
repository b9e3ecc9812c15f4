use Rattle.std.proofs.Common.{◌*◌, ◌∙◌, ap, []}
use Rattle.std.specs.Arc.{arc_value}
use Rattle.md_pads.specs.declared.version.Version.{Version}
use Rattle.md_chips.specs.Media.{no_media}
use Rattle.machine_laws.specs.Recorded.{with_recording}
use Rattle.save_state.specs.States.{settled_console}
use Rattle.md_word.specs.Clock.{frame}
use Rattle.md_rollback.proofs.Steps.{ok-no-err, resumed-machine, same-ok}
use Rattle.md_rollback.proofs.replaying.resume.Goals as goal

pub returns-in-Ok : goal.returns-in-Ok
returns-in-Ok g c =
    let cart = g.R.Replays.cart c.args.replays.now in
    let recording = (arc_value c.args.recording).frames in
    let at = frame * c.args.frame in
    let is = c.requires.image in
    resumed-machine cart (g.R.Replays.spelling c.args.replays.now) (g.R.Replays.is_own c.args.replays.now) recording c.args.frame c.args.bytes.now c.in-Ok.machine is
    (same-ok c.in-Ok.machine _ (c.in-Ok.ensures.only at (settled_console at is.kept) is.own is.all (ok-no-err c.in-Ok.machine _))
    ∙ ap (λ (v : Version). record { at = at; console = with_recording (record { version = v; frames = recording }) (settled_console at is.kept); entries = []; media = no_media }) c.requires.first)
    c.requires.buttons c.parts_are_valid.ensures c.valid_machine.ensures c.later_frames_are_unread.ensures c.settled_machines_are_reached.ensures
