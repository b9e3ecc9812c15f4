use Rattle.std.proofs.Common.{ap, ◌∙◌}
use Rattle.std.specs.Arc.{arc_value}
use Rattle.md_pads.specs.declared.version.Version.{Version}
use Rattle.machine_laws.specs.Recorded.{with_recording}
use Rattle.md_rollback.proofs.Steps.{exchanged-machine}
use Rattle.md_rollback.proofs.replaying.exchange.Goals as goal

pub returns : goal.returns
returns c = λ cart frame is.
    let frames = (arc_value c.args.recording).frames in
    let old = c.args.machine.now in
    exchanged-machine cart frames frame old c.set_recording.new.self is
    (c.set_recording.ensures ∙ ap (λ (v : Version). record old { console = with_recording (record { version = v; frames = frames }) old.console }) c.requires.first)
    c.requires.buttons c.parts_are_valid.ensures c.valid_machine.ensures c.later_frames_are_unread.ensures
