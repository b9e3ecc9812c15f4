use Rattle.std.specs.Arc.{arc_value}
use Rattle.save_state.proofs.MachineLaws.{chips_read}
use Rattle.save_state.proofs.reading.read_chips.Goals as goal

pub returns : goal.returns
returns c =
    chips_read (arc_value c.args.recording) c.args.bytes.now c.read_shared.result c.read_renderer_state.result c.read_fm.result c.read_psg.result c.both-board.result c.both-sound.result c.both.result
    c.both-board.ensures c.both-sound.ensures c.both.ensures c.read_shared.ensures c.read_renderer_state.ensures c.read_fm.ensures c.read_psg.ensures
