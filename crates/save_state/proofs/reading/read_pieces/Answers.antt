use Rattle.std.specs.Arc.{arc_value}
use Rattle.save_state.proofs.MachineLaws.{pieces_read}
use Rattle.save_state.proofs.reading.read_pieces.Goals as goal

pub returns : goal.returns
returns c =
    pieces_read (arc_value c.args.cart) (arc_value c.args.recording) c.args.bytes.now c.read_processors-processors.result c.read_chips-chips.result c.both.result c.both.ensures
    c.read_processors-processors.ensures c.read_chips-chips.ensures
