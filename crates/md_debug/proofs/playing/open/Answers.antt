use Rattle.md_debug.proofs.Opening.{machines_kept, opened_is}
use Rattle.md_debug.proofs.playing.open.Goals as goal

pub make-requires-clause-keeps : goal.make-requires-clause-keeps
make-requires-clause-keeps c = machines_kept c.args.images c.runs_have_images.ensures

pub returns : goal.returns
returns c =
    opened_is c.make.result c.args.images c.in_ok-machine.machine c.in_ok-machine.ensures.machine c.make.ensures.images c.make.ensures.machine c.make.ensures.states c.make.ensures.cycles
    c.make.ensures.begun
