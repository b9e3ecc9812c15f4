use Rattle.std.proofs.Common.{◌++◌, []}
use Rattle.md_debug.specs.Going.{start_of}
use Rattle.md_debug.proofs.Latest.{latest_more, latest_same}
use Rattle.md_debug.proofs.Runs.{steps_more, steps_none}
use Rattle.md_debug.proofs.debuggee.Debuggee.step.Goals as goal

pub loop-index-init : goal.loop-index-init
loop-index-init c =
    (([], steps_none (start_of c.args.self.now.machine), latest_same c.args.self.now.begun.items c.requires.ready.few), c.requires.ready)

pub loop-index-preserved : goal.loop-index-preserved
loop-index-preserved c =
    let so_far = c.loop-index.invariant.0 in
    let once = c.step_once.ensures.steps in (
      (
        so_far.0 ++ once.0,
        steps_more c.loop-index.index (start_of c.args.self.now.machine) (start_of c.loop-index.self.machine) (start_of c.step_once.new.self.machine) so_far.0 once.0 so_far.1 once.1.0,
        latest_more c.args.self.now.begun.items c.loop-index.self.begun.items c.step_once.new.self.begun.items so_far.0 once.0 so_far.2 once.1.1,
      ),
      c.step_once.ensures.ready,
    )
