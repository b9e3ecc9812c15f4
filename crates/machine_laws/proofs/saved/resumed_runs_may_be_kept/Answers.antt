use Rattle.std.proofs.Common.{arith}
use Rattle.machine_laws.proofs.saved.resumed_runs_may_be_kept.Goals as goal

pub returns : goal.returns
returns c = λ cart bytes z end entries output state start buttons later near run.
    let at = c.args.machine.now.at in
    c.reached_may_be_kept.ensures end z (omega (arith, state.newest.saved.begun, later)) near
    (c.runs_reach.ensures c.args.machine.now.console z at end entries output (c.states_are_reached.ensures cart bytes state start buttons) later (omega (arith, near)) run)
