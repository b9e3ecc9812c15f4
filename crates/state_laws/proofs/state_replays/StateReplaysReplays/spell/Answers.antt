use Rattle.std.proofs.Common.{ap, length, length-append, arith}
use Rattle.save_state.specs.States.{state_bytes}
use Rattle.state_laws.proofs.StateLaws.{image-own, image-sized}
use Rattle.state_laws.proofs.state_replays.StateReplaysReplays.spell.Goals as goal

pub returns-clause-own : goal.returns-clause-own
returns-clause-own c = λ may.
    image-own c.args.self.now c.args.machine.now.at c.args.machine.now.console c.requires.cart may
    (λ owner.
    omega (
      arith,
      c.spell.ensures.length owner,
      c.args.into.now.ok.0,
      c.spell.new.into.ok.0,
      ap length c.spell.ensures.bytes,
      length-append c.args.into.now.items (state_bytes c.args.machine.now.at c.args.machine.now.console),
    ))
    c.kept.ensures

pub returns-clause-sized : goal.returns-clause-sized
returns-clause-sized c = λ may. c.spell.ensures.length (image-sized c.args.self.now c.args.machine.now.at c.args.machine.now.console may)
