use Rattle.std.proofs.Common.{◌∙◌, sym}
use Rattle.std.specs.Arc.{arc_value}
use Rattle.state_laws.proofs.StateLaws.{first-image}
use Rattle.state_laws.proofs.state_replays.StateReplays.first.Goals as goal

pub returns-then-is_same-clause-found : goal.returns-then-is_same-clause-found
returns-then-is_same-clause-found c = (
  c.in_ok-machine.ensures,
  sym (c.is_same.ensures.0 c.if-is_same.true) ∙ c.as_slice.ensures.value
      ∙ first-image c.args.self.now (arc_value c.args.recording.now) c.in_ok-machine.machine c.in_ok-image.image.items c.in_ok-machine.ensures c.in_ok-image.ensures.bytes,
)

pub returns-clause-only : goal.returns-clause-only
returns-clause-only c = λ all memory.
    let yes = c.is_same.ensures.1 (c.as_slice.ensures.value
    ∙ first-image c.args.self.now (arc_value c.args.recording.now) c.in_ok-machine.machine c.in_ok-image.image.items c.in_ok-machine.ensures c.in_ok-image.ensures.bytes
    ∙ sym all) in
    let no = c.if-is_same.false in
    absurd cc
