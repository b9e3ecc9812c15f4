use Rattle.std.proofs.Common.{◌≡◌, ◌∙◌, ap, subst, sym, Option}
use Rattle.std.specs.Arc.{arc_value}
use Rattle.chip_core.specs.Cores.{CoreValue}
use Rattle.bus_shared.specs.Board.{Board}
use Rattle.md_chips.specs.Machines.{IsMachine, core_held, machine_at}
use Rattle.md_chips.specs.declared.chips.Chip.{Chip}
use Rattle.md_chips.proofs.Recorded.{machine-still, machine_with, value-with}
use Rattle.md_machine.proofs.machine.Machine.set_recording.Goals.{in-Some-1, in-None-3}
use Rattle.md_machine.proofs.machine.Machine.set_recording.Goals as goal

pub invariant_of-self-in-Some-2 : goal.invariant_of-self-in-Some-2
invariant_of-self-in-Some-2 c =
    machine-still c.self.inside.at (arc_value c.args.recording) c.in-Some.core c.recorded.result
    (subst (λ (o : Option (CoreValue Chip Board)). IsMachine c.self.inside.at o) (sym c.take.ensures.value ∙ c.in-Some.is) c.self.invariant)
    c.recorded.ensures.value c.recorded.ensures.core

pub returns-in-Some : goal.returns-in-Some
returns-in-Some c =
    let went : machine_at c.self.inside.at c.recorded.result ≡ machine_with (arc_value c.args.recording) c.args.self.now =
    value-with c.self.inside.at (arc_value c.args.recording) c.in-Some.core c.recorded.result c.recorded.ensures.value
    ∙ ap (λ (o : Option (CoreValue Chip Board)). machine_with (arc_value c.args.recording) (machine_at c.self.inside.at (core_held o))) (sym c.in-Some.is ∙ c.take.ensures.value)
    ∙ ap (machine_with (arc_value c.args.recording)) c.self.view_is in
    elim c.match-self.branch [
      | in-Some-1 w ↦ w.self-is ∙ went
      | in-None-3 w ↦ w.self-is ∙ went
    ]
