use Rattle.std.proofs.Common.{◌≡◌, [], sym, subst, arith}
use Rattle.md_chips.specs.Machines.{MachineValue}
use Rattle.md_chips.specs.Media.{no_media}
use Rattle.run_command.specs.Courses.{CameTo, start_at}
use Rattle.run_command.proofs.Heard.{runs-heard}
use Rattle.run_command.proofs.Segments.{at-start}
use Rattle.run_command.proofs.segment.begin.Goals as goal

pub returns-clause-underway : goal.returns-clause-underway
returns-clause-underway c =
    let machine : MachineValue = c.args.machine in
    let drained : machine ≡ record { at = machine.at; console = machine.console; entries = []; media = no_media } =
    λ i. record { at = machine.at; console = machine.console; entries = c.requires.fresh.entries i; media = c.requires.fresh.media i } in
    subst (λ (m : MachineValue). CameTo (start_at machine) m 0) (sym drained)
    (at-start (start_at machine) c.requires.fresh.from c.runs_keep_laws.ensures
    (runs-heard (start_at machine) c.cart.result.now c.cart-2.result.now c.cart.ensures c.cart-2.ensures c.levels_are_heard.ensures c.sides_are_heard.ensures)
    c.requires.fresh.reached
    (omega (arith, c.requires.near)))
