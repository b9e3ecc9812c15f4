use Rattle.std.proofs.Common.{◌≡◌, List, ℕ, subst}
use Rattle.std.specs.Prelude.{IfOk}
use Rattle.std.specs.Arc.{arc_value}
use Rattle.md_chips.specs.Console.{power_on}
use Rattle.md_chips.specs.Machines.{MachineValue}
use Rattle.machine_laws.specs.Reached.{IsReached}
use Rattle.state_laws.specs.Images.{HasImage, ImagesValue, first_of}
use Rattle.state_laws.proofs.Machines.{first_has}
use Rattle.state_laws.proofs.state_images.StateImages.first_machine.Goals as goal

pub returns-clause-machine : goal.returns-clause-machine
returns-clause-machine c = subst (λ (x : ImagesValue). IfOk c.power_on.result (λ (m : MachineValue). m ≡ first_of x)) c.self.view_is c.power_on.ensures

pub returns-clause-own : goal.returns-clause-own
returns-clause-own c =
    let recording = arc_value c.self.inside.recording in
    let pal = c.self.inside.pal in
    subst (λ (x : ImagesValue). HasImage x (first_of x)) c.self.view_is
    (first_has (record { cart = c.self.inside.replays; recording = recording; pal = pal })
    (subst (λ (cart : List ℕ). IsReached 0 (power_on cart recording pal)) c.cart.ensures (c.power_on_is_reached.ensures recording pal c.self.invariant.buttons)))
