use Rattle.std.proofs.Common.{◌≡◌, [], List, ℕ, Bool, refl, subst, sym}
use Rattle.std.specs.Arc.{arc_value}
use Rattle.std.proofs.lemmas.Result.{IfOk-weaker}
use Rattle.md_pads.specs.Recording.{Recorded}
use Rattle.md_chips.specs.Console.{power_on}
use Rattle.md_chips.specs.Machines.{MachineValue}
use Rattle.md_chips.specs.Media.{no_media}
use Rattle.md_chips.specs.Starts.{IsStart}
use Rattle.machine_laws.specs.Reached.{IsReached}
use Rattle.run_command.specs.Courses.{IsFresh}
use Rattle.run_command.specs.declared.inputs.Inputs.{Inputs}
use Rattle.run_command.proofs.starting.power_on.Goals as goal

-- the machine at power-on is one with which a run may begin
fresh : (cart : List ℕ) (recording : Recorded) (pal : Bool) (m : MachineValue) → IsStart (record { at = 0; console = power_on cart recording pal })
    → IsReached 0 (power_on cart recording pal) → m ≡ record { at = 0; console = power_on cart recording pal; entries = []; media = no_media } → IsFresh m
fresh cart recording pal m start reached is = subst IsFresh (sym is) (record { from = start; entries = refl; media = refl; reached = reached })

pub returns-clause-fresh : goal.returns-clause-fresh
returns-clause-fresh c =
    let same : record { cart = arc_value c.in_ok-cart.cart; recording = arc_value c.in_ok-cart.recording; pal = c.args.inputs.pal } ≡ c.args.inputs = c.in_ok-cart.ensures in
    IfOk-weaker c.power_on.result _ IsFresh
    (λ (m : MachineValue). fresh (arc_value c.in_ok-cart.cart) (arc_value c.in_ok-cart.recording) c.args.inputs.pal m (c.power_on_is_start.ensures _ _ _)
    (subst (λ (inputs : Inputs). IsReached 0 (power_on inputs.cart inputs.recording inputs.pal)) (sym same) (c.power_on_is_reached.ensures c.args.inputs.recording c.args.inputs.pal c.requires)))
    c.power_on.ensures
