use Rattle.std.proofs.Common.{arith}
use Rattle.md_chips.specs.Console.{power_on}
use Rattle.machine_laws.specs.Paces.{ArePaced}
use Rattle.machine_laws.proofs.Levels.{HaveOwners, levels-heard}
use Rattle.machine_laws.proofs.heard.levels_are_heard.Goals as goal

pub returns : goal.returns
returns c = λ recording pal z end entries output small run.
    let paced : ArePaced (power_on c.args.cart.now recording pal) run.moves =
    c.events_are_paced.ensures (power_on c.args.cart.now recording pal) end run.moves small (c.parts_start_valid.ensures recording pal) run.below in
    let owners : HaveOwners (power_on c.args.cart.now recording pal) run.moves =
    λ k within. c.one_owner.ensures recording pal end k small (λ j earlier. run.below j (omega (arith, within, earlier))) in
    levels-heard c.args.cart.now recording pal z end entries output (c.power_on_is_start.ensures c.args.cart.now recording pal) run paced owners
