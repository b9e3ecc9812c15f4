use Rattle.std.proofs.Common.{arith}
use Rattle.md_chips.specs.Console.{power_on}
use Rattle.machine_laws.proofs.saved.runs_may_be_kept.Goals as goal

pub returns : goal.returns
returns c = λ recording pal z end entries output buttons begun near run.
    c.reached_may_be_kept.ensures end z begun near
    (c.runs_reach.ensures (power_on c.args.cart.now recording pal) z 0 end entries output (c.power_on_is_reached.ensures recording pal buttons) (omega arith) (omega (arith, near)) run)
