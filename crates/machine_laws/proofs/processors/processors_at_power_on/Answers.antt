use Rattle.std.proofs.Common.{ℕ, List, subst}
use Rattle.md_fields.specs.Places.{IsBytes}
use Rattle.machine_laws.proofs.ProcessorMoves.{power_on_has}
use Rattle.machine_laws.proofs.processors.processors_at_power_on.Goals as goal

pub returns : goal.returns
returns c = λ recording pal at.
    power_on_has c.args.cart.now recording pal at c.bytes.ensures.image (subst (λ (l : List ℕ). IsBytes l) c.bytes.ensures.value c.known_bytes.ensures)
