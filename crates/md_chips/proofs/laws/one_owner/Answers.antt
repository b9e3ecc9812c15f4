use Rattle.std.proofs.Common.{[], arith}
use Rattle.chip_core.specs.Cores.{machine_of}
use Rattle.chip_core.specs.Machines.{AllBelow, IsValid, Machine}
use Rattle.md_chips.specs.First.{first_bounds, first_chips}
use Rattle.md_chips.specs.Machines.{core_in}
use Rattle.bus_shared.specs.Board.{Board, IsBoard, power_on}
use Rattle.md_chips.specs.Refinement.{console_of}
use Rattle.md_chips.specs.Rules.{IsChip, five}
use Rattle.md_chips.specs.declared.chips.Chip.{Chip}
use Rattle.md_chips.proofs.Lifts.{ValidTo}
use Rattle.md_chips.proofs.Owners.{owner-is-one}
use Rattle.md_chips.proofs.Segments.{below-lift}
use Rattle.md_chips.proofs.Start.{first-console, first-is-core}
use Rattle.md_chips.proofs.laws.one_owner.Goals as goal

pub returns : goal.returns
unfolding console_of
returns c = λ recording pal end n small below.
    let first : Machine Chip Board = machine_of five (core_in (power_on recording pal) (first_chips c.args.cart.now pal) first_bounds [] 0) in
    let valid : IsValid five IsChip IsBoard first =
    c.stages.ensures.core (core_in (power_on recording pal) (first_chips c.args.cart.now pal) first_bounds [] 0) (first-is-core c.args.cart.now recording pal 0 c.bytes.ensures.image) in
    let lower : AllBelow five first end n =
    below-lift first end n (λ k earlier. c.stages.ensures.valid first end k (omega arith) valid earlier) c.stages.ensures.mover below in
    let stages : ValidTo first n = λ k within.
    c.stages.ensures.valid first end k (omega arith) valid (record { each = λ j earlier. lower.each j (omega arith) }) in
    owner-is-one first c.args.cart.now recording pal n (first-console c.args.cart.now recording pal 0) stages c.stages.ensures.mover
