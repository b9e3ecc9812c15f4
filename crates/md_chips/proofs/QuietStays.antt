-- No event of a run is before the first one.
use Rattle.std.proofs.Common.{◌≡◌, ℕ, ◌+◌, ◌*◌, ◌<◌, ◌≤◌, sym, ap, ◌∙◌, subst, arith}
use Rattle.md_word.specs.Clock.{cycle_limit}
use Rattle.md_word.specs.declared.key.Key.{Key}
use Rattle.chip_core.specs.Machines.{IsValid, Machine, key_of, made, run}
use Rattle.chip_core.specs.Machines as machines
use Rattle.bus_shared.specs.Board.{Board, IsBoard}
use Rattle.md_chips.specs.Console as consoles
use Rattle.md_chips.specs.Console.{Console, IsQuiet, key_in, ran}
use Rattle.md_chips.specs.Refinement.{console_of}
use Rattle.md_chips.specs.Rules.{IsChip, five}
use Rattle.md_chips.specs.ValidParts.{HasValidParts}
use Rattle.md_chips.specs.declared.chips.Chip.{Chip}
use Rattle.md_chips.proofs.Lifts.{Movers, ValidTo, ran-same}
use Rattle.md_chips.proofs.Moves.{key-same}
use Rattle.md_chips.proofs.Segments.{below-lift}
use Rattle.md_chips.proofs.ValidParts.{Stages, console_again, machine_in, valid_in}

-- a chip's key rises by a gap at each of its moves
abbrev pub Spread : Type 0
Spread = (m : Machine Chip Board) (t n i : ℕ) → t ≤ cycle_limit → IsValid five IsChip IsBoard m → machines.AllBelow five m t n → i < five.count
    → (key_of five m i).cycle + made five m i n * five.gap i ≤ (key_of five (run five m n) i).cycle

-- the keys of a valid machine rise over a run
pub keys-rise : Stages → Movers → Spread → (m : Console) (end n i : ℕ) → end ≤ cycle_limit → HasValidParts m → consoles.AllBelow m end n → i < 5
    → (key_in m i).cycle ≤ (key_in (ran m n) i).cycle
keys-rise stages movers spread m end n i small has below less =
    let first : Machine Chip Board = machine_in m in
    let valid : IsValid five IsChip IsBoard first = valid_in m has in
    let own : consoles.AllBelow (console_of first) end n = subst (λ (z : Console). consoles.AllBelow z end n) (sym (console_again m)) below in
    let lower : machines.AllBelow five first end n = below-lift first end n (λ k earlier. stages first end k small valid earlier) movers own in
    let to : ValidTo first n = λ k within. stages first end k small valid (record { each = λ j earlier. lower.each j (omega arith) }) in
    let rise = spread first end n i small valid lower less in
    let start : key_of five first i ≡ key_in m i = key-same first valid i less ∙ ap (λ (z : Console). key_in z i) (console_again m) in
    let last : key_of five (run five first n) i ≡ key_in (ran m n) i =
    key-same (run five first n) (stages first end n small valid lower) i less
    ∙ ap (λ (z : Console). key_in z i) (ran-same first n to movers ∙ ap (λ (z : Console). ran z n) (console_again m)) in
    let more : (key_of five first i).cycle ≤ (key_of five (run five first n) i).cycle = omega (arith, rise) in
    subst (λ (k : Key). k.cycle ≤ (key_in (ran m n) i).cycle) start (subst (λ (k : Key). (key_of five first i).cycle ≤ k.cycle) last more)

-- so what is quiet before a cycle stays so
pub stays-quiet : Stages → Movers → Spread → (m : Console) (at end n : ℕ) → end ≤ cycle_limit → HasValidParts m → IsQuiet at m → consoles.AllBelow m end n
    → IsQuiet at (ran m n)
stays-quiet stages movers spread m at end n small has quiet below = λ i less.
    let rise = keys-rise stages movers spread m end n i small has below less in
    let first = quiet i less in
    omega (arith, rise, first)
