use Rattle.std.proofs.Common.{◌≡◌, ℕ, List, ◌++◌, length}
use Rattle.md_outer.specs.Outside.{GoesOn}
use Rattle.run_command.specs.Outputs.{Adds, AreBegun, nothing}
use Rattle.md_args.specs.Shown.{shown_run}
use Rattle.run_command.proofs.saving.append_pieces.Given as goal

-- what is before the rest was appended
abbrev pub invariant-pieces : goal.invariant-pieces
invariant-pieces g l =
    AreBegun (shown_run l.run) (g.D.Depot.state l.depot).begun l.outputs
    × GoesOn (g.D.Depot.state l.initial.depot) (g.D.Depot.state l.depot)
    × ((front : List ℕ) × (front ++ l.rest ≡ l.fn.bytes)
    × (g.D.Depot.observable → Adds (shown_run l.run) (g.D.Depot.state l.initial.depot).files (g.D.Depot.state l.depot).files (record nothing { state = front })))

abbrev pub decreases-pieces : goal.decreases-pieces
decreases-pieces g l = length l.rest
