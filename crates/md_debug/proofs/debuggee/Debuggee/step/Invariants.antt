use Rattle.std.proofs.Common.{◌≡◌, ◌++◌, List, ℕ}
use Rattle.md_debug.specs.Debuggees.{IsDebuggee}
use Rattle.md_debug.specs.Going.{Steps, latest, start_of}
use Rattle.md_debug.proofs.debuggee.Debuggee.step.Given as goal

-- so many steps are done
abbrev pub invariant-loop-index : goal.invariant-loop-index
invariant-loop-index l =
    ((begun : List ℕ) × Steps l.index (start_of l.initial.self.machine) (start_of l.self.machine) begun × (l.self.begun.items ≡ latest (l.initial.self.begun.items ++ begun)))
    × IsDebuggee l.self
