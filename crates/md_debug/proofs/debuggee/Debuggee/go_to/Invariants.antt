use Rattle.std.proofs.Common.{◌-◌, ◌≤◌}
use Rattle.md_debug.specs.Debuggees.{WentOn}
use Rattle.md_debug.proofs.debuggee.Debuggee.go_to.Given as goal

-- the machine continued so far, and not past the end
abbrev pub invariant-events : goal.invariant-events
invariant-events l = WentOn l.initial.self l.self.machine.at l.self × (l.self.machine.at ≤ l.end)

abbrev pub decreases-events : goal.decreases-events
decreases-events l = l.end - l.self.machine.at
