use Rattle.std.proofs.Common.{◌≡◌, drop, deque_capacity}
use Rattle.md_debug.proofs.kept_states.KeptStates.drop_newest.Given as goal

abbrev pub invariant-loop-dropped : goal.invariant-loop-dropped
invariant-loop-dropped l =
    (l.self-inside.ring.states ≡ drop l.dropped l.initial.self-inside.ring.states)
    × (l.self-inside.cycles.items ≡ drop l.dropped l.initial.self-inside.cycles.items)
    × (l.self-inside.ring.pages ≡ l.initial.self-inside.ring.pages)
    × (l.self-inside.ring.per_state ≡ l.initial.self-inside.ring.per_state)
    × (deque_capacity l.self-inside.cycles ≡ deque_capacity l.initial.self-inside.cycles)
    × (l.self-inside.pages ≡ l.initial.self-inside.pages)
