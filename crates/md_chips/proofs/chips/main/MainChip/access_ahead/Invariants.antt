use Rattle.std.proofs.Common.{◌≡◌, ◌≢◌, ◌+◌, ◌-◌, ◌≤◌, true, false, length}
use Rattle.std.specs.Prelude.{vec_capacity}
use Rattle.chip_core.specs.Staying.{LeavesAll}
use Rattle.bus_shared.specs.Board.{IsBoard}
use Rattle.md_chips.specs.Rules.{IsChip, five}
use Rattle.md_chips.proofs.Staying.{GoesTo, IsDueAt, main_at}
use Rattle.md_chips.proofs.chips.main.MainChip.access_ahead.Given as goal

-- the events so far led here, and where it goes on an access is due
abbrev pub invariant-loop-going : goal.invariant-loop-going
invariant-loop-going l = record {
  goes : GoesTo five l.events 0 l.end (main_at l.fn.self l.fn.shared l.fn.journal.items) (main_at (record { chip = l.self-inside.chip.value; answer = l.self-inside.answer }) l.shared l.journal.items);
  some : l.going ≡ false → 1 ≤ l.events;
  due : l.going ≡ true → IsDueAt l.end (record { chip = l.self-inside.chip.value; answer = l.self-inside.answer }) (length l.journal.items) (vec_capacity l.journal);
  leaves : l.sleeper ≢ 0 → LeavesAll five IsChip IsBoard l.events 0 l.sleeper (main_at l.fn.self l.fn.shared l.fn.journal.items);
  later : l.fn.self.chip.state.next + l.events ≤ l.self-inside.chip.value.state.next;
  room : vec_capacity l.journal ≡ vec_capacity l.fn.journal;
}

abbrev pub decreases-loop-going : goal.decreases-loop-going
decreases-loop-going l = l.end.cycle + 1 - l.self-inside.chip.value.state.next
