use Rattle.std.proofs.Common.{◌≡◌, ◌≤◌, length}
use Rattle.std.specs.Prelude.{All, vec_capacity}
use Rattle.std.specs.VecDeque.{deque_capacity, deque_len}
use Rattle.md_rollback.proofs.kept_images.slots_of.Given as goal

abbrev pub invariant-loop-number : goal.invariant-loop-number
invariant-loop-number l = record {
  long : length l.slots.items ≡ l._number;
  count : deque_len l.slots ≡ l._number;
  places : l.most ≤ deque_capacity l.slots;
  each : All (λ slot. l.size ≤ vec_capacity slot.bytes) l.slots.items;
}
