use Rattle.std.proofs.Common.{◌≡◌, ℕ, ◌/◌, ◌<◌, ◌≤◌, List, length}
use Rattle.std.specs.Prelude.{All}
use Rattle.fm_chip.specs.declared.channels.Moment.{Moment}
use Rattle.fm_chip.specs.Steps.{AreSteps}
use Rattle.fm_chip.specs.Channels.{AreAtRest, IsChannel, channel_after, channel_at}
use Rattle.fm_chip.proofs.mixing.rest_all.Given as goal

abbrev pub invariant-loop-number : goal.invariant-loop-number
invariant-loop-number l = record {
  six : length l.channels ≡ 6;
  fine : All IsChannel l.channels;
  still : All AreAtRest l.channels;
  done : (registers : List ℕ) (m : Moment) → AreSteps registers (m.t / 4) l.steps → (j : ℕ) → j < l.number
      → channel_at l.channels j ≡ channel_after registers m j (channel_at l.initial.channels j);
  rest : (j : ℕ) → l.number ≤ j → channel_at l.channels j ≡ channel_at l.initial.channels j;
}
