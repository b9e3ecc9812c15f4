use Rattle.std.proofs.Common.{◌≡◌, ◌<◌, ℕ, pos, get_or, length, true, []}
use Rattle.fm_chip.specs.Synth.{IsIdle, IsSides}
use Rattle.fm_chip.specs.Batches.{course_after, sample}
use Rattle.fm_chip.proofs.synth.FmSynth.batch.Given as goal

abbrev pub invariant-loop-k : goal.invariant-loop-k
invariant-loop-k l = record {
  course : (record { chip = l.self; rest = l.rest }) ≡ course_after l.first l.fn.self l.list.items l.k;
  idle : l.idle ≡ true → IsIdle l.self;
  none : l.idle ≡ true → l.rest ≡ [];
  sixteen : length l.out ≡ 16;
  range : (j : ℕ) → j < l.k → IsSides (get_or l.out j (pos 0, pos 0));
  samples : (j : ℕ) → j < l.k → get_or l.out j (pos 0, pos 0) ≡ sample l.first l.fn.self l.list.items j;
}
