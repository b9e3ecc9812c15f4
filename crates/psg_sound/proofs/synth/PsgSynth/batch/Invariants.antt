use Rattle.std.proofs.Common.{◌≡◌, ◌+◌, ◌*◌, ◌<◌, ◌≤ℤ◌, ℕ, pos, negsuc, get_or, length}
use Rattle.md_word.specs.Clock.{fm_sample}
use Rattle.psg_sound.specs.Batches.{sample}
use Rattle.psg_sound.proofs.Heard.{IsHeard}
use Rattle.psg_sound.proofs.synth.PsgSynth.batch.Given as goal

abbrev pub invariant-loop-k : goal.invariant-loop-k
invariant-loop-k l = record {
  heard : IsHeard l.first l.fn.self l.list.items l.ticks (fm_sample * (l.first + l.k)) (record { chip = l.self; rest = l.rest });
  sixteen : length l.out ≡ 16;
  samples : (j : ℕ) → j < l.k → get_or l.out j (pos 0) ≡ sample l.first l.fn.self l.list.items (l.first + j);
  range : (j : ℕ) → j < l.k → (negsuc 8191 ≤ℤ get_or l.out j (pos 0)) × (get_or l.out j (pos 0) ≤ℤ pos 8192);
}
