use Rattle.std.proofs.Common.{◌≡◌, ℕ, ◌+◌, ◌*◌, ◌<◌, length, slice_index}
use Rattle.std.specs.Int.{w16}
use Rattle.md_fields.specs.Places.{number_at}
use Rattle.md_fields.proofs.reading.words_at.Given as goal

abbrev pub invariant-loop-index : goal.invariant-loop-index
invariant-loop-index g l = record {
  length : length l.words ≡ g.row.N;
  read : (k : ℕ) → k < l.index → slice_index l.words k ≡ number_at w16 (l.place + 2 * k) l.bytes;
}
