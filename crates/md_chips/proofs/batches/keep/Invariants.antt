use Rattle.std.proofs.Common.{◌≡◌, ◌+◌, ◌≤◌, ◌++◌, length, take}
use Rattle.md_chips.proofs.batches.keep.Given as goal

abbrev pub invariant-loop-sample : goal.invariant-loop-sample
invariant-loop-sample g l = record {
  items : l.samples.items ≡ l.fn.samples.items ++ take l.sample-index l.batch;
  room : length l.samples.items ≤ 1056 + l.sample-index;
}
