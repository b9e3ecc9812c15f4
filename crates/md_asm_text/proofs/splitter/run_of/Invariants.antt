use Rattle.std.proofs.Common.{◌≡◌, ◌+◌, length}
use Rattle.md_asm_text.specs.Runs.{run}
use Rattle.md_asm_text.proofs.splitter.run_of.Given as goal

abbrev pub invariant-loop-rest : goal.invariant-loop-rest
invariant-loop-rest l = record {
  value : l.count + run l.rest ≡ run l.text;
  within : l.count + length l.rest ≡ length l.text;
}

abbrev pub decreases-loop-rest : goal.decreases-loop-rest
decreases-loop-rest l = length l.rest
