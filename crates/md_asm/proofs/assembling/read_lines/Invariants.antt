use Rattle.std.proofs.Common.{◌≡◌, ◌+◌, ◌≤◌, length}
use Rattle.text_lines.specs.Lines.{lines_of}
use Rattle.md_asm.specs.Kept.{IsPass}
use Rattle.md_asm.specs.Rounds.{round_one}
use Rattle.md_asm.specs.Seen.{round_seen}
use Rattle.md_asm.proofs.assembling.read_lines.Given as goal

abbrev pub invariant-loop-rest : goal.invariant-loop-rest
invariant-loop-rest l = record {
  goes_on : round_one (round_seen l.pass) l.line (lines_of l.rest) ≡ round_one (round_seen l.fn.pass) 1 (lines_of l.fn.source);
  pass : IsPass l.pass;
  few : l.line + length l.rest ≤ 1048577;
}

abbrev pub decreases-loop-rest : goal.decreases-loop-rest
decreases-loop-rest l = length l.rest
