use Rattle.std.proofs.Common.{◌≡◌, ◌+◌, map, length}
use Rattle.md_asm_text.specs.Shown.{shown}
use Rattle.md_asm.specs.Contents.{misfits}
use Rattle.md_asm.proofs.fitting.misfits.Given as goal

abbrev pub invariant-loop-rest : goal.invariant-loop-rest
invariant-loop-rest l = record {
  value : misfits l.z80 (map shown l.tokens) l.i (map shown l.rest) ≡ misfits l.z80 (map shown l.tokens) 0 (map shown l.tokens);
  within : l.i + length l.rest ≡ length l.tokens;
}

abbrev pub decreases-loop-rest : goal.decreases-loop-rest
decreases-loop-rest l = length l.rest
