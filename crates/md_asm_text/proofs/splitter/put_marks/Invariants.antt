use Rattle.std.proofs.Common.{◌≡◌, ◌++◌, map, length}
use Rattle.md_asm_text.specs.Runs.{marks}
use Rattle.md_asm_text.specs.Shown.{shown}
use Rattle.md_asm_text.proofs.splitter.put_marks.Given as goal

abbrev pub invariant-loop-rest : goal.invariant-loop-rest
invariant-loop-rest l = map shown l.tokens.items ++ marks l.rest ≡ map shown l.fn.tokens.items ++ marks l.text

abbrev pub decreases-loop-rest : goal.decreases-loop-rest
decreases-loop-rest l = length l.rest
