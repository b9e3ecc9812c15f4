use Rattle.std.proofs.Common.{◌≡◌, length, map}
use Rattle.md_asm_text.specs.Shown.{shown}
use Rattle.md_asm_text.specs.Bodies.{are_values}
use Rattle.md_asm_text.proofs.directives.are_values.Given as goal

abbrev pub invariant-loop-rest : goal.invariant-loop-rest
invariant-loop-rest l = are_values (map shown l.rest) ≡ are_values (map shown l.fn.tokens)

abbrev pub decreases-loop-rest : goal.decreases-loop-rest
decreases-loop-rest l = length l.rest
