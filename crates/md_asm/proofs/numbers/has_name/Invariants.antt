use Rattle.std.proofs.Common.{◌≡◌, map, length}
use Rattle.md_asm_text.specs.Shown.{shown}
use Rattle.md_asm.specs.Numbers.{has_name}
use Rattle.md_asm.proofs.numbers.has_name.Given as goal

abbrev pub invariant-loop-rest : goal.invariant-loop-rest
invariant-loop-rest l = has_name (map shown l.rest) ≡ has_name (map shown l.fn.tokens)

abbrev pub decreases-loop-rest : goal.decreases-loop-rest
decreases-loop-rest l = length l.rest
