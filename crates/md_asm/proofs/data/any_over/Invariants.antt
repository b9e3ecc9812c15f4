use Rattle.std.proofs.Common.{◌≡◌, map, length}
use Rattle.md_asm_text.specs.Shown.{shown}
use Rattle.md_asm.specs.Numbers.{any_over}
use Rattle.md_asm.proofs.data.any_over.Given as goal

abbrev pub invariant-loop-rest : goal.invariant-loop-rest
invariant-loop-rest l = any_over l.limit (map shown l.rest) ≡ any_over l.limit (map shown l.fn.tokens)

abbrev pub decreases-loop-rest : goal.decreases-loop-rest
decreases-loop-rest l = length l.rest
