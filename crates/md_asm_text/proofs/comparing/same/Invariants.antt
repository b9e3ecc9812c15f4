use Rattle.std.proofs.Common.{◌≡◌, map, length}
use Rattle.std.specs.Prelude.{◌↔◌}
use Rattle.md_asm_text.specs.Shown.{shown}
use Rattle.md_asm_text.proofs.comparing.same.Given as goal

abbrev pub invariant-loop-first : goal.invariant-loop-first
invariant-loop-first l = (map shown l.first ≡ map shown l.second) ↔ (map shown l.fn.a ≡ map shown l.fn.b)

abbrev pub decreases-loop-first : goal.decreases-loop-first
decreases-loop-first l = length l.first
