use Rattle.std.proofs.Common.{◌≡◌, ◌++◌, map, length}
use Rattle.md_asm_text.specs.Shown.{shown}
use Rattle.md_asm.specs.Numbers.{words_of}
use Rattle.md_asm.proofs.data.words_of.Given as goal

abbrev pub invariant-loop-rest : goal.invariant-loop-rest
invariant-loop-rest l = l.bytes.items ++ words_of (map shown l.rest) ≡ words_of (map shown l.fn.tokens)

abbrev pub decreases-loop-rest : goal.decreases-loop-rest
decreases-loop-rest l = length l.rest
