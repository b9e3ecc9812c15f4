use Rattle.std.proofs.Common.{◌≡◌, length}
use Rattle.md_asm_text.specs.Texts.{cut_back}
use Rattle.md_asm_text.proofs.trimming.cut_back.Given as goal

abbrev pub invariant-loop-rest : goal.invariant-loop-rest
invariant-loop-rest l = cut_back l.rest ≡ cut_back l.text

abbrev pub decreases-loop-rest : goal.decreases-loop-rest
decreases-loop-rest l = length l.rest
