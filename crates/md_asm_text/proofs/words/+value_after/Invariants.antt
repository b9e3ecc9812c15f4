use Rattle.std.proofs.Common.{length}
use Rattle.md_asm_text.proofs.words.+value_after.Given as goal

abbrev pub decreases-value_after : goal.decreases-value_after
decreases-value_after l = length l.text.now
