use Rattle.std.proofs.Common.{length}
use Rattle.asm_m68k.proofs.reading.+masks_of.Given as goal

-- proposed from what the function passes where it calls itself
abbrev pub decreases-masks_of : goal.decreases-masks_of
decreases-masks_of l = length l.tokens.now
