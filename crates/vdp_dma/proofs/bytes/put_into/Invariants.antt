use Rattle.std.proofs.Common.{◌≡◌}
use Rattle.vdp_dma.specs.Settling.{vram_after}
use Rattle.vdp_dma.proofs.bytes.put_into.Given as goal

abbrev pub invariant-loop-k : goal.invariant-loop-k
invariant-loop-k l = l.vram ≡ vram_after l.state l.k
