-- Settling leaves the pins as they are.
use Rattle.std.proofs.Common.{refl, ℕ, nat_lt, ◌==◌, List, length}
use Rattle.vdp_ports.specs.Vdp.{Vdp}
use Rattle.vdp_ports.specs.Control.{level}
use Rattle.vdp_ports.specs.Pins.{HasSamePins}
use Rattle.vdp_ports.proofs.Same.{same_if, stay}
use Rattle.vdp_dma.specs.Settling.{due, vram_at, moved, finished, advanced, settled}

advanced-same : (n : ℕ) (v : List ℕ) (s : Vdp) → HasSamePins s (advanced n v s)
unfolding advanced moved finished level
advanced-same n v s = same_if (nat_lt n s.left) s _ _ (stay _ _ refl refl refl) (stay _ _ refl refl refl)

pub settled_same : (cycle : ℕ) (s : Vdp) → HasSamePins s (settled cycle s)
unfolding settled
settled_same cycle s =
    same_if (length (due cycle s) == 0) s _ _ (stay s s refl refl refl) (advanced-same (length (due cycle s)) (vram_at cycle s) s)
