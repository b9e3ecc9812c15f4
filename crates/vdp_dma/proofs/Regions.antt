-- Settling does not change the region.
use Rattle.std.proofs.Common.{◌≡◌, refl, ℕ, ◌==◌, nat_lt, List, length}
use Rattle.vdp_ports.specs.Vdp.{Vdp}
use Rattle.vdp_ports.proofs.Regions.{region_if}
use Rattle.vdp_dma.specs.Settling.{advanced, due, finished, moved, settled, vram_at}

advanced-region : (n : ℕ) (v : List ℕ) (s : Vdp) → (advanced n v s).pal ≡ s.pal
unfolding advanced moved finished
advanced-region n v s = region_if (nat_lt n s.left) _ _ s.pal refl refl

pub settled_region : (cycle : ℕ) (s : Vdp) → (settled cycle s).pal ≡ s.pal
unfolding settled
settled_region cycle s =
    region_if (length (due cycle s) == 0) _ _ s.pal refl (advanced-region (length (due cycle s)) (vram_at cycle s) s)
