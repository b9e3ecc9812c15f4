-- No access changes the region.
use Rattle.std.proofs.Common.{◌≡◌, refl, ℕ, ◌/◌, ◌%◌, ◌==◌, Bool, true, false, nat_lt, ◌&&◌, if◌then◌else◌}
use Rattle.vdp_ports.specs.Vdp.{Vdp, register}
use Rattle.vdp_ports.specs.Dma.{copying, dropped, filling}
use Rattle.vdp_ports.specs.Data.{accessed, place, put, transferred, written}
use Rattle.vdp_ports.specs.Control.{acknowledged, armed, controlled, first, second, started, starts, status_read, stored, transfers}

-- a choice has the region that both of its sides have
pub region_if : (b : Bool) (s t : Vdp) (pal : Bool) → s.pal ≡ pal → t.pal ≡ pal → (if b then s else t).pal ≡ pal
region_if true s t pal h k = h
region_if false s t pal h k = k

put-region : (word : ℕ) (s : Vdp) → (put word s).pal ≡ s.pal
unfolding put
put-region word s =
    region_if (s.code % 16 == 1) _ _ s.pal refl
    (region_if (s.code % 16 == 3) _ _ s.pal refl (region_if ((s.code % 16 == 5) && nat_lt (place s) 40) _ _ s.pal refl refl))

pub accessed_region : (s : Vdp) → (accessed s).pal ≡ s.pal
unfolding accessed
accessed_region s = refl

pub transferred_region : (word : ℕ) (s : Vdp) → (transferred word s).pal ≡ s.pal
unfolding transferred accessed
transferred_region word s = put-region word s

pub written_region : (cycle word : ℕ) (s : Vdp) → (written cycle word s).pal ≡ s.pal
unfolding written filling
written_region cycle word s = region_if s.armed _ _ s.pal (transferred_region word s) (transferred_region word s)

pub status_read_region : (s : Vdp) → (status_read s).pal ≡ s.pal
unfolding status_read
status_read_region s = refl

pub acknowledged_region : (level : ℕ) (s : Vdp) → (acknowledged level s).pal ≡ s.pal
unfolding acknowledged
acknowledged_region level s = region_if (level == 6) _ _ s.pal refl (region_if (level == 4) _ _ s.pal refl refl)

started-region : (cycle : ℕ) (s : Vdp) → (started cycle s).pal ≡ s.pal
unfolding started armed dropped copying
started-region cycle s = region_if (transfers s) _ _ s.pal refl (region_if (register s 23 / 64 == 2) _ _ s.pal refl refl)

second-region : (word : ℕ) (s : Vdp) → (second word s).pal ≡ s.pal
unfolding second
second-region word s = refl

first-region : (word : ℕ) (s : Vdp) → (first word s).pal ≡ s.pal
unfolding first
first-region word s = refl

stored-region : (word : ℕ) (s : Vdp) → (stored word s).pal ≡ s.pal
unfolding stored
stored-region word s = region_if (nat_lt (word / 256 % 32) 24) _ _ s.pal refl refl

pub controlled_region : (cycle word : ℕ) (s : Vdp) → (controlled cycle word s).pal ≡ s.pal
unfolding controlled second
controlled_region cycle word s =
    region_if s.pending _ _ s.pal
    (region_if (starts (second word s)) _ _ s.pal (started-region cycle (second word s)) (second-region word s))
    (region_if (word / 0x4000 == 2) _ _ s.pal (stored-region word s) (first-region word s))
