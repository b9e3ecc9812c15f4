-- What leaves the pins as they are.
use Rattle.std.proofs.Common.{◌≡◌, refl, ℕ, ◌/◌, ◌%◌, ◌==◌, Bool, true, false, nat_lt, ◌&&◌, if◌then◌else◌}
use Rattle.vdp_ports.specs.Vdp.{Vdp, register}
use Rattle.vdp_ports.specs.Dma.{dropped, filling, copying}
use Rattle.vdp_ports.specs.Data.{accessed, place, put, transferred, written}
use Rattle.vdp_ports.specs.Control.{stored, first, second, started, armed, starts, transfers, controlled, level}
use Rattle.vdp_ports.specs.Pins.{HasSameInterval, HasSamePins}

-- a choice leaves the pins where both of its sides do
pub same_if : (b : Bool) (r s t : Vdp) → HasSamePins r s → HasSamePins r t → HasSamePins r (if b then s else t)
same_if true r s t h k = h
same_if false r s t h k = k

interval-if : (b : Bool) (r s t : Vdp) → HasSameInterval r s → HasSameInterval r t → HasSameInterval r (if b then s else t)
interval-if true r s t h k = h
interval-if false r s t h k = k

pub stay : (s t : Vdp) → level t ≡ level s → t.int_from ≡ s.int_from → t.int_to ≡ s.int_to → HasSamePins s t
stay s t e from to = record { level_stays = e; interval_stays = record { from_stays = from; to_stays = to } }

hold : (s t : Vdp) → t.int_from ≡ s.int_from → t.int_to ≡ s.int_to → HasSameInterval s t
hold s t from to = record { from_stays = from; to_stays = to }

put-same : (word : ℕ) (s : Vdp) → HasSamePins s (put word s)
unfolding put level
put-same word s =
    same_if (s.code % 16 == 1) s _ _ (stay _ _ refl refl refl)
    (same_if (s.code % 16 == 3) s _ _ (stay _ _ refl refl refl)
    (same_if ((s.code % 16 == 5) && nat_lt (place s) 40) s _ _ (stay _ _ refl refl refl) (stay _ _ refl refl refl)))

pub accessed_same : (s : Vdp) → HasSamePins s (accessed s)
unfolding accessed level
accessed_same s = stay _ _ refl refl refl

pub transferred_same : (word : ℕ) (s : Vdp) → HasSamePins s (transferred word s)
unfolding transferred accessed level
transferred_same word s =
    let h : HasSamePins s (put word s) = put-same word s in stay _ _ h.level_stays h.interval_stays.from_stays h.interval_stays.to_stays

filling-same : (cycle word : ℕ) (s t : Vdp) → HasSamePins s t → HasSamePins s (filling cycle word t)
unfolding filling level
filling-same cycle word s t h = stay _ _ h.level_stays h.interval_stays.from_stays h.interval_stays.to_stays

pub written_same : (cycle word : ℕ) (s : Vdp) → HasSamePins s (written cycle word s)
unfolding written
written_same cycle word s =
    same_if s.armed s _ _ (filling-same cycle word s (transferred word s) (transferred_same word s)) (transferred_same word s)

started-same : (cycle : ℕ) (s t : Vdp) → HasSameInterval s t → HasSameInterval s (started cycle t)
unfolding started armed dropped copying
started-same cycle s t h =
    interval-if (transfers t) s _ _ (hold _ _ h.from_stays h.to_stays)
    (interval-if (register t 23 / 64 == 2) s _ _
    (hold _ _ h.from_stays h.to_stays)
    (hold _ _ h.from_stays h.to_stays))

second-same : (word : ℕ) (s : Vdp) → HasSameInterval s (second word s)
unfolding second
second-same word s = hold _ _ refl refl

stored-same : (word : ℕ) (s : Vdp) → HasSameInterval s (stored word s)
unfolding stored
stored-same word s = interval-if (nat_lt (word / 256 % 32) 24) s _ _ (hold _ _ refl refl) (hold _ _ refl refl)

first-same : (word : ℕ) (s : Vdp) → HasSameInterval s (first word s)
unfolding first
first-same word s = hold _ _ refl refl

pub controlled_same : (cycle word : ℕ) (s : Vdp) → HasSameInterval s (controlled cycle word s)
unfolding controlled
controlled_same cycle word s =
    interval-if s.pending s _ _
    (interval-if (starts (second word s)) s _ _ (started-same cycle s (second word s) (second-same word s)) (second-same word s))
    (interval-if (word / 0x4000 == 2) s _ _ (stored-same word s) (first-same word s))
