-- The bytes of a fill or copy, each with its stamp, and the VDP at a cycle. Genesis Technical Overview,
-- DMA; the stamps are this project's profile.
use Rattle.std.specs.Prelude.{ℕ, zero, suc, ◌+◌, ◌-◌, ◌*◌, ◌%◌, ◌==◌, nat_lt, Bool, if◌then◌else◌, List, length, map, slice_index, slice_set, fold, filter}
use Rattle.std.specs.List.{range_with_len}
use Rattle.vdp_ports.specs.Vdp.{Vdp, register}
use Rattle.vdp_ports.specs.Data.{other}

-- a byte written into VRAM at a cycle
pub record StampedByte : Type 0 where
  pub stamp : ℕ
  pub address : ℕ
  pub byte : ℕ

-- whether a copy is in progress, and not a fill
abbrev pub copies : Vdp → Bool
copies s = s.dma_kind == 2

-- cycles from one byte to the next
unfoldable pub step : Vdp → ℕ
step s = if copies s then 34 else 17

-- the running address before byte k
unfoldable pub running : Vdp → ℕ → ℕ
running s k = (s.address + register s 15 * k) % 0x1_0000

-- byte k of what is left, over the memory that the bytes before it left: a copy's is read there, and a
-- fill's goes to the other half of the word
unfoldable pub write : Vdp → ℕ → List ℕ → StampedByte
write s k vram = record {
  stamp = s.next_stamp + step s * k;
  address = if copies s then running s k else other (running s k);
  byte = if copies s then slice_index vram ((s.source + k) % 0x1_0000) else s.byte;
}

-- the memory after a write
abbrev pub done : List ℕ → StampedByte → List ℕ
done vram w = slice_set vram w.address w.byte

-- the memory after the first k bytes
unfoldable pub vram_after : Vdp → ℕ → List ℕ
vram_after s zero = s.vram
vram_after s (suc k) = done (vram_after s k) (write s k (vram_after s k))

-- all bytes that are left, as stamped writes
unfoldable pub writes : Vdp → List StampedByte
writes s = map (λ k. write s k (vram_after s k)) (range_with_len 0 s.left)

-- those stamped below a cycle
unfoldable pub due : ℕ → Vdp → List StampedByte
due cycle s = filter (λ w. nat_lt w.stamp cycle) (writes s)

-- the VDP after n bytes, with the memory that they left, where some are left
unfoldable pub moved : ℕ → List ℕ → Vdp → Vdp
moved n vram s = record s {
  vram = vram;
  source = if copies s then (s.source + n) % 0x1_0000 else s.source;
  address = running s n;
  left = s.left - n;
  next_stamp = s.next_stamp + step s * n;
}

-- the VDP after the last byte
unfoldable pub finished : List ℕ → Vdp → Vdp
finished vram s = record s { vram = vram; dma_kind = 0; byte = 0; source = 0; address = 0; left = 0; next_stamp = 0 }

-- the VDP after n bytes
unfoldable pub advanced : ℕ → List ℕ → Vdp → Vdp
advanced n vram s = if nat_lt n s.left then moved n vram s else finished vram s

-- the memory at a cycle: after the writes stamped below it
unfoldable pub vram_at : ℕ → Vdp → List ℕ
vram_at cycle s = fold done s.vram (due cycle s)

-- the VDP at a cycle: the memory is that of the cycle, and what is left continues from there
unfoldable pub settled : ℕ → Vdp → Vdp
settled cycle s = if length (due cycle s) == 0 then s else advanced (length (due cycle s)) (vram_at cycle s) s

-- whether a write stamped at the cycle or later is left
unfoldable pub is_busy : ℕ → Vdp → Bool
is_busy cycle s = nat_lt (length (due cycle s)) s.left
