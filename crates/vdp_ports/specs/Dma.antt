-- The start of a fill and of a copy. Genesis Technical Overview, DMA; the times are this project's
-- profile.
use Rattle.std.specs.Prelude.{ℕ, ◌+◌, ◌*◌, ◌%◌, ◌/◌, false, List}
use Rattle.vdp_ports.specs.Vdp.{Vdp, register}
use Rattle.vdp_ports.specs.declared.dma.Rest.{Rest}

-- registers 19 and 20; 0 means all of the memory
unfoldable pub length_of : Vdp → ℕ
length_of s = (register s 19 + 256 * register s 20 + 0xffff) % 0x1_0000 + 1

-- without an older fill or copy, and without an armed one
unfoldable pub dropped : Vdp → Vdp
dropped s = record s { armed = false; dma_kind = 0; byte = 0; source = 0; address = 0; left = 0; next_stamp = 0 }

-- the address of the port after all bytes of a fill or copy
unfoldable pub end_of : Vdp → ℕ
end_of s = (s.a + length_of s * register s 15) % 0x1_0000

-- a fill starts with its data write at a cycle: it writes the word's upper byte, first 17 cycles later
unfoldable pub filling : ℕ → ℕ → Vdp → Vdp
filling cycle word s = record s {
  armed = false;
  dma_kind = 1;
  byte = word / 256;
  source = 0;
  address = s.a;
  left = length_of s;
  next_stamp = cycle + 17;
  a = end_of s;
}

-- a copy starts at a cycle: its first byte comes 34 cycles later
unfoldable pub copying : ℕ → Vdp → Vdp
copying cycle s = record s {
  armed = false;
  dma_kind = 2;
  byte = 0;
  source = register s 21 + 256 * register s 22;
  address = s.a;
  left = length_of s;
  next_stamp = cycle + 34;
  a = end_of s;
}

-- what is left of a fill or copy
abbrev pub rest_of : Vdp → Rest
rest_of s = record {
  dma_kind = s.dma_kind;
  byte = s.byte;
  source = s.source;
  address = s.address;
  left = s.left;
  next_stamp = s.next_stamp;
}

-- the VDP with this memory, and this left of a fill or copy
abbrev pub with_rest : Vdp → List ℕ → Rest → Vdp
with_rest s vram rest = record s {
  vram = vram;
  dma_kind = rest.dma_kind;
  byte = rest.byte;
  source = rest.source;
  address = rest.address;
  left = rest.left;
  next_stamp = rest.next_stamp;
}
