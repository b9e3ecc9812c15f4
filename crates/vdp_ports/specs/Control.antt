-- The control port: registers, code and address, starts, the status and the interrupts. Genesis
-- Technical Overview, the VDP's ports and registers.
use Rattle.std.specs.Prelude.{ℕ, ◌+◌, ◌*◌, ◌/◌, ◌%◌, ◌==◌, nat_lt, Bool, true, false, ◌&&◌, if◌then◌else◌, Option, Some, None, slice_set}
use Rattle.vdp_ports.specs.Vdp.{Vdp, register}
use Rattle.vdp_ports.specs.Dma.{length_of, dropped, copying}

-- a word that sets the register of bits 12 to 8 to bits 7 to 0; those above 23 are lost
unfoldable pub stored : ℕ → Vdp → Vdp
stored word s =
    if nat_lt (word / 256 % 32) 24 then record s { registers = slice_set s.registers (word / 256 % 32) (word % 256) } else s

-- a first word gives CD1 and CD0, A13 to A0; the rest stays until the second word
unfoldable pub first : ℕ → Vdp → Vdp
first word s = record s {
  pending = true;
  code = s.code / 4 * 4 + word / 0x4000 % 4;
  a = s.a / 0x4000 * 0x4000 + word % 0x4000;
}

-- a second word gives CD5 to CD2, A15 and A14
unfoldable pub second : ℕ → Vdp → Vdp
second word s = record s {
  pending = false;
  code = word / 16 % 16 * 4 + s.code % 4;
  a = word % 4 * 0x4000 + s.a % 0x4000;
}

-- whether a second word starts something: CD5, while bit 4 of register 1 is set
unfoldable pub starts : Vdp → Bool
starts s = (s.code / 32 % 2 == 1) && (register s 1 / 16 % 2 == 1)

-- whether bits 7 and 6 of register 23 choose a transfer: 00 or 01; 10 is a fill and 11 a copy
unfoldable pub transfers : Vdp → Bool
transfers s = nat_lt (register s 23 / 64) 2

-- a fill waits for its data write
unfoldable pub armed : Vdp → Vdp
armed s = record (dropped s) { armed = true }

-- what a start leaves
unfoldable pub started : ℕ → Vdp → Vdp
started cycle s =
    if transfers s then dropped s else (
    if register s 23 / 64 == 2 then armed s else copying cycle s)

-- the address of a transfer's first word
unfoldable pub source_of : Vdp → ℕ
source_of s = register s 21 * 2 + register s 22 * 512 + register s 23 % 128 * 0x2_0000

-- source and words of the transfer that starts
unfoldable pub transfer_of : Vdp → Option (ℕ × ℕ)
transfer_of s = if starts s && transfers s then Some (source_of s, length_of s) else None

-- the VDP after a control word
unfoldable pub controlled : ℕ → ℕ → Vdp → Vdp
controlled cycle word s =
    if s.pending then (if starts (second word s) then started cycle (second word s) else second word s) else (
    if word / 0x4000 == 2 then stored word s else first word s)

-- the transfer that a control word starts
unfoldable pub started_by : ℕ → Vdp → Option (ℕ × ℕ)
started_by word s = if s.pending then transfer_of (second word s) else None

-- a flag as a bit
abbrev pub bit : Bool → ℕ
bit b = if b then 1 else 0

-- the status word, whose bit 0 is the region
unfoldable pub status : Bool → Bool → Bool → Vdp → ℕ
status busy hb vb s =
    512 + 128 * bit s.vertical + 64 * bit s.overflow + 32 * bit s.collision + 8 * bit vb + 4 * bit hb + 2 * bit busy + bit s.pal

-- a status read ends the pending state, and clears overflow and collision
unfoldable pub status_read : Vdp → Vdp
status_read s = record s { pending = false; overflow = false; collision = false }

-- the interrupt level: vertical where register 1 bit 5 lets it through, horizontal by register 0 bit 4
unfoldable pub level : Vdp → ℕ
level s =
    if s.vertical && (register s 1 / 32 % 2 == 1) then 6 else (
    if s.horizontal && (register s 0 / 16 % 2 == 1) then 4 else 0)

-- the interrupt that the 68000 takes is pending no longer
unfoldable pub acknowledged : ℕ → Vdp → Vdp
acknowledged level s =
    if level == 6 then record s { vertical = false } else (
    if level == 4 then record s { horizontal = false } else s)
