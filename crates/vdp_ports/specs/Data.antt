-- The data port. Genesis Technical Overview, the access to the VDP's memories.
use Rattle.std.specs.Prelude.{ℕ, ◌+◌, ◌-◌, ◌*◌, ◌/◌, ◌%◌, ◌==◌, nat_lt, false, ◌&&◌, if◌then◌else◌, List, slice_index, slice_set, bit_and}
use Rattle.vdp_ports.specs.Vdp.{Vdp, register}
use Rattle.vdp_ports.specs.Dma.{filling}

-- the other byte of a word: the address with bit 0 inverted
unfoldable pub other : ℕ → ℕ
other a = if a % 2 == 0 then a + 1 else a - 1

-- an access ends the pending state, and the address rises by register 15
unfoldable pub accessed : Vdp → Vdp
accessed s = record s { pending = false; a = (s.a + register s 15) % 0x1_0000 }

-- a word written: its upper byte at the address, its lower byte beside it
unfoldable pub with_word : ℕ → ℕ → List ℕ → List ℕ
with_word a word vram = slice_set (slice_set vram a (word / 256)) (other a) (word % 256)

-- the colour or vertical scroll that the address points to
abbrev pub place : Vdp → ℕ
place s = s.a / 2 % 64

-- a word written by the code: 1 VRAM, 3 CRAM, 5 VSRAM, of which there are 40 words
unfoldable pub put : ℕ → Vdp → Vdp
put word s =
    if s.code % 16 == 1 then record s { vram = with_word s.a word s.vram } else (
    if s.code % 16 == 3 then record s { cram = slice_set s.cram (place s) (bit_and word 0x0eee) } else (
    if (s.code % 16 == 5) && nat_lt (place s) 40 then record s { vsram = slice_set s.vsram (place s) (bit_and word 0x07ff) } else s))

-- a data write that starts no armed fill, as each word of a transfer is
unfoldable pub transferred : ℕ → Vdp → Vdp
transferred word s = accessed (put word s)

-- a data write at a cycle, which starts an armed fill
unfoldable pub written : ℕ → ℕ → Vdp → Vdp
written cycle word s = if s.armed then filling cycle word (transferred word s) else transferred word s

-- the word that holds the byte at an address
unfoldable pub word_at : List ℕ → ℕ → ℕ
word_at vram a = slice_index vram (a / 2 * 2) * 256 + slice_index vram (a / 2 * 2 + 1)

-- the word read by the code: 0 VRAM, 8 CRAM, 4 VSRAM
unfoldable pub read : Vdp → ℕ
read s =
    if s.code % 16 == 0 then word_at s.vram s.a else (
    if s.code % 16 == 8 then slice_index s.cram (place s) else (
    if (s.code % 16 == 4) && nat_lt (place s) 40 then slice_index s.vsram (place s) else 0))
