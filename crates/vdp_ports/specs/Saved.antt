-- The fields of a saved state that keep the VDP: their order, their sizes and their rules. Of a rule
-- on several fields the place is the last of them. This project's profile.
use Rattle.std.specs.Prelude.{ℕ, ◌-◌, ◌%◌, ◌==◌, ◌&&◌, ◌||◌, Bool, true, nat_le, nat_lt, if◌then◌else◌, List, [], ◌∷◌, bit_and}
use Rattle.std.specs.List.{list_all}
use Rattle.md_fields.specs.Distances.{is_after}
use Rattle.md_fields.specs.Fields.{Field, byte, word, long, quad, words, block}
use Rattle.md_word.specs.Clock.{line}
use Rattle.md_word.specs.Coding.{flag_number}
use Rattle.vdp_ports.specs.Numbers.{VdpNumbers}
use Rattle.vdp_ports.specs.Vdp.{vram_size}

-- each word has only these bits
abbrev pub have_only : ℕ → List ℕ → Bool
have_only bits numbers = list_all (λ w. bit_and w bits == w) numbers

-- only a fill has a byte
abbrev pub is_byte : VdpNumbers → Bool
is_byte n = (n.dma_kind == 1) || (n.byte == 0)

-- only a copy has a source
abbrev pub is_source : VdpNumbers → Bool
is_source n = (n.dma_kind == 2) || (n.source == 0)

-- only a fill and a copy have an address
abbrev pub is_address : VdpNumbers → Bool
is_address n = if n.dma_kind == 0 then n.address == 0 else true

-- of a fill or copy in progress 1 to 65,536 bytes are left
abbrev pub is_left : VdpNumbers → Bool
is_left n = if n.dma_kind == 0 then n.left == 0 else (nat_le 1 n.left && nat_le n.left 0x1_0000)

-- it is settled: its next byte comes at `at` or later, a fill's at most 16 cycles later, a copy's at
-- most 33
abbrev pub is_next_stamp : ℕ → VdpNumbers → Bool
is_next_stamp at n =
    if n.dma_kind == 0 then n.next_stamp == 0
    else (nat_le at n.next_stamp && nat_le (n.next_stamp - at) (if n.dma_kind == 1 then 16 else 33))

-- an interrupt of the Z80 began with a line below `at`, and is a line long
abbrev pub is_begun : ℕ → VdpNumbers → Bool
is_begun at n = (n.int_from % line == 0) && (nat_lt n.int_from at && is_after n.int_to n.int_from line)

-- none came yet, or this is the last
abbrev pub is_interval : ℕ → VdpNumbers → Bool
is_interval at n = ((n.int_from == 0) && (n.int_to == 0)) || is_begun at n

-- the fields in their order, and their rules, by the cycle of the state and its region: only on PAL
-- the display may be tall
abbrev pub vdp_fields : ℕ → Bool → VdpNumbers → List Field
vdp_fields at pal n =
    block 24 n.registers true
    ∷ block vram_size n.vram true
    ∷ words 64 n.cram (have_only 0x0eee n.cram)
    ∷ words 40 n.vsram (have_only 0x07ff n.vsram)
    ∷ byte n.pending (nat_le n.pending 1)
    ∷ byte n.code (nat_lt n.code 64)
    ∷ word n.a true
    ∷ byte n.armed (nat_le n.armed 1)
    ∷ byte n.dma_kind (nat_le n.dma_kind 2)
    ∷ byte n.byte (is_byte n)
    ∷ word n.source (is_source n)
    ∷ word n.address (is_address n)
    ∷ long n.left (is_left n)
    ∷ quad n.next_stamp (is_next_stamp at n)
    ∷ byte n.vertical (nat_le n.vertical 1)
    ∷ byte n.horizontal (nat_le n.horizontal 1)
    ∷ byte n.overflow (nat_le n.overflow 1)
    ∷ byte n.collision (nat_le n.collision 1)
    ∷ byte n.line_counter true
    ∷ quad n.int_from true
    ∷ quad n.int_to (is_interval at n)
    ∷ byte n.tall (nat_le n.tall (flag_number pal))
    ∷ []
