-- The numbers that a saved state keeps of the VDP, whatever they are, in their order. The region is
-- elsewhere in the state. This project's profile.
use Rattle.std.specs.Prelude.{ℕ, ◌==◌, Bool, List}
use Rattle.md_word.specs.Coding.{flag_number}
use Rattle.vdp_ports.specs.Vdp.{Vdp}

-- registers, memories, port, fill or copy, the interrupts and the status; a flag is 0 or 1
pub record VdpNumbers : Type 0 where
  pub registers : List ℕ
  pub vram : List ℕ
  pub cram : List ℕ
  pub vsram : List ℕ
  pub pending : ℕ
  pub code : ℕ
  pub a : ℕ
  pub armed : ℕ
  pub dma_kind : ℕ
  pub byte : ℕ
  pub source : ℕ
  pub address : ℕ
  pub left : ℕ
  pub next_stamp : ℕ
  pub vertical : ℕ
  pub horizontal : ℕ
  pub overflow : ℕ
  pub collision : ℕ
  pub line_counter : ℕ
  pub int_from : ℕ
  pub int_to : ℕ
  pub tall : ℕ

-- what is kept of a VDP: a flag is 0 or 1
abbrev pub numbers_of : Vdp → VdpNumbers
numbers_of s = record {
  registers = s.registers;
  vram = s.vram;
  cram = s.cram;
  vsram = s.vsram;
  pending = flag_number s.pending;
  code = s.code;
  a = s.a;
  armed = flag_number s.armed;
  dma_kind = s.dma_kind;
  byte = s.byte;
  source = s.source;
  address = s.address;
  left = s.left;
  next_stamp = s.next_stamp;
  vertical = flag_number s.vertical;
  horizontal = flag_number s.horizontal;
  overflow = flag_number s.overflow;
  collision = flag_number s.collision;
  line_counter = s.line_counter;
  int_from = s.int_from;
  int_to = s.int_to;
  tall = flag_number s.tall;
}

-- the VDP of a region of which these numbers are kept
abbrev pub vdp_of : Bool → VdpNumbers → Vdp
vdp_of pal n = record {
  registers = n.registers;
  vram = n.vram;
  cram = n.cram;
  vsram = n.vsram;
  pending = n.pending == 1;
  code = n.code;
  a = n.a;
  armed = n.armed == 1;
  dma_kind = n.dma_kind;
  byte = n.byte;
  source = n.source;
  address = n.address;
  left = n.left;
  next_stamp = n.next_stamp;
  vertical = n.vertical == 1;
  horizontal = n.horizontal == 1;
  overflow = n.overflow == 1;
  collision = n.collision == 1;
  line_counter = n.line_counter;
  int_from = n.int_from;
  int_to = n.int_to;
  pal = pal;
  tall = n.tall == 1;
}
