-- The video display processor as contracts see it: registers, memories, ports, a fill or copy in
-- progress, interrupts. Genesis Technical Overview, the VDP.
use Rattle.std.specs.Prelude.{◌≡◌, ℕ, ◌/◌, ◌%◌, Bool, false, ◌==◌, List, length, slice_index, replicate}

-- the VDP; a fill or copy is settled when somebody looks
pub record Vdp : Type 0 where
  pub registers : List ℕ
  pub vram : List ℕ
  pub cram : List ℕ
  pub vsram : List ℕ
  pub pending : Bool
  pub code : ℕ
  pub a : ℕ
  pub armed : Bool
  -- 0 neither, 1 a fill, 2 a copy; where neither is in progress, the next five are 0
  pub dma_kind : ℕ
  pub byte : ℕ
  pub source : ℕ
  pub address : ℕ
  pub left : ℕ
  pub next_stamp : ℕ
  pub vertical : Bool
  pub horizontal : Bool
  pub overflow : Bool
  pub collision : Bool
  pub line_counter : ℕ
  pub int_from : ℕ
  pub int_to : ℕ
  -- whether the console is one for PAL
  pub pal : Bool
  -- whether the display has 240 lines, which it may have on PAL alone
  pub tall : Bool

-- how many bytes VRAM has
abbrev pub vram_size : ℕ
vram_size = 0x1_0000

-- the sizes of the registers and the three memories, which hold of each VDP
pub record IsVdp (registers vram cram vsram : List ℕ) : Type 0 where
  pub of_registers : length registers ≡ 24
  pub of_vram : length vram ≡ vram_size
  pub of_cram : length cram ≡ 64
  pub of_vsram : length vsram ≡ 40

-- a register by its number
abbrev pub register : Vdp → ℕ → ℕ
register s n = slice_index s.registers n

-- whether the display is on: bit 6 of register 1
abbrev pub is_shown : List ℕ → Bool
is_shown registers = slice_index registers 1 / 64 % 2 == 1

-- at power-on all is 0 but the region
abbrev pub at_power_on : Bool → Vdp
at_power_on pal = record {
  registers = replicate 24 0;
  vram = replicate vram_size 0;
  cram = replicate 64 0;
  vsram = replicate 40 0;
  pending = false;
  code = 0;
  a = 0;
  armed = false;
  dma_kind = 0;
  byte = 0;
  source = 0;
  address = 0;
  left = 0;
  next_stamp = 0;
  vertical = false;
  horizontal = false;
  overflow = false;
  collision = false;
  line_counter = 0;
  int_from = 0;
  int_to = 0;
  pal = pal;
  tall = false;
}
