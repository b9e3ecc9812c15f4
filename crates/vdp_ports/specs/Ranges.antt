-- How large the numbers of a VDP are. This project's profile.
use Rattle.std.specs.Prelude.{ℕ, ◌^◌, ◌<◌, slice_index}
use Rattle.vdp_ports.specs.Vdp.{IsVdp, Vdp}

-- the numbers of a VDP have the bytes that they take
pub record IsInRange (s : Vdp) : Type 0 where
  pub sizes : IsVdp s.registers s.vram s.cram s.vsram
  pub cram : (k : ℕ) → slice_index s.cram k < 2 ^ 16
  pub vsram : (k : ℕ) → slice_index s.vsram k < 2 ^ 16
  pub code : s.code < 2 ^ 8
  pub a : s.a < 2 ^ 16
  pub dma_kind : s.dma_kind < 2 ^ 8
  pub byte : s.byte < 2 ^ 8
  pub source : s.source < 2 ^ 16
  pub address : s.address < 2 ^ 16
  pub left : s.left < 2 ^ 32
  pub next_stamp : s.next_stamp < 2 ^ 64
  pub line_counter : s.line_counter < 2 ^ 8
  pub int_from : s.int_from < 2 ^ 64
  pub int_to : s.int_to < 2 ^ 64
