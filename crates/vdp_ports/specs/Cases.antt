-- Writes to the ports case by case: the VDP before, the VDP after, and the transfer that starts. What
-- a case does not name stays as it was.
use Rattle.std.specs.Prelude.{◌≡◌, ◌≢◌, ℕ, ◌/◌, ◌%◌, ◌<◌, ◌≤◌, true, false, Option, Some, None, slice_set, bit_and}
use Rattle.vdp_ports.specs.Vdp.{Vdp, register}
use Rattle.vdp_ports.specs.Dma.{length_of, dropped, filling, copying}
use Rattle.vdp_ports.specs.Data.{accessed, place, with_word, transferred}
use Rattle.vdp_ports.specs.Control.{stored, first, second, armed, starts, source_of}

-- a control word: a register, a first word, or a second one, which may start a transfer, arm a fill or
-- start a copy
pub record IsControlWrite (cycle word : ℕ) (before after : Vdp) (transfer : Option (ℕ × ℕ)) : Type 0 where
  pub stores : before.pending ≡ false → word / 0x4000 ≡ 2 → (after ≡ stored word before) × (transfer ≡ None)
  pub one : before.pending ≡ false → word / 0x4000 ≢ 2 → (after ≡ first word before) × (transfer ≡ None)
  pub two : before.pending ≡ true → starts (second word before) ≡ false → (after ≡ second word before) × (transfer ≡ None)
  pub transfers : before.pending ≡ true → starts (second word before) ≡ true → register before 23 / 64 < 2
      → (after ≡ dropped (second word before)) × (transfer ≡ Some (source_of before, length_of before))
  pub arms : before.pending ≡ true → starts (second word before) ≡ true → register before 23 / 64 ≡ 2
      → (after ≡ armed (second word before)) × (transfer ≡ None)
  pub copies : before.pending ≡ true → starts (second word before) ≡ true → 3 ≤ register before 23 / 64
      → (after ≡ copying cycle (second word before)) × (transfer ≡ None)

-- a data write that starts no armed fill: into VRAM, CRAM or VSRAM, past VSRAM's end, or nowhere
pub record IsPlainWrite (word : ℕ) (before after : Vdp) : Type 0 where
  pub vram : before.code % 16 ≡ 1 → after ≡ accessed (record before { vram = with_word before.a word before.vram })
  pub cram : before.code % 16 ≡ 3 → after ≡ accessed (record before { cram = slice_set before.cram (place before) (bit_and word 0x0eee) })
  pub vsram : before.code % 16 ≡ 5 → place before < 40
      → after ≡ accessed (record before { vsram = slice_set before.vsram (place before) (bit_and word 0x07ff) })
  pub lost : before.code % 16 ≡ 5 → 40 ≤ place before → after ≡ accessed before
  pub none : before.code % 16 ≢ 1 → before.code % 16 ≢ 3 → before.code % 16 ≢ 5 → after ≡ accessed before

-- a data write, which starts an armed fill
pub record IsDataWrite (cycle word : ℕ) (before after : Vdp) : Type 0 where
  pub plain : before.armed ≡ false → IsPlainWrite word before after
  pub fills : before.armed ≡ true → after ≡ filling cycle word (transferred word before)
