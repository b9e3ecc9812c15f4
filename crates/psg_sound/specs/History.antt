-- The level over a whole history of writes from power-on, by their stamps alone.
-- A write comes before the ticks above its stamp, and after the others.
use Rattle.std.specs.Prelude.{◌≡◌, ℕ, zero, suc, ◌+◌, ◌*◌, ℤ, List, ◌++◌, map}
use Rattle.std.specs.List.{range_with_len}
use Rattle.md_word.specs.Clock.{fm_sample, psg_tick}
use Rattle.sound_writes.specs.Order as order
use Rattle.psg_sound.specs.declared.write.PsgWrite.{PsgWrite}
use Rattle.psg_sound.specs.Stamp.{stamp_of}
use Rattle.psg_sound.specs.Synth.{Synth, at_power_on, ticked, level}
use Rattle.psg_sound.specs.Batches.{written_all, ticks_to, ticks_below}

-- the writes stamped from one cycle on and below another
abbrev pub stamped : ℕ → ℕ → List PsgWrite → List PsgWrite
stamped from to writes = order.stamped stamp_of from to writes

-- the chip after so many ticks and the writes that come before the last of them
abbrev pub after_tick : List PsgWrite → ℕ → Synth
after_tick history zero = at_power_on
after_tick history (suc t) = ticked (written_all (stamped (psg_tick * t) (psg_tick * suc t) history) (after_tick history t))

-- the chip after so many ticks and the writes stamped below a cycle, which comes before the next
-- tick
abbrev pub heard : List PsgWrite → ℕ → ℕ → Synth
heard history t cycle = written_all (stamped (psg_tick * t) cycle history) (after_tick history t)

-- the level at sample number k: after the ticks up to its cycle and the writes stamped below it
unfoldable pub level_at : List PsgWrite → ℕ → ℤ
level_at history k = level (heard history (ticks_to (fm_sample * k)) (fm_sample * k))

-- the chip before sample number k: after the ticks and the writes below its cycle
unfoldable pub chip_before : List PsgWrite → ℕ → Synth
chip_before history k = heard history (ticks_below (fm_sample * k)) (fm_sample * k)

-- stamped from one cycle on and below another, in the order of their stamps
abbrev pub IsInOrder : ℕ → ℕ → List PsgWrite → Type 0
IsInOrder from to ws = order.IsInOrder stamp_of from to ws

-- a batch's writes after those of the history: both in order, the batch's from its first sample's
-- cycle on and below the next batch's
pub record Continues (history writes : List PsgWrite) (first : ℕ) : Type 0 where
  pub past : IsInOrder 0 (fm_sample * first) history
  pub span : IsInOrder (fm_sample * first) (fm_sample * (first + 16)) writes

-- the levels of sixteen samples
unfoldable pub levels : List PsgWrite → ℕ → List ℤ
levels history first = map (λ k. level_at history (first + k)) (range_with_len 0 16)

-- what a batch makes of a chip as the history left it: the levels over the history
-- with its writes, and a chip as both leave it, before the next batch
pub record IsNextBatch (history writes : List PsgWrite) (first : ℕ) (after : Synth) (heard_levels : List ℤ) : Type 0 where
  pub out : heard_levels ≡ levels (history ++ writes) first
  pub chip : after ≡ chip_before (history ++ writes) (first + 16)
  pub past : IsInOrder 0 (fm_sample * (first + 16)) (history ++ writes)
