-- The samples over a whole history of writes from power-on, by their stamps alone.
use Rattle.std.specs.Prelude.{◌≡◌, ℕ, zero, suc, ◌+◌, ◌*◌, ℤ, List, ◌++◌, map}
use Rattle.std.specs.List.{range_with_len}
use Rattle.md_word.specs.Clock.{fm_sample}
use Rattle.fm_port.specs.declared.write.FmWrite.{FmWrite}
use Rattle.fm_chip.specs.Synth.{Synth, at_power_on, sampled, sides}
use Rattle.sound_writes.specs.Order as order
use Rattle.fm_port.specs.Stamp.{stamp_of}
use Rattle.fm_chip.specs.Batches.{written_all}
use Rattle.fm_port.specs.Port.{IsInOrder}

-- the writes stamped from one cycle on and below another
abbrev pub stamped : ℕ → ℕ → List FmWrite → List FmWrite
stamped from to writes = order.stamped stamp_of from to writes

-- the chip before sample number k, after the writes stamped below its cycle
unfoldable pub chip_before : List FmWrite → ℕ → Synth
chip_before history zero = at_power_on
chip_before history (suc k) =
    written_all (stamped (fm_sample * k) (fm_sample * suc k) history) (sampled k (chip_before history k))

-- sample number k
unfoldable pub sides_at : List FmWrite → ℕ → ℤ × ℤ
sides_at history k = sides k (chip_before history k)

-- a batch's writes after those of the history: both in order, the batch's from its first sample's
-- cycle on and below the next batch's
pub record Continues (history writes : List FmWrite) (first : ℕ) : Type 0 where
  pub past : IsInOrder 0 (fm_sample * first) history
  pub span : IsInOrder (fm_sample * first) (fm_sample * (first + 16)) writes

-- sixteen samples
unfoldable pub sixteen : List FmWrite → ℕ → List (ℤ × ℤ)
sixteen history first = map (λ k. sides_at history (first + k)) (range_with_len 0 16)

-- what a batch makes of a chip as the history left it: the samples over the history
-- with its writes, and a chip as both leave it, before the next batch
pub record IsNextBatch (history writes : List FmWrite) (first : ℕ) (after : Synth) (made : List (ℤ × ℤ)) : Type 0 where
  pub out : made ≡ sixteen (history ++ writes) first
  pub chip : after ≡ chip_before (history ++ writes) (first + 16)
  pub past : IsInOrder 0 (fm_sample * (first + 16)) (history ++ writes)
