-- A batch of sixteen samples, from any chip and any list of writes. A sample is made every 1,008
-- cycles of the master clock.
use Rattle.std.specs.Prelude.{ℕ, zero, suc, ◌+◌, ◌*◌, ℤ, List, map}
use Rattle.std.specs.List.{range_with_len}
use Rattle.md_word.specs.Clock.{fm_sample}
use Rattle.fm_port.specs.declared.write.FmWrite.{FmWrite}
use Rattle.sound_writes.specs.Course as course_of
use Rattle.fm_port.specs.Stamp.{stamp_of}
use Rattle.fm_chip.specs.Synth.{Synth, written, sides, sampled}

-- a chip, and the writes that are still to come
abbrev pub Course : Type 0
Course = course_of.Course FmWrite Synth

-- the chip after these writes
abbrev pub written_all : List FmWrite → Synth → Synth
written_all ws s = course_of.written_all written ws s

-- the writes made that come before a cycle
abbrev pub made_below : ℕ → Synth → List FmWrite → Course
made_below cycle s ws = course_of.made_below stamp_of written cycle s ws

-- the course with the writes made that come before sample number k
abbrev pub due : ℕ → Course → Course
due k c = made_below (fm_sample * k) c.chip c.rest

-- the course after n samples from number `first`
unfoldable pub course_after : ℕ → Synth → List FmWrite → ℕ → Course
course_after first s ws zero = record { chip = s; rest = ws }
course_after first s ws (suc n) =
    let c = due (first + n) (course_after first s ws n) in record { chip = sampled (first + n) c.chip; rest = c.rest }

-- sample number first + n
unfoldable pub sample : ℕ → Synth → List FmWrite → ℕ → ℤ × ℤ
sample first s ws n = sides (first + n) (due (first + n) (course_after first s ws n)).chip

-- the samples of a batch
unfoldable pub samples : ℕ → Synth → List FmWrite → List (ℤ × ℤ)
samples first s ws = map (sample first s ws) (range_with_len 0 16)

-- the chip after a batch: after sixteen samples and all writes
unfoldable pub after_batch : ℕ → Synth → List FmWrite → Synth
after_batch first s ws = written_all (course_after first s ws 16).rest (course_after first s ws 16).chip
