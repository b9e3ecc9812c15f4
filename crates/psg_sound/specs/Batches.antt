-- A batch of sixteen samples, from any chip and any list of writes.
-- The PSG ticks every 240 cycles of the master clock; a sample is made every 1,008.
use Rattle.std.specs.Prelude.{◌≡◌, ◌≤◌, ℕ, zero, suc, ◌+◌, ◌-◌, ◌*◌, ◌/◌, ℤ, List, map}
use Rattle.std.specs.List.{range_with_len}
use Rattle.md_word.specs.Clock.{fm_sample, psg_tick}
use Rattle.sound_writes.specs.Course as course
use Rattle.psg_sound.specs.declared.write.PsgWrite.{PsgWrite}
use Rattle.psg_sound.specs.Stamp.{stamp_of}
use Rattle.psg_sound.specs.Synth.{Synth, written, ticked, level}

-- a chip, and the writes that are still to come
abbrev pub Course : Type 0
Course = course.Course PsgWrite Synth

-- the chip after a write
abbrev pub write_made : PsgWrite → Synth → Synth
write_made w s = written w.value s

-- the chip after these writes
abbrev pub written_all : List PsgWrite → Synth → Synth
written_all ws s = course.written_all write_made ws s

-- the writes made that come before a cycle: in the list's order, up to the first that is stamped at
-- it or later
abbrev pub made_below : ℕ → Synth → List PsgWrite → Course
made_below cycle s ws = course.made_below stamp_of write_made cycle s ws

-- none of these writes comes before a cycle, or one below it
abbrev pub AreDueFrom : ℕ → List PsgWrite → Type 0
AreDueFrom cycle ws = (s : Synth) (at : ℕ) → at ≤ cycle → made_below at s ws ≡ record { chip = s; rest = ws }

-- a tick at a cycle, after the writes that come before it
abbrev pub next_tick : ℕ → Course → Course
next_tick cycle c = let due = made_below cycle c.chip c.rest in record { chip = ticked due.chip; rest = due.rest }

-- n more ticks, of which tick number t has been the last
abbrev pub after_ticks : ℕ → ℕ → Course → Course
after_ticks t zero c = c
after_ticks t (suc n) c = next_tick (psg_tick * (t + suc n)) (after_ticks t n c)

-- how many ticks are up to a cycle, and below it: they are at 240, 480 and so on
abbrev pub ticks_to : ℕ → ℕ
ticks_to cycle = cycle / psg_tick

-- those that are below it
abbrev pub ticks_below : ℕ → ℕ
ticks_below cycle = (cycle - 1) / psg_tick

-- the course of a chip that has made the ticks below a cycle, after the ticks up to number t
abbrev pub course_to : ℕ → Synth → List PsgWrite → ℕ → Course
course_to from s writes t = after_ticks (ticks_below from) (t - ticks_below from) (record { chip = s; rest = writes })

-- sample number k of a batch from number `first`: after the ticks up to its cycle and the writes
-- that come before it
unfoldable pub sample : ℕ → Synth → List PsgWrite → ℕ → ℤ
sample first s writes k =
    let course = course_to (fm_sample * first) s writes (ticks_to (fm_sample * k)) in
    level (made_below (fm_sample * k) course.chip course.rest).chip

-- the samples of a batch
unfoldable pub samples : ℕ → Synth → List PsgWrite → List ℤ
samples first s writes = map (λ k. sample first s writes (first + k)) (range_with_len 0 16)

-- the chip after a batch: after the ticks below the next batch's first sample, and all writes
unfoldable pub after_batch : ℕ → Synth → List PsgWrite → Synth
after_batch first s writes =
    let course = course_to (fm_sample * first) s writes (ticks_below (fm_sample * (first + 16))) in
    written_all course.rest course.chip
