-- A batch on its way from sample to sample.
use Rattle.std.proofs.Common.{◌≡◌, ◌∙◌, sym, ap, ℕ, ◌+◌, ◌-◌, ◌*◌, ◌<◌, ◌≤◌, List, arith}
use Rattle.md_word.specs.Clock.{fm_sample, psg_tick}
use Rattle.sound_writes.proofs.Courses.{made_below-zero}
use Rattle.psg_sound.specs.declared.write.PsgWrite.{PsgWrite}
use Rattle.psg_sound.specs.Synth.{Synth, level}
use Rattle.psg_sound.specs.Stamp.{stamp_of}
use Rattle.psg_sound.specs.Batches.{Course, write_made, after_ticks, ticks_to, ticks_below, course_to, sample, after_batch}
use Rattle.psg_sound.proofs.Courses.{due, finished, due-course_to, finished-course_to}

-- the course of a batch that has made so many ticks and the writes before some cycle, at a bound at
-- the latest
pub record IsHeard (first : ℕ) (s : Synth) (ws : List PsgWrite) (ticks bound : ℕ) (c : Course) : Type 0 where
  pub cycle : ℕ
  pub course : c ≡ due cycle (course_to (fm_sample * first) s ws ticks)
  pub soon : cycle ≤ psg_tick * (ticks + 1)
  pub past : cycle ≤ bound
  pub low : ticks_below (fm_sample * first) ≤ ticks
  pub high : psg_tick * ticks ≤ bound - 1

pub IsHeard-first : (first : ℕ) (s : Synth) (ws rest : List PsgWrite) (ticks bound : ℕ) → rest ≡ ws → ticks ≡ ticks_below (fm_sample * first) → fm_sample * first ≤ bound
    → IsHeard first s ws ticks bound (record { chip = s; rest = rest })
IsHeard-first first s ws rest ticks bound e f h =
    let low = ticks_below (fm_sample * first) in
    let none : 0 ≡ ticks - low = omega (arith, f) in
    record {
      cycle = 0;
      course =
          (λ i. record { chip = s; rest = e i }) ∙ sym (made_below-zero stamp_of write_made s ws)
          ∙ ap (λ n. due 0 (after_ticks low n (record { chip = s; rest = ws }))) none;
      soon = omega arith;
      past = omega arith;
      low = omega (arith, f);
      high = omega (arith, f, h);
    }

-- the course at the next sample
pub IsHeard-at : (first : ℕ) (s : Synth) (ws : List PsgWrite) (ticks k : ℕ) (c d : Course) → IsHeard first s ws ticks (fm_sample * k) c
    → d ≡ due (fm_sample * k) (after_ticks ticks (ticks_to (fm_sample * k) - ticks) c)
    → d ≡ due (fm_sample * k) (course_to (fm_sample * first) s ws (ticks_to (fm_sample * k)))
IsHeard-at first s ws ticks k c d h e =
    e ∙ due-course_to (fm_sample * first) ticks (ticks_to (fm_sample * k)) h.cycle (fm_sample * k) s ws c h.low (omega (arith, h.high)) h.soon h.past h.course

pub IsHeard-next : (first : ℕ) (s : Synth) (ws : List PsgWrite) (k bound : ℕ) (d : Course) → first ≤ k → fm_sample * k < bound
    → d ≡ due (fm_sample * k) (course_to (fm_sample * first) s ws (ticks_to (fm_sample * k)))
    → IsHeard first s ws (ticks_to (fm_sample * k)) bound d
IsHeard-next first s ws k bound d h b e = record {
  cycle = fm_sample * k;
  course = e;
  soon = omega arith;
  past = omega (arith, b);
  low = omega arith;
  high = omega arith;
}

pub sample-is : (first : ℕ) (s : Synth) (ws : List PsgWrite) (k : ℕ) (d : Course)
    → d ≡ due (fm_sample * k) (course_to (fm_sample * first) s ws (ticks_to (fm_sample * k))) → level d.chip ≡ sample first s ws k
unfolding sample
sample-is first s ws k d e = ap (λ (c : Course). level c.chip) e

pub after_batch-is : (first : ℕ) (s : Synth) (ws : List PsgWrite) (ticks bound end : ℕ) (c : Course) → IsHeard first s ws ticks bound c
    → ticks ≤ end → end ≡ ticks_below (fm_sample * (first + 16)) → finished (after_ticks ticks (end - ticks) c) ≡ after_batch first s ws
unfolding after_batch
after_batch-is first s ws ticks bound end c h le e =
    finished-course_to (fm_sample * first) ticks end h.cycle s ws c h.low le h.soon h.course
    ∙ ap (λ u. finished (course_to (fm_sample * first) s ws u)) e
