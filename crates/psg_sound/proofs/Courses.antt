-- Courses that are cut and joined.
use Rattle.std.proofs.Common.{◌≡◌, ◌∙◌, sym, ap, ℕ, zero, suc, ◌+◌, ◌-◌, ◌*◌, ◌≤◌, List, add-zero, add-suc, arith}
use Rattle.md_word.specs.Clock.{psg_tick}
use Rattle.sound_writes.proofs.Courses as courses
use Rattle.sound_writes.proofs.Courses.{due-made_below, finished-made_below}
use Rattle.psg_sound.specs.declared.write.PsgWrite.{PsgWrite}
use Rattle.psg_sound.specs.Synth.{Synth, ticked}
use Rattle.psg_sound.specs.Stamp.{stamp_of}
use Rattle.psg_sound.specs.Batches.{Course, write_made, next_tick, after_ticks, ticks_below, course_to}

-- the course with the writes made that come before a cycle
abbrev pub due : ℕ → Course → Course
due cycle c = courses.due stamp_of write_made cycle c

-- the chip after all writes of a course
abbrev pub finished : Course → Synth
finished c = courses.finished write_made c

-- ticks after ticks
pub after_ticks-joined : (t n m : ℕ) (c : Course) → after_ticks (t + n) m (after_ticks t n c) ≡ after_ticks t (n + m) c
after_ticks-joined t n zero c = ap (λ k. after_ticks t k c) (sym (add-zero n))
after_ticks-joined t n (suc m) c =
    let number : t + n + suc m ≡ t + suc (n + m) = omega arith in
    ap (λ k. next_tick (psg_tick * k) (after_ticks (t + n) m (after_ticks t n c))) number
    ∙ ap (next_tick (psg_tick * (t + suc (n + m)))) (after_ticks-joined t n m c) ∙ ap (λ k. after_ticks t k c) (sym (add-suc n m))

-- what is made before the next tick at the latest is made by it
pub after_ticks-due : (t a : ℕ) → a ≤ psg_tick * (t + 1) → (m : ℕ) (c : Course) → after_ticks t (suc m) (due a c) ≡ after_ticks t (suc m) c
after_ticks-due t a h zero c =
    let soon : a ≤ psg_tick * (t + 1) = h in
    ap (λ (d : Course). record { chip = ticked d.chip; rest = d.rest }) (due-made_below stamp_of write_made a (psg_tick * (t + suc zero)) (omega arith) c.chip c.rest)
after_ticks-due t a h (suc m) c = ap (next_tick (psg_tick * (t + suc (suc m)))) (after_ticks-due t a h m c)

pub due-after_ticks : (t a b : ℕ) → a ≤ psg_tick * (t + 1) → a ≤ b → (m : ℕ) (c : Course) → due b (after_ticks t m (due a c)) ≡ due b (after_ticks t m c)
due-after_ticks t a b h k zero c = due-made_below stamp_of write_made a b k c.chip c.rest
due-after_ticks t a b h k (suc m) c = ap (due b) (after_ticks-due t a h m c)

pub finished-after_ticks : (t a : ℕ) → a ≤ psg_tick * (t + 1) → (m : ℕ) (c : Course) → finished (after_ticks t m (due a c)) ≡ finished (after_ticks t m c)
finished-after_ticks t a h zero c = finished-made_below stamp_of write_made a c.chip c.rest
finished-after_ticks t a h (suc m) c = ap finished (after_ticks-due t a h m c)

-- a course continues from tick number t to number u
pub course_to-joined : (from t u : ℕ) (s : Synth) (ws : List PsgWrite) → ticks_below from ≤ t → t ≤ u
    → after_ticks t (u - t) (course_to from s ws t) ≡ course_to from s ws u
course_to-joined from t u s ws h k =
    let start : Course = record { chip = s; rest = ws } in
    let low = ticks_below from in
    let number : low + (t - low) ≡ t = omega arith in
    let count : (t - low) + (u - t) ≡ u - low = omega arith in
    ap (λ n. after_ticks n (u - t) (course_to from s ws t)) (sym number)
    ∙ after_ticks-joined low (t - low) (u - t) start ∙ ap (λ n. after_ticks low n start) count

-- the same where a sample has been heard on the way
pub due-course_to : (from t u a b : ℕ) (s : Synth) (ws : List PsgWrite) (c : Course)
    → ticks_below from ≤ t → t ≤ u → a ≤ psg_tick * (t + 1) → a ≤ b → c ≡ due a (course_to from s ws t)
    → due b (after_ticks t (u - t) c) ≡ due b (course_to from s ws u)
due-course_to from t u a b s ws c h k soon le e =
    ap (λ (d : Course). due b (after_ticks t (u - t) d)) e ∙ due-after_ticks t a b soon le (u - t) (course_to from s ws t)
    ∙ ap (due b) (course_to-joined from t u s ws h k)

pub finished-course_to : (from t u a : ℕ) (s : Synth) (ws : List PsgWrite) (c : Course)
    → ticks_below from ≤ t → t ≤ u → a ≤ psg_tick * (t + 1) → c ≡ due a (course_to from s ws t)
    → finished (after_ticks t (u - t) c) ≡ finished (course_to from s ws u)
finished-course_to from t u a s ws c h k soon e =
    ap (λ (d : Course). finished (after_ticks t (u - t) d)) e ∙ finished-after_ticks t a soon (u - t) (course_to from s ws t)
    ∙ ap finished (course_to-joined from t u s ws h k)
