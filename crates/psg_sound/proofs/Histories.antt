-- Batches one after another are the level over the whole history.
use Rattle.std.proofs.Common.{◌≡◌, ◌∙◌, refl, sym, ap, ℕ, zero, suc, ◌+◌, ◌-◌, ◌*◌, ◌≤◌, List, [], ◌++◌, map, filter, ℤ, add-zero, add-suc, arith}
use Rattle.std.specs.List.{range_with_len}
use Rattle.std.proofs.lemmas.Bool.{lt-leb}
use Rattle.md_word.specs.Clock.{fm_sample, psg_tick}
use Rattle.sound_writes.specs.Order.{is_below, is_from}
use Rattle.sound_writes.proofs.Courses.{finished-made_below, written_all-append}
use Rattle.sound_writes.proofs.Filters.{filter-none, filter-filter, filter-later, stamped-before, stamped-following, stamped-over}
use Rattle.sound_writes.proofs.Orders.{IsInOrder-append, IsInOrder-filter}
use Rattle.sound_writes.proofs.Splits.{made_below-in_order}
use Rattle.psg_sound.specs.declared.write.PsgWrite.{PsgWrite}
use Rattle.psg_sound.specs.Stamp.{stamp_of}
use Rattle.psg_sound.specs.Synth.{Synth, ticked, level}
use Rattle.psg_sound.specs.Batches.{Course, write_made, written_all, made_below, after_ticks, ticks_to, ticks_below, course_to, sample, samples, after_batch}
use Rattle.psg_sound.specs.History.{stamped, after_tick, heard, level_at, chip_before, IsInOrder, Continues, levels, IsNextBatch}
use Rattle.psg_sound.proofs.Courses.{due, finished}

after_tick-before : (low high : ℕ) (history ws : List PsgWrite) → IsInOrder low high ws → (t : ℕ) → psg_tick * t ≤ low
    → after_tick (history ++ ws) t ≡ after_tick history t
after_tick-before low high history ws o zero h = refl
after_tick-before low high history ws o (suc t) h =
    let earlier : after_tick (history ++ ws) t ≡ after_tick history t = after_tick-before low high history ws o t (omega (arith, h)) in
    let due_now = stamped-before stamp_of (psg_tick * t) (psg_tick * suc t) low high history ws o h in
    λ i. ticked (written_all (due_now i) (earlier i))

-- later writes change no earlier level, and no chip before their first
pub level_at-before : (low high k : ℕ) (history ws : List PsgWrite) → IsInOrder low high ws → fm_sample * k ≤ low
    → level_at (history ++ ws) k ≡ level_at history k
unfolding level_at
level_at-before low high k history ws o h =
    let t = ticks_to (fm_sample * k) in
    let made = stamped-before stamp_of (psg_tick * t) (fm_sample * k) low high history ws o h in
    let ticks = after_tick-before low high history ws o t (omega (arith, h)) in
    λ i. level (written_all (made i) (ticks i))

pub chip_before-before : (low high k : ℕ) (history ws : List PsgWrite) → IsInOrder low high ws → fm_sample * k ≤ low
    → chip_before (history ++ ws) k ≡ chip_before history k
unfolding chip_before
chip_before-before low high k history ws o h =
    let t = ticks_below (fm_sample * k) in
    let made = stamped-before stamp_of (psg_tick * t) (fm_sample * k) low high history ws o h in
    let ticks = after_tick-before low high history ws o t (omega (arith, h)) in
    λ i. written_all (made i) (ticks i)

-- a batch's course, with the writes made that come before a cycle, is the history with the batch's
-- writes as it is heard there
due-heard : (cut high t : ℕ) (history ws : List PsgWrite) (s : Synth)
    → IsInOrder 0 cut history → IsInOrder cut high ws → psg_tick * t ≤ cut → cut ≤ psg_tick * (t + 1) → s ≡ heard history t cut
    → (n cycle : ℕ) → cut ≤ cycle → psg_tick * (t + n) ≤ cycle
    → due cycle (after_ticks t n (record { chip = s; rest = ws })) ≡ record { chip = heard (history ++ ws) (t + n) cycle; rest = filter (is_from stamp_of cycle) ws }
due-heard cut high t history ws s past span h k e zero cycle l m =
    let lists = stamped-over stamp_of (psg_tick * t) cycle cut high history ws past span h l in
    let ticks = after_tick-before cut high history ws span t h in
    let chip : written_all (filter (is_below stamp_of cycle) ws) s ≡ heard (history ++ ws) (t + zero) cycle =
    ap (written_all (filter (is_below stamp_of cycle) ws)) e
    ∙ sym (written_all-append write_made (stamped (psg_tick * t) cut history) (filter (is_below stamp_of cycle) ws) (after_tick history t))
    ∙ (λ i. written_all (sym lists i) (sym ticks i))
    ∙ ap (λ j. heard (history ++ ws) j cycle) (sym (add-zero t)) in
    made_below-in_order stamp_of write_made cycle cut high s ws span ∙ (λ i. record { chip = chip i; rest = filter (is_from stamp_of cycle) ws })
due-heard cut high t history ws s past span h k e (suc n) cycle l m =
    let all = history ++ ws in
    let tick = psg_tick * (t + suc n) in
    let number : t + suc n ≡ suc (t + n) = add-suc t n in
    let reached : cut ≤ tick = omega (arith, k) in
    let before : due tick (after_ticks t n (record { chip = s; rest = ws })) ≡ record { chip = heard all (t + n) tick; rest = filter (is_from stamp_of tick) ws } =
    due-heard cut high t history ws s past span h k e n tick reached (omega arith) in
    let chip : ticked (heard all (t + n) tick) ≡ after_tick all (t + suc n) =
    ap (λ j. ticked (heard all (t + n) (psg_tick * j))) number ∙ ap (after_tick all) (sym number) in
    let made : filter (is_below stamp_of cycle) (filter (is_from stamp_of tick) ws) ≡ stamped tick cycle all =
    filter-filter (is_below stamp_of cycle) (is_from stamp_of tick) ws ∙ sym (stamped-following stamp_of tick cycle 0 cut history ws past reached) in
    let left : filter (is_from stamp_of cycle) (filter (is_from stamp_of tick) ws) ≡ filter (is_from stamp_of cycle) ws =
    filter-later stamp_of tick cycle cut high ws span m in
    ap (λ (d : Course). made_below cycle (ticked d.chip) d.rest) before
    ∙ made_below-in_order stamp_of write_made cycle cut high (ticked (heard all (t + n) tick)) (filter (is_from stamp_of tick) ws) (IsInOrder-filter stamp_of (is_from stamp_of tick) cut high ws span)
    ∙ (λ i. record { chip = written_all (made i) (chip i); rest = left i })

-- ---- the samples of a batch, and the chip after it

sample-heard : (history ws : List PsgWrite) (first k : ℕ) (s : Synth) → Continues history ws first → s ≡ chip_before history first → first ≤ k
    → sample first s ws k ≡ level_at (history ++ ws) k
unfolding sample level_at chip_before
sample-heard history ws first k s h e le =
    let cut = fm_sample * first in
    let t = ticks_below cut in
    let u = ticks_to (fm_sample * k) in
    let number : t + (u - t) ≡ u = omega arith in
    let at = due-heard cut (fm_sample * (first + 16)) t history ws s h.past h.span (omega arith) (omega arith) e (u - t) (fm_sample * k) (omega arith) (omega arith) in
    ap (λ (d : Course). level d.chip) at ∙ ap (λ j. level (heard (history ++ ws) j (fm_sample * k))) number

pub samples-heard : (history ws : List PsgWrite) (first : ℕ) (s : Synth) → Continues history ws first → s ≡ chip_before history first
    → samples first s ws ≡ levels (history ++ ws) first
unfolding samples levels
samples-heard history ws first s h e =
    let each : (k : ℕ) → sample first s ws (first + k) ≡ level_at (history ++ ws) (first + k) =
    λ k. sample-heard history ws first (first + k) s h e (omega arith) in
    λ i. map (λ k. each k i) (range_with_len 0 16)

pub after_batch-heard : (history ws : List PsgWrite) (first : ℕ) (s : Synth) → Continues history ws first → s ≡ chip_before history first
    → after_batch first s ws ≡ chip_before (history ++ ws) (first + 16)
unfolding after_batch chip_before
after_batch-heard history ws first s h e =
    let cut = fm_sample * first in
    let end = fm_sample * (first + 16) in
    let t = ticks_below cut in
    let u = ticks_below end in
    let course = course_to cut s ws u in
    let number : t + (u - t) ≡ u = omega arith in
    let at = due-heard cut end t history ws s h.past h.span (omega arith) (omega arith) e (u - t) end (omega arith) (omega arith) in
    let none : filter (is_from stamp_of end) ws ≡ [] = filter-none stamp_of (is_from stamp_of end) cut end ws h.span (λ v i j. lt-leb end v.key.cycle j) in
    sym (finished-made_below stamp_of write_made end course.chip course.rest) ∙ ap finished at
    ∙ (λ i. written_all (none i) (heard (history ++ ws) (number i) end))

pub IsNextBatch-is : (history ws : List PsgWrite) (first : ℕ) (s after : Synth) (out : List ℤ)
    → after ≡ after_batch first s ws → out ≡ samples first s ws
    → Continues history ws first → s ≡ chip_before history first → IsNextBatch history ws first after out
IsNextBatch-is history ws first s after out p q h e = record {
  out = q ∙ samples-heard history ws first s h e;
  chip = p ∙ after_batch-heard history ws first s h e;
  past = IsInOrder-append stamp_of (fm_sample * first) (fm_sample * (first + 16)) 0 history ws (omega arith) (omega arith) h.past h.span;
}
