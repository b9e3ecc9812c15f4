-- Batches one after another are the samples over the whole history.
use Rattle.std.proofs.Common.{◌≡◌, ◌∙◌, refl, sym, ap, ℕ, zero, suc, ◌+◌, ◌*◌, ◌≤◌, List, [], ◌++◌, map, filter, ℤ, add-suc, arith}
use Rattle.std.specs.List.{range_with_len}
use Rattle.std.proofs.lemmas.Bool.{le-ltb, lt-leb}
use Rattle.md_word.specs.Clock.{fm_sample}
use Rattle.sound_writes.specs.Order.{is_below, is_from}
use Rattle.sound_writes.proofs.Courses.{finished-made_below}
use Rattle.sound_writes.proofs.Filters.{filter-none, filter-filter, filter-later, stamped-before, stamped-following}
use Rattle.sound_writes.proofs.Orders.{IsInOrder-append, IsInOrder-filter}
use Rattle.sound_writes.proofs.Splits.{made_below-in_order}
use Rattle.fm_port.specs.declared.write.FmWrite.{FmWrite}
use Rattle.fm_port.specs.Stamp.{stamp_of}
use Rattle.fm_port.specs.Port.{IsInOrder}
use Rattle.fm_chip.specs.Synth.{Synth, written, sampled, sides}
use Rattle.fm_chip.specs.Batches.{Course, written_all, made_below, due, course_after, sample, samples, after_batch}
use Rattle.fm_chip.specs.History.{stamped, chip_before, sides_at, Continues, sixteen, IsNextBatch}

-- later writes change no chip before them
pub chip_before-before : (low high : ℕ) (history ws : List FmWrite) → IsInOrder low high ws → (k : ℕ) → fm_sample * k ≤ low
    → chip_before (history ++ ws) k ≡ chip_before history k
unfolding chip_before
chip_before-before low high history ws o zero h = refl
chip_before-before low high history ws o (suc k) h =
    let earlier : chip_before (history ++ ws) k ≡ chip_before history k = chip_before-before low high history ws o k (omega (arith, h)) in
    let now = stamped-before stamp_of (fm_sample * k) (fm_sample * suc k) low high history ws o h in
    λ i. written_all (now i) (sampled k (earlier i))

next_chip : (history ws : List FmWrite) (k : ℕ)
    → written_all (stamped (fm_sample * k) (fm_sample * suc k) (history ++ ws)) (sampled k (chip_before (history ++ ws) k)) ≡ chip_before (history ++ ws) (suc k)
unfolding chip_before
next_chip history ws k = refl

-- a batch's course at a sample is the history with the batch's writes as it is heard there
due-heard : (history ws : List FmWrite) (first : ℕ) (s : Synth) → Continues history ws first → s ≡ chip_before history first → (n : ℕ)
    → due (first + n) (course_after first s ws n) ≡ record { chip = chip_before (history ++ ws) (first + n); rest = filter (is_from stamp_of (fm_sample * (first + n))) ws }
unfolding course_after
due-heard history ws first s h e zero =
    let cut = fm_sample * first in
    let high = fm_sample * (first + 16) in
    let number : first + zero ≡ first = omega arith in
    let none : filter (is_below stamp_of cut) ws ≡ [] = filter-none stamp_of (is_below stamp_of cut) cut high ws h.span (λ v i j. le-ltb v.key.cycle cut i) in
    let chip : s ≡ chip_before (history ++ ws) first = e ∙ sym (chip_before-before cut high history ws h.span first (omega arith)) in
    let at : due first (record { chip = s; rest = ws }) ≡ record { chip = chip_before (history ++ ws) first; rest = filter (is_from stamp_of cut) ws } =
    made_below-in_order stamp_of written cut cut high s ws h.span ∙ (λ i. record { chip = written_all (none i) (chip i); rest = filter (is_from stamp_of cut) ws }) in
    rw number at
due-heard history ws first s h e (suc n) =
    let all = history ++ ws in
    let cut = fm_sample * first in
    let high = fm_sample * (first + 16) in
    let low = fm_sample * (first + n) in
    let next = fm_sample * suc (first + n) in
    let number : first + suc n ≡ suc (first + n) = add-suc first n in
    let before = due-heard history ws first s h e n in
    let made : filter (is_below stamp_of next) (filter (is_from stamp_of low) ws) ≡ stamped low next all =
    filter-filter (is_below stamp_of next) (is_from stamp_of low) ws ∙ sym (stamped-following stamp_of low next 0 cut history ws h.past (omega arith)) in
    let left : filter (is_from stamp_of next) (filter (is_from stamp_of low) ws) ≡ filter (is_from stamp_of next) ws =
    filter-later stamp_of low next cut high ws h.span (omega arith) in
    let at : made_below next (sampled (first + n) (chip_before all (first + n))) (filter (is_from stamp_of low) ws)
    ≡ record { chip = chip_before all (suc (first + n)); rest = filter (is_from stamp_of next) ws } =
    made_below-in_order stamp_of written next cut high (sampled (first + n) (chip_before all (first + n))) (filter (is_from stamp_of low) ws) (IsInOrder-filter stamp_of (is_from stamp_of low) cut high ws h.span)
    ∙ (λ i. record { chip = written_all (made i) (sampled (first + n) (chip_before all (first + n))); rest = left i })
    ∙ (λ i. record { chip = next_chip history ws (first + n) i; rest = filter (is_from stamp_of next) ws }) in
    rw number (ap (λ (c : Course). made_below next (sampled (first + n) c.chip) c.rest) before ∙ at)

-- ---- the samples of a batch, and the chip after it

sample-heard : (history ws : List FmWrite) (first n : ℕ) (s : Synth) → Continues history ws first → s ≡ chip_before history first
    → sample first s ws n ≡ sides_at (history ++ ws) (first + n)
unfolding sample sides_at
sample-heard history ws first n s h e = ap (λ (c : Course). sides (first + n) c.chip) (due-heard history ws first s h e n)

samples-heard : (history ws : List FmWrite) (first : ℕ) (s : Synth) → Continues history ws first → s ≡ chip_before history first
    → samples first s ws ≡ sixteen (history ++ ws) first
unfolding samples sixteen
samples-heard history ws first s h e =
    let each : (n : ℕ) → sample first s ws n ≡ sides_at (history ++ ws) (first + n) = λ n. sample-heard history ws first n s h e in
    λ i. map (λ n. each n i) (range_with_len 0 16)

after_batch-heard : (history ws : List FmWrite) (first : ℕ) (s : Synth) → Continues history ws first → s ≡ chip_before history first
    → after_batch first s ws ≡ chip_before (history ++ ws) (first + 16)
unfolding after_batch
after_batch-heard history ws first s h e =
    let end = fm_sample * (first + 16) in
    let cut = fm_sample * first in
    let c = course_after first s ws 16 in
    let none : filter (is_from stamp_of end) ws ≡ [] = filter-none stamp_of (is_from stamp_of end) cut end ws h.span (λ v i j. lt-leb end v.key.cycle j) in
    sym (finished-made_below stamp_of written end c.chip c.rest)
    ∙ ap (λ (d : Course). written_all d.rest d.chip) (due-heard history ws first s h e 16)
    ∙ ap (λ r. written_all r (chip_before (history ++ ws) (first + 16))) none

pub IsNextBatch-is : (history ws : List FmWrite) (first : ℕ) (s after : Synth) (out : List (ℤ × ℤ))
    → after ≡ after_batch first s ws → out ≡ samples first s ws
    → Continues history ws first → s ≡ chip_before history first → IsNextBatch history ws first after out
IsNextBatch-is history ws first s after out p q h e = record {
  out = q ∙ samples-heard history ws first s h e;
  chip = p ∙ after_batch-heard history ws first s h e;
  past = IsInOrder-append stamp_of (fm_sample * first) (fm_sample * (first + 16)) 0 history ws (omega arith) (omega arith) h.past h.span;
}
