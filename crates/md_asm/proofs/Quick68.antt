-- Words of the 68000 with 8 for the number in the first word, and 2 for the displacement of a branch there: they are of
-- the same row.
use Rattle.std.proofs.Common.{◌≡◌, ℕ, ◌/◌, ◌%◌, ◌<◌, ◌==◌, Bool, true, false, List, ◌∷◌, refl, ap, ◌∙◌, sym, arith, Option, Some, None, if◌then◌else◌}
use Rattle.md_word.specs.declared.task.Task.{Task}
use Rattle.m68k_decode.specs.declared.decoded.Decoded.{Decoded}
use Rattle.m68k_decode.specs.declared.displacement.Displacement.{Displacement}
use Rattle.m68k_decode.specs.declared.displacement.Displacement.TheVariants as displacements
use Rattle.m68k_decode.specs.declared.op.Op.{Op}
use Rattle.m68k_decode.specs.declared.op.Op.TheVariants as ops
use Rattle.m68k_decode.specs.Nested.{nested}
use Rattle.m68k_decode.specs.Fields.{condition_of, displacement_of, high_register, low_mode, low_register, quick, size_of}
use Rattle.m68k_decode.specs.Instructions.{instruction_of, made, of_words, picked, unmatched}
use Rattle.m68k_decode.proofs.Table.{decoded_is_picked}
use Rattle.m68k_decode.specs.Rows as rows
use Rattle.m68k_decode.specs.Rows.{Row}
use Rattle.asm_m68k.proofs.FirstWord.{first_again}
use Rattle.asm_m68k.specs.Encoding.{first_word}
use Rattle.md_asm.proofs.First68.{bcc_digit, bra_digit, branch_row, bsr_digit, equal, high_low, high_with, low_low, low_number, low_other, low_register_stays, low_with, made_again, made_is, moveq_row, quick_digit, quick_is, quick_row, same_kind, same_left, same_register, same_size, shift_digit, shift_row, trap_row, upper_stays}

abbrev pub displacement8 : Displacement → Displacement
displacement8 (displacements.Byte by) = displacements.Byte 2
displacement8 (displacements.Word by) = displacements.Word by

-- 8 for the number in the first word
abbrev pub op8 : Op → Op
op8 (ops.Quick own size n mode) = ops.Quick own size 8 mode
op8 (ops.Trap n) = ops.Trap 8
op8 (ops.Moveq n value) = ops.Moveq n 8
op8 (ops.ShiftByNumber own size n r) = ops.ShiftByNumber own size 8 r
op8 (ops.Bra displacement) = ops.Bra (displacement8 displacement)
op8 (ops.Bsr displacement) = ops.Bsr (displacement8 displacement)
op8 (ops.Bcc condition displacement) = ops.Bcc condition (displacement8 displacement)
op8 op = op

abbrev pub decoded8 : Decoded → Decoded
decoded8 d = record { op = op8 d.op; length = d.length }

-- the first word with it
abbrev pub word8 : List ℕ → ℕ → ℕ
word8 tail w = first_word (op8 (picked (nested w) (w ∷ tail)).op)

-- a word with 8 for its number is one of the same row, and decodes to the instruction with 8
pub record IsChanged (w : ℕ) (tail : List ℕ) : Type 0 where
  pub low : word8 tail w < 65536
  pub row : nested (word8 tail w) ≡ nested w
  pub is : instruction_of (word8 tail w ∷ tail) ≡ decoded8 (instruction_of (w ∷ tail))

-- ---- what the other word of a row decodes to

quick_made : (own : Task) (v w : ℕ) (tail : List ℕ) → v / 64 % 4 ≡ w / 64 % 4 → quick (v ∷ tail) ≡ 8
    → low_mode (size_of (w ∷ tail)) 1 (v ∷ tail) ≡ low_mode (size_of (w ∷ tail)) 1 (w ∷ tail)
    → made (rows.Quick own) (v ∷ tail) ≡ decoded8 (made (rows.Quick own) (w ∷ tail))
unfolding made size_of
quick_made own v w tail size number mode = rw (size, number, mode) refl

shift_made : (v w : ℕ) (tail : List ℕ) → v / 64 % 4 ≡ w / 64 % 4 → v / 8 % 4 ≡ w / 8 % 4 → v / 256 % 2 ≡ w / 256 % 2 → v % 8 ≡ w % 8 → quick (v ∷ tail) ≡ 8
    → made rows.ShiftByNumber (v ∷ tail) ≡ decoded8 (made rows.ShiftByNumber (w ∷ tail))
unfolding made size_of low_register
shift_made v w tail size kind left register number = rw (size, kind, left, register, number) refl

moveq_made : (v w : ℕ) (tail : List ℕ) → v / 512 % 8 ≡ w / 512 % 8 → v % 256 ≡ 8 → made rows.Moveq (v ∷ tail) ≡ decoded8 (made rows.Moveq (w ∷ tail))
unfolding made high_register
moveq_made v w tail register number = rw (register, number) refl

-- the number in bits 11 to 9 is that of its eights
number_by : (n : ℕ) (b : Bool) → (n == 0) ≡ b → n < 8 → (if b then 8 else n) % 8 ≡ n
number_by n true is low = let e = equal n 0 is in omega (arith, e)
number_by n false is low = omega arith

number_of : (w : ℕ) (tail : List ℕ) → quick (w ∷ tail) % 8 ≡ w / 512 % 8
unfolding quick high_register
number_of w tail = number_by (w / 512 % 8) (w / 512 % 8 == 0) refl (omega arith)

-- a branch whose displacement is in the first word, or after it
near : (w : ℕ) (tail : List ℕ) → (w % 256 == 0) ≡ false → displacement_of (w ∷ tail) ≡ displacements.Byte (w % 256)
unfolding displacement_of
near w tail h = rw h refl

far : (w : ℕ) (tail : List ℕ) → (w % 256 == 0) ≡ true → displacement8 (displacement_of (w ∷ tail)) ≡ displacement_of (w ∷ tail)
unfolding displacement_of
far w tail h = rw h refl

condition_stays : (v w : ℕ) (tail : List ℕ) → v / 256 ≡ w / 256 → condition_of (v ∷ tail) ≡ condition_of (w ∷ tail)
unfolding condition_of
condition_stays v w tail h = rw h refl

module _ (w : ℕ) (tail : List ℕ) (below : w < 65536) where
  -- where there is no such number the word stays
  stays : op8 (picked (nested w) (w ∷ tail)).op ≡ (picked (nested w) (w ∷ tail)).op → IsChanged w tail
  stays same =
      let own : (picked (nested w) (w ∷ tail)) ≡ instruction_of (w ∷ tail) = sym (decoded_is_picked (w ∷ tail) below) in
      let again : first_word (picked (nested w) (w ∷ tail)).op ≡ w = rw own (first_again w tail below) in
      let word : word8 tail w ≡ w = ap first_word same ∙ again in
      let kept : decoded8 (instruction_of (w ∷ tail)) ≡ instruction_of (w ∷ tail) =
      rw (← own) (ap (λ (op : Op). record { op = op; length = (picked (nested w) (w ∷ tail)).length }) same) in
      record { low = rw word below; row = rw word refl; is = rw word (sym kept) }

  -- another word of the row
  other : (row : Row) (v : ℕ) → nested w ≡ Some row → v < 65536 → nested v ≡ Some row → first_word (op8 (made row (w ∷ tail)).op) ≡ v
      → made row (v ∷ tail) ≡ decoded8 (made row (w ∷ tail)) → IsChanged w tail
  other row v is low there first decoded =
      let word : word8 tail w ≡ v = ap (λ (found : Option Row). first_word (op8 (picked found (w ∷ tail)).op)) is ∙ first in
      record {
        low = rw word low;
        row = rw word (there ∙ sym is);
        is = rw word (made_is row v tail low there ∙ decoded ∙ ap decoded8 (sym (made_is row w tail below is)));
      }

  quick_changed : (own : Task) → nested w ≡ Some (rows.Quick own) → IsChanged w tail
  unfolding made first_word
  quick_changed own is =
      let again = made_again (rows.Quick own) w tail below is in
      let digit = quick_digit own w below is in
      other (rows.Quick own) (high_with 8 w) is (high_low 8 w below) (quick_row own 8 w below is) (omega (arith, again, digit, number_of w tail))
      (quick_made own (high_with 8 w) w tail (same_size 8 w below) (quick_is 8 w tail below (omega arith) (omega arith)) (low_other (size_of (w ∷ tail)) 8 w tail below))

  shift_changed : nested w ≡ Some rows.ShiftByNumber → IsChanged w tail
  unfolding made first_word
  shift_changed is =
      let again = made_again rows.ShiftByNumber w tail below is in
      let digit = shift_digit w below is in
      other rows.ShiftByNumber (high_with 8 w) is (high_low 8 w below) (shift_row 8 w below is) (omega (arith, again, digit, number_of w tail))
      (shift_made (high_with 8 w) w tail (same_size 8 w below) (same_kind 8 w below) (same_left 8 w below) (same_register 8 w below) (quick_is 8 w tail below (omega arith) (omega arith)))

  moveq_changed : nested w ≡ Some rows.Moveq → IsChanged w tail
  unfolding made first_word high_register
  moveq_changed is =
      let again = made_again rows.Moveq w tail below is in
      other rows.Moveq (low_with 8 w) is (low_low 8 w below (omega arith)) (moveq_row 8 w below (omega arith) is) (omega (arith, again))
      (moveq_made (low_with 8 w) w tail (low_register_stays 8 w (omega arith)) (low_number 8 w (omega arith)))

  trap_changed : nested w ≡ Some rows.Trap → IsChanged w tail
  unfolding made first_word
  trap_changed is = other rows.Trap 0x4e48 is (omega arith) (trap_row 8 (omega arith)) refl refl

  bra_changed : (b : Bool) → (w % 256 == 0) ≡ b → nested w ≡ Some rows.Bra → IsChanged w tail
  unfolding made first_word
  bra_changed true h is = stays (rw (is, far w tail h) refl)
  bra_changed false h is =
      let again = made_again rows.Bra w tail below is in
      let own = near w tail h in
      let new = near (low_with 2 w) tail (rw (low_number 2 w (omega arith)) refl) in
      other rows.Bra (low_with 2 w) is (low_low 2 w below (omega arith)) (branch_row rows.Bra 2 w (omega arith) (bra_digit w below is) is)
      (rw own (let e = rw own at again in omega (arith, e))) (rw (own, new, low_number 2 w (omega arith)) refl)

  bsr_changed : (b : Bool) → (w % 256 == 0) ≡ b → nested w ≡ Some rows.Bsr → IsChanged w tail
  unfolding made first_word
  bsr_changed true h is = stays (rw (is, far w tail h) refl)
  bsr_changed false h is =
      let again = made_again rows.Bsr w tail below is in
      let own = near w tail h in
      let new = near (low_with 2 w) tail (rw (low_number 2 w (omega arith)) refl) in
      other rows.Bsr (low_with 2 w) is (low_low 2 w below (omega arith)) (branch_row rows.Bsr 2 w (omega arith) (bsr_digit w below is) is)
      (rw own (let e = rw own at again in omega (arith, e))) (rw (own, new, low_number 2 w (omega arith)) refl)

  bcc_changed : (b : Bool) → (w % 256 == 0) ≡ b → nested w ≡ Some rows.Bcc → IsChanged w tail
  unfolding made first_word
  bcc_changed true h is = stays (rw (is, far w tail h) refl)
  bcc_changed false h is =
      let again = made_again rows.Bcc w tail below is in
      let own = near w tail h in
      let new = near (low_with 2 w) tail (rw (low_number 2 w (omega arith)) refl) in
      other rows.Bcc (low_with 2 w) is (low_low 2 w below (omega arith)) (branch_row rows.Bcc 2 w (omega arith) (bcc_digit w below is) is)
      (rw own (let e = rw own at again in omega (arith, e)))
      (rw (own, new, low_number 2 w (omega arith), condition_stays (low_with 2 w) w tail (upper_stays 2 w (omega arith))) refl)

  -- what is no instruction
  none_same : (a b : Bool) → op8 (if a then of_words 1 (ops.LineA w) else (if b then of_words 1 (ops.LineF w) else of_words 1 (ops.Illegal w))).op
      ≡ (if a then of_words 1 (ops.LineA w) else (if b then of_words 1 (ops.LineF w) else of_words 1 (ops.Illegal w))).op
  none_same true b = refl
  none_same false true = refl
  none_same false false = refl

  unmatched_same : op8 (unmatched (w ∷ tail)).op ≡ (unmatched (w ∷ tail)).op
  unfolding unmatched
  unmatched_same = none_same (w / 4096 == 10) (w / 4096 == 15)

  changed_by : (found : Option Row) → nested w ≡ found → IsChanged w tail
  unfolding made
  changed_by None is = stays (rw is unmatched_same)
  changed_by (Some (rows.Quick own)) is = quick_changed own is
  changed_by (Some rows.ShiftByNumber) is = shift_changed is
  changed_by (Some rows.Moveq) is = moveq_changed is
  changed_by (Some rows.Trap) is = trap_changed is
  changed_by (Some rows.Bra) is = bra_changed (w % 256 == 0) refl is
  changed_by (Some rows.Bsr) is = bsr_changed (w % 256 == 0) refl is
  changed_by (Some rows.Bcc) is = bcc_changed (w % 256 == 0) refl is
  changed_by (Some row) is = stays (rw is refl)

pub all_changed : (w : ℕ) (tail : List ℕ) → w < 65536 → IsChanged w tail
all_changed w tail below = changed_by w tail below (nested w) refl
