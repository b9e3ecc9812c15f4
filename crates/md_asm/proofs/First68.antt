-- Words of the 68000 with another number in the first word: they are of the same row.
use Rattle.std.proofs.Common.{◌≡◌, inl, inr, ℕ, ◌+◌, ◌*◌, ◌/◌, ◌%◌, ◌<◌, ◌≤◌, ◌==◌, Bool, true, false, List, [], ◌∷◌, map, refl, ap, ◌∙◌, sym, arith, Option, Some, if◌then◌else◌}
use Rattle.std.proofs.lemmas.Bool.{cases_lt}
use Rattle.std.proofs.lemmas.Bool.Decides.{nat_tests}
use Rattle.std.specs.Prelude.{slice_index}
use Rattle.md_word.proofs.Agree.{range, same_at}
use Rattle.md_word.specs.Fields.{bit_of}
use Rattle.md_word.specs.declared.mode.Mode.{Mode}
use Rattle.md_word.specs.declared.size.Size.{Size}
use Rattle.md_word.specs.declared.size.Size.TheVariants.{Byte, Word, Long}
use Rattle.md_word.specs.declared.task.Task.{Task}
use Rattle.md_word.specs.declared.task.Task.TheVariants as tasks
use Rattle.m68k_decode.proofs.Table.{decoded_is_picked}
use Rattle.m68k_decode.specs.Fields.{condition_of, displacement_of, high_register, low_mode, low_register, mode_of, number_at, quick, shift_of, size_of}
use Rattle.m68k_decode.specs.Instructions.{instruction_of, made, picked}
use Rattle.m68k_decode.specs.Nested.{nested, when, controls, group_4, group_4e, group_5, group_6, group_7, group_e}
use Rattle.m68k_decode.specs.Rows as rows
use Rattle.m68k_decode.specs.Rows.{Row}
use Rattle.m68k_decode.specs.declared.condition.Condition.{Condition}
use Rattle.m68k_decode.specs.declared.condition.Condition.TheVariants as conditions
use Rattle.m68k_decode.specs.declared.decoded.Decoded.{Decoded}
use Rattle.m68k_decode.specs.declared.displacement.Displacement.TheVariants as displacements
use Rattle.asm_m68k.proofs.FirstWord.{first_again}
use Rattle.asm_m68k.specs.Encoding.{condition_code, displacement_code, first_word, mode_code, quick_code, size_code, task_code}

-- the word with another number in bits 11 to 9, and with another in bits 7 to 0
abbrev pub high_with : ℕ → ℕ → ℕ
high_with n w = w / 4096 * 4096 + w % 512 + n % 8 * 512

abbrev pub low_with : ℕ → ℕ → ℕ
low_with n w = w / 256 * 256 + n

pub high_low : (n w : ℕ) → w < 65536 → high_with n w < 65536
high_low n w h = omega arith

pub low_low : (n w : ℕ) → w < 65536 → n < 256 → low_with n w < 65536
low_low n w h k = omega arith

-- ---- what stays in such a word

pub equal : (a b : ℕ) → (a == b) ≡ true → a ≡ b
equal a b h = grind (arith, nat_tests)

pub differ : (a b : ℕ) → (a == b) ≡ false → a ≡ b → ⊥
differ a b h same = grind (arith, nat_tests)

pub high_number : (n w : ℕ) → w < 65536 → high_with n w / 512 % 8 ≡ n % 8
high_number n w h = omega arith

quick_low : (n : ℕ) → 1 ≤ n → n ≤ 8 → (n % 8 ≡ 0 → ⊥) → n % 8 ≡ n
quick_low n low high none = elim (cases_lt n 8) [
  | inl less ↦ omega arith
  | inr more ↦ absurd (none (omega arith))
]

quick_by : (n : ℕ) (b : Bool) → (n % 8 == 0) ≡ b → 1 ≤ n → n ≤ 8 → (if b then 8 else n % 8) ≡ n
quick_by n true is low high = let e = equal (n % 8) 0 is in omega (arith, e)
quick_by n false is low high = quick_low n low high (differ (n % 8) 0 is)

pub quick_is : (n w : ℕ) (tail : List ℕ) → w < 65536 → 1 ≤ n → n ≤ 8 → quick (high_with n w ∷ tail) ≡ n
unfolding quick high_register
quick_is n w tail h low high = rw (high_number n w h) (quick_by n (n % 8 == 0) refl low high)

pub same_size : (n w : ℕ) → w < 65536 → high_with n w / 64 % 4 ≡ w / 64 % 4
same_size n w h = omega arith

pub same_mode : (n w : ℕ) → w < 65536 → high_with n w / 8 % 8 ≡ w / 8 % 8
same_mode n w h = omega arith

pub same_register : (n w : ℕ) → w < 65536 → high_with n w % 8 ≡ w % 8
same_register n w h = omega arith

pub same_kind : (n w : ℕ) → w < 65536 → high_with n w / 8 % 4 ≡ w / 8 % 4
same_kind n w h = omega arith

pub same_left : (n w : ℕ) → w < 65536 → high_with n w / 256 % 2 ≡ w / 256 % 2
same_left n w h = omega arith

same_way : (n w : ℕ) → w < 65536 → high_with n w / 32 % 2 ≡ w / 32 % 2
same_way n w h = omega arith

same_digit : (n w : ℕ) → w < 65536 → high_with n w / 4096 ≡ w / 4096
same_digit n w h = omega arith

pub low_number : (n w : ℕ) → n < 256 → low_with n w % 256 ≡ n
low_number n w k = omega arith

pub low_register_stays : (n w : ℕ) → n < 256 → low_with n w / 512 % 8 ≡ w / 512 % 8
low_register_stays n w k = omega arith

pub upper_stays : (n w : ℕ) → n < 256 → low_with n w / 256 ≡ w / 256
upper_stays n w k = omega arith

low_digit : (n w : ℕ) → n < 256 → low_with n w / 4096 ≡ w / 4096
low_digit n w k = omega arith

-- the mode of a word with other bits 11 to 9, from the same words after it
one_other : (m r : ℕ) (size : Size) (v w : ℕ) (tail : List ℕ) → mode_of m r size 1 (v ∷ tail) ≡ mode_of m r size 1 (w ∷ tail)
unfolding mode_of number_at
one_other m r Byte v w tail = refl
one_other m r Word v w tail = refl
one_other m r Long v w tail = refl

pub low_other : (size : Size) (n w : ℕ) (tail : List ℕ) → w < 65536 → low_mode size 1 (high_with n w ∷ tail) ≡ low_mode size 1 (w ∷ tail)
unfolding low_mode
low_other size n w tail h = rw (same_mode n w h, same_register n w h) (one_other (w / 8 % 8) (w % 8) size (high_with n w) w tail)

-- ---- the first digit of a row, by the word that is written for what it decodes to

pub made_is : (row : Row) (w : ℕ) (tail : List ℕ) → w < 65536 → nested w ≡ Some row → instruction_of (w ∷ tail) ≡ made row (w ∷ tail)
made_is row w tail low is = decoded_is_picked (w ∷ tail) low ∙ ap (λ (r : Option Row). picked r (w ∷ tail)) is

pub made_again : (row : Row) (w : ℕ) (tail : List ℕ) → w < 65536 → nested w ≡ Some row → first_word (made row (w ∷ tail)).op ≡ w
made_again row w tail h is =
    ap (λ (d : Decoded). first_word d.op) (sym (made_is row w tail h is)) ∙ first_again w tail h

size_low : (size : Size) → size_code size < 3
size_low Byte = omega arith
size_low Word = omega arith
size_low Long = omega arith

quick_code_low : (task : Task) → quick_code task < 2
quick_code_low tasks.Sub = omega arith
quick_code_low _ = omega arith

either_mode : (b : Bool) (x y : Mode) → mode_code x < 64 → mode_code y < 64 → mode_code (if b then x else y) < 64
either_mode true x y h k = h
either_mode false x y h k = k

mode_of_low : (m r : ℕ) (size : Size) (k : ℕ) (words : List ℕ) → r < 8 → mode_code (mode_of m r size k words) < 64
unfolding mode_of
mode_of_low m r size k words h =
    either_mode (m == 0) _ _ (omega arith) (either_mode (m == 1) _ _ (omega arith) (either_mode (m == 2) _ _ (omega arith)
    (either_mode (m == 3) _ _ (omega arith) (either_mode (m == 4) _ _ (omega arith) (either_mode (m == 5) _ _ (omega arith)
    (either_mode (m == 6) _ _ (omega arith) (either_mode (r == 0) _ _ (omega arith) (either_mode (r == 1) _ _ (omega arith)
    (either_mode (r == 2) _ _ (omega arith) (either_mode (r == 3) _ _ (omega arith) (omega arith)))))))))))

mode_low : (size : Size) (w : ℕ) (tail : List ℕ) → mode_code (low_mode size 1 (w ∷ tail)) < 64
unfolding low_mode
mode_low size w tail = mode_of_low (w / 8 % 8) (w % 8) size 1 (w ∷ tail) (omega arith)

either_task : (b : Bool) (x y : Task) → task_code x < 8 → task_code y < 8 → task_code (if b then x else y) < 8
either_task true x y h k = h
either_task false x y h k = k

shift_low : (kind : ℕ) (left : Bool) → task_code (shift_of kind left) < 8
unfolding shift_of
shift_low kind left =
    either_task (kind == 0) _ _ (either_task left _ _ (omega arith) (omega arith))
    (either_task (kind == 1) _ _ (either_task left _ _ (omega arith) (omega arith))
    (either_task (kind == 2) _ _ (either_task left _ _ (omega arith) (omega arith)) (either_task left _ _ (omega arith) (omega arith))))

pub condition_low : (condition : Condition) → condition_code condition < 16
condition_low conditions.True = omega arith
condition_low conditions.False = omega arith
condition_low conditions.High = omega arith
condition_low conditions.LowOrSame = omega arith
condition_low conditions.CarryClear = omega arith
condition_low conditions.CarrySet = omega arith
condition_low conditions.NotEqual = omega arith
condition_low conditions.Equal = omega arith
condition_low conditions.OverflowClear = omega arith
condition_low conditions.OverflowSet = omega arith
condition_low conditions.Plus = omega arith
condition_low conditions.Minus = omega arith
condition_low conditions.GreaterOrEqual = omega arith
condition_low conditions.LessThan = omega arith
condition_low conditions.GreaterThan = omega arith
condition_low conditions.LessOrEqual = omega arith

pub quick_digit : (own : Task) (w : ℕ) → w < 65536 → nested w ≡ Some (rows.Quick own) → w / 4096 ≡ 5
unfolding made first_word
quick_digit own w h is =
    let e = made_again (rows.Quick own) w [] h is in
    omega (arith, e, size_low (size_of (w ∷ [])), quick_code_low own, mode_low (size_of (w ∷ [])) w [])

pub shift_digit : (w : ℕ) → w < 65536 → nested w ≡ Some rows.ShiftByNumber → w / 4096 ≡ 14
unfolding made first_word low_register
shift_digit w h is =
    let e = made_again rows.ShiftByNumber w [] h is in
    omega (arith, e, size_low (size_of (w ∷ [])), shift_low (w / 8 % 4) (bit_of w 256))

pub moveq_digit : (w : ℕ) → w < 65536 → nested w ≡ Some rows.Moveq → (w / 4096 ≡ 7) × (w / 256 % 2 ≡ 0)
unfolding made first_word high_register
moveq_digit w h is = let e = made_again rows.Moveq w [] h is in (omega (arith, e), omega (arith, e))

low_of : (w : ℕ) (tail : List ℕ) → displacement_code (displacement_of (w ∷ tail)) < 256
unfolding displacement_of
low_of w tail = by (w % 256 == 0)
  where
    by : (b : Bool) → displacement_code (if b then displacements.Word (slice_index (w ∷ tail) 1) else displacements.Byte (w % 256)) < 256
    by true = omega arith
    by false = omega arith

pub bra_digit : (w : ℕ) → w < 65536 → nested w ≡ Some rows.Bra → w / 4096 ≡ 6
unfolding made first_word
bra_digit w h is = let e = made_again rows.Bra w [] h is in omega (arith, e, low_of w [])

pub bsr_digit : (w : ℕ) → w < 65536 → nested w ≡ Some rows.Bsr → w / 4096 ≡ 6
unfolding made first_word
bsr_digit w h is = let e = made_again rows.Bsr w [] h is in omega (arith, e, low_of w [])

pub bcc_digit : (w : ℕ) → w < 65536 → nested w ≡ Some rows.Bcc → w / 4096 ≡ 6
unfolding made first_word
bcc_digit w h is = let e = made_again rows.Bcc w [] h is in omega (arith, e, low_of w [], condition_low (condition_of (w ∷ [])))

-- ---- the row by the digit

row_5 : (w : ℕ) → w / 4096 ≡ 5 → nested w ≡ group_5 w
unfolding nested
row_5 w h = rw h refl

row_6 : (w : ℕ) → w / 4096 ≡ 6 → nested w ≡ group_6 w
unfolding nested
row_6 w h = rw h refl

row_7 : (w : ℕ) → w / 4096 ≡ 7 → nested w ≡ group_7 w
unfolding nested
row_7 w h = rw h refl

row_e : (w : ℕ) → w / 4096 ≡ 14 → nested w ≡ group_e w
unfolding nested
row_e w h = rw h refl

group_5_same : (n w : ℕ) → w < 65536 → group_5 (high_with n w) ≡ group_5 w
unfolding group_5
group_5_same n w h = rw (same_size n w h, same_mode n w h, same_register n w h, same_left n w h) refl

pub quick_row : (own : Task) (n w : ℕ) → w < 65536 → nested w ≡ Some (rows.Quick own) → nested (high_with n w) ≡ Some (rows.Quick own)
quick_row own n w h is =
    let digit = quick_digit own w h is in
    row_5 (high_with n w) (same_digit n w h ∙ digit) ∙ group_5_same n w h ∙ sym (row_5 w digit) ∙ is

-- a shift of memory has its kind there
shift_by : (a b c d e : Bool) → a ≡ b → e ≡ d → (if b then when c rows.ShiftMemory else (if d then Some rows.ShiftByNumber else Some rows.ShiftByRegister)) ≡ Some rows.ShiftByNumber
    → (f : Bool) → (if a then when f rows.ShiftMemory else (if e then Some rows.ShiftByNumber else Some rows.ShiftByRegister)) ≡ Some rows.ShiftByNumber
shift_by a true true d e same other is f = cc
shift_by a true false d e same other is f = cc
shift_by a false c true e same other is f = rw (same, other) refl
shift_by a false c false e same other is f = cc

group_e_same : (n w : ℕ) → w < 65536 → group_e w ≡ Some rows.ShiftByNumber → group_e (high_with n w) ≡ Some rows.ShiftByNumber
unfolding group_e
group_e_same n w h is =
    shift_by (high_with n w / 64 % 4 == 3) (w / 64 % 4 == 3) _ (w / 32 % 2 == 0) (high_with n w / 32 % 2 == 0)
    (ap (λ (k : ℕ). k == 3) (same_size n w h)) (ap (λ (k : ℕ). k == 0) (same_way n w h)) is _

pub shift_row : (n w : ℕ) → w < 65536 → nested w ≡ Some rows.ShiftByNumber → nested (high_with n w) ≡ Some rows.ShiftByNumber
shift_row n w h is =
    let digit = shift_digit w h is in
    row_e (high_with n w) (same_digit n w h ∙ digit) ∙ group_e_same n w h (sym (row_e w digit) ∙ is)

group_7_is : (v : ℕ) → v / 256 % 2 ≡ 0 → group_7 v ≡ Some rows.Moveq
unfolding group_7
group_7_is v h = rw h refl

pub moveq_row : (n w : ℕ) → w < 65536 → n < 256 → nested w ≡ Some rows.Moveq → nested (low_with n w) ≡ Some rows.Moveq
moveq_row n w h k is =
    let of = moveq_digit w h is in
    row_7 (low_with n w) (low_digit n w k ∙ of.0) ∙ group_7_is (low_with n w) (rw (upper_stays n w k) of.1)

group_6_same : (n w : ℕ) → n < 256 → group_6 (low_with n w) ≡ group_6 w
unfolding group_6
group_6_same n w k = rw (upper_stays n w k) refl

pub branch_row : (row : Row) (n w : ℕ) → n < 256 → w / 4096 ≡ 6 → nested w ≡ Some row → nested (low_with n w) ≡ Some row
branch_row row n w k digit is = row_6 (low_with n w) (low_digit n w k ∙ digit) ∙ group_6_same n w k ∙ sym (row_6 w digit) ∙ is

-- the sixteen words of TRAP
trap_rows : map (λ n. nested (0x4e40 + n)) (range 16 0) ≡ map (λ n. Some rows.Trap) (range 16 0)
unfolding range nested group_4 group_4e controls
trap_rows = refl

pub trap_row : (n : ℕ) → n < 16 → nested (0x4e40 + n) ≡ Some rows.Trap
trap_row n h = same_at (λ n. nested (0x4e40 + n)) (λ n. Some rows.Trap) 16 0 trap_rows n (omega arith) (omega arith)
