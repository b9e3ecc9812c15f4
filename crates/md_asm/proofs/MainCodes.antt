-- The words of what words of the 68000 decode to are as many as it takes, and none is greater than the word that
-- is in its place: bits that the processor does not look at are 0.
use Rattle.std.proofs.Common.{◌≡◌, ℕ, zero, suc, ◌+◌, ◌*◌, ◌/◌, ◌%◌, ◌<◌, ◌≤◌, ◌==◌, Bool, true, false, List, [], ◌∷◌, ◌++◌, length, Option, Some, None, length-append, refl, ap, sym, subst, arith, add-one}
use Rattle.std.specs.Prelude.{slice_index}
use Rattle.std.proofs.lemmas.Bool.Decides.{nat_tests}
use Rattle.md_word.specs.Fields.{bit_of}
use Rattle.md_word.specs.declared.size.Size.{Size}
use Rattle.md_word.specs.declared.size.Size.TheVariants.{Byte, Word, Long}
use Rattle.m68k_decode.specs.declared.decoded.Decoded.{Decoded}
use Rattle.m68k_decode.specs.Fields.{opcode, size_of, word_or_long, number_at, words_of_number, mode_of, words_of_mode, low_mode, high_mode, displacement_of, words_of_displacement}
use Rattle.m68k_decode.specs.Instructions.{made, unmatched, instruction_of, picked}
use Rattle.m68k_decode.specs.Nested.{nested}
use Rattle.m68k_decode.specs.Rows as rows
use Rattle.m68k_decode.specs.Rows.{Row}
use Rattle.m68k_decode.proofs.Table.{decoded_is_picked}
use Rattle.asm_m68k.specs.Encoding.{brief, displacement_words, encoded, extension, mode_words, number_words}
use Rattle.asm_m68k.proofs.Again.{words_counted}
use Rattle.asm_m68k.specs.Table.{AreWords}

-- none is greater than the word from a place on
abbrev pub IsBelow : List ℕ → ℕ → List ℕ → Type 0
IsBelow [] k words = Unit {0}
IsBelow (x ∷ more) k words = (x ≤ slice_index words k) × IsBelow more (suc k) words

below_on : (xs : List ℕ) (k n : ℕ) (words : List ℕ) → k ≡ n → IsBelow xs k words → IsBelow xs n words
below_on xs k n words is below = subst (λ (i : ℕ). IsBelow xs i words) is below

below_append : (xs ys : List ℕ) (k n : ℕ) (words : List ℕ) → n ≡ k + length xs → IsBelow xs k words → IsBelow ys n words → IsBelow (xs ++ ys) k words
below_append [] ys k n words is first second = below_on ys n k words (omega arith) second
below_append (x ∷ xs) ys k n words is first second = (first.0, below_append xs ys (suc k) n words (omega arith) first.1 second)

-- ---- numbers and modes

next_word : (words : List ℕ) (k : ℕ) → slice_index words (k + 1) ≡ slice_index words (suc k)
next_word words k = ap (slice_index words) (add-one k)

number_below : (size : Size) (k : ℕ) (words : List ℕ) → AreWords words → IsBelow (number_words size (number_at size k words)) k words
unfolding number_at
number_below Byte k words all = (omega arith, tt)
number_below Word k words all = (omega arith, tt)
number_below Long k words all = let low = all (k + 1) in let e = next_word words k in (omega (arith, low), (omega (arith, low, e), tt))

brief_by : (x : ℕ) (long : Bool) → bit_of x 2048 ≡ long → brief (x / 4096) long (x % 256) ≤ x
brief_by x true is = grind (arith, nat_tests)
brief_by x false is = omega arith

brief_below : (x : ℕ) → brief (x / 4096) (bit_of x 2048) (x % 256) ≤ x
brief_below x = brief_by x (bit_of x 2048) refl

mode_below : (m r : ℕ) (size : Size) (k : ℕ) (words : List ℕ) → m < 8 → r < 8 → AreWords words → IsBelow (mode_words size (mode_of m r size k words)) k words
unfolding mode_of mode_words
mode_below zero r size k words g h all = tt
mode_below (suc zero) r size k words g h all = tt
mode_below (suc (suc zero)) r size k words g h all = tt
mode_below (suc (suc (suc zero))) r size k words g h all = tt
mode_below (suc (suc (suc (suc zero)))) r size k words g h all = tt
mode_below (suc (suc (suc (suc (suc zero))))) r size k words g h all = (omega arith, tt)
mode_below (suc (suc (suc (suc (suc (suc zero)))))) r size k words g h all = (brief_below (slice_index words k), tt)
mode_below (suc (suc (suc (suc (suc (suc (suc zero))))))) zero size k words g h all = (omega arith, tt)
mode_below (suc (suc (suc (suc (suc (suc (suc zero))))))) (suc zero) size k words g h all = number_below Long k words all
mode_below (suc (suc (suc (suc (suc (suc (suc zero))))))) (suc (suc zero)) size k words g h all = (omega arith, tt)
mode_below (suc (suc (suc (suc (suc (suc (suc zero))))))) (suc (suc (suc zero))) size k words g h all = (brief_below (slice_index words k), tt)
mode_below (suc (suc (suc (suc (suc (suc (suc zero))))))) (suc (suc (suc (suc zero)))) size k words g h all = number_below size k words all
mode_below (suc (suc (suc (suc (suc (suc (suc zero))))))) (suc (suc (suc (suc (suc zero))))) size k words g h all = number_below size k words all
mode_below (suc (suc (suc (suc (suc (suc (suc zero))))))) (suc (suc (suc (suc (suc (suc zero)))))) size k words g h all = number_below size k words all
mode_below (suc (suc (suc (suc (suc (suc (suc zero))))))) (suc (suc (suc (suc (suc (suc (suc zero))))))) size k words g h all = number_below size k words all
mode_below (suc (suc (suc (suc (suc (suc (suc zero))))))) (suc (suc (suc (suc (suc (suc (suc (suc r)))))))) size k words g h all = absurd (omega arith)
mode_below (suc (suc (suc (suc (suc (suc (suc (suc m)))))))) r size k words g h all = absurd (omega arith)

low_below : (size : Size) (k w : ℕ) (tail : List ℕ) → AreWords (w ∷ tail) → IsBelow (mode_words size (low_mode size k (w ∷ tail))) k (w ∷ tail)
unfolding low_mode
low_below size k w tail all = mode_below (w / 8 % 8) (w % 8) size k (w ∷ tail) (omega arith) (omega arith) all

high_below : (size : Size) (k w : ℕ) (tail : List ℕ) → AreWords (w ∷ tail) → IsBelow (mode_words size (high_mode size k (w ∷ tail))) k (w ∷ tail)
unfolding high_mode
high_below size k w tail all = mode_below (w / 64 % 8) (w / 512 % 8) size k (w ∷ tail) (omega arith) (omega arith) all

-- ---- rows

-- as many words, none of them greater
pub record IsCode (d : Decoded) (words : List ℕ) : Type 0 where
  pub long : d.length ≡ 2 * (1 + length (extension d.op))
  pub low : IsBelow (extension d.op) 1 words

-- from what its words are
code_of : (d : Decoded) (words xs : List ℕ) (count : ℕ) → d.length ≡ 2 * (1 + count) → length xs ≡ count → extension d.op ≡ xs → IsBelow xs 1 words → IsCode d words
code_of d words xs count long size are below = record {
  long = let e = ap length are in omega (arith, long, size, e);
  low = subst (λ (l : List ℕ). IsBelow l 1 words) (sym are) below;
}

plain : (d : Decoded) (words : List ℕ) → d.length ≡ 2 → extension d.op ≡ [] → IsCode d words
plain d words long are = code_of d words [] 0 long refl are tt

word_low : (words : List ℕ) → number_at Word 1 words ≤ slice_index words 1
unfolding number_at
word_low words = omega arith

byte_low : (words : List ℕ) → number_at Byte 1 words ≤ slice_index words 1
unfolding number_at
byte_low words = omega arith

one_word : (value : ℕ) (d : Decoded) (words : List ℕ) → value ≤ slice_index words 1 → d.length ≡ 4 → extension d.op ≡ value ∷ [] → IsCode d words
one_word value d words low long are = code_of d words (value ∷ []) 1 long refl are (low, tt)

with_low : (size : Size) (d : Decoded) (w : ℕ) (tail : List ℕ) → AreWords (w ∷ tail) → d.length ≡ 2 * (1 + words_of_mode size (low_mode size 1 (w ∷ tail)))
    → extension d.op ≡ mode_words size (low_mode size 1 (w ∷ tail)) → IsCode d (w ∷ tail)
with_low size d w tail all long are =
    code_of d (w ∷ tail) (mode_words size (low_mode size 1 (w ∷ tail))) (words_of_mode size (low_mode size 1 (w ∷ tail))) long (words_counted size (low_mode size 1 (w ∷ tail))) are (low_below size 1 w tail all)

word_and_low : (value : ℕ) (size : Size) (d : Decoded) (w : ℕ) (tail : List ℕ) → AreWords (w ∷ tail) → value ≤ slice_index (w ∷ tail) 1
    → d.length ≡ 2 * (2 + words_of_mode size (low_mode size 2 (w ∷ tail))) → extension d.op ≡ value ∷ mode_words size (low_mode size 2 (w ∷ tail)) → IsCode d (w ∷ tail)
word_and_low value size d w tail all low long are =
    let size_is = words_counted size (low_mode size 2 (w ∷ tail)) in
    code_of d (w ∷ tail) (value ∷ mode_words size (low_mode size 2 (w ∷ tail))) (1 + words_of_mode size (low_mode size 2 (w ∷ tail))) (omega (arith, long)) (omega (arith, size_is)) are
    (low, low_below size 2 w tail all)

number_mode : (size : Size) (d : Decoded) (w : ℕ) (tail : List ℕ) → AreWords (w ∷ tail)
    → d.length ≡ 2 * (1 + words_of_number size + words_of_mode size (low_mode size (1 + words_of_number size) (w ∷ tail)))
    → extension d.op ≡ number_words size (number_at size 1 (w ∷ tail)) ++ mode_words size (low_mode size (1 + words_of_number size) (w ∷ tail)) → IsCode d (w ∷ tail)
number_mode Byte d w tail all long are =
    let first = number_below Byte 1 (w ∷ tail) all in
    word_and_low (number_at Byte 1 (w ∷ tail)) Byte d w tail all first.0 long are
number_mode Word d w tail all long are =
    let first = number_below Word 1 (w ∷ tail) all in
    word_and_low (number_at Word 1 (w ∷ tail)) Word d w tail all first.0 long are
number_mode Long d w tail all long are =
    let first = number_below Long 1 (w ∷ tail) all in
    let size_is = words_counted Long (low_mode Long 3 (w ∷ tail)) in
    code_of d (w ∷ tail) (number_words Long (number_at Long 1 (w ∷ tail)) ++ mode_words Long (low_mode Long 3 (w ∷ tail))) (2 + words_of_mode Long (low_mode Long 3 (w ∷ tail)))
    (omega (arith, long)) (omega (arith, size_is)) are (first.0, (first.1.0, low_below Long 3 w tail all))

both_modes : (size : Size) (d : Decoded) (w : ℕ) (tail : List ℕ) → AreWords (w ∷ tail)
    → d.length ≡ 2 * (1 + words_of_mode size (low_mode size 1 (w ∷ tail)) + words_of_mode size (high_mode size (1 + words_of_mode size (low_mode size 1 (w ∷ tail))) (w ∷ tail)))
    → extension d.op ≡ mode_words size (low_mode size 1 (w ∷ tail)) ++ mode_words size (high_mode size (1 + words_of_mode size (low_mode size 1 (w ∷ tail))) (w ∷ tail)) → IsCode d (w ∷ tail)
both_modes size d w tail all long are =
    let source = low_mode size 1 (w ∷ tail) in
    let target = high_mode size (1 + words_of_mode size (low_mode size 1 (w ∷ tail))) (w ∷ tail) in
    let es = words_counted size (low_mode size 1 (w ∷ tail)) in
    let et = words_counted size (high_mode size (1 + words_of_mode size (low_mode size 1 (w ∷ tail))) (w ∷ tail)) in
    code_of d (w ∷ tail) (mode_words size source ++ mode_words size target) (words_of_mode size source + words_of_mode size target)
    (omega (arith, long)) (omega (arith, es, et, length-append (mode_words size source) (mode_words size target))) are
    (below_append (mode_words size source) (mode_words size target) 1 (1 + words_of_mode size source) (w ∷ tail) (omega (arith, es))
    (low_below size 1 w tail all) (high_below size (1 + words_of_mode size source) w tail all))

branch_by : (b : Bool) (d : Decoded) (w : ℕ) (tail : List ℕ) → (w % 256 == 0) ≡ b → d.length ≡ 2 * (1 + words_of_displacement (displacement_of (w ∷ tail)))
    → extension d.op ≡ displacement_words (displacement_of (w ∷ tail)) → IsCode d (w ∷ tail)
unfolding displacement_of
branch_by true d w tail is long are = one_word (slice_index (w ∷ tail) 1) d (w ∷ tail) (omega arith) (rw is at long) (rw is at are)
branch_by false d w tail is long are = plain d (w ∷ tail) (rw is at long) (rw is at are)

branch : (d : Decoded) (w : ℕ) (tail : List ℕ) → AreWords (w ∷ tail) → d.length ≡ 2 * (1 + words_of_displacement (displacement_of (w ∷ tail)))
    → extension d.op ≡ displacement_words (displacement_of (w ∷ tail)) → IsCode d (w ∷ tail)
branch d w tail all long are = branch_by (w % 256 == 0) d w tail refl long are

coded : (row : Row) (w : ℕ) (tail : List ℕ) → AreWords (w ∷ tail) → IsCode (made row (w ∷ tail)) (w ∷ tail)
unfolding made extension
coded (rows.Immediate task) w tail all = number_mode (size_of (w ∷ tail)) _ w tail all refl refl
coded rows.CompareImmediate w tail all = number_mode (size_of (w ∷ tail)) _ w tail all refl refl
coded (rows.ImmediateToCcr task) w tail all = one_word (number_at Byte 1 (w ∷ tail)) _ (w ∷ tail) (byte_low (w ∷ tail)) refl refl
coded (rows.ImmediateToSr task) w tail all = one_word (number_at Word 1 (w ∷ tail)) _ (w ∷ tail) (word_low (w ∷ tail)) refl refl
coded (rows.BitByRegister task) w tail all = with_low Byte _ w tail all refl refl
coded (rows.BitByNumber task) w tail all = word_and_low (number_at Byte 1 (w ∷ tail)) Byte _ w tail all (byte_low (w ∷ tail)) refl refl
coded rows.MovepToRegister w tail all = one_word (number_at Word 1 (w ∷ tail)) _ (w ∷ tail) (word_low (w ∷ tail)) refl refl
coded rows.MovepToMemory w tail all = one_word (number_at Word 1 (w ∷ tail)) _ (w ∷ tail) (word_low (w ∷ tail)) refl refl
coded (rows.Move size) w tail all = both_modes size _ w tail all refl refl
coded (rows.Movea size) w tail all = with_low size _ w tail all refl refl
coded (rows.Unary task) w tail all = with_low (size_of (w ∷ tail)) _ w tail all refl refl
coded rows.MoveFromSr w tail all = with_low Word _ w tail all refl refl
coded rows.MoveToCcr w tail all = with_low Word _ w tail all refl refl
coded rows.MoveToSr w tail all = with_low Word _ w tail all refl refl
coded rows.Nbcd w tail all = with_low Byte _ w tail all refl refl
coded rows.Swap w tail all = plain _ (w ∷ tail) refl refl
coded rows.Ext w tail all = plain _ (w ∷ tail) refl refl
coded rows.Pea w tail all = with_low Long _ w tail all refl refl
coded rows.MovemToMemory w tail all = word_and_low (number_at Word 1 (w ∷ tail)) (word_or_long 64 (w ∷ tail)) _ w tail all (word_low (w ∷ tail)) refl refl
coded rows.MovemToRegisters w tail all = word_and_low (number_at Word 1 (w ∷ tail)) (word_or_long 64 (w ∷ tail)) _ w tail all (word_low (w ∷ tail)) refl refl
coded rows.Tst w tail all = with_low (size_of (w ∷ tail)) _ w tail all refl refl
coded rows.Tas w tail all = with_low Byte _ w tail all refl refl
coded rows.Illegal w tail all = plain _ (w ∷ tail) refl refl
coded rows.Trap w tail all = plain _ (w ∷ tail) refl refl
coded rows.Link w tail all = one_word (number_at Word 1 (w ∷ tail)) _ (w ∷ tail) (word_low (w ∷ tail)) refl refl
coded rows.Unlk w tail all = plain _ (w ∷ tail) refl refl
coded rows.MoveToUsp w tail all = plain _ (w ∷ tail) refl refl
coded rows.MoveFromUsp w tail all = plain _ (w ∷ tail) refl refl
coded rows.Reset w tail all = plain _ (w ∷ tail) refl refl
coded rows.Nop w tail all = plain _ (w ∷ tail) refl refl
coded rows.Stop w tail all = one_word (number_at Word 1 (w ∷ tail)) _ (w ∷ tail) (word_low (w ∷ tail)) refl refl
coded rows.Rte w tail all = plain _ (w ∷ tail) refl refl
coded rows.Rts w tail all = plain _ (w ∷ tail) refl refl
coded rows.Trapv w tail all = plain _ (w ∷ tail) refl refl
coded rows.Rtr w tail all = plain _ (w ∷ tail) refl refl
coded rows.Jsr w tail all = with_low Long _ w tail all refl refl
coded rows.Jmp w tail all = with_low Long _ w tail all refl refl
coded rows.Lea w tail all = with_low Long _ w tail all refl refl
coded rows.Chk w tail all = with_low Word _ w tail all refl refl
coded (rows.Quick task) w tail all = with_low (size_of (w ∷ tail)) _ w tail all refl refl
coded rows.Scc w tail all = with_low Byte _ w tail all refl refl
coded rows.Dbcc w tail all = one_word (number_at Word 1 (w ∷ tail)) _ (w ∷ tail) (word_low (w ∷ tail)) refl refl
coded rows.Bra w tail all = branch _ w tail all refl refl
coded rows.Bsr w tail all = branch _ w tail all refl refl
coded rows.Bcc w tail all = branch _ w tail all refl refl
coded rows.Moveq w tail all = plain _ (w ∷ tail) refl refl
coded rows.Divu w tail all = with_low Word _ w tail all refl refl
coded rows.Divs w tail all = with_low Word _ w tail all refl refl
coded (rows.Decimal task) w tail all = plain _ (w ∷ tail) refl refl
coded (rows.Extended task) w tail all = plain _ (w ∷ tail) refl refl
coded (rows.ToRegister task) w tail all = with_low (size_of (w ∷ tail)) _ w tail all refl refl
coded (rows.ToMemory task) w tail all = with_low (size_of (w ∷ tail)) _ w tail all refl refl
coded (rows.ToAddress task) w tail all = with_low (word_or_long 256 (w ∷ tail)) _ w tail all refl refl
coded rows.Cmp w tail all = with_low (size_of (w ∷ tail)) _ w tail all refl refl
coded rows.Cmpa w tail all = with_low (word_or_long 256 (w ∷ tail)) _ w tail all refl refl
coded rows.Eor w tail all = with_low (size_of (w ∷ tail)) _ w tail all refl refl
coded rows.Cmpm w tail all = plain _ (w ∷ tail) refl refl
coded rows.Mulu w tail all = with_low Word _ w tail all refl refl
coded rows.Muls w tail all = with_low Word _ w tail all refl refl
coded rows.ExgData w tail all = plain _ (w ∷ tail) refl refl
coded rows.ExgAddress w tail all = plain _ (w ∷ tail) refl refl
coded rows.ExgMixed w tail all = plain _ (w ∷ tail) refl refl
coded rows.ShiftByNumber w tail all = plain _ (w ∷ tail) refl refl
coded rows.ShiftByRegister w tail all = plain _ (w ∷ tail) refl refl
coded rows.ShiftMemory w tail all = with_low Word _ w tail all refl refl

none_by : (a f : Bool) (words : List ℕ) → (opcode words / 4096 == 10) ≡ a → (opcode words / 4096 == 15) ≡ f → IsCode (unmatched words) words
unfolding unmatched extension
none_by true f words ea ef = rw ea (plain _ words refl refl)
none_by false true words ea ef = rw (ea, ef) (plain _ words refl refl)
none_by false false words ea ef = rw (ea, ef) (plain _ words refl refl)

picked_code : (row : Option Row) (w : ℕ) (tail : List ℕ) → AreWords (w ∷ tail) → IsCode (picked row (w ∷ tail)) (w ∷ tail)
picked_code None w tail all = none_by _ _ (w ∷ tail) refl refl
picked_code (Some row) w tail all = coded row w tail all

pub decoded_code : (w : ℕ) (tail : List ℕ) → AreWords (w ∷ tail) → IsCode (instruction_of (w ∷ tail)) (w ∷ tail)
decoded_code w tail all = rw (decoded_is_picked (w ∷ tail) (all 0)) (picked_code (nested w) w tail all)

-- as many words as it takes
pub encoded_long : (w : ℕ) (tail : List ℕ) → AreWords (w ∷ tail) → (instruction_of (w ∷ tail)).length ≡ 2 * length (encoded (instruction_of (w ∷ tail)).op)
encoded_long w tail all = let own = (decoded_code w tail all).long in omega (arith, own)
