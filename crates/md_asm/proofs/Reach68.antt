-- What words of the 68000 decode to is also there with 8 for its numbers, and with 8 for all but one.
use Rattle.std.proofs.Common.{◌≡◌, ℕ, suc, ◌%◌, ◌<◌, ◌==◌, Bool, true, false, List, [], ◌∷◌, ◌++◌, refl, ap, ◌∙◌, sym, subst, arith, Option, Some}
use Rattle.md_word.specs.Width.{extended, signed_of}
use Rattle.md_word.specs.declared.size.Size.TheVariants.{Word}
use Rattle.m68k_decode.specs.declared.condition.Condition.{Condition}
use Rattle.m68k_decode.specs.declared.decoded.Decoded.{Decoded}
use Rattle.m68k_decode.specs.declared.displacement.Displacement.{Displacement}
use Rattle.m68k_decode.specs.declared.displacement.Displacement.TheVariants as displacements
use Rattle.m68k_decode.specs.declared.op.Op.{Op}
use Rattle.m68k_decode.specs.declared.op.Op.TheVariants as ops
use Rattle.m68k_decode.specs.Fields.{condition_of, displacement_of, low_register, number_at}
use Rattle.m68k_decode.specs.Instructions.{instruction_of, made}
use Rattle.m68k_decode.specs.Nested.{nested}
use Rattle.m68k_decode.specs.Rows as rows
use Rattle.m68k_decode.specs.Rows.{Row}
use Rattle.md_disasm.specs.Rows68.{Row68, row_of, target}
use Rattle.asm_m68k.specs.Encoding.{extension}
use Rattle.asm_m68k.specs.Table.{AreWords, IsInstruction}
use Rattle.asm_m68k.proofs.Sources.{led_tokens}
use Rattle.asm_m68k.proofs.Instructions.{target_below}
use Rattle.md_asm.specs.Contents.{under}
use Rattle.md_asm.proofs.Alone68.{filled_row, first_row, is_quick, second_row}
use Rattle.md_asm.proofs.Fits.{number_of}
use Rattle.md_asm.proofs.Kept68.{decoded_kept, is_branch, made_kept, op_kept}
use Rattle.md_asm.proofs.Low68.{append_low, cons_low, extension_low, none_low}
use Rattle.md_asm.proofs.First68.{made_is}
use Rattle.md_asm.proofs.Quick68.{all_changed, decoded8, op8, word8}
use Rattle.md_asm.proofs.Rows68.{row_kept}

-- ---- words that decode to this

pub record IsDecoded (d : Decoded) : Type 0 where
  pub word : ℕ
  pub tail : List ℕ
  pub low : word < 65536
  pub entered : IsInstruction (nested word)
  pub all : AreWords (word ∷ tail)
  pub is : instruction_of (word ∷ tail) ≡ d

-- there is an instruction of this row at an address, of this length
pub record IsReached (row : Row68) (at long : ℕ) : Type 0 where
  pub word : ℕ
  pub tail : List ℕ
  pub low : word < 65536
  pub entered : IsInstruction (nested word)
  pub all : AreWords (word ∷ tail)
  pub is : row_of (instruction_of (word ∷ tail)).op at ≡ row
  pub whole : (instruction_of (word ∷ tail)).length ≡ long

pub reach : (d : Decoded) (row : Row68) (at long : ℕ) → IsDecoded d → row_of d.op at ≡ row → d.length ≡ long → IsReached row at long
reach d row at long from is whole =
    let own = from.is in record {
      word = from.word;
      tail = from.tail;
      low = from.low;
      entered = from.entered;
      all = from.all;
      is = rw own is;
      whole = rw own whole;
    }

-- words that decode to a row's instruction
pub record AreOf (row : Row) (w : ℕ) (tail : List ℕ) : Type 0 where
  pub low : w < 65536
  pub is : nested w ≡ Some row
  pub entered : IsInstruction (nested w)
  pub all : AreWords (w ∷ tail)

pub own_decoded : (row : Row) (w : ℕ) (tail : List ℕ) → AreOf row w tail → IsDecoded (made row (w ∷ tail))
own_decoded row w tail of = record { word = w; tail = tail; low = of.low; entered = of.entered; all = of.all; is = made_is row w tail of.low of.is }

kept_decoded : (a b : Bool) (row : Row) (w : ℕ) (tail : List ℕ) → AreOf row w tail → is_branch row ≡ false → IsDecoded (decoded_kept a b (made row (w ∷ tail)))
kept_decoded a b row w tail of none =
    let ext = extension (op_kept a b (made row (w ∷ tail)).op) in record {
      word = w;
      tail = ext ++ [];
      low = of.low;
      entered = of.entered;
      all = cons_low w (ext ++ []) of.low (append_low ext [] (extension_low a b row (w ∷ tail) none of.all) none_low);
      is = made_is row w (ext ++ []) of.low of.is ∙ made_kept a b row w tail [] none of.all;
    }

-- with 8 for the number in the first word
changed_of : (row : Row) (w : ℕ) (tail : List ℕ) → AreOf row w tail → AreOf row (word8 tail w) tail
changed_of row w tail of =
    let c = all_changed w tail of.low in
    let entered = of.entered in
    let all = of.all in record {
      low = c.low;
      is = c.row ∙ of.is;
      entered = rw c.row entered;
      all = cons_low (word8 tail w) tail c.low (λ i. all (suc i));
    }

changed_is : (row : Row) (w : ℕ) (tail : List ℕ) → AreOf row w tail → made row (word8 tail w ∷ tail) ≡ decoded8 (made row (w ∷ tail))
changed_is row w tail of =
    let c = all_changed w tail of.low in
    sym (made_is row (word8 tail w) tail c.low (c.row ∙ of.is)) ∙ c.is ∙ ap decoded8 (made_is row w tail of.low of.is)

changed_decoded : (row : Row) (w : ℕ) (tail : List ℕ) → AreOf row w tail → IsDecoded (decoded8 (made row (w ∷ tail)))
changed_decoded row w tail of = subst (λ (d : Decoded). IsDecoded d) (changed_is row w tail of) (own_decoded row (word8 tail w) tail (changed_of row w tail of))

changed_kept : (a b : Bool) (row : Row) (w : ℕ) (tail : List ℕ) → AreOf row w tail → is_branch row ≡ false → IsDecoded (decoded_kept a b (decoded8 (made row (w ∷ tail))))
changed_kept a b row w tail of none =
    subst (λ (d : Decoded). IsDecoded (decoded_kept a b d)) (changed_is row w tail of) (kept_decoded a b row (word8 tail w) tail (changed_of row w tail of) none)

-- ---- the rows

abbrev pub IsThere : Row68 → ℕ → Type 0
IsThere row at = (long : ℕ) × IsReached row at long

pub record AreReached (d : Decoded) (at : ℕ) : Type 0 where
  pub filled : IsReached (row_kept false false (row_of d.op at)) 4 d.length
  pub first : (n : ℕ) → number_of (led_tokens 32 (row_of d.op at).first) ≡ Some n → IsThere (row_kept true false (row_of d.op at)) (under false n)
  pub second : (n : ℕ) → number_of (led_tokens 44 (row_of d.op at).second) ≡ Some n → IsThere (row_kept false true (row_of d.op at)) (under false n)

plain_reached : (row : Row) (w : ℕ) (tail : List ℕ) (at : ℕ) → AreOf row w tail → is_branch row ≡ false → is_quick (made row (w ∷ tail)).op ≡ false → AreReached (made row (w ∷ tail)) at
plain_reached row w tail at of none plain =
    let d = made row (w ∷ tail) in record {
      filled = reach (decoded_kept false false d) (row_kept false false (row_of d.op at)) 4 d.length (kept_decoded false false row w tail of none) (filled_row d.op at 4 plain) refl;
      first = λ n is. (d.length, reach (decoded_kept true false d) (row_kept true false (row_of d.op at)) (under false n) d.length (kept_decoded true false row w tail of none) (first_row d.op at (under false n) plain) refl);
      second = λ n is. (d.length, reach (decoded_kept false true d) (row_kept false true (row_of d.op at)) (under false n) d.length (kept_decoded false true row w tail of none) (second_row d.op at (under false n) plain) refl);
    }

quick_reached : (row : Row) (w : ℕ) (tail : List ℕ) (at : ℕ) → AreOf row w tail → is_branch row ≡ false
    → ((other : ℕ) → row_of (op_kept false false (op8 (made row (w ∷ tail)).op)) other ≡ row_kept false false (row_of (made row (w ∷ tail)).op at))
    → ((other : ℕ) → row_of (op_kept true false (made row (w ∷ tail)).op) other ≡ row_kept true false (row_of (made row (w ∷ tail)).op at))
    → ((n other : ℕ) → number_of (led_tokens 44 (row_of (made row (w ∷ tail)).op at).second) ≡ Some n → row_of (op8 (made row (w ∷ tail)).op) other ≡ row_kept false true (row_of (made row (w ∷ tail)).op at))
    → AreReached (made row (w ∷ tail)) at
quick_reached row w tail at of none f a b =
    let d = made row (w ∷ tail) in record {
      filled = reach (decoded_kept false false (decoded8 d)) (row_kept false false (row_of d.op at)) 4 d.length (changed_kept false false row w tail of none) (f 4) refl;
      first = λ n is. (d.length, reach (decoded_kept true false d) (row_kept true false (row_of d.op at)) (under false n) d.length (kept_decoded true false row w tail of none) (a (under false n)) refl);
      second = λ n is. (d.length, reach (decoded8 d) (row_kept false true (row_of d.op at)) (under false n) d.length (changed_decoded row w tail of) (b n (under false n) is) refl);
    }

-- ---- branches

abbrev pub near : Displacement → Displacement
near (displacements.Byte by) = displacements.Byte 2
near (displacements.Word by) = displacements.Word 2

byte_4 : target 4 (displacements.Byte 2) ≡ 8
unfolding target extended signed_of
byte_4 = refl

word_4 : target 4 (displacements.Word 2) ≡ 8
unfolding target extended signed_of
word_4 = refl

pub byte_under : (n : ℕ) → n < 4294967296 → target (under false n) (displacements.Byte 2) ≡ n
unfolding target extended signed_of
byte_under n h = omega arith

pub word_under : (n : ℕ) → n < 4294967296 → target (under false n) (displacements.Word 2) ≡ n
unfolding target extended signed_of
word_under n h = omega arith

to_number : (row : Row68) (t n : ℕ) → t ≡ n → IsThere row (under false t) → IsThere row (under false n)
to_number row t n e h = subst (λ (k : ℕ). IsThere row (under false k)) e h

two_words : (w : ℕ) → w < 65536 → AreWords (w ∷ 2 ∷ [])
two_words w h = cons_low w (2 ∷ []) h (cons_low 2 [] (omega arith) none_low)

two_of : (row : Row) (w : ℕ) (tail : List ℕ) → AreOf row w tail → AreOf row w (2 ∷ [])
two_of row w tail of = record { low = of.low; is = of.is; entered = of.entered; all = two_words w of.low }

-- BRA with 2 for its displacement
pub bra_by : (b : Bool) (w : ℕ) (tail : List ℕ) → (w % 256 == 0) ≡ b → AreOf rows.Bra w tail
    → IsDecoded (record { op = ops.Bra (near (displacement_of (w ∷ tail))); length = (made rows.Bra (w ∷ tail)).length })
unfolding made displacement_of condition_of
bra_by true w tail is of = rw is (rw is at (own_decoded rows.Bra w (2 ∷ []) (two_of rows.Bra w tail of)))
bra_by false w tail is of = rw is (rw is at (changed_decoded rows.Bra w tail of))

bra_filled : (d : Displacement) (at : ℕ) → row_of (ops.Bra (near d)) 4 ≡ row_kept false false (row_of (ops.Bra d) at)
bra_filled (displacements.Byte by) at = rw byte_4 refl
bra_filled (displacements.Word by) at = rw word_4 refl

bra_under : (d : Displacement) (at : ℕ) → row_of (ops.Bra (near d)) (under false (target at d)) ≡ row_kept true false (row_of (ops.Bra d) at)
bra_under (displacements.Byte by) at = rw (byte_under (target at (displacements.Byte by)) (target_below at (displacements.Byte by))) refl
bra_under (displacements.Word by) at = rw (word_under (target at (displacements.Word by)) (target_below at (displacements.Word by))) refl

bra_reached : (w : ℕ) (tail : List ℕ) (at : ℕ) → AreOf rows.Bra w tail → AreReached (made rows.Bra (w ∷ tail)) at
unfolding made
bra_reached w tail at of =
    let d = displacement_of (w ∷ tail) in
    let own : IsDecoded (record { op = ops.Bra (near d); length = (made rows.Bra (w ∷ tail)).length }) = bra_by (w % 256 == 0) w tail refl of in record {
      filled = reach (record { op = ops.Bra (near d); length = (made rows.Bra (w ∷ tail)).length }) (row_kept false false (row_of (ops.Bra d) at)) 4 (made rows.Bra (w ∷ tail)).length own (bra_filled d at) refl;
      first = λ n is. let e : target at d ≡ n = cc in
          to_number (row_kept true false (row_of (ops.Bra d) at)) (target at d) n e
          ((made rows.Bra (w ∷ tail)).length, reach (record { op = ops.Bra (near d); length = (made rows.Bra (w ∷ tail)).length }) (row_kept true false (row_of (ops.Bra d) at)) (under false (target at d)) (made rows.Bra (w ∷ tail)).length own (bra_under d at) refl);
      second = λ n is. cc;
    }

-- BSR with 2 for its displacement
pub bsr_by : (b : Bool) (w : ℕ) (tail : List ℕ) → (w % 256 == 0) ≡ b → AreOf rows.Bsr w tail
    → IsDecoded (record { op = ops.Bsr (near (displacement_of (w ∷ tail))); length = (made rows.Bsr (w ∷ tail)).length })
unfolding made displacement_of condition_of
bsr_by true w tail is of = rw is (rw is at (own_decoded rows.Bsr w (2 ∷ []) (two_of rows.Bsr w tail of)))
bsr_by false w tail is of = rw is (rw is at (changed_decoded rows.Bsr w tail of))

bsr_filled : (d : Displacement) (at : ℕ) → row_of (ops.Bsr (near d)) 4 ≡ row_kept false false (row_of (ops.Bsr d) at)
bsr_filled (displacements.Byte by) at = rw byte_4 refl
bsr_filled (displacements.Word by) at = rw word_4 refl

bsr_under : (d : Displacement) (at : ℕ) → row_of (ops.Bsr (near d)) (under false (target at d)) ≡ row_kept true false (row_of (ops.Bsr d) at)
bsr_under (displacements.Byte by) at = rw (byte_under (target at (displacements.Byte by)) (target_below at (displacements.Byte by))) refl
bsr_under (displacements.Word by) at = rw (word_under (target at (displacements.Word by)) (target_below at (displacements.Word by))) refl

bsr_reached : (w : ℕ) (tail : List ℕ) (at : ℕ) → AreOf rows.Bsr w tail → AreReached (made rows.Bsr (w ∷ tail)) at
unfolding made
bsr_reached w tail at of =
    let d = displacement_of (w ∷ tail) in
    let own : IsDecoded (record { op = ops.Bsr (near d); length = (made rows.Bsr (w ∷ tail)).length }) = bsr_by (w % 256 == 0) w tail refl of in record {
      filled = reach (record { op = ops.Bsr (near d); length = (made rows.Bsr (w ∷ tail)).length }) (row_kept false false (row_of (ops.Bsr d) at)) 4 (made rows.Bsr (w ∷ tail)).length own (bsr_filled d at) refl;
      first = λ n is. let e : target at d ≡ n = cc in
          to_number (row_kept true false (row_of (ops.Bsr d) at)) (target at d) n e
          ((made rows.Bsr (w ∷ tail)).length, reach (record { op = ops.Bsr (near d); length = (made rows.Bsr (w ∷ tail)).length }) (row_kept true false (row_of (ops.Bsr d) at)) (under false (target at d)) (made rows.Bsr (w ∷ tail)).length own (bsr_under d at) refl);
      second = λ n is. cc;
    }

-- BCC with 2 for its displacement
pub bcc_by : (b : Bool) (w : ℕ) (tail : List ℕ) → (w % 256 == 0) ≡ b → AreOf rows.Bcc w tail
    → IsDecoded (record { op = ops.Bcc (condition_of (w ∷ tail)) (near (displacement_of (w ∷ tail))); length = (made rows.Bcc (w ∷ tail)).length })
unfolding made displacement_of condition_of
bcc_by true w tail is of = rw is (rw is at (own_decoded rows.Bcc w (2 ∷ []) (two_of rows.Bcc w tail of)))
bcc_by false w tail is of = rw is (rw is at (changed_decoded rows.Bcc w tail of))

bcc_filled : (condition : Condition) (d : Displacement) (at : ℕ) → row_of (ops.Bcc condition (near d)) 4 ≡ row_kept false false (row_of (ops.Bcc condition d) at)
bcc_filled condition (displacements.Byte by) at = rw byte_4 refl
bcc_filled condition (displacements.Word by) at = rw word_4 refl

bcc_under : (condition : Condition) (d : Displacement) (at : ℕ) → row_of (ops.Bcc condition (near d)) (under false (target at d)) ≡ row_kept true false (row_of (ops.Bcc condition d) at)
bcc_under condition (displacements.Byte by) at = rw (byte_under (target at (displacements.Byte by)) (target_below at (displacements.Byte by))) refl
bcc_under condition (displacements.Word by) at = rw (word_under (target at (displacements.Word by)) (target_below at (displacements.Word by))) refl

bcc_reached : (w : ℕ) (tail : List ℕ) (at : ℕ) → AreOf rows.Bcc w tail → AreReached (made rows.Bcc (w ∷ tail)) at
unfolding made
bcc_reached w tail at of =
    let d = displacement_of (w ∷ tail) in
    let own : IsDecoded (record { op = ops.Bcc (condition_of (w ∷ tail)) (near d); length = (made rows.Bcc (w ∷ tail)).length }) = bcc_by (w % 256 == 0) w tail refl of in record {
      filled = reach (record { op = ops.Bcc (condition_of (w ∷ tail)) (near d); length = (made rows.Bcc (w ∷ tail)).length }) (row_kept false false (row_of (ops.Bcc (condition_of (w ∷ tail)) d) at)) 4 (made rows.Bcc (w ∷ tail)).length own (bcc_filled (condition_of (w ∷ tail)) d at) refl;
      first = λ n is. let e : target at d ≡ n = cc in
          to_number (row_kept true false (row_of (ops.Bcc (condition_of (w ∷ tail)) d) at)) (target at d) n e
          ((made rows.Bcc (w ∷ tail)).length, reach (record { op = ops.Bcc (condition_of (w ∷ tail)) (near d); length = (made rows.Bcc (w ∷ tail)).length }) (row_kept true false (row_of (ops.Bcc (condition_of (w ∷ tail)) d) at)) (under false (target at d)) (made rows.Bcc (w ∷ tail)).length own (bcc_under (condition_of (w ∷ tail)) d at) refl);
      second = λ n is. cc;
    }

pub dbcc_decoded : (w : ℕ) (tail : List ℕ) → AreOf rows.Dbcc w tail → IsDecoded (record { op = ops.Dbcc (condition_of (w ∷ tail)) (low_register (w ∷ tail)) 2; length = 4 })
unfolding made number_at condition_of low_register
dbcc_decoded w tail of = own_decoded rows.Dbcc w (2 ∷ []) (two_of rows.Dbcc w tail of)

dbcc_reached : (w : ℕ) (tail : List ℕ) (at : ℕ) → AreOf rows.Dbcc w tail → AreReached (made rows.Dbcc (w ∷ tail)) at
unfolding made
dbcc_reached w tail at of =
    let d = displacements.Word (number_at Word 1 (w ∷ tail)) in
    let op : Op = ops.Dbcc (condition_of (w ∷ tail)) (low_register (w ∷ tail)) (number_at Word 1 (w ∷ tail)) in
    let near_op : Op = ops.Dbcc (condition_of (w ∷ tail)) (low_register (w ∷ tail)) 2 in
    let own : IsDecoded (record { op = near_op; length = 4 }) = dbcc_decoded w tail of in record {
      filled = reach (record { op = near_op; length = 4 }) (row_kept false false (row_of op at)) 4 4 own (rw word_4 refl) refl;
      first = λ n is. cc;
      second = λ n is. let e : target at d ≡ n = cc in
          to_number (row_kept false true (row_of op at)) (target at d) n e
          (4, reach (record { op = near_op; length = 4 }) (row_kept false true (row_of op at)) (under false (target at d)) 4 own (rw (word_under (target at d) (target_below at d)) refl) refl);
    }

-- ---- each row

pub row_reached : (row : Row) (w : ℕ) (tail : List ℕ) (at : ℕ) → AreOf row w tail → AreReached (made row (w ∷ tail)) at
unfolding made
row_reached (rows.Quick own) w tail at of = quick_reached (rows.Quick own) w tail at of refl (λ other. refl) (λ other. refl) (λ n other is. refl)
row_reached rows.Trap w tail at of = quick_reached rows.Trap w tail at of refl (λ other. refl) (λ other. refl) (λ n other is. cc)
row_reached rows.Moveq w tail at of = quick_reached rows.Moveq w tail at of refl (λ other. refl) (λ other. refl) (λ n other is. cc)
row_reached rows.ShiftByNumber w tail at of = quick_reached rows.ShiftByNumber w tail at of refl (λ other. refl) (λ other. refl) (λ n other is. cc)
row_reached rows.Dbcc w tail at of = dbcc_reached w tail at of
row_reached rows.Bra w tail at of = bra_reached w tail at of
row_reached rows.Bsr w tail at of = bsr_reached w tail at of
row_reached rows.Bcc w tail at of = bcc_reached w tail at of
row_reached rows.Illegal w tail at of = let no : IsInstruction (Some rows.Illegal) = subst (λ (r : Option Row). IsInstruction r) of.is of.entered in absurd no
row_reached row w tail at of = plain_reached row w tail at of refl refl
