-- What bytes of the Z80 decode to is also there with 8 for its numbers, and with 8 for all but one.
use Rattle.std.proofs.Common.{◌≡◌, ℕ, ◌<◌, ◌==◌, Bool, true, false, not, ◌&&◌, ◌||◌, List, [], ◌∷◌, refl, ap, ◌∙◌, sym, arith, codes, if◌then◌else◌}
use Rattle.std.specs.Str.{bytes_eq}
use Rattle.std.proofs.lemmas.Bool.{or_parts, true≢false}
use Rattle.std.proofs.lemmas.Bool.Decides.{nat_tests}
use Rattle.md_word.proofs.Agree.{same_at}
use Rattle.z80_decode.specs.declared.decoded80.Decoded80.{Decoded80}
use Rattle.z80_decode.specs.declared.index.Index.{Index}
use Rattle.z80_decode.specs.declared.index.Index.TheVariants as indexes
use Rattle.z80_decode.specs.declared.op80.Op80.{Op80}
use Rattle.z80_decode.specs.declared.op80.Op80.TheVariants as ops
use Rattle.z80_decode.specs.Fields.{lower, memory_of, place_of}
use Rattle.z80_decode.specs.Instructions.{instruction_of}
use Rattle.z80_decode.specs.Nested.{bits, by_opcode, extended, indexed, names_hl, nested, of_bytes}
use Rattle.z80_decode.proofs.Table.{decoded_is_nested}
use Rattle.md_disasm.specs.Rows80.{Row80, row_of}
use Rattle.asm_z80.specs.Coded80.{AreBytes}
use Rattle.asm_z80.proofs.Again80.{is_prefix}
use Rattle.asm_z80.specs.Instruction.{is_db}
use Rattle.asm_z80.proofs.Pages.{by_index, by_page}
use Rattle.asm_z80.proofs.Read.{read, read_after, read_bits, read_extended, read_ix, read_ix_bits, read_iy, read_iy_bits, read_plain}
use Rattle.asm_z80.proofs.Sources.{is_read}
use Rattle.asm_z80.proofs.Checked.{name_stays}
use Rattle.md_asm.proofs.Line.{is_free}
use Rattle.md_asm.proofs.Named80.{op_free}
use Rattle.md_asm.proofs.Pages80.{Shape, both_numbered, code8, filled_bits, filled_extended, filled_ix, filled_ix_bits, filled_iy, filled_iy_bits, filled_plain, filled_shape, first8, is_far, is_odd, is_relative, is_restart, is_two, is_uneven, named, named_odd, odd_bits, odd_extended, odd_ix, odd_ix_bits, odd_iy, odd_iy_bits, odd_plain, own_shape, second8}
use Rattle.md_asm.proofs.Rows80.{row_kept}
use Rattle.md_asm.proofs.Bytes.{four}

-- ---- four bytes

-- bytes that decode to this
pub record IsDecoded (d : Decoded80) : Type 0 where
  pub bytes : List ℕ
  pub all : AreBytes bytes
  pub is : instruction_of bytes ≡ d

bytes_four : (a b c d : ℕ) → a < 256 → b < 256 → c < 256 → d < 256 → IsDecoded (nested a b c d)
bytes_four a b c d ha hb hc hd = record {
  bytes = a ∷ b ∷ c ∷ d ∷ [];
  all = four a b c d ha hb hc hd;
  is = decoded_is_nested (a ∷ b ∷ c ∷ d ∷ []) ha hb hd;
}

other_by : (a b c d : Bool) → (a || b || c || d) ≡ false → (a ≡ false) × (b ≡ false) × (c ≡ false) × (d ≡ false)
other_by true b c d h = cc
other_by false true c d h = cc
other_by false false true d h = cc
other_by false false false true h = cc
other_by false false false false h = (refl, refl, refl, refl)

nested_plain : (b0 b1 b2 b3 : ℕ) → is_prefix b0 ≡ false → nested b0 b1 b2 b3 ≡ by_opcode indexes.Hl b0 b1 b2
unfolding nested
nested_plain b0 b1 b2 b3 h =
    let no = other_by (b0 == 0xcb) (b0 == 0xdd) (b0 == 0xed) (b0 == 0xfd) h in
    rw (no.0, no.1, no.2, no.3) refl

pub plain_decoded : (b0 b1 b2 : ℕ) → b0 < 256 → b1 < 256 → b2 < 256 → is_prefix b0 ≡ false → IsDecoded (by_opcode indexes.Hl b0 b1 b2)
plain_decoded b0 b1 b2 h k l none = rw (← nested_plain b0 b1 b2 0 none) (bytes_four b0 b1 b2 0 h k l (omega arith))

pub bits_decoded : (b1 : ℕ) → b1 < 256 → IsDecoded (of_bytes 2 (bits b1 (place_of indexes.Hl (lower b1) 0)))
unfolding nested
bits_decoded b1 h = bytes_four 0xcb b1 0 0 (omega arith) h (omega arith) (omega arith)

pub extended_decoded : (b1 b2 b3 : ℕ) → b1 < 256 → b2 < 256 → b3 < 256 → IsDecoded (extended b1 b2 b3)
unfolding nested
extended_decoded b1 b2 b3 h k l = bytes_four 0xed b1 b2 b3 (omega arith) h k l

pub ix_bits_decoded : (b2 b3 : ℕ) → b2 < 256 → b3 < 256 → IsDecoded (of_bytes 4 (bits b3 (memory_of indexes.Ix b2)))
unfolding nested indexed
ix_bits_decoded b2 b3 h k = bytes_four 0xdd 0xcb b2 b3 (omega arith) (omega arith) h k

pub iy_bits_decoded : (b2 b3 : ℕ) → b2 < 256 → b3 < 256 → IsDecoded (of_bytes 4 (bits b3 (memory_of indexes.Iy b2)))
unfolding nested indexed
iy_bits_decoded b2 b3 h k = bytes_four 0xfd 0xcb b2 b3 (omega arith) (omega arith) h k

cb_named : names_hl 0xcb ≡ false
unfolding names_hl
cb_named = refl

indexed_by : (cb : Bool) (index : Index) (b1 b2 b3 : ℕ) → (b1 == 0xcb) ≡ cb → names_hl b1 ≡ true → indexed index b1 b2 b3 ≡ by_opcode index b1 b2 b3
unfolding indexed
indexed_by true index b1 b2 b3 is names =
    let same : b1 ≡ 0xcb = grind (arith, nat_tests) in
    let no : names_hl 0xcb ≡ true = rw same at names in
    absurd (true≢false (sym no ∙ cb_named))
indexed_by false index b1 b2 b3 is names = rw (is, names) refl

pub ix_decoded : (b1 b2 b3 : ℕ) → b1 < 256 → b2 < 256 → b3 < 256 → names_hl b1 ≡ true → IsDecoded (by_opcode indexes.Ix b1 b2 b3)
unfolding nested
ix_decoded b1 b2 b3 h k l names = rw (← indexed_by (b1 == 0xcb) indexes.Ix b1 b2 b3 refl names) (bytes_four 0xdd b1 b2 b3 (omega arith) h k l)

pub iy_decoded : (b1 b2 b3 : ℕ) → b1 < 256 → b2 < 256 → b3 < 256 → names_hl b1 ≡ true → IsDecoded (by_opcode indexes.Iy b1 b2 b3)
unfolding nested
iy_decoded b1 b2 b3 h k l names = rw (← indexed_by (b1 == 0xcb) indexes.Iy b1 b2 b3 refl names) (bytes_four 0xfd b1 b2 b3 (omega arith) h k l)

-- ---- with 8 for the numbers

-- there is an instruction of this row at an address, of this length
pub record IsReached (row : Row80) (at long : ℕ) : Type 0 where
  pub bytes : List ℕ
  pub all : AreBytes bytes
  pub none : is_db (instruction_of bytes).op ≡ false
  pub is : row_of (instruction_of bytes).op at ≡ row
  pub whole : (instruction_of bytes).length ≡ long

-- a row that is that of a decoded instruction
pub reach : (d : Decoded80) (row : Row80) (at long : ℕ) → IsDecoded d → bytes_eq row.name (codes "db") ≡ false → row_of d.op at ≡ row → d.length ≡ long → IsReached row at long
reach d row at long from none is whole =
    let own = from.is in record {
      bytes = from.bytes;
      all = from.all;
      none = rw (own, ← name_stays d.op at, is) none;
      is = rw own is;
      whole = rw own whole;
    }

abbrev IsFilled : ℕ → Decoded80 → Type 0
IsFilled at d = is_db d.op ≡ false → IsReached (row_kept false false (row_of d.op at)) 4 d.length

pub row_named : (op : Op80) (at : ℕ) → is_db op ≡ false → bytes_eq (row_of op at).name (codes "db") ≡ false
row_named op at none = rw (name_stays op at) none

shape_by : (b : Bool) (at : ℕ) (d e : Decoded80) → is_db e.op ≡ b → is_db d.op ≡ false → filled_shape at d ≡ own_shape 4 e → IsDecoded e → IsReached (row_kept false false (row_of d.op at)) 4 d.length
shape_by true at d e db none same from =
    let name : (row_of d.op at).name ≡ [] = ap (λ (s : Shape). s.0.name) (rw (none, db) at same) in
    let no : is_free [] ≡ true = rw name at (op_free d.op at none) in
    absurd (true≢false (sym no))
shape_by false at d e db none same from =
    let row : row_kept false false (row_of d.op at) ≡ row_of e.op 4 = ap (λ (s : Shape). s.0) (rw (none, db) at same) in
    let long : d.length ≡ e.length = ap (λ (s : Shape). s.1) (rw (none, db) at same) in
    reach e (row_kept false false (row_of d.op at)) 4 d.length from (row_named d.op at none) (sym row) (sym long)

restart_by : (b : Bool) (w : ℕ) → is_prefix w ≡ false → is_prefix (if b then 0xcf else w) ≡ false
restart_by true w h = refl
restart_by false w h = h

code_low : (b : Bool) (w : ℕ) → w < 256 → (if b then 0xcf else w) < 256
code_low true w h = omega arith
code_low false w h = h

first_low : (b : Bool) → (if b then 2 else 8) < 256
first_low true = omega arith
first_low false = omega arith

second_low : (b : Bool) → (if b then 8 else 0) < 256
second_low true = omega arith
second_low false = omega arith

eight : 8 < 256
eight = omega arith

zero_low : 0 < 256
zero_low = omega arith

plain_filled : (at b0 b1 b2 : ℕ) → b0 < 256 → is_prefix b0 ≡ false → IsFilled at (by_opcode indexes.Hl b0 b1 b2)
plain_filled at b0 b1 b2 h prefix none =
    shape_by _ at (by_opcode indexes.Hl b0 b1 b2) (by_opcode indexes.Hl (code8 b0) (first8 b0) 0) refl none
    (same_at (λ w. filled_shape at (by_opcode indexes.Hl w b1 b2)) (λ w. own_shape 4 (by_opcode indexes.Hl (code8 w) (first8 w) 0)) 256 0 (filled_plain at b1 b2) b0 (omega arith) (omega arith))
    (plain_decoded (code8 b0) (first8 b0) 0 (code_low (is_restart b0) b0 h) (first_low (is_relative b0)) zero_low (restart_by (is_restart b0) b0 prefix))

bits_filled : (at b1 : ℕ) → b1 < 256 → IsFilled at (of_bytes 2 (bits b1 (place_of indexes.Hl (lower b1) 0)))
bits_filled at b1 h none =
    shape_by _ at (of_bytes 2 (bits b1 (place_of indexes.Hl (lower b1) 0))) (of_bytes 2 (bits b1 (place_of indexes.Hl (lower b1) 0))) refl none
    (same_at (λ w. filled_shape at (of_bytes 2 (bits w (place_of indexes.Hl (lower w) 0)))) (λ w. own_shape 4 (of_bytes 2 (bits w (place_of indexes.Hl (lower w) 0)))) 256 0 (filled_bits at) b1 (omega arith) (omega arith))
    (bits_decoded b1 h)

extended_filled : (at b1 b2 b3 : ℕ) → b1 < 256 → IsFilled at (extended b1 b2 b3)
extended_filled at b1 b2 b3 h none =
    shape_by _ at (extended b1 b2 b3) (extended b1 8 0) refl none
    (same_at (λ w. filled_shape at (extended w b2 b3)) (λ w. own_shape 4 (extended w 8 0)) 256 0 (filled_extended at b2 b3) b1 (omega arith) (omega arith))
    (extended_decoded b1 8 0 h eight zero_low)

ix_bits_filled : (at b2 b3 : ℕ) → b3 < 256 → IsFilled at (of_bytes 4 (bits b3 (memory_of indexes.Ix b2)))
ix_bits_filled at b2 b3 h none =
    shape_by _ at (of_bytes 4 (bits b3 (memory_of indexes.Ix b2))) (of_bytes 4 (bits b3 (memory_of indexes.Ix 8))) refl none
    (same_at (λ w. filled_shape at (of_bytes 4 (bits w (memory_of indexes.Ix b2)))) (λ w. own_shape 4 (of_bytes 4 (bits w (memory_of indexes.Ix 8)))) 256 0 (filled_ix_bits at b2) b3 (omega arith) (omega arith))
    (ix_bits_decoded 8 b3 eight h)

iy_bits_filled : (at b2 b3 : ℕ) → b3 < 256 → IsFilled at (of_bytes 4 (bits b3 (memory_of indexes.Iy b2)))
iy_bits_filled at b2 b3 h none =
    shape_by _ at (of_bytes 4 (bits b3 (memory_of indexes.Iy b2))) (of_bytes 4 (bits b3 (memory_of indexes.Iy 8))) refl none
    (same_at (λ w. filled_shape at (of_bytes 4 (bits w (memory_of indexes.Iy b2)))) (λ w. own_shape 4 (of_bytes 4 (bits w (memory_of indexes.Iy 8)))) 256 0 (filled_iy_bits at b2) b3 (omega arith) (omega arith))
    (iy_bits_decoded 8 b3 eight h)

ix_filled : (at b1 b2 b3 : ℕ) → b1 < 256 → names_hl b1 ≡ true → IsFilled at (by_opcode indexes.Ix b1 b2 b3)
ix_filled at b1 b2 b3 h names none =
    let same = same_at (named (λ w. filled_shape at (by_opcode indexes.Ix w b2 b3))) (named (λ w. own_shape 4 (by_opcode indexes.Ix w 8 (second8 w)))) 256 0 (filled_ix at b2 b3) b1 (omega arith) (omega arith) in
    shape_by _ at (by_opcode indexes.Ix b1 b2 b3) (by_opcode indexes.Ix b1 8 (second8 b1)) refl none (rw names at same)
    (ix_decoded b1 8 (second8 b1) h eight (second_low (b1 == 0x36)) names)

iy_filled : (at b1 b2 b3 : ℕ) → b1 < 256 → names_hl b1 ≡ true → IsFilled at (by_opcode indexes.Iy b1 b2 b3)
iy_filled at b1 b2 b3 h names none =
    let same = same_at (named (λ w. filled_shape at (by_opcode indexes.Iy w b2 b3))) (named (λ w. own_shape 4 (by_opcode indexes.Iy w 8 (second8 w)))) 256 0 (filled_iy at b2 b3) b1 (omega arith) (omega arith) in
    shape_by _ at (by_opcode indexes.Iy b1 b2 b3) (by_opcode indexes.Iy b1 8 (second8 b1)) refl none (rw names at same)
    (iy_decoded b1 8 (second8 b1) h eight (second_low (b1 == 0x36)) names)

lone_filled : (at : ℕ) (index : Index) → IsFilled at (of_bytes 1 (ops.LonePrefix index))
lone_filled at index none = absurd (true≢false none)

nested_filled : (at b0 b1 b2 b3 : ℕ) → b0 < 256 → b1 < 256 → b3 < 256 → IsFilled at (nested b0 b1 b2 b3)
nested_filled at b0 b1 b2 b3 h k m = by_page (IsFilled at) b0 b1 b2 b3
    (λ cb. bits_filled at b1 k)
    (λ dd. by_index (IsFilled at) indexes.Ix b1 b2 b3 (λ cb. ix_bits_filled at b2 b3 m) (ix_filled at b1 b2 b3 k) (lone_filled at indexes.Ix) _ _ refl refl)
    (λ ed. extended_filled at b1 b2 b3 k)
    (λ fd. by_index (IsFilled at) indexes.Iy b1 b2 b3 (λ cb. iy_bits_filled at b2 b3 m) (iy_filled at b1 b2 b3 k) (lone_filled at indexes.Iy) _ _ refl refl)
    (plain_filled at b0 b1 b2 h)
    _ _ _ _ refl refl refl refl

-- with 8 for all its numbers an instruction is there too, as long as it is
pub all_filled : (bytes : List ℕ) (at : ℕ) → AreBytes bytes → IsFilled at (instruction_of bytes)
all_filled bytes at h = rw (decoded_is_nested bytes (h 0) (h 1) (h 3)) (nested_filled at _ _ _ _ (h 0) (h 1) (h 3))

-- ---- its text is read, and one operand at the most has a number

abbrev IsKnown : ℕ → Decoded80 → Type 0
IsKnown at d = (read at d ≡ true) × (is_odd d ≡ false)

nested_known : (at b0 b1 b2 b3 : ℕ) → b0 < 256 → b1 < 256 → b2 < 256 → b3 < 256 → IsKnown at (nested b0 b1 b2 b3)
nested_known at b0 b1 b2 b3 h k l m = by_page (IsKnown at) b0 b1 b2 b3
    (λ cb. (
      same_at (λ w. read at (of_bytes 2 (bits w (place_of indexes.Hl (lower w) 0)))) (λ w. true) 256 0 (read_bits at) b1 (omega arith) (omega arith),
      same_at (λ w. is_odd (of_bytes 2 (bits w (place_of indexes.Hl (lower w) 0)))) (λ w. false) 256 0 odd_bits b1 (omega arith) (omega arith),
    ))
    (λ dd. by_index (IsKnown at) indexes.Ix b1 b2 b3
    (λ cb. (
      same_at (λ w. read at (of_bytes 4 (bits w (memory_of indexes.Ix b2)))) (λ w. true) 256 0 (read_ix_bits at b2 l) b3 (omega arith) (omega arith),
      same_at (λ w. is_odd (of_bytes 4 (bits w (memory_of indexes.Ix b2)))) (λ w. false) 256 0 (odd_ix_bits b2) b3 (omega arith) (omega arith),
    ))
    (λ names. (
      rw names at (same_at (λ w. read_after at (by_opcode indexes.Ix w b2 b3) w) (λ w. true) 256 0 (read_ix at b2 b3 l m) b1 (omega arith) (omega arith)),
      rw names at (same_at (named_odd (λ w. by_opcode indexes.Ix w b2 b3)) (λ w. false) 256 0 (odd_ix b2 b3) b1 (omega arith) (omega arith)),
    ))
    (refl, refl) _ _ refl refl)
    (λ ed. (
      same_at (λ w. read at (extended w b2 b3)) (λ w. true) 256 0 (read_extended at b2 b3 l m) b1 (omega arith) (omega arith),
      same_at (λ w. is_odd (extended w b2 b3)) (λ w. false) 256 0 (odd_extended b2 b3) b1 (omega arith) (omega arith),
    ))
    (λ fd. by_index (IsKnown at) indexes.Iy b1 b2 b3
    (λ cb. (
      same_at (λ w. read at (of_bytes 4 (bits w (memory_of indexes.Iy b2)))) (λ w. true) 256 0 (read_iy_bits at b2 l) b3 (omega arith) (omega arith),
      same_at (λ w. is_odd (of_bytes 4 (bits w (memory_of indexes.Iy b2)))) (λ w. false) 256 0 (odd_iy_bits b2) b3 (omega arith) (omega arith),
    ))
    (λ names. (
      rw names at (same_at (λ w. read_after at (by_opcode indexes.Iy w b2 b3) w) (λ w. true) 256 0 (read_iy at b2 b3 l m) b1 (omega arith) (omega arith)),
      rw names at (same_at (named_odd (λ w. by_opcode indexes.Iy w b2 b3)) (λ w. false) 256 0 (odd_iy b2 b3) b1 (omega arith) (omega arith)),
    ))
    (refl, refl) _ _ refl refl)
    (λ none. (
      same_at (λ w. read at (by_opcode indexes.Hl w b1 b2)) (λ w. true) 256 0 (read_plain at b1 b2 k l) b0 (omega arith) (omega arith),
      same_at (λ w. is_odd (by_opcode indexes.Hl w b1 b2)) (λ w. false) 256 0 (odd_plain b1 b2) b0 (omega arith) (omega arith),
    ))
    _ _ _ _ refl refl refl refl

known : (bytes : List ℕ) (at : ℕ) → AreBytes bytes → IsKnown at (instruction_of bytes)
known bytes at h = rw (decoded_is_nested bytes (h 0) (h 1) (h 3)) (nested_known at _ _ _ _ (h 0) (h 1) (h 2) (h 3))

pub row_read : (bytes : List ℕ) (at : ℕ) → AreBytes bytes → is_db (instruction_of bytes).op ≡ false → is_read (row_of (instruction_of bytes).op at) ≡ true
row_read bytes at h none = rw none at ((known bytes at h).0)

pub record IsEven (op : Op80) : Type 0 where
  pub far : is_far op ≡ false
  pub one : (both_numbered op && not (is_two op)) ≡ false
  pub even : is_uneven op ≡ false

pub not_odd : (bytes : List ℕ) → AreBytes bytes → is_db (instruction_of bytes).op ≡ false → IsEven (instruction_of bytes).op
not_odd bytes h none =
    let a = or_parts _ _ (rw none at ((known bytes 0 h).1)) in
    let b = or_parts _ _ a.1 in record { far = a.0; one = b.0; even = b.1 }
