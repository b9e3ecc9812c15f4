-- An instruction of the Z80 is there with any other number of the range in the places of its own: for each page by computing
-- both for all opcodes.
use Rattle.std.proofs.Common.{◌≡◌, ℕ, ◌+◌, ◌*◌, ◌/◌, ◌%◌, ◌<◌, ◌≤◌, ◌==◌, Bool, true, false, ◌||◌, cond, List, [], nat_lt, map, refl, ap, sym, subst, arith, if◌then◌else◌}
use Rattle.std.specs.Prelude.{nat_le}
use Rattle.std.proofs.lemmas.Bool.{and_parts, true≢false}
use Rattle.md_word.proofs.Agree.{range, same_at}
use Rattle.z80_decode.specs.declared.decoded80.Decoded80.{Decoded80}
use Rattle.z80_decode.specs.declared.index.Index.{Index}
use Rattle.z80_decode.specs.declared.index.Index.TheVariants as indexes
use Rattle.z80_decode.specs.declared.op80.Op80.{Op80}
use Rattle.z80_decode.specs.declared.op80.Op80.TheVariants as ops
use Rattle.z80_decode.specs.declared.place8.Place8.{Place8}
use Rattle.z80_decode.specs.declared.place8.Place8.TheVariants as places
use Rattle.z80_decode.specs.Fields.{memory_of, place_of, lower, pair_of, stacked_of, condition_of, bit_of}
use Rattle.z80_decode.specs.Instructions.{instruction_of}
use Rattle.z80_decode.specs.Nested.{of_bytes, bits, shift, arithmetic, accumulator, block_of, block_op, relative_jumps, pair_loads, memory_loads, pair_steps, step, number_loads, low_group, loads, returns, jumps, calls, control, by_opcode, low_names_hl, names_hl, nested, ports, pairs_extended, modes, specials, extended}
use Rattle.z80_decode.proofs.Table.{decoded_is_nested}
use Rattle.md_disasm.specs.Rows80.{Row80, none, row_of}
use Rattle.md_disasm.specs.declared.operand80.Operand80.{Operand80}
use Rattle.md_disasm.specs.declared.operand80.Operand80.TheVariants as operands
use Rattle.asm_z80.specs.Coded80.{AreBytes}
use Rattle.asm_z80.proofs.Again80.{is_prefix}
use Rattle.asm_z80.specs.Instruction.{is_db}
use Rattle.asm_z80.proofs.Pages.{by_index, by_page}
use Rattle.md_asm.specs.Contents.{under}
use Rattle.md_asm.specs.Ranges.{byte_allows, place_limit, sub_allows}
use Rattle.md_asm.proofs.Alone80.{IsThere, if_there, is_near, jump_there, loop_there, still, target_under}
use Rattle.md_asm.proofs.Among.{at_most, below, no_number, refuted}
use Rattle.md_asm.proofs.Fill80.{IsDecoded, IsReached, bits_decoded, extended_decoded, ix_bits_decoded, ix_decoded, iy_bits_decoded, iy_decoded, not_odd, plain_decoded, reach, row_named}
use Rattle.md_asm.proofs.Line.{is_free}
use Rattle.md_asm.proofs.Named80.{op_free}
use Rattle.md_asm.proofs.Pages80.{Shape, is_far, named}
use Rattle.md_asm.proofs.Rows80.{operand_with}

-- the row with another number in both operands; those that have none stay
abbrev pub row_with : ℕ → Row80 → Row80
row_with n row = record { name = row.name; first = operand_with n row.first; second = operand_with n row.second }

-- an instruction of the row is there, at some address
pub record IsSomewhere (row : Row80) : Type 0 where
  pub at : ℕ
  pub low : at < 65536
  pub long : ℕ
  pub reached : IsReached row at long

-- ---- numbers of 16 bits

abbrev place_wide : Place8 → Bool
place_wide (places.At address) = true
place_wide place = false

abbrev pub operand_wide : Operand80 → Bool
operand_wide (operands.Place place) = place_wide place
operand_wide (operands.Word n) = true
operand_wide (operands.AtWord address) = true
operand_wide o = false

abbrev pub is_wide : Op80 → Bool
is_wide op = operand_wide (row_of op 0).first || operand_wide (row_of op 0).second

-- a jump's distance, and the address of RST, are not in the bytes as they are written
abbrev pub is_other : Op80 → Bool
is_other (ops.Restart address) = true
is_other op = is_near op

-- the bytes of a number: of 16 bits both, of 8 bits the number in either
abbrev low_byte : ℕ → Bool → ℕ
low_byte n wide = if wide then n % 256 else n

abbrev high_byte : ℕ → Bool → ℕ
high_byte n wide = if wide then n / 256 else n

abbrev empty : Shape
empty = (none [], 0)

abbrev with_own : ℕ → ℕ → Decoded80 → Shape
with_own n at d = (row_with n (row_of d.op at), d.length)

abbrev with_shape : ℕ → ℕ → Decoded80 → Shape
with_shape n at d = cond (is_db d.op || is_other d.op) empty (with_own n at d)

abbrev put_shape : ℕ → Decoded80 → Decoded80 → Shape
put_shape at own d = cond (is_db own.op || is_other own.op) empty (cond (is_db d.op) empty (row_of d.op at, d.length))

joined : (n : ℕ) → n / 256 * 256 + n % 256 ≡ n
joined n = omega arith

abbrev plain_put : ℕ → ℕ → Decoded80
plain_put n w = by_opcode indexes.Hl w (low_byte n (is_wide (by_opcode indexes.Hl w 0 0).op)) (high_byte n (is_wide (by_opcode indexes.Hl w 0 0).op))

abbrev extended_put : ℕ → ℕ → Decoded80
extended_put n w = extended w (low_byte n (is_wide (extended w 0 0).op)) (high_byte n (is_wide (extended w 0 0).op))

abbrev index_put : Index → ℕ → ℕ → Decoded80
index_put index n w = by_opcode index w (low_byte n (is_wide (by_opcode index w 0 0).op)) (high_byte n (is_wide (by_opcode index w 0 0).op))

with_bits : (n at : ℕ) → map (λ w. with_shape n at (of_bytes 2 (bits w (place_of indexes.Hl (lower w) 0)))) (range 256 0)
    ≡ map (λ w. put_shape at (of_bytes 2 (bits w (place_of indexes.Hl (lower w) 0))) (of_bytes 2 (bits w (place_of indexes.Hl (lower w) 0)))) (range 256 0)
unfolding range place_of bit_of bits shift
with_bits n at = refl

with_ix_bits : (n at first : ℕ) → map (λ w. with_shape n at (of_bytes 4 (bits w (memory_of indexes.Ix first)))) (range 256 0)
    ≡ map (λ w. put_shape at (of_bytes 4 (bits w (memory_of indexes.Ix first))) (of_bytes 4 (bits w (memory_of indexes.Ix n)))) (range 256 0)
unfolding range bit_of bits shift
with_ix_bits n at first = refl

with_iy_bits : (n at first : ℕ) → map (λ w. with_shape n at (of_bytes 4 (bits w (memory_of indexes.Iy first)))) (range 256 0)
    ≡ map (λ w. put_shape at (of_bytes 4 (bits w (memory_of indexes.Iy first))) (of_bytes 4 (bits w (memory_of indexes.Iy n)))) (range 256 0)
unfolding range bit_of bits shift
with_iy_bits n at first = refl

with_extended : (n at first second : ℕ) → map (λ w. with_shape n at (extended w first second)) (range 256 0)
    ≡ map (λ w. put_shape at (extended w first second) (extended_put n w)) (range 256 0)
unfolding range place_of pair_of extended ports pairs_extended modes specials block_of block_op
with_extended n at first second = rw (joined n) refl

with_plain : (n at first second : ℕ) → map (λ w. with_shape n at (by_opcode indexes.Hl w first second)) (range 256 0)
    ≡ map (λ w. put_shape at (by_opcode indexes.Hl w first second) (plain_put n w)) (range 256 0)
unfolding range place_of pair_of stacked_of condition_of bit_of arithmetic accumulator relative_jumps pair_loads memory_loads pair_steps step number_loads low_group loads returns jumps calls control by_opcode
with_plain n at first second = rw (joined n) refl

with_ix : (n at first second : ℕ) → map (named (λ w. with_shape n at (by_opcode indexes.Ix w first second))) (range 256 0)
    ≡ map (named (λ w. put_shape at (by_opcode indexes.Ix w first second) (index_put indexes.Ix n w))) (range 256 0)
unfolding range place_of pair_of stacked_of condition_of bit_of arithmetic accumulator relative_jumps pair_loads memory_loads pair_steps step number_loads low_group loads returns jumps calls control by_opcode low_names_hl names_hl
with_ix n at first second = rw (joined n) refl

with_iy : (n at first second : ℕ) → map (named (λ w. with_shape n at (by_opcode indexes.Iy w first second))) (range 256 0)
    ≡ map (named (λ w. put_shape at (by_opcode indexes.Iy w first second) (index_put indexes.Iy n w))) (range 256 0)
unfolding range place_of pair_of stacked_of condition_of bit_of arithmetic accumulator relative_jumps pair_loads memory_loads pair_steps step number_loads low_group loads returns jumps calls control by_opcode low_names_hl names_hl
with_iy n at first second = rw (joined n) refl

-- whether it is wide does not depend on the operands

wide_ix_bits : (first : ℕ) → map (λ w. is_wide (bits w (memory_of indexes.Ix first))) (range 256 0) ≡ map (λ w. false) (range 256 0)
unfolding range bit_of bits shift
wide_ix_bits first = refl

wide_iy_bits : (first : ℕ) → map (λ w. is_wide (bits w (memory_of indexes.Iy first))) (range 256 0) ≡ map (λ w. false) (range 256 0)
unfolding range bit_of bits shift
wide_iy_bits first = refl

wide_extended : (first second : ℕ) → map (λ w. is_wide (extended w first second).op) (range 256 0) ≡ map (λ w. is_wide (extended w 0 0).op) (range 256 0)
unfolding range place_of pair_of extended ports pairs_extended modes specials block_of block_op
wide_extended first second = refl

wide_plain : (first second : ℕ) → map (λ w. is_wide (by_opcode indexes.Hl w first second).op) (range 256 0) ≡ map (λ w. is_wide (by_opcode indexes.Hl w 0 0).op) (range 256 0)
unfolding range place_of pair_of stacked_of condition_of bit_of arithmetic accumulator relative_jumps pair_loads memory_loads pair_steps step number_loads low_group loads returns jumps calls control by_opcode
wide_plain first second = refl

wide_ix : (first second : ℕ) → map (λ w. is_wide (by_opcode indexes.Ix w first second).op) (range 256 0) ≡ map (λ w. is_wide (by_opcode indexes.Ix w 0 0).op) (range 256 0)
unfolding range place_of pair_of stacked_of condition_of bit_of arithmetic accumulator relative_jumps pair_loads memory_loads pair_steps step number_loads low_group loads returns jumps calls control by_opcode
wide_ix first second = refl

wide_iy : (first second : ℕ) → map (λ w. is_wide (by_opcode indexes.Iy w first second).op) (range 256 0) ≡ map (λ w. is_wide (by_opcode indexes.Iy w 0 0).op) (range 256 0)
unfolding range place_of pair_of stacked_of condition_of bit_of arithmetic accumulator relative_jumps pair_loads memory_loads pair_steps step number_loads low_group loads returns jumps calls control by_opcode
wide_iy first second = refl

-- ---- what is written is there

-- a number fits the operands: of 16 bits where they are wide, of 8 where they are not
abbrev pub Fits : ℕ → Bool → Type 0
Fits n true = n < 65536
Fits n false = n < 256

low_fits : (n : ℕ) (wide : Bool) → Fits n wide → low_byte n wide < 256
low_fits n true h = omega arith
low_fits n false h = h

high_fits : (n : ℕ) (wide : Bool) → Fits n wide → high_byte n wide < 256
high_fits n true h = omega arith
high_fits n false h = h

abbrev IsWith : ℕ → ℕ → Decoded80 → Type 0
IsWith n at d = is_db d.op ≡ false → is_other d.op ≡ false → Fits n (is_wide d.op) → IsSomewhere (row_with n (row_of d.op at))

put_by : (b : Bool) (n at : ℕ) (d e : Decoded80) → at < 65536 → is_db e.op ≡ b → is_db d.op ≡ false → is_other d.op ≡ false → with_shape n at d ≡ put_shape at d e → IsDecoded e → IsSomewhere (row_with n (row_of d.op at))
put_by true n at d e a db named other same from =
    let own : with_own n at d ≡ empty = rw (named, other, db) at same in
    let name : (row_of d.op at).name ≡ [] = ap (λ (s : Shape). s.0.name) own in
    let no : is_free [] ≡ true = rw name at (op_free d.op at named) in
    absurd (true≢false (sym no))
put_by false n at d e a db named other same from =
    let own : with_own n at d ≡ (row_of e.op at, e.length) = rw (named, other, db) at same in
    let row : row_of e.op at ≡ row_with n (row_of d.op at) = sym (ap (λ (s : Shape). s.0) own) in
    record { at = at; low = a; long = e.length; reached = reach e (row_with n (row_of d.op at)) at e.length from (row_named d.op at named) row refl }

plain_with : (n at b0 b1 b2 : ℕ) → at < 65536 → b0 < 256 → is_prefix b0 ≡ false → IsWith n at (by_opcode indexes.Hl b0 b1 b2)
plain_with n at b0 b1 b2 a h prefix named other fits =
    let wide = same_at (λ w. is_wide (by_opcode indexes.Hl w b1 b2).op) (λ w. is_wide (by_opcode indexes.Hl w 0 0).op) 256 0 (wide_plain b1 b2) b0 (omega arith) (omega arith) in
    let own = subst (Fits n) wide fits in
    put_by _ n at (by_opcode indexes.Hl b0 b1 b2) (plain_put n b0) a refl named other
    (same_at (λ w. with_shape n at (by_opcode indexes.Hl w b1 b2)) (λ w. put_shape at (by_opcode indexes.Hl w b1 b2) (plain_put n w)) 256 0 (with_plain n at b1 b2) b0 (omega arith) (omega arith))
    (plain_decoded b0 _ _ h (low_fits n _ own) (high_fits n _ own) prefix)

bits_with : (n at b1 : ℕ) → at < 65536 → b1 < 256 → IsWith n at (of_bytes 2 (bits b1 (place_of indexes.Hl (lower b1) 0)))
bits_with n at b1 a h named other fits =
    let d = of_bytes 2 (bits b1 (place_of indexes.Hl (lower b1) 0)) in
    put_by _ n at d d a refl named other
    (same_at (λ w. with_shape n at (of_bytes 2 (bits w (place_of indexes.Hl (lower w) 0)))) (λ w. put_shape at (of_bytes 2 (bits w (place_of indexes.Hl (lower w) 0))) (of_bytes 2 (bits w (place_of indexes.Hl (lower w) 0)))) 256 0 (with_bits n at) b1 (omega arith) (omega arith))
    (bits_decoded b1 h)

extended_with : (n at b1 b2 b3 : ℕ) → at < 65536 → b1 < 256 → IsWith n at (extended b1 b2 b3)
extended_with n at b1 b2 b3 a h named other fits =
    let wide = same_at (λ w. is_wide (extended w b2 b3).op) (λ w. is_wide (extended w 0 0).op) 256 0 (wide_extended b2 b3) b1 (omega arith) (omega arith) in
    let own = subst (Fits n) wide fits in
    put_by _ n at (extended b1 b2 b3) (extended_put n b1) a refl named other
    (same_at (λ w. with_shape n at (extended w b2 b3)) (λ w. put_shape at (extended w b2 b3) (extended_put n w)) 256 0 (with_extended n at b2 b3) b1 (omega arith) (omega arith))
    (extended_decoded b1 _ _ h (low_fits n _ own) (high_fits n _ own))

ix_bits_with : (n at b2 b3 : ℕ) → at < 65536 → b3 < 256 → IsWith n at (of_bytes 4 (bits b3 (memory_of indexes.Ix b2)))
ix_bits_with n at b2 b3 a h named other fits =
    let wide = same_at (λ w. is_wide (bits w (memory_of indexes.Ix b2))) (λ w. false) 256 0 (wide_ix_bits b2) b3 (omega arith) (omega arith) in
    put_by _ n at (of_bytes 4 (bits b3 (memory_of indexes.Ix b2))) (of_bytes 4 (bits b3 (memory_of indexes.Ix n))) a refl named other
    (same_at (λ w. with_shape n at (of_bytes 4 (bits w (memory_of indexes.Ix b2)))) (λ w. put_shape at (of_bytes 4 (bits w (memory_of indexes.Ix b2))) (of_bytes 4 (bits w (memory_of indexes.Ix n)))) 256 0 (with_ix_bits n at b2) b3 (omega arith) (omega arith))
    (ix_bits_decoded n b3 (subst (Fits n) wide fits) h)

iy_bits_with : (n at b2 b3 : ℕ) → at < 65536 → b3 < 256 → IsWith n at (of_bytes 4 (bits b3 (memory_of indexes.Iy b2)))
iy_bits_with n at b2 b3 a h named other fits =
    let wide = same_at (λ w. is_wide (bits w (memory_of indexes.Iy b2))) (λ w. false) 256 0 (wide_iy_bits b2) b3 (omega arith) (omega arith) in
    put_by _ n at (of_bytes 4 (bits b3 (memory_of indexes.Iy b2))) (of_bytes 4 (bits b3 (memory_of indexes.Iy n))) a refl named other
    (same_at (λ w. with_shape n at (of_bytes 4 (bits w (memory_of indexes.Iy b2)))) (λ w. put_shape at (of_bytes 4 (bits w (memory_of indexes.Iy b2))) (of_bytes 4 (bits w (memory_of indexes.Iy n)))) 256 0 (with_iy_bits n at b2) b3 (omega arith) (omega arith))
    (iy_bits_decoded n b3 (subst (Fits n) wide fits) h)

ix_with : (n at b1 b2 b3 : ℕ) → at < 65536 → b1 < 256 → names_hl b1 ≡ true → IsWith n at (by_opcode indexes.Ix b1 b2 b3)
ix_with n at b1 b2 b3 a h names name other fits =
    let wide = same_at (λ w. is_wide (by_opcode indexes.Ix w b2 b3).op) (λ w. is_wide (by_opcode indexes.Ix w 0 0).op) 256 0 (wide_ix b2 b3) b1 (omega arith) (omega arith) in
    let own = subst (Fits n) wide fits in
    let same = same_at (named (λ w. with_shape n at (by_opcode indexes.Ix w b2 b3))) (named (λ w. put_shape at (by_opcode indexes.Ix w b2 b3) (index_put indexes.Ix n w))) 256 0 (with_ix n at b2 b3) b1 (omega arith) (omega arith) in
    put_by _ n at (by_opcode indexes.Ix b1 b2 b3) (index_put indexes.Ix n b1) a refl name other (rw names at same)
    (ix_decoded b1 _ _ h (low_fits n _ own) (high_fits n _ own) names)

iy_with : (n at b1 b2 b3 : ℕ) → at < 65536 → b1 < 256 → names_hl b1 ≡ true → IsWith n at (by_opcode indexes.Iy b1 b2 b3)
iy_with n at b1 b2 b3 a h names name other fits =
    let wide = same_at (λ w. is_wide (by_opcode indexes.Iy w b2 b3).op) (λ w. is_wide (by_opcode indexes.Iy w 0 0).op) 256 0 (wide_iy b2 b3) b1 (omega arith) (omega arith) in
    let own = subst (Fits n) wide fits in
    let same = same_at (named (λ w. with_shape n at (by_opcode indexes.Iy w b2 b3))) (named (λ w. put_shape at (by_opcode indexes.Iy w b2 b3) (index_put indexes.Iy n w))) 256 0 (with_iy n at b2 b3) b1 (omega arith) (omega arith) in
    put_by _ n at (by_opcode indexes.Iy b1 b2 b3) (index_put indexes.Iy n b1) a refl name other (rw names at same)
    (iy_decoded b1 _ _ h (low_fits n _ own) (high_fits n _ own) names)

lone_with : (n at : ℕ) (index : Index) → IsWith n at (of_bytes 1 (ops.LonePrefix index))
lone_with n at index named = absurd (true≢false named)

nested_with : (n at b0 b1 b2 b3 : ℕ) → at < 65536 → b0 < 256 → b1 < 256 → b3 < 256 → IsWith n at (nested b0 b1 b2 b3)
nested_with n at b0 b1 b2 b3 a h k m = by_page (IsWith n at) b0 b1 b2 b3
    (λ cb. bits_with n at b1 a k)
    (λ dd. by_index (IsWith n at) indexes.Ix b1 b2 b3 (λ cb. ix_bits_with n at b2 b3 a m) (ix_with n at b1 b2 b3 a k) (lone_with n at indexes.Ix) _ _ refl refl)
    (λ ed. extended_with n at b1 b2 b3 a k)
    (λ fd. by_index (IsWith n at) indexes.Iy b1 b2 b3 (λ cb. iy_bits_with n at b2 b3 a m) (iy_with n at b1 b2 b3 a k) (lone_with n at indexes.Iy) _ _ refl refl)
    (plain_with n at b0 b1 b2 a h)
    _ _ _ _ refl refl refl refl

all_with : (n : ℕ) (bytes : List ℕ) (at : ℕ) → at < 65536 → AreBytes bytes → IsWith n at (instruction_of bytes)
all_with n bytes at a h = rw (decoded_is_nested bytes (h 0) (h 1) (h 3)) (nested_with n at _ _ _ _ a (h 0) (h 1) (h 3))

-- ---- a relative jump, and RST

abbrev restart_own : ℕ → Shape × Bool
restart_own n = cond (n % 8 == 0) ((row_of (by_opcode indexes.Hl (0xc7 + n) 0 0).op 0, (by_opcode indexes.Hl (0xc7 + n) 0 0).length), is_prefix (0xc7 + n)) (empty, false)

abbrev restart_wanted : ℕ → Shape × Bool
restart_wanted n = cond (n % 8 == 0) ((row_of (ops.Restart n) 0, 1), false) (empty, false)

restarts : map restart_own (range 57 0) ≡ map restart_wanted (range 57 0)
unfolding range by_opcode control
restarts = refl

restart_there : (n at : ℕ) → at < 65536 → n ≤ 56 → (n % 8 == 0) ≡ true → IsSomewhere (row_of (ops.Restart n) at)
restart_there n at a h is =
    let same = rw is at (same_at restart_own restart_wanted 57 0 restarts n (omega arith) (omega arith)) in
    let row : row_of (by_opcode indexes.Hl (0xc7 + n) 0 0).op 0 ≡ row_of (ops.Restart n) 0 = ap (λ (s : Shape × Bool). s.0.0) same in
    record {
      at = 0;
      low = omega arith;
      long = (by_opcode indexes.Hl (0xc7 + n) 0 0).length;
      reached = reach (by_opcode indexes.Hl (0xc7 + n) 0 0) (row_of (ops.Restart n) at) 0 (by_opcode indexes.Hl (0xc7 + n) 0 0).length
          (plain_decoded (0xc7 + n) 0 0 (omega arith) (omega arith) (omega arith) (ap (λ (s : Shape × Bool). s.1) same)) refl row refl;
    }

somewhere : (row : Row80) (n : ℕ) → IsThere row (under true n) → IsSomewhere row
somewhere row n there = record { at = under true n; low = omega arith; long = there.0; reached = there.1 }

near_there : (op : Op80) (n at : ℕ) → is_near op ≡ true → is_far op ≡ false → n < 65536 → IsSomewhere (row_with n (row_of op at))
near_there (ops.JumpRelative by) n at near far h = somewhere (row_with n (row_of (ops.JumpRelative by) at)) n (rw (target_under n h) at (jump_there n))
near_there (ops.JumpRelativeIf condition by) n at near far h = somewhere (row_with n (row_of (ops.JumpRelativeIf condition by) at)) n (rw (target_under n h) at (if_there condition n far))
near_there (ops.DecrementAndJump by) n at near far h = somewhere (row_with n (row_of (ops.DecrementAndJump by) at)) n (rw (target_under n h) at (loop_there n))
near_there _ n at near far h = refuted near

-- ---- any number that an operand allows

byte_below : (op : Op80) (n : ℕ) → is_other op ≡ false → byte_allows op n ≡ true → n < 256
byte_below (ops.Restart address) n other h = cc
byte_below _ n other h = below n 256 h

place_fits : (place : Place8) (n : ℕ) → nat_lt n (place_limit place) ≡ true → Fits n (operand_wide (operands.Place place))
place_fits (places.AtIx by) n h = below n 256 h
place_fits (places.AtIy by) n h = below n 256 h
place_fits (places.At address) n h = below n 65536 h
place_fits (places.Number m) n h = below n 256 h
place_fits places.A n h = absurd (no_number n h)
place_fits _ n h = absurd (no_number n h)

operand_fits : (op : Op80) (o : Operand80) (n : ℕ) → is_other op ≡ false → sub_allows op o n ≡ true → Fits n (operand_wide o)
operand_fits op (operands.Place place) n other h = place_fits place n h
operand_fits op (operands.Byte m) n other h = byte_below op n other h
operand_fits op (operands.Port m) n other h = below n 256 h
operand_fits op (operands.Word m) n other h = below n 65536 h
operand_fits op (operands.AtWord address) n other h = below n 65536 h
operand_fits op operands.Nothing n other h = cc
operand_fits op _ n other h = cc

fits_left : (n : ℕ) (a b : Bool) → Fits n a → Fits n (a || b)
fits_left n true b h = h
fits_left n false true h = omega arith
fits_left n false false h = h

fits_right : (n : ℕ) (a b : Bool) → Fits n b → Fits n (a || b)
fits_right n true true h = h
fits_right n true false h = omega arith
fits_right n false b h = h

-- in the first operand, or in the second, of a jump and of RST
other_first : (op : Op80) (n at : ℕ) → at < 65536 → is_far op ≡ false → is_other op ≡ true → sub_allows op (row_of op at).first n ≡ true → IsSomewhere (row_with n (row_of op at))
other_first (ops.Restart address) n at a far other h =
    let p = and_parts (nat_le n 56) (n % 8 == 0) h in
    restart_there n at a (at_most n 56 p.0) p.1
other_first (ops.JumpRelative by) n at a far other h = near_there (ops.JumpRelative by) n at refl far (below n 65536 h)
other_first (ops.DecrementAndJump by) n at a far other h = near_there (ops.DecrementAndJump by) n at refl far (below n 65536 h)
other_first (ops.JumpRelativeIf condition by) n at a far other h = cc
other_first _ n at a far other h = refuted other

other_second : (op : Op80) (n at : ℕ) → is_far op ≡ false → is_other op ≡ true → sub_allows op (row_of op at).second n ≡ true → IsSomewhere (row_with n (row_of op at))
other_second (ops.JumpRelativeIf condition by) n at far other h = near_there (ops.JumpRelativeIf condition by) n at refl far (below n 65536 h)
other_second (ops.Restart address) n at far other h = cc
other_second (ops.JumpRelative by) n at far other h = cc
other_second (ops.DecrementAndJump by) n at far other h = cc
other_second _ n at far other h = refuted other

not_near : (op : Op80) → is_other op ≡ false → is_near op ≡ false
not_near (ops.Restart address) h = cc
not_near _ h = h

module _ (n : ℕ) (bytes : List ℕ) (at : ℕ) (a : at < 65536) (h : AreBytes bytes) (named : is_db (instruction_of bytes).op ≡ false) where
  pub first_there : sub_allows (instruction_of bytes).op (row_of (instruction_of bytes).op at).first n ≡ true → IsSomewhere (row_with n (row_of (instruction_of bytes).op at))
  first_there allowed = by (is_other (instruction_of bytes).op) refl
    where
      by : (b : Bool) → is_other (instruction_of bytes).op ≡ b → IsSomewhere (row_with n (row_of (instruction_of bytes).op at))
      by true is = other_first (instruction_of bytes).op n at a ((not_odd bytes h named).far) is allowed
      by false is =
          let op = (instruction_of bytes).op in
          let here : sub_allows op (row_of op 0).first n ≡ true = subst (λ (r : Row80). sub_allows op r.first n ≡ true) (still op at 0 (not_near op is)) allowed in
          all_with n bytes at a h named is (fits_left n _ _ (operand_fits op (row_of op 0).first n is here))

  pub second_there : sub_allows (instruction_of bytes).op (row_of (instruction_of bytes).op at).second n ≡ true → IsSomewhere (row_with n (row_of (instruction_of bytes).op at))
  second_there allowed = by (is_other (instruction_of bytes).op) refl
    where
      by : (b : Bool) → is_other (instruction_of bytes).op ≡ b → IsSomewhere (row_with n (row_of (instruction_of bytes).op at))
      by true is = other_second (instruction_of bytes).op n at ((not_odd bytes h named).far) is allowed
      by false is =
          let op = (instruction_of bytes).op in
          let here : sub_allows op (row_of op 0).second n ≡ true = subst (λ (r : Row80). sub_allows op r.second n ≡ true) (still op at 0 (not_near op is)) allowed in
          all_with n bytes at a h named is (fits_right n _ _ (operand_fits op (row_of op 0).second n is here))
