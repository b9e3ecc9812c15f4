-- What the table says of four bytes is what the code finds: shown for each page by computing both
-- for all 256 opcodes, whatever the operands are.
use Rattle.std.proofs.Common.{◌≡◌, ◌==◌, ℕ, ◌<◌, Bool, true, false, cond, List, map, length, refl, ap, arith}
use Rattle.std.specs.Prelude.{◌||◌, ◌&&◌, slice_index, nat_le, nat_eq}
use Rattle.z80_decode.specs.declared.decoded80.Decoded80.{Decoded80}
use Rattle.z80_decode.specs.declared.index.Index.{Index}
use Rattle.z80_decode.specs.declared.index.Index.TheVariants as indexes
use Rattle.z80_decode.specs.declared.op80.Op80.TheVariants as ops
use Rattle.md_word.proofs.Agree.{range, same_at}
use Rattle.z80_decode.specs.Fields.{memory_of, place_of, lower, pair_of, stacked_of, condition_of, bit_of}
use Rattle.z80_decode.specs.Lines.{TableLine, matching, matches, plain_lines, indexed_lines, bit_lines, indexed_bit_lines, extended_lines}
use Rattle.std.proofs.lemmas.Bool.{and_parts}
use Rattle.std.proofs.lemmas.Bool.Decides.{nat_tests}
use Rattle.z80_decode.specs.Instructions.{AtMostOneRow, HasRows, Page, looked_up, OpcodeEntry, Plain, Bits, Extended, Indexed, IndexedBits, entry, entry_of, prefixed, rows_of, chosen, instruction_of}
use Rattle.z80_decode.specs.Nested.{of_bytes, bits, shift, arithmetic, accumulator, block_of, block_op, relative_jumps, pair_loads, memory_loads, pair_steps, step, number_loads, low_group, loads, returns, jumps, calls, control, by_opcode, low_names_hl, names_hl, indexed, ports, pairs_extended, modes, specials, extended, nested}
use Rattle.z80_decode.specs.Ops.{IsInstruction, is_op}

-- an opcode that is a prefix
abbrev is_prefix : ℕ → Bool
is_prefix w = w == 0xcb || w == 0xdd || w == 0xed || w == 0xfd

-- how many rows an opcode of a page has is as it should be
abbrev counted : Page → ℕ → Bool
counted Extended count = nat_le count 1
counted Indexed count = nat_le count 1
counted _ count = nat_eq count 1

-- what the table says: the instruction of these rows, and whether their number is right
abbrev reported : List TableLine → OpcodeEntry → Decoded80 × Bool
reported rows e = (chosen rows e, counted e.page (length rows))

abbrev right : Decoded80 → Decoded80 × Bool
right d = (d, true)

-- nothing in particular is said of a prefix
abbrev unless_prefix : (ℕ → Decoded80 × Bool) → ℕ → Decoded80 × Bool
unless_prefix f w = cond (is_prefix w) (right (of_bytes 0 ops.Nop)) (f w)

agree_plain : (first second : ℕ) → map (unless_prefix (λ w. reported (matching plain_lines w) (entry Plain 1 indexes.Hl w first second))) (range 256 0) ≡ map (unless_prefix (λ w. right (by_opcode indexes.Hl w first second))) (range 256 0)
unfolding range matching matches plain_lines place_of pair_of stacked_of condition_of bit_of arithmetic accumulator relative_jumps pair_loads memory_loads pair_steps step number_loads low_group loads returns jumps calls control by_opcode
agree_plain first second = refl

agree_bits : (first second : ℕ) → map (λ w. reported (matching bit_lines w) (entry Bits 2 indexes.Hl w first second)) (range 256 0) ≡ map (λ w. right (of_bytes 2 (bits w (place_of indexes.Hl (lower w) 0)))) (range 256 0)
unfolding range matching matches bit_lines place_of bit_of bits shift
agree_bits first second = refl

agree_indexed_bits : (index : Index) (first second : ℕ) → map (λ w. reported (matching indexed_bit_lines w) (entry IndexedBits 4 index w first second)) (range 256 0) ≡ map (λ w. right (of_bytes 4 (bits w (memory_of index first)))) (range 256 0)
unfolding range matching matches indexed_bit_lines bit_of bits shift
agree_indexed_bits index first second = refl

agree_extended : (first second : ℕ) → map (λ w. reported (matching extended_lines w) (entry Extended 2 indexes.Hl w first second)) (range 256 0) ≡ map (λ w. right (extended w first second)) (range 256 0)
unfolding range matching matches extended_lines place_of pair_of extended ports pairs_extended modes specials block_of block_op
agree_extended first second = refl

-- what follows DD or FD and is not CB
abbrev after_index : Index → ℕ → ℕ → ℕ → Decoded80
after_index index first second w = cond (names_hl w) (by_opcode index w first second) (of_bytes 1 (ops.LonePrefix index))

agree_ix : (first second : ℕ) → map (λ w. reported (matching indexed_lines w) (entry Indexed 2 indexes.Ix w first second)) (range 256 0) ≡ map (λ w. right (after_index indexes.Ix first second w)) (range 256 0)
unfolding range matching matches indexed_lines place_of pair_of stacked_of condition_of bit_of arithmetic accumulator relative_jumps pair_loads memory_loads pair_steps step number_loads low_group loads returns jumps calls control by_opcode low_names_hl names_hl
agree_ix first second = refl

agree_iy : (first second : ℕ) → map (λ w. reported (matching indexed_lines w) (entry Indexed 2 indexes.Iy w first second)) (range 256 0) ≡ map (λ w. right (after_index indexes.Iy first second w)) (range 256 0)
unfolding range matching matches indexed_lines place_of pair_of stacked_of condition_of bit_of arithmetic accumulator relative_jumps pair_loads memory_loads pair_steps step number_loads low_group loads returns jumps calls control by_opcode low_names_hl names_hl
agree_iy first second = refl

at_plain : (w first second : ℕ) → w < 256 → is_prefix w ≡ false → reported (matching plain_lines w) (entry Plain 1 indexes.Hl w first second) ≡ right (by_opcode indexes.Hl w first second)
at_plain w first second below none =
    let same = same_at (unless_prefix (λ w. reported (matching plain_lines w) (entry Plain 1 indexes.Hl w first second))) (unless_prefix (λ w. right (by_opcode indexes.Hl w first second))) 256 0 (agree_plain first second) w (omega arith) (omega arith) in
    rw none at same

-- what an entry decodes to, and whether it has as many rows as it should
abbrev meaning : OpcodeEntry → Decoded80 × Bool
meaning e = reported (rows_of e) e

after_ix : (b1 b2 b3 : ℕ) → b1 < 256 → b3 < 256 → (bit : Bool) → (b1 == 0xcb) ≡ bit → meaning (prefixed indexes.Ix b1 b2 b3) ≡ right (indexed indexes.Ix b1 b2 b3)
unfolding rows_of indexed
after_ix b1 b2 b3 h k true e = rw e (same_at (λ w. reported (matching indexed_bit_lines w) (entry IndexedBits 4 indexes.Ix w b2 0)) (λ w. right (of_bytes 4 (bits w (memory_of indexes.Ix b2)))) 256 0 (agree_indexed_bits indexes.Ix b2 0) b3 (omega arith) (omega arith))
after_ix b1 b2 b3 h k false e = rw e (same_at (λ w. reported (matching indexed_lines w) (entry Indexed 2 indexes.Ix w b2 b3)) (λ w. right (after_index indexes.Ix b2 b3 w)) 256 0 (agree_ix b2 b3) b1 (omega arith) (omega arith))

after_iy : (b1 b2 b3 : ℕ) → b1 < 256 → b3 < 256 → (bit : Bool) → (b1 == 0xcb) ≡ bit → meaning (prefixed indexes.Iy b1 b2 b3) ≡ right (indexed indexes.Iy b1 b2 b3)
unfolding rows_of indexed
after_iy b1 b2 b3 h k true e = rw e (same_at (λ w. reported (matching indexed_bit_lines w) (entry IndexedBits 4 indexes.Iy w b2 0)) (λ w. right (of_bytes 4 (bits w (memory_of indexes.Iy b2)))) 256 0 (agree_indexed_bits indexes.Iy b2 0) b3 (omega arith) (omega arith))
after_iy b1 b2 b3 h k false e = rw e (same_at (λ w. reported (matching indexed_lines w) (entry Indexed 2 indexes.Iy w b2 b3)) (λ w. right (after_index indexes.Iy b2 b3 w)) 256 0 (agree_iy b2 b3) b1 (omega arith) (omega arith))

by_first : (b0 b1 b2 b3 : ℕ) → b0 < 256 → b1 < 256 → b3 < 256 → (cb dd ed fd : Bool) → (b0 == 0xcb) ≡ cb → (b0 == 0xdd) ≡ dd → (b0 == 0xed) ≡ ed → (b0 == 0xfd) ≡ fd → meaning (entry_of b0 b1 b2 b3) ≡ right (nested b0 b1 b2 b3)
unfolding rows_of nested
by_first b0 b1 b2 b3 h k l true dd ed fd ecb edd eed efd =
    rw ecb (same_at (λ w. reported (matching bit_lines w) (entry Bits 2 indexes.Hl w b2 b3)) (λ w. right (of_bytes 2 (bits w (place_of indexes.Hl (lower w) 0)))) 256 0 (agree_bits b2 b3) b1 (omega arith) (omega arith))
by_first b0 b1 b2 b3 h k l false true ed fd ecb edd eed efd = rw (ecb, edd) (after_ix b1 b2 b3 k l (b1 == 0xcb) refl)
by_first b0 b1 b2 b3 h k l false false true fd ecb edd eed efd =
    rw (ecb, edd, eed) (same_at (λ w. reported (matching extended_lines w) (entry Extended 2 indexes.Hl w b2 b3)) (λ w. right (extended w b2 b3)) 256 0 (agree_extended b2 b3) b1 (omega arith) (omega arith))
by_first b0 b1 b2 b3 h k l false false false true ecb edd eed efd = rw (ecb, edd, eed, efd) (after_iy b1 b2 b3 k l (b1 == 0xcb) refl)
by_first b0 b1 b2 b3 h k l false false false false ecb edd eed efd =
    let none : is_prefix b0 ≡ false = rw (ecb, edd, eed, efd) refl in
    rw (ecb, edd, eed, efd) (at_plain b0 b1 b2 h none)

of_bytes_reported : (bytes : List ℕ) → slice_index bytes 0 < 256 → slice_index bytes 1 < 256 → slice_index bytes 3 < 256
    → meaning (looked_up bytes) ≡ right (nested (slice_index bytes 0) (slice_index bytes 1) (slice_index bytes 2) (slice_index bytes 3))
of_bytes_reported bytes h k l = by_first (slice_index bytes 0) (slice_index bytes 1) (slice_index bytes 2) (slice_index bytes 3) h k l _ _ _ _ refl refl refl refl

pub decoded_is_nested : (bytes : List ℕ) → slice_index bytes 0 < 256 → slice_index bytes 1 < 256 → slice_index bytes 3 < 256
    → instruction_of bytes ≡ nested (slice_index bytes 0) (slice_index bytes 1) (slice_index bytes 2) (slice_index bytes 3)
unfolding instruction_of
decoded_is_nested bytes h k l = ap (λ (t : Decoded80 × Bool). t.0) (of_bytes_reported bytes h k l)

rows_counted : (page : Page) (count : ℕ) → counted page count ≡ true → HasRows page count
rows_counted Plain count e = grind (arith, nat_tests)
rows_counted Bits count e = grind (arith, nat_tests)
rows_counted Extended count e = grind (arith, nat_tests)
rows_counted Indexed count e = grind (arith, nat_tests)
rows_counted IndexedBits count e = grind (arith, nat_tests)

-- no four bytes match two rows
pub one_row : (bytes : List ℕ) → slice_index bytes 0 < 256 → slice_index bytes 1 < 256 → slice_index bytes 3 < 256 → AtMostOneRow bytes
one_row bytes h k l = rows_counted _ _ (ap (λ (t : Decoded80 × Bool). t.1) (of_bytes_reported bytes h k l))

abbrev decoded_is : Decoded80 → Bool
decoded_is d = is_op d.op && nat_le 1 d.length && nat_le d.length 4

kinds_plain : (first second : ℕ) → map (λ w. decoded_is (by_opcode indexes.Hl w first second)) (range 256 0) ≡ map (λ w. true) (range 256 0)
unfolding range place_of pair_of stacked_of condition_of arithmetic accumulator relative_jumps pair_loads memory_loads pair_steps step number_loads low_group loads returns jumps calls control by_opcode
kinds_plain first second = refl

kinds_bits : map (λ w. decoded_is (of_bytes 2 (bits w (place_of indexes.Hl (lower w) 0)))) (range 256 0) ≡ map (λ w. true) (range 256 0)
unfolding range place_of bits shift
kinds_bits = refl

kinds_indexed_bits : (index : Index) (displacement : ℕ) → map (λ w. decoded_is (of_bytes 4 (bits w (memory_of index displacement)))) (range 256 0) ≡ map (λ w. true) (range 256 0)
unfolding range bits shift
kinds_indexed_bits indexes.Hl displacement = refl
kinds_indexed_bits indexes.Ix displacement = refl
kinds_indexed_bits indexes.Iy displacement = refl

kinds_extended : (first second : ℕ) → map (λ w. decoded_is (extended w first second)) (range 256 0) ≡ map (λ w. true) (range 256 0)
unfolding range place_of pair_of extended ports pairs_extended modes specials block_of block_op
kinds_extended first second = refl

kinds_ix : (first second : ℕ) → map (λ w. decoded_is (after_index indexes.Ix first second w)) (range 256 0) ≡ map (λ w. true) (range 256 0)
unfolding range place_of pair_of stacked_of condition_of arithmetic accumulator relative_jumps pair_loads memory_loads pair_steps step number_loads low_group loads returns jumps calls control by_opcode low_names_hl names_hl
kinds_ix first second = refl

kinds_iy : (first second : ℕ) → map (λ w. decoded_is (after_index indexes.Iy first second w)) (range 256 0) ≡ map (λ w. true) (range 256 0)
unfolding range place_of pair_of stacked_of condition_of arithmetic accumulator relative_jumps pair_loads memory_loads pair_steps step number_loads low_group loads returns jumps calls control by_opcode low_names_hl names_hl
kinds_iy first second = refl

kinds_after_ix : (b1 b2 b3 : ℕ) → b1 < 256 → b3 < 256 → (bit : Bool) → (b1 == 0xcb) ≡ bit → decoded_is (indexed indexes.Ix b1 b2 b3) ≡ true
unfolding indexed
kinds_after_ix b1 b2 b3 h k true e = rw e (same_at (λ w. decoded_is (of_bytes 4 (bits w (memory_of indexes.Ix b2)))) (λ w. true) 256 0 (kinds_indexed_bits indexes.Ix b2) b3 (omega arith) (omega arith))
kinds_after_ix b1 b2 b3 h k false e = rw e (same_at (λ w. decoded_is (after_index indexes.Ix b2 b3 w)) (λ w. true) 256 0 (kinds_ix b2 b3) b1 (omega arith) (omega arith))

kinds_after_iy : (b1 b2 b3 : ℕ) → b1 < 256 → b3 < 256 → (bit : Bool) → (b1 == 0xcb) ≡ bit → decoded_is (indexed indexes.Iy b1 b2 b3) ≡ true
unfolding indexed
kinds_after_iy b1 b2 b3 h k true e = rw e (same_at (λ w. decoded_is (of_bytes 4 (bits w (memory_of indexes.Iy b2)))) (λ w. true) 256 0 (kinds_indexed_bits indexes.Iy b2) b3 (omega arith) (omega arith))
kinds_after_iy b1 b2 b3 h k false e = rw e (same_at (λ w. decoded_is (after_index indexes.Iy b2 b3 w)) (λ w. true) 256 0 (kinds_iy b2 b3) b1 (omega arith) (omega arith))

kinds_by_first : (b0 b1 b2 b3 : ℕ) → b0 < 256 → b1 < 256 → b3 < 256 → (cb dd ed fd : Bool) → (b0 == 0xcb) ≡ cb → (b0 == 0xdd) ≡ dd → (b0 == 0xed) ≡ ed → (b0 == 0xfd) ≡ fd → decoded_is (nested b0 b1 b2 b3) ≡ true
unfolding nested
kinds_by_first b0 b1 b2 b3 h k l true dd ed fd ecb edd eed efd =
    rw ecb (same_at (λ w. decoded_is (of_bytes 2 (bits w (place_of indexes.Hl (lower w) 0)))) (λ w. true) 256 0 kinds_bits b1 (omega arith) (omega arith))
kinds_by_first b0 b1 b2 b3 h k l false true ed fd ecb edd eed efd = rw (ecb, edd) (kinds_after_ix b1 b2 b3 k l (b1 == 0xcb) refl)
kinds_by_first b0 b1 b2 b3 h k l false false true fd ecb edd eed efd =
    rw (ecb, edd, eed) (same_at (λ w. decoded_is (extended w b2 b3)) (λ w. true) 256 0 (kinds_extended b2 b3) b1 (omega arith) (omega arith))
kinds_by_first b0 b1 b2 b3 h k l false false false true ecb edd eed efd = rw (ecb, edd, eed, efd) (kinds_after_iy b1 b2 b3 k l (b1 == 0xcb) refl)
kinds_by_first b0 b1 b2 b3 h k l false false false false ecb edd eed efd =
    rw (ecb, edd, eed, efd) (same_at (λ w. decoded_is (by_opcode indexes.Hl w b1 b2)) (λ w. true) 256 0 (kinds_plain b1 b2) b0 (omega arith) (omega arith))

instructed : (d : Decoded80) → decoded_is d ≡ true → IsInstruction d
instructed d e =
    let parts = and_parts (is_op d.op && nat_le 1 d.length) (nat_le d.length 4) e in
    let inner = and_parts (is_op d.op) (nat_le 1 d.length) parts.0 in
    record { operands = inner.0; least = grind (arith, nat_tests); most = grind (arith, nat_tests) }

-- what bytes decode to is an instruction
pub instruction : (b0 b1 b2 b3 : ℕ) → b0 < 256 → b1 < 256 → b3 < 256 → IsInstruction (nested b0 b1 b2 b3)
instruction b0 b1 b2 b3 h k l = instructed (nested b0 b1 b2 b3) (kinds_by_first b0 b1 b2 b3 h k l _ _ _ _ refl refl refl refl)
