-- The bytes of what bytes decode to are as many as it takes of them: for each page by computing it for all
-- opcodes.
use Rattle.std.proofs.Common.{◌≡◌, ◌==◌, ℕ, ◌<◌, ◌≤◌, Bool, true, List, length, map, refl, arith}
use Rattle.std.specs.Prelude.{◌&&◌, nat_le, if◌then◌else◌}
use Rattle.std.proofs.lemmas.Bool.{and_parts, eqb-true}
use Rattle.std.proofs.lemmas.Bool.Decides.{nat_tests}
use Rattle.z80_decode.specs.declared.decoded80.Decoded80.{Decoded80}
use Rattle.z80_decode.specs.declared.index.Index.{Index}
use Rattle.z80_decode.specs.declared.index.Index.TheVariants as indexes
use Rattle.z80_decode.specs.declared.op80.Op80.TheVariants as ops
use Rattle.md_word.proofs.Agree.{range, same_at}
use Rattle.z80_decode.proofs.Table.{decoded_is_nested}
use Rattle.z80_decode.specs.Fields.{memory_of, place_of, lower, pair_of, stacked_of, condition_of, bit_of}
use Rattle.z80_decode.specs.Instructions.{instruction_of}
use Rattle.z80_decode.specs.Nested.{of_bytes, bits, shift, arithmetic, accumulator, block_of, block_op, relative_jumps, pair_loads, memory_loads, pair_steps, step, number_loads, low_group, loads, returns, jumps, calls, control, by_opcode, low_names_hl, names_hl, ports, pairs_extended, modes, specials, extended, nested}
use Rattle.asm_z80.specs.Coded80.{AreBytes}
use Rattle.asm_z80.specs.Encoding80.{encoded, opcode_of, operands, prefixes}
use Rattle.asm_z80.proofs.Pages.{by_index, by_page}

-- as many bytes as it takes, four at the most
abbrev sized : Decoded80 → Bool
sized d = (length (encoded d.op) == d.length) && nat_le d.length 4

-- after a prefix that changes the opcode
abbrev sized_after : Decoded80 → ℕ → Bool
sized_after d w = if names_hl w then sized d else true

abbrev IsSized : Decoded80 → Type 0
IsSized d = sized d ≡ true

sized_bits : map (λ w. sized (of_bytes 2 (bits w (place_of indexes.Hl (lower w) 0)))) (range 256 0) ≡ map (λ w. true) (range 256 0)
unfolding range place_of bit_of bits shift prefixes opcode_of operands encoded
sized_bits = refl

sized_ix_bits : (first : ℕ) → map (λ w. sized (of_bytes 4 (bits w (memory_of indexes.Ix first)))) (range 256 0) ≡ map (λ w. true) (range 256 0)
unfolding range bit_of bits shift prefixes opcode_of operands encoded
sized_ix_bits first = refl

sized_iy_bits : (first : ℕ) → map (λ w. sized (of_bytes 4 (bits w (memory_of indexes.Iy first)))) (range 256 0) ≡ map (λ w. true) (range 256 0)
unfolding range bit_of bits shift prefixes opcode_of operands encoded
sized_iy_bits first = refl

sized_extended : (first second : ℕ) → map (λ w. sized (extended w first second)) (range 256 0) ≡ map (λ w. true) (range 256 0)
unfolding range place_of pair_of extended ports pairs_extended modes specials block_of block_op prefixes opcode_of operands encoded
sized_extended first second = refl

sized_plain : (first second : ℕ) → map (λ w. sized (by_opcode indexes.Hl w first second)) (range 256 0) ≡ map (λ w. true) (range 256 0)
unfolding range place_of pair_of stacked_of condition_of bit_of arithmetic accumulator relative_jumps pair_loads memory_loads pair_steps step number_loads low_group loads returns jumps calls control by_opcode prefixes opcode_of operands encoded
sized_plain first second = refl

sized_ix : (first second : ℕ) → map (λ w. sized_after (by_opcode indexes.Ix w first second) w) (range 256 0) ≡ map (λ w. true) (range 256 0)
unfolding range place_of pair_of stacked_of condition_of bit_of arithmetic accumulator relative_jumps pair_loads memory_loads pair_steps step number_loads low_group loads returns jumps calls control by_opcode low_names_hl names_hl prefixes opcode_of operands encoded
sized_ix first second = refl

sized_iy : (first second : ℕ) → map (λ w. sized_after (by_opcode indexes.Iy w first second) w) (range 256 0) ≡ map (λ w. true) (range 256 0)
unfolding range place_of pair_of stacked_of condition_of bit_of arithmetic accumulator relative_jumps pair_loads memory_loads pair_steps step number_loads low_group loads returns jumps calls control by_opcode low_names_hl names_hl prefixes opcode_of operands encoded
sized_iy first second = refl

ix_sized : (b1 b2 b3 : ℕ) → b1 < 256 → names_hl b1 ≡ true → IsSized (by_opcode indexes.Ix b1 b2 b3)
ix_sized b1 b2 b3 h names =
    let all = same_at (λ w. sized_after (by_opcode indexes.Ix w b2 b3) w) (λ w. true) 256 0 (sized_ix b2 b3) b1 (omega arith) (omega arith) in
    rw names at all

iy_sized : (b1 b2 b3 : ℕ) → b1 < 256 → names_hl b1 ≡ true → IsSized (by_opcode indexes.Iy b1 b2 b3)
iy_sized b1 b2 b3 h names =
    let all = same_at (λ w. sized_after (by_opcode indexes.Iy w b2 b3) w) (λ w. true) 256 0 (sized_iy b2 b3) b1 (omega arith) (omega arith) in
    rw names at all

lone_sized : (index : Index) → IsSized (of_bytes 1 (ops.LonePrefix index))
unfolding prefixes opcode_of operands encoded
lone_sized index = refl

nested_sized : (b0 b1 b2 b3 : ℕ) → b0 < 256 → b1 < 256 → b3 < 256 → IsSized (nested b0 b1 b2 b3)
nested_sized b0 b1 b2 b3 h k m = by_page IsSized b0 b1 b2 b3
    (λ cb. same_at (λ w. sized (of_bytes 2 (bits w (place_of indexes.Hl (lower w) 0)))) (λ w. true) 256 0 sized_bits b1 (omega arith) (omega arith))
    (λ dd. by_index IsSized indexes.Ix b1 b2 b3 (λ cb. same_at (λ w. sized (of_bytes 4 (bits w (memory_of indexes.Ix b2)))) (λ w. true) 256 0 (sized_ix_bits b2) b3 (omega arith) (omega arith)) (ix_sized b1 b2 b3 k) (lone_sized indexes.Ix) _ _ refl refl)
    (λ ed. same_at (λ w. sized (extended w b2 b3)) (λ w. true) 256 0 (sized_extended b2 b3) b1 (omega arith) (omega arith))
    (λ fd. by_index IsSized indexes.Iy b1 b2 b3 (λ cb. same_at (λ w. sized (of_bytes 4 (bits w (memory_of indexes.Iy b2)))) (λ w. true) 256 0 (sized_iy_bits b2) b3 (omega arith) (omega arith)) (iy_sized b1 b2 b3 k) (lone_sized indexes.Iy) _ _ refl refl)
    (λ none. same_at (λ w. sized (by_opcode indexes.Hl w b1 b2)) (λ w. true) 256 0 (sized_plain b1 b2) b0 (omega arith) (omega arith))
    _ _ _ _ refl refl refl refl

decoded_sized : (bytes : List ℕ) → AreBytes bytes → IsSized (instruction_of bytes)
decoded_sized bytes h = rw (decoded_is_nested bytes (h 0) (h 1) (h 3)) (nested_sized _ _ _ _ (h 0) (h 1) (h 3))

pub encoded_long : (bytes : List ℕ) → AreBytes bytes → length (encoded (instruction_of bytes).op) ≡ (instruction_of bytes).length
encoded_long bytes h =
    let parts = and_parts (length (encoded (instruction_of bytes).op) == (instruction_of bytes).length) (nat_le (instruction_of bytes).length 4) (decoded_sized bytes h) in
    eqb-true _ _ parts.0

pub decoded_few : (bytes : List ℕ) → AreBytes bytes → (instruction_of bytes).length ≤ 4
decoded_few bytes h =
    let parts = and_parts (length (encoded (instruction_of bytes).op) == (instruction_of bytes).length) (nat_le (instruction_of bytes).length 4) (decoded_sized bytes h) in
    grind (arith, nat_tests)
