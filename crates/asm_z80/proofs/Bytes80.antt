-- The bytes of what bytes decode to are bytes: shown for each page by computing them for all opcodes.
use Rattle.std.proofs.Common.{◌≡◌, ℕ, ◌+◌, ◌*◌, ◌/◌, ◌%◌, ◌<◌, Bool, true, List, [], ◌∷◌, map, refl, arith}
use Rattle.std.specs.Prelude.{◌&&◌, nat_lt}
use Rattle.z80_decode.specs.declared.decoded80.Decoded80.{Decoded80}
use Rattle.z80_decode.specs.declared.index.Index.TheVariants as indexes
use Rattle.md_word.proofs.Agree.{range}
use Rattle.z80_decode.specs.Fields.{memory_of, place_of, lower, pair_of, stacked_of, condition_of, bit_of}
use Rattle.z80_decode.specs.Nested.{of_bytes, bits, shift, arithmetic, accumulator, block_of, block_op, relative_jumps, pair_loads, memory_loads, pair_steps, step, number_loads, low_group, loads, returns, jumps, calls, control, by_opcode, ports, pairs_extended, modes, specials, extended}
use Rattle.asm_z80.specs.Encoding80.{prefixes, opcode_of, operands, encoded}
use Rattle.std.proofs.lemmas.Bool.{lt-ltb}

-- all of them are bytes
abbrev pub all_bytes : List ℕ → Bool
all_bytes [] = true
all_bytes (b ∷ bs) = nat_lt b 256 && all_bytes bs

abbrev pub made : Decoded80 → Bool
made d = all_bytes (encoded d.op)

low_byte : (first second : ℕ) → nat_lt ((second * 256 + first) % 256) 256 ≡ true
low_byte first second = lt-ltb _ 256 (omega arith)

high_byte : (first second : ℕ) → first < 256 → second < 256 → nat_lt ((second * 256 + first) / 256) 256 ≡ true
high_byte first second h k = lt-ltb _ 256 (omega arith)

pub bytes_bits : map (λ w. made (of_bytes 2 (bits w (place_of indexes.Hl (lower w) 0)))) (range 256 0) ≡ map (λ w. true) (range 256 0)
unfolding range place_of bit_of bits shift prefixes opcode_of operands encoded
bytes_bits = refl

pub bytes_ix_bits : (first : ℕ) → first < 256 → map (λ w. made (of_bytes 4 (bits w (memory_of indexes.Ix first)))) (range 256 0) ≡ map (λ w. true) (range 256 0)
unfolding range bit_of bits shift prefixes opcode_of operands encoded
bytes_ix_bits first h = rw (lt-ltb first 256 h) refl

pub bytes_iy_bits : (first : ℕ) → first < 256 → map (λ w. made (of_bytes 4 (bits w (memory_of indexes.Iy first)))) (range 256 0) ≡ map (λ w. true) (range 256 0)
unfolding range bit_of bits shift prefixes opcode_of operands encoded
bytes_iy_bits first h = rw (lt-ltb first 256 h) refl

pub bytes_extended : (first second : ℕ) → first < 256 → second < 256 → map (λ w. made (extended w first second)) (range 256 0) ≡ map (λ w. true) (range 256 0)
unfolding range place_of pair_of extended ports pairs_extended modes specials block_of block_op prefixes opcode_of operands encoded
bytes_extended first second h k = rw (low_byte first second, high_byte first second h k) refl

pub bytes_plain : (first second : ℕ) → first < 256 → second < 256 → map (λ w. made (by_opcode indexes.Hl w first second)) (range 256 0) ≡ map (λ w. true) (range 256 0)
unfolding range place_of pair_of stacked_of condition_of bit_of arithmetic accumulator relative_jumps pair_loads memory_loads pair_steps step number_loads low_group loads returns jumps calls control by_opcode prefixes opcode_of operands encoded
bytes_plain first second h k = rw (lt-ltb first 256 h, low_byte first second, high_byte first second h k) refl

pub bytes_ix : (first second : ℕ) → first < 256 → second < 256 → map (λ w. made (by_opcode indexes.Ix w first second)) (range 256 0) ≡ map (λ w. true) (range 256 0)
unfolding range place_of pair_of stacked_of condition_of bit_of arithmetic accumulator relative_jumps pair_loads memory_loads pair_steps step number_loads low_group loads returns jumps calls control by_opcode prefixes opcode_of operands encoded
bytes_ix first second h k = rw (lt-ltb first 256 h, lt-ltb second 256 k, low_byte first second, high_byte first second h k) refl

pub bytes_iy : (first second : ℕ) → first < 256 → second < 256 → map (λ w. made (by_opcode indexes.Iy w first second)) (range 256 0) ≡ map (λ w. true) (range 256 0)
unfolding range place_of pair_of stacked_of condition_of bit_of arithmetic accumulator relative_jumps pair_loads memory_loads pair_steps step number_loads low_group loads returns jumps calls control by_opcode prefixes opcode_of operands encoded
bytes_iy first second h k = rw (lt-ltb first 256 h, lt-ltb second 256 k, low_byte first second, high_byte first second h k) refl
