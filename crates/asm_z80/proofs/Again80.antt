-- The bytes of what bytes decode to decode to the same: shown for each page by computing both for
-- all opcodes, whatever the operands are.
use Rattle.std.proofs.Common.{◌≡◌, ◌==◌, ℕ, ◌+◌, ◌*◌, ◌/◌, ◌%◌, Bool, cond, List, ◌++◌, map, refl, arith}
use Rattle.std.specs.Prelude.{◌||◌, slice_index}
use Rattle.z80_decode.specs.declared.decoded80.Decoded80.{Decoded80}
use Rattle.z80_decode.specs.declared.index.Index.TheVariants as indexes
use Rattle.z80_decode.specs.declared.op80.Op80.TheVariants as ops
use Rattle.md_word.proofs.Agree.{range}
use Rattle.z80_decode.specs.Fields.{memory_of, place_of, lower, pair_of, stacked_of, condition_of, bit_of}
use Rattle.z80_decode.specs.Nested.{of_bytes, bits, shift, arithmetic, accumulator, block_of, block_op, relative_jumps, pair_loads, memory_loads, pair_steps, step, number_loads, low_group, loads, returns, jumps, calls, control, by_opcode, low_names_hl, names_hl, indexed, ports, pairs_extended, modes, specials, extended, nested}
use Rattle.asm_z80.specs.Encoding80.{prefixes, opcode_of, operands, encoded}

abbrev pub is_prefix : ℕ → Bool
is_prefix w = w == 0xcb || w == 0xdd || w == 0xed || w == 0xfd

abbrev pub unless_prefix : (ℕ → Decoded80) → ℕ → Decoded80
unless_prefix f w = cond (is_prefix w) (of_bytes 0 ops.Nop) (f w)

-- what bytes decode to
abbrev pub of_list : List ℕ → Decoded80
of_list bytes = nested (slice_index bytes 0) (slice_index bytes 1) (slice_index bytes 2) (slice_index bytes 3)

-- what the bytes of an instruction decode to
abbrev pub again : List ℕ → Decoded80 → Decoded80
again rest d = of_list (encoded d.op ++ rest)

-- a word from its bytes
rejoined : (first second : ℕ) → (second * 256 + first) / 256 * 256 + (second * 256 + first) % 256 ≡ second * 256 + first
rejoined first second = omega arith

pub again_bits : (rest : List ℕ) → map (λ w. again rest (of_bytes 2 (bits w (place_of indexes.Hl (lower w) 0)))) (range 256 0) ≡ map (λ w. of_bytes 2 (bits w (place_of indexes.Hl (lower w) 0))) (range 256 0)
unfolding range place_of bit_of bits shift prefixes opcode_of operands encoded nested
again_bits rest = refl

pub again_plain : (first second : ℕ) (rest : List ℕ) → map (unless_prefix (λ w. again rest (by_opcode indexes.Hl w first second))) (range 256 0) ≡ map (unless_prefix (λ w. by_opcode indexes.Hl w first second)) (range 256 0)
unfolding range place_of pair_of stacked_of condition_of bit_of arithmetic accumulator relative_jumps pair_loads memory_loads pair_steps step number_loads low_group loads returns jumps calls control by_opcode prefixes opcode_of operands encoded nested
again_plain first second rest = rw (rejoined first second) refl

pub again_ix_bits : (first : ℕ) (rest : List ℕ) → map (λ w. again rest (of_bytes 4 (bits w (memory_of indexes.Ix first)))) (range 256 0) ≡ map (λ w. of_bytes 4 (bits w (memory_of indexes.Ix first))) (range 256 0)
unfolding range bit_of bits shift prefixes opcode_of operands encoded nested indexed
again_ix_bits first rest = refl

pub again_iy_bits : (first : ℕ) (rest : List ℕ) → map (λ w. again rest (of_bytes 4 (bits w (memory_of indexes.Iy first)))) (range 256 0) ≡ map (λ w. of_bytes 4 (bits w (memory_of indexes.Iy first))) (range 256 0)
unfolding range bit_of bits shift prefixes opcode_of operands encoded nested indexed
again_iy_bits first rest = refl

pub again_extended : (first second : ℕ) (rest : List ℕ) → map (λ w. again rest (extended w first second)) (range 256 0) ≡ map (λ w. extended w first second) (range 256 0)
unfolding range place_of pair_of extended ports pairs_extended modes specials block_of block_op prefixes opcode_of operands encoded nested
again_extended first second rest = rw (rejoined first second) refl

-- nothing is said of a prefix alone
abbrev pub unless_lone : (ℕ → Decoded80) → ℕ → Decoded80
unless_lone f w = cond (names_hl w) (f w) (of_bytes 0 ops.Nop)

pub again_ix : (first second : ℕ) (rest : List ℕ) → map (unless_lone (λ w. again rest (by_opcode indexes.Ix w first second))) (range 256 0) ≡ map (unless_lone (λ w. by_opcode indexes.Ix w first second)) (range 256 0)
unfolding range place_of pair_of stacked_of condition_of bit_of arithmetic accumulator relative_jumps pair_loads memory_loads pair_steps step number_loads low_group loads returns jumps calls control by_opcode low_names_hl names_hl prefixes opcode_of operands encoded nested indexed
again_ix first second rest = rw (rejoined first second) refl

pub again_iy : (first second : ℕ) (rest : List ℕ) → map (unless_lone (λ w. again rest (by_opcode indexes.Iy w first second))) (range 256 0) ≡ map (unless_lone (λ w. by_opcode indexes.Iy w first second)) (range 256 0)
unfolding range place_of pair_of stacked_of condition_of bit_of arithmetic accumulator relative_jumps pair_loads memory_loads pair_steps step number_loads low_group loads returns jumps calls control by_opcode low_names_hl names_hl prefixes opcode_of operands encoded nested indexed
again_iy first second rest = rw (rejoined first second) refl
