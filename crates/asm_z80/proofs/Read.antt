-- The texts of what bytes decode to are read as they are written: for each page by computing it for all
-- opcodes, whatever the operands and the address are.
use Rattle.std.proofs.Common.{◌≡◌, ℕ, ◌+◌, ◌*◌, ◌%◌, ◌<◌, Bool, true, map, refl, arith}
use Rattle.std.specs.Prelude.{◌||◌, nat_lt, if◌then◌else◌}
use Rattle.std.proofs.lemmas.Bool.Decides.{nat_tests}
use Rattle.std.proofs.lemmas.Bool.{lt-ltb}
use Rattle.z80_decode.specs.declared.decoded80.Decoded80.{Decoded80}
use Rattle.z80_decode.specs.declared.index.Index.TheVariants as indexes
use Rattle.md_word.specs.Width.{extended as widened}
use Rattle.md_word.specs.declared.size.Size.TheVariants.{Byte}
use Rattle.md_word.proofs.Agree.{range}
use Rattle.z80_decode.specs.Fields.{memory_of, place_of, lower, pair_of, stacked_of, condition_of, bit_of}
use Rattle.z80_decode.specs.Nested.{of_bytes, bits, shift, arithmetic, accumulator, block_of, block_op, relative_jumps, pair_loads, memory_loads, pair_steps, step, number_loads, low_group, loads, returns, jumps, calls, control, by_opcode, low_names_hl, names_hl, ports, pairs_extended, modes, specials, extended}
use Rattle.md_disasm.specs.Rows80.{row_of, target}
use Rattle.md_asm_text.specs.Tokens.{is_worded}
use Rattle.asm_z80.specs.Instruction.{is_db}
use Rattle.asm_z80.proofs.Sources.{is_read}

-- the text is read as it is written, or a directive's
abbrev pub read : ℕ → Decoded80 → Bool
read at d = is_db d.op || is_read (row_of d.op at)

-- after a prefix that changes the opcode
abbrev pub read_after : ℕ → Decoded80 → ℕ → Bool
read_after at d w = if names_hl w then read at d else true

word_true_at : (n : ℕ) → n < 65536 → nat_lt n 65536 ≡ true
word_true_at n h = grind (arith, nat_tests)

word_true : (first second : ℕ) → first < 256 → second < 256 → nat_lt (second * 256 + first) 65536 ≡ true
word_true first second h k = word_true_at (second * 256 + first) (omega arith)

target_true : (at first : ℕ) → nat_lt (target at first) 65536 ≡ true
unfolding target
target_true at first = word_true_at ((at + 2 + widened Byte first) % 65536) (omega arith)

pub read_bits : (at : ℕ) → map (λ w. read at (of_bytes 2 (bits w (place_of indexes.Hl (lower w) 0)))) (range 256 0) ≡ map (λ w. true) (range 256 0)
unfolding range place_of bit_of bits shift is_worded
read_bits at = refl

pub read_ix_bits : (at first : ℕ) → first < 256 → map (λ w. read at (of_bytes 4 (bits w (memory_of indexes.Ix first)))) (range 256 0) ≡ map (λ w. true) (range 256 0)
unfolding range bit_of bits shift is_worded
read_ix_bits at first h = rw (lt-ltb first 256 h) refl

pub read_iy_bits : (at first : ℕ) → first < 256 → map (λ w. read at (of_bytes 4 (bits w (memory_of indexes.Iy first)))) (range 256 0) ≡ map (λ w. true) (range 256 0)
unfolding range bit_of bits shift is_worded
read_iy_bits at first h = rw (lt-ltb first 256 h) refl

pub read_extended : (at first second : ℕ) → first < 256 → second < 256 → map (λ w. read at (extended w first second)) (range 256 0) ≡ map (λ w. true) (range 256 0)
unfolding range place_of pair_of extended ports pairs_extended modes specials block_of block_op is_worded
read_extended at first second h k = rw (word_true first second h k) refl

pub read_plain : (at first second : ℕ) → first < 256 → second < 256 → map (λ w. read at (by_opcode indexes.Hl w first second)) (range 256 0) ≡ map (λ w. true) (range 256 0)
unfolding range place_of pair_of stacked_of condition_of bit_of arithmetic accumulator relative_jumps pair_loads memory_loads pair_steps step number_loads low_group loads returns jumps calls control by_opcode is_worded
read_plain at first second h k = rw (lt-ltb first 256 h, word_true first second h k, target_true at first) refl

pub read_ix : (at first second : ℕ) → first < 256 → second < 256 → map (λ w. read_after at (by_opcode indexes.Ix w first second) w) (range 256 0) ≡ map (λ w. true) (range 256 0)
unfolding range place_of pair_of stacked_of condition_of bit_of arithmetic accumulator relative_jumps pair_loads memory_loads pair_steps step number_loads low_group loads returns jumps calls control by_opcode low_names_hl names_hl is_worded
read_ix at first second h k = rw (lt-ltb first 256 h, lt-ltb second 256 k, word_true first second h k) refl

pub read_iy : (at first second : ℕ) → first < 256 → second < 256 → map (λ w. read_after at (by_opcode indexes.Iy w first second) w) (range 256 0) ≡ map (λ w. true) (range 256 0)
unfolding range place_of pair_of stacked_of condition_of bit_of arithmetic accumulator relative_jumps pair_loads memory_loads pair_steps step number_loads low_group loads returns jumps calls control by_opcode low_names_hl names_hl is_worded
read_iy at first second h k = rw (lt-ltb first 256 h, lt-ltb second 256 k, word_true first second h k) refl
