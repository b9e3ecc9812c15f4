-- What bytes decode to is made again of the forms of its text's operands: for each page by computing both
-- for all opcodes, whatever the operands and the address are.
use Rattle.std.proofs.Common.{◌≡◌, ℕ, ◌+◌, ◌-◌, ◌*◌, ◌%◌, ◌<◌, cond, map, refl, ◌∙◌, arith}
use Rattle.std.proofs.lemmas.Bool.Decides.{nat_tests}
use Rattle.std.proofs.lemmas.Int.{ints}
use Rattle.z80_decode.specs.declared.decoded80.Decoded80.{Decoded80}
use Rattle.z80_decode.specs.declared.index.Index.TheVariants as indexes
use Rattle.z80_decode.specs.declared.op80.Op80.{Op80}
use Rattle.z80_decode.specs.declared.op80.Op80.TheVariants as ops
use Rattle.md_word.specs.Width.{extended as widened, signed_of}
use Rattle.md_word.specs.declared.size.Size.TheVariants.{Byte}
use Rattle.md_word.proofs.Agree.{range}
use Rattle.z80_decode.specs.Fields.{memory_of, place_of, lower}
use Rattle.z80_decode.specs.Fields as fields
use Rattle.z80_decode.specs.Nested.{of_bytes, bits, shift, arithmetic, accumulator, block_of, block_op, relative_jumps, pair_loads, memory_loads, pair_steps, step, number_loads, low_group, loads, returns, jumps, calls, control, by_opcode, low_names_hl, names_hl, ports, pairs_extended, modes, specials, extended}
use Rattle.md_disasm.specs.Rows80.{Row80, row_of, target}
use Rattle.asm_z80.specs.Building.{built, distance, meant, mnemonic_in, mnemonic_of}
use Rattle.asm_z80.specs.Words as words
use Rattle.asm_z80.specs.Instruction.{is_db}
use Rattle.asm_z80.proofs.Operands.{form_of}

-- what is made of a row
abbrev pub rebuilt : Row80 → ℕ → Op80
rebuilt row at = meant (record { mnemonic = row.name; first = form_of row.first; second = form_of row.second }) at

abbrev pub unless_db : Op80 → Op80 → Op80
unless_db op made = cond (is_db op) ops.Nop made

abbrev pub again : ℕ → Decoded80 → Op80
again at d = unless_db d.op (rebuilt (row_of d.op at) at)

abbrev pub kept : Decoded80 → Op80
kept d = unless_db d.op d.op

-- after a prefix that changes the opcode
abbrev pub named : (ℕ → Op80) → ℕ → Op80
named f w = cond (names_hl w) (f w) ops.Nop

byte_stays : (n : ℕ) → n < 256 → n % 256 ≡ n
byte_stays n h = omega arith

word_stays : (first second : ℕ) → first < 256 → second < 256 → (second * 256 + first) % 65536 ≡ second * 256 + first
word_stays first second h k = omega arith

widened_byte : (d : ℕ) → d < 256 → widened Byte d % 256 ≡ d
unfolding widened signed_of
widened_byte d h = grind (arith, ints, nat_tests)

byte_from : (at x : ℕ) → at < 65536 → ((at + 2 + x) % 65536 + 131070 - at) % 256 ≡ x % 256
byte_from at x h = omega arith

distance_again : (at first : ℕ) → at < 65536 → first < 256 → distance at (target at first) ≡ first
unfolding distance target
distance_again at first h k = byte_from at (widened Byte first) h ∙ widened_byte first k

pub built_bits : (at : ℕ) → map (λ w. again at (of_bytes 2 (bits w (place_of indexes.Hl (lower w) 0)))) (range 256 0) ≡ map (λ w. kept (of_bytes 2 (bits w (place_of indexes.Hl (lower w) 0)))) (range 256 0)
unfolding range fields.place_of fields.bit_of bits shift meant mnemonic_of mnemonic_in built words.register8 words.at_pair words.bit_of
built_bits at = refl

pub built_ix_bits : (at first : ℕ) → first < 256 → map (λ w. again at (of_bytes 4 (bits w (memory_of indexes.Ix first)))) (range 256 0) ≡ map (λ w. kept (of_bytes 4 (bits w (memory_of indexes.Ix first)))) (range 256 0)
unfolding range fields.bit_of bits shift meant mnemonic_of mnemonic_in built words.displaced words.bit_of
built_ix_bits at first h = rw (byte_stays first h) refl

pub built_iy_bits : (at first : ℕ) → first < 256 → map (λ w. again at (of_bytes 4 (bits w (memory_of indexes.Iy first)))) (range 256 0) ≡ map (λ w. kept (of_bytes 4 (bits w (memory_of indexes.Iy first)))) (range 256 0)
unfolding range fields.bit_of bits shift meant mnemonic_of mnemonic_in built words.displaced words.bit_of
built_iy_bits at first h = rw (byte_stays first h) refl

pub built_extended : (at first second : ℕ) → first < 256 → second < 256 → map (λ w. again at (extended w first second)) (range 256 0) ≡ map (λ w. kept (extended w first second)) (range 256 0)
unfolding range fields.place_of fields.pair_of extended ports pairs_extended modes specials block_of block_op meant mnemonic_of mnemonic_in built words.register8 words.at_pair words.pair_of words.is_pair words.index_of words.is_index words.mode_of words.special_of words.is_special
built_extended at first second h k = rw (word_stays first second h k) refl

-- opcodes 00h to 3Fh
pub built_low : (at first second : ℕ) → at < 65536 → first < 256 → second < 256 → map (λ w. again at (by_opcode indexes.Hl w first second)) (range 64 0) ≡ map (λ w. kept (by_opcode indexes.Hl w first second)) (range 64 0)
unfolding range fields.place_of fields.pair_of fields.condition_of accumulator relative_jumps pair_loads memory_loads pair_steps step number_loads low_group by_opcode meant mnemonic_of mnemonic_in built words.register8 words.at_pair words.pair_of words.is_pair words.index_of words.is_index words.condition_of words.is_special words.is_af
built_low at first second l h k = rw (byte_stays first h, word_stays first second h k, distance_again at first l h) refl

-- 40h to BFh
pub built_middle : (at first second : ℕ) → map (λ w. again at (by_opcode indexes.Hl w first second)) (range 128 64) ≡ map (λ w. kept (by_opcode indexes.Hl w first second)) (range 128 64)
unfolding range fields.place_of arithmetic loads by_opcode meant mnemonic_of mnemonic_in built words.register8 words.at_pair words.is_pair words.is_special
built_middle at first second = refl

-- C0h to FFh
pub built_high : (at first second : ℕ) → first < 256 → second < 256 → map (λ w. again at (by_opcode indexes.Hl w first second)) (range 64 192) ≡ map (λ w. kept (by_opcode indexes.Hl w first second)) (range 64 192)
unfolding range fields.stacked_of fields.condition_of arithmetic returns jumps calls control by_opcode meant mnemonic_of mnemonic_in built words.register8 words.pair_of words.is_pair words.index_of words.is_index words.condition_of words.is_special words.is_af
built_high at first second h k = rw (byte_stays first h, word_stays first second h k) refl

pub built_ix_low : (at first second : ℕ) → first < 256 → second < 256 → map (named (λ w. again at (by_opcode indexes.Ix w first second))) (range 64 0) ≡ map (named (λ w. kept (by_opcode indexes.Ix w first second))) (range 64 0)
unfolding range fields.place_of fields.pair_of pair_loads memory_loads pair_steps step number_loads low_group by_opcode low_names_hl names_hl meant mnemonic_of mnemonic_in built words.register8 words.displaced words.pair_of words.is_pair words.index_of words.is_index words.is_special
built_ix_low at first second h k = rw (byte_stays first h, byte_stays second k, word_stays first second h k) refl

pub built_ix_middle : (at first second : ℕ) → first < 256 → map (named (λ w. again at (by_opcode indexes.Ix w first second))) (range 128 64) ≡ map (named (λ w. kept (by_opcode indexes.Ix w first second))) (range 128 64)
unfolding range fields.place_of arithmetic loads by_opcode names_hl meant mnemonic_of mnemonic_in built words.register8 words.displaced words.is_pair words.is_special
built_ix_middle at first second h = rw (byte_stays first h) refl

pub built_ix_high : (at first second : ℕ) → map (named (λ w. again at (by_opcode indexes.Ix w first second))) (range 64 192) ≡ map (named (λ w. kept (by_opcode indexes.Ix w first second))) (range 64 192)
unfolding range fields.stacked_of returns jumps calls control by_opcode names_hl meant mnemonic_of mnemonic_in built words.pair_of words.is_pair words.index_of
built_ix_high at first second = refl

pub built_iy_low : (at first second : ℕ) → first < 256 → second < 256 → map (named (λ w. again at (by_opcode indexes.Iy w first second))) (range 64 0) ≡ map (named (λ w. kept (by_opcode indexes.Iy w first second))) (range 64 0)
unfolding range fields.place_of fields.pair_of pair_loads memory_loads pair_steps step number_loads low_group by_opcode low_names_hl names_hl meant mnemonic_of mnemonic_in built words.register8 words.displaced words.pair_of words.is_pair words.index_of words.is_index words.is_special
built_iy_low at first second h k = rw (byte_stays first h, byte_stays second k, word_stays first second h k) refl

pub built_iy_middle : (at first second : ℕ) → first < 256 → map (named (λ w. again at (by_opcode indexes.Iy w first second))) (range 128 64) ≡ map (named (λ w. kept (by_opcode indexes.Iy w first second))) (range 128 64)
unfolding range fields.place_of arithmetic loads by_opcode names_hl meant mnemonic_of mnemonic_in built words.register8 words.displaced words.is_pair words.is_special
built_iy_middle at first second h = rw (byte_stays first h) refl

pub built_iy_high : (at first second : ℕ) → map (named (λ w. again at (by_opcode indexes.Iy w first second))) (range 64 192) ≡ map (named (λ w. kept (by_opcode indexes.Iy w first second))) (range 64 192)
unfolding range fields.stacked_of returns jumps calls control by_opcode names_hl meant mnemonic_of mnemonic_in built words.pair_of words.is_pair words.index_of
built_iy_high at first second = refl
