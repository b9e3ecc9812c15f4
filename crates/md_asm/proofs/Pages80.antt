-- For each page of the Z80's opcodes, by computing both for all opcodes: what bytes decode to with 8 for each number,
-- and that one operand at the most has a number, but for LD (IX+d),n.
use Rattle.std.proofs.Common.{◌≡◌, ℕ, ◌%◌, ◌==◌, Bool, true, false, not, ◌&&◌, ◌||◌, cond, [], map, refl, if◌then◌else◌}
use Rattle.std.specs.Prelude.{nat_le}
use Rattle.md_word.specs.Width.{extended as widened, signed_of}
use Rattle.md_word.proofs.Agree.{range}
use Rattle.z80_decode.specs.declared.condition.Condition.{Condition}
use Rattle.z80_decode.specs.declared.condition.Condition.TheVariants as conditions
use Rattle.z80_decode.specs.declared.decoded80.Decoded80.{Decoded80}
use Rattle.z80_decode.specs.declared.index.Index.TheVariants as indexes
use Rattle.z80_decode.specs.declared.op80.Op80.{Op80}
use Rattle.z80_decode.specs.declared.op80.Op80.TheVariants as ops
use Rattle.z80_decode.specs.declared.place8.Place8.TheVariants as places
use Rattle.z80_decode.specs.Fields.{memory_of, place_of, lower, pair_of, stacked_of, condition_of, bit_of}
use Rattle.z80_decode.specs.Nested.{of_bytes, bits, shift, arithmetic, accumulator, block_of, block_op, relative_jumps, pair_loads, memory_loads, pair_steps, step, number_loads, low_group, loads, returns, jumps, calls, control, by_opcode, low_names_hl, names_hl, ports, pairs_extended, modes, specials, extended}
use Rattle.md_disasm.specs.Rows80.{Row80, none, row_of, target}
use Rattle.asm_z80.specs.Instruction.{is_db}
use Rattle.md_asm.proofs.Rows80.{is_numbered, row_kept}

-- a row and a length
abbrev pub Shape : Type 0
Shape = Row80 × ℕ

abbrev nothing : Shape
nothing = (none [], 0)

abbrev pub filled_shape : ℕ → Decoded80 → Shape
filled_shape at d = cond (is_db d.op) nothing (row_kept false false (row_of d.op at), d.length)

abbrev pub own_shape : ℕ → Decoded80 → Shape
own_shape at d = cond (is_db d.op) nothing (row_of d.op at, d.length)

abbrev pub named : (ℕ → Shape) → ℕ → Shape
named f w = cond (names_hl w) (f w) nothing

-- DJNZ and JR
abbrev pub is_relative : ℕ → Bool
is_relative w = w == 0x10 || (w == 0x18 || (w == 0x20 || (w == 0x28 || (w == 0x30 || w == 0x38))))

-- RST
abbrev pub is_restart : ℕ → Bool
is_restart w = nat_le 192 w && w % 8 == 7

-- the bytes with 8 for each number: of a jump 2 leads to 8 from 4
abbrev pub code8 : ℕ → ℕ
code8 w = if is_restart w then 0xcf else w

abbrev pub first8 : ℕ → ℕ
first8 w = if is_relative w then 2 else 8

abbrev pub second8 : ℕ → ℕ
second8 w = if w == 0x36 then 8 else 0

target8 : target 4 2 ≡ 8
unfolding target widened signed_of
target8 = refl

pub filled_bits : (at : ℕ) → map (λ w. filled_shape at (of_bytes 2 (bits w (place_of indexes.Hl (lower w) 0)))) (range 256 0) ≡ map (λ w. own_shape 4 (of_bytes 2 (bits w (place_of indexes.Hl (lower w) 0)))) (range 256 0)
unfolding range place_of bit_of bits shift
filled_bits at = refl

pub filled_ix_bits : (at first : ℕ) → map (λ w. filled_shape at (of_bytes 4 (bits w (memory_of indexes.Ix first)))) (range 256 0) ≡ map (λ w. own_shape 4 (of_bytes 4 (bits w (memory_of indexes.Ix 8)))) (range 256 0)
unfolding range bit_of bits shift
filled_ix_bits at first = refl

pub filled_iy_bits : (at first : ℕ) → map (λ w. filled_shape at (of_bytes 4 (bits w (memory_of indexes.Iy first)))) (range 256 0) ≡ map (λ w. own_shape 4 (of_bytes 4 (bits w (memory_of indexes.Iy 8)))) (range 256 0)
unfolding range bit_of bits shift
filled_iy_bits at first = refl

pub filled_extended : (at first second : ℕ) → map (λ w. filled_shape at (extended w first second)) (range 256 0) ≡ map (λ w. own_shape 4 (extended w 8 0)) (range 256 0)
unfolding range place_of pair_of extended ports pairs_extended modes specials block_of block_op
filled_extended at first second = refl

pub filled_plain : (at first second : ℕ) → map (λ w. filled_shape at (by_opcode indexes.Hl w first second)) (range 256 0) ≡ map (λ w. own_shape 4 (by_opcode indexes.Hl (code8 w) (first8 w) 0)) (range 256 0)
unfolding range place_of pair_of stacked_of condition_of bit_of arithmetic accumulator relative_jumps pair_loads memory_loads pair_steps step number_loads low_group loads returns jumps calls control by_opcode
filled_plain at first second = rw target8 refl

pub filled_ix : (at first second : ℕ) → map (named (λ w. filled_shape at (by_opcode indexes.Ix w first second))) (range 256 0) ≡ map (named (λ w. own_shape 4 (by_opcode indexes.Ix w 8 (second8 w)))) (range 256 0)
unfolding range place_of pair_of stacked_of condition_of bit_of arithmetic accumulator relative_jumps pair_loads memory_loads pair_steps step number_loads low_group loads returns jumps calls control by_opcode low_names_hl names_hl
filled_ix at first second = refl

pub filled_iy : (at first second : ℕ) → map (named (λ w. filled_shape at (by_opcode indexes.Iy w first second))) (range 256 0) ≡ map (named (λ w. own_shape 4 (by_opcode indexes.Iy w 8 (second8 w)))) (range 256 0)
unfolding range place_of pair_of stacked_of condition_of bit_of arithmetic accumulator relative_jumps pair_loads memory_loads pair_steps step number_loads low_group loads returns jumps calls control by_opcode low_names_hl names_hl
filled_iy at first second = refl

-- ---- one number at the most

abbrev pub is_two : Op80 → Bool
is_two (ops.Load (places.AtIx by) (places.Number n)) = true
is_two (ops.Load (places.AtIy by) (places.Number n)) = true
is_two op = false

-- JR cc has four conditions
abbrev pub far_condition : Condition → Bool
far_condition conditions.NonZero = false
far_condition conditions.Zero = false
far_condition conditions.NonCarry = false
far_condition conditions.Carry = false
far_condition condition = true

abbrev pub is_far : Op80 → Bool
is_far (ops.JumpRelativeIf condition by) = far_condition condition
is_far op = false

abbrev pub both_numbered : Op80 → Bool
both_numbered op = is_numbered (row_of op 0).first && is_numbered (row_of op 0).second

-- the address of RST is a multiple of 8
abbrev pub is_uneven : Op80 → Bool
is_uneven (ops.Restart address) = not (nat_le address 0x38 && address % 8 == 0)
is_uneven op = false

abbrev pub is_odd : Decoded80 → Bool
is_odd d = cond (is_db d.op) false (is_far d.op || ((both_numbered d.op && not (is_two d.op)) || is_uneven d.op))

abbrev pub named_odd : (ℕ → Decoded80) → ℕ → Bool
named_odd f w = cond (names_hl w) (is_odd (f w)) false

pub odd_bits : map (λ w. is_odd (of_bytes 2 (bits w (place_of indexes.Hl (lower w) 0)))) (range 256 0) ≡ map (λ w. false) (range 256 0)
unfolding range place_of bit_of bits shift
odd_bits = refl

pub odd_ix_bits : (first : ℕ) → map (λ w. is_odd (of_bytes 4 (bits w (memory_of indexes.Ix first)))) (range 256 0) ≡ map (λ w. false) (range 256 0)
unfolding range bit_of bits shift
odd_ix_bits first = refl

pub odd_iy_bits : (first : ℕ) → map (λ w. is_odd (of_bytes 4 (bits w (memory_of indexes.Iy first)))) (range 256 0) ≡ map (λ w. false) (range 256 0)
unfolding range bit_of bits shift
odd_iy_bits first = refl

pub odd_extended : (first second : ℕ) → map (λ w. is_odd (extended w first second)) (range 256 0) ≡ map (λ w. false) (range 256 0)
unfolding range place_of pair_of extended ports pairs_extended modes specials block_of block_op
odd_extended first second = refl

pub odd_plain : (first second : ℕ) → map (λ w. is_odd (by_opcode indexes.Hl w first second)) (range 256 0) ≡ map (λ w. false) (range 256 0)
unfolding range place_of pair_of stacked_of condition_of bit_of arithmetic accumulator relative_jumps pair_loads memory_loads pair_steps step number_loads low_group loads returns jumps calls control by_opcode
odd_plain first second = refl

pub odd_ix : (first second : ℕ) → map (named_odd (λ w. by_opcode indexes.Ix w first second)) (range 256 0) ≡ map (λ w. false) (range 256 0)
unfolding range place_of pair_of stacked_of condition_of bit_of arithmetic accumulator relative_jumps pair_loads memory_loads pair_steps step number_loads low_group loads returns jumps calls control by_opcode low_names_hl names_hl
odd_ix first second = refl

pub odd_iy : (first second : ℕ) → map (named_odd (λ w. by_opcode indexes.Iy w first second)) (range 256 0) ≡ map (λ w. false) (range 256 0)
unfolding range place_of pair_of stacked_of condition_of bit_of arithmetic accumulator relative_jumps pair_loads memory_loads pair_steps step number_loads low_group loads returns jumps calls control by_opcode low_names_hl names_hl
odd_iy first second = refl
