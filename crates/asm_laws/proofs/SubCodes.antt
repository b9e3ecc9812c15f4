-- The bytes of what bytes of the Z80 decode to are these, or the chosen ones of the same text: for each page by computing
-- both for all opcodes, whatever the operands are.
use Rattle.std.proofs.Common.{◌≡◌, ◌==◌, ◌⊎◌, inl, inr, ℕ, ◌+◌, ◌*◌, ◌/◌, ◌%◌, ◌<◌, ◌≤◌, Bool, true, false, cond, not, List, [], ◌∷◌, length, map, take, refl, ap, ◌∙◌, sym, subst, arith}
use Rattle.std.specs.Prelude.{◌||◌, ◌&&◌, nat_lt, slice_index}
use Rattle.std.proofs.lemmas.Bool.{eqb-true, ltb-true}
use Rattle.z80_decode.specs.declared.decoded80.Decoded80.{Decoded80}
use Rattle.z80_decode.specs.declared.index.Index.TheVariants as indexes
use Rattle.z80_decode.specs.declared.op80.Op80.TheVariants as ops
use Rattle.md_word.proofs.Agree.{range, same_at}
use Rattle.z80_decode.proofs.Table.{decoded_is_nested}
use Rattle.z80_decode.specs.Fields.{memory_of, place_of, lower, pair_of, stacked_of, condition_of, bit_of}
use Rattle.z80_decode.specs.Instructions.{instruction_of}
use Rattle.z80_decode.specs.Nested.{of_bytes, bits, shift, arithmetic, accumulator, block_of, block_op, relative_jumps, pair_loads, memory_loads, pair_steps, step, number_loads, low_group, loads, returns, jumps, calls, control, by_opcode, low_names_hl, names_hl, indexed, ports, pairs_extended, modes, specials, extended, nested}
use Rattle.asm_z80.specs.Coded80.{AreBytes}
use Rattle.asm_z80.specs.Encoding80.{encoded, opcode_of, operands, prefixes}
use Rattle.asm_z80.proofs.Again80.{is_prefix}
use Rattle.asm_z80.proofs.Pages.{by_index, by_page}
use Rattle.asm_laws.specs.Chosen.{IsPassed}

low_byte : (first second : ℕ) → first < 256 → (second * 256 + first) % 256 ≡ first
low_byte first second h = omega arith

high_byte : (first second : ℕ) → first < 256 → (second * 256 + first) / 256 ≡ second
high_byte first second h = omega arith

-- the bytes of what was decoded, and those that it took
abbrev own : Decoded80 → List ℕ
own d = encoded d.op

abbrev front : ℕ → ℕ → ℕ → ℕ → Decoded80 → List ℕ
front b0 b1 b2 b3 d = take d.length (b0 ∷ b1 ∷ b2 ∷ b3 ∷ [])

abbrev unless_prefix : (ℕ → List ℕ) → ℕ → List ℕ
unless_prefix f w = cond (is_prefix w) [] (f w)

abbrev if_named : (ℕ → List ℕ) → ℕ → List ℕ
if_named f w = cond (names_hl w) (f w) []

codes_bits : (b2 b3 : ℕ) → map (λ w. own (of_bytes 2 (bits w (place_of indexes.Hl (lower w) 0)))) (range 256 0) ≡ map (λ w. front 0xcb w b2 b3 (of_bytes 2 (bits w (place_of indexes.Hl (lower w) 0)))) (range 256 0)
unfolding range place_of bit_of bits shift prefixes opcode_of operands encoded
codes_bits b2 b3 = refl

codes_extended : (b2 b3 : ℕ) → b2 < 256 → map (λ w. own (extended w b2 b3)) (range 256 0) ≡ map (λ w. front 0xed w b2 b3 (extended w b2 b3)) (range 256 0)
unfolding range place_of pair_of extended ports pairs_extended modes specials block_of block_op prefixes opcode_of operands encoded
codes_extended b2 b3 h = rw (low_byte b2 b3 h, high_byte b2 b3 h) refl

codes_plain : (b1 b2 b3 : ℕ) → b1 < 256 → map (unless_prefix (λ w. own (by_opcode indexes.Hl w b1 b2))) (range 256 0) ≡ map (unless_prefix (λ w. front w b1 b2 b3 (by_opcode indexes.Hl w b1 b2))) (range 256 0)
unfolding range place_of pair_of stacked_of condition_of bit_of arithmetic accumulator relative_jumps pair_loads memory_loads pair_steps step number_loads low_group loads returns jumps calls control by_opcode prefixes opcode_of operands encoded
codes_plain b1 b2 b3 h = rw (low_byte b1 b2 h, high_byte b1 b2 h) refl

codes_ix : (b2 b3 : ℕ) → b2 < 256 → map (if_named (λ w. own (by_opcode indexes.Ix w b2 b3))) (range 256 0) ≡ map (if_named (λ w. front 0xdd w b2 b3 (by_opcode indexes.Ix w b2 b3))) (range 256 0)
unfolding range place_of pair_of stacked_of condition_of bit_of arithmetic accumulator relative_jumps pair_loads memory_loads pair_steps step number_loads low_group loads returns jumps calls control by_opcode low_names_hl names_hl prefixes opcode_of operands encoded
codes_ix b2 b3 h = rw (low_byte b2 b3 h, high_byte b2 b3 h) refl

codes_iy : (b2 b3 : ℕ) → b2 < 256 → map (if_named (λ w. own (by_opcode indexes.Iy w b2 b3))) (range 256 0) ≡ map (if_named (λ w. front 0xfd w b2 b3 (by_opcode indexes.Iy w b2 b3))) (range 256 0)
unfolding range place_of pair_of stacked_of condition_of bit_of arithmetic accumulator relative_jumps pair_loads memory_loads pair_steps step number_loads low_group loads returns jumps calls control by_opcode low_names_hl names_hl prefixes opcode_of operands encoded
codes_iy b2 b3 h = rw (low_byte b2 b3 h, high_byte b2 b3 h) refl

-- ---- after DD CB d and FD CB d

-- the code in place of one of (HL)
abbrev ix_code : ℕ → ℕ → ℕ
ix_code b2 w = opcode_of (bits w (memory_of indexes.Ix b2))

abbrev iy_code : ℕ → ℕ → ℕ
iy_code b2 w = opcode_of (bits w (memory_of indexes.Iy b2))

codes_ix_bits : (b2 : ℕ) → map (λ w. own (of_bytes 4 (bits w (memory_of indexes.Ix b2)))) (range 256 0) ≡ map (λ w. 0xdd ∷ 0xcb ∷ b2 ∷ ix_code b2 w ∷ []) (range 256 0)
unfolding range bit_of bits shift prefixes opcode_of operands encoded
codes_ix_bits b2 = refl

codes_iy_bits : (b2 : ℕ) → map (λ w. own (of_bytes 4 (bits w (memory_of indexes.Iy b2)))) (range 256 0) ≡ map (λ w. 0xfd ∷ 0xcb ∷ b2 ∷ iy_code b2 w ∷ []) (range 256 0)
unfolding range bit_of bits shift prefixes opcode_of operands encoded
codes_iy_bits b2 = refl

abbrev in_manual : ℕ → Bool
in_manual code = code % 8 == 6 && not (code / 8 == 6)

-- a code is its own, or is passed over
abbrev is_chosen : ℕ → ℕ → Bool
is_chosen w code = w == code || (not (in_manual w) && (in_manual code || nat_lt code w))

chosen_ix : (b2 : ℕ) → map (λ w. is_chosen w (ix_code b2 w)) (range 256 0) ≡ map (λ w. true) (range 256 0)
unfolding range bit_of bits shift opcode_of
chosen_ix b2 = refl

chosen_iy : (b2 : ℕ) → map (λ w. is_chosen w (iy_code b2 w)) (range 256 0) ≡ map (λ w. true) (range 256 0)
unfolding range bit_of bits shift opcode_of
chosen_iy b2 = refl

-- these are the bytes, or pass over others
abbrev IsOwn : List ℕ → List ℕ → Type 0
IsOwn other bytes = (other ≡ bytes) ⊎ IsPassed other bytes

cases_of : (same manual of_manual below : Bool) → (same || (not manual && (of_manual || below))) ≡ true
    → (same ≡ true) ⊎ ((manual ≡ false) × ((of_manual ≡ true) ⊎ (below ≡ true)))
cases_of true manual of_manual below h = inl refl
cases_of false true of_manual below h = cc
cases_of false false true below h = inr (refl, inl refl)
cases_of false false false true h = inr (refl, inr refl)
cases_of false false false false h = cc

ix_by : (b2 w code : ℕ) → (w == code) ≡ true ⊎ ((in_manual w ≡ false) × ((in_manual code ≡ true) ⊎ (nat_lt code w ≡ true))) → IsOwn (0xdd ∷ 0xcb ∷ b2 ∷ w ∷ []) (0xdd ∷ 0xcb ∷ b2 ∷ code ∷ [])
ix_by b2 w code (inl same) = inl (ap (λ (n : ℕ). 0xdd ∷ 0xcb ∷ b2 ∷ n ∷ []) (eqb-true w code same))
ix_by b2 w code (inr (none, inl manual)) = inr (none, inl manual)
ix_by b2 w code (inr (none, inr below)) = inr (none, inr (inr (refl, inr (refl, inr (refl, inr (refl, inl (ltb-true code w below)))))))

iy_by : (b2 w code : ℕ) → (w == code) ≡ true ⊎ ((in_manual w ≡ false) × ((in_manual code ≡ true) ⊎ (nat_lt code w ≡ true))) → IsOwn (0xfd ∷ 0xcb ∷ b2 ∷ w ∷ []) (0xfd ∷ 0xcb ∷ b2 ∷ code ∷ [])
iy_by b2 w code (inl same) = inl (ap (λ (n : ℕ). 0xfd ∷ 0xcb ∷ b2 ∷ n ∷ []) (eqb-true w code same))
iy_by b2 w code (inr (none, inl manual)) = inr (none, inl manual)
iy_by b2 w code (inr (none, inr below)) = inr (none, inr (inr (refl, inr (refl, inr (refl, inr (refl, inl (ltb-true code w below)))))))

-- ---- the pages

-- four bytes have their own code, or one that passes over them
abbrev HasOwn : ℕ → ℕ → ℕ → ℕ → Decoded80 → Type 0
HasOwn b0 b1 b2 b3 d = IsOwn (front b0 b1 b2 b3 d) (own d)

at_first : (w b0 b1 b2 b3 : ℕ) (d : Decoded80) → (b0 == w) ≡ true → HasOwn w b1 b2 b3 d → HasOwn b0 b1 b2 b3 d
at_first w b0 b1 b2 b3 d is has = subst (λ (n : ℕ). HasOwn n b1 b2 b3 d) (sym (eqb-true b0 w is)) has

bits_own : (b1 b2 b3 : ℕ) → b1 < 256 → HasOwn 0xcb b1 b2 b3 (of_bytes 2 (bits b1 (place_of indexes.Hl (lower b1) 0)))
bits_own b1 b2 b3 h = inl (sym (same_at (λ w. own (of_bytes 2 (bits w (place_of indexes.Hl (lower w) 0)))) (λ w. front 0xcb w b2 b3 (of_bytes 2 (bits w (place_of indexes.Hl (lower w) 0)))) 256 0 (codes_bits b2 b3) b1 (omega arith) (omega arith)))

extended_own : (b1 b2 b3 : ℕ) → b1 < 256 → b2 < 256 → HasOwn 0xed b1 b2 b3 (extended b1 b2 b3)
extended_own b1 b2 b3 h k = inl (sym (same_at (λ w. own (extended w b2 b3)) (λ w. front 0xed w b2 b3 (extended w b2 b3)) 256 0 (codes_extended b2 b3 k) b1 (omega arith) (omega arith)))

plain_own : (b0 b1 b2 b3 : ℕ) → b0 < 256 → b1 < 256 → is_prefix b0 ≡ false → HasOwn b0 b1 b2 b3 (by_opcode indexes.Hl b0 b1 b2)
plain_own b0 b1 b2 b3 h k none =
    let same = same_at (unless_prefix (λ w. own (by_opcode indexes.Hl w b1 b2))) (unless_prefix (λ w. front w b1 b2 b3 (by_opcode indexes.Hl w b1 b2))) 256 0 (codes_plain b1 b2 b3 k) b0 (omega arith) (omega arith) in
    inl (sym (rw none at same))

ix_own : (b1 b2 b3 : ℕ) → b1 < 256 → b2 < 256 → names_hl b1 ≡ true → HasOwn 0xdd b1 b2 b3 (by_opcode indexes.Ix b1 b2 b3)
ix_own b1 b2 b3 h k names =
    let same = same_at (if_named (λ w. own (by_opcode indexes.Ix w b2 b3))) (if_named (λ w. front 0xdd w b2 b3 (by_opcode indexes.Ix w b2 b3))) 256 0 (codes_ix b2 b3 k) b1 (omega arith) (omega arith) in
    inl (sym (rw names at same))

iy_own : (b1 b2 b3 : ℕ) → b1 < 256 → b2 < 256 → names_hl b1 ≡ true → HasOwn 0xfd b1 b2 b3 (by_opcode indexes.Iy b1 b2 b3)
iy_own b1 b2 b3 h k names =
    let same = same_at (if_named (λ w. own (by_opcode indexes.Iy w b2 b3))) (if_named (λ w. front 0xfd w b2 b3 (by_opcode indexes.Iy w b2 b3))) 256 0 (codes_iy b2 b3 k) b1 (omega arith) (omega arith) in
    inl (sym (rw names at same))

ix_bits_own : (b1 b2 b3 : ℕ) → b3 < 256 → (b1 == 0xcb) ≡ true → HasOwn 0xdd b1 b2 b3 (of_bytes 4 (bits b3 (memory_of indexes.Ix b2)))
ix_bits_own b1 b2 b3 h cb =
    let same = same_at (λ w. own (of_bytes 4 (bits w (memory_of indexes.Ix b2)))) (λ w. 0xdd ∷ 0xcb ∷ b2 ∷ ix_code b2 w ∷ []) 256 0 (codes_ix_bits b2) b3 (omega arith) (omega arith) in
    let chosen = same_at (λ w. is_chosen w (ix_code b2 w)) (λ w. true) 256 0 (chosen_ix b2) b3 (omega arith) (omega arith) in
    let by = ix_by b2 b3 (ix_code b2 b3) (cases_of (b3 == ix_code b2 b3) (in_manual b3) (in_manual (ix_code b2 b3)) (nat_lt (ix_code b2 b3) b3) chosen) in
    let here : IsOwn (0xdd ∷ b1 ∷ b2 ∷ b3 ∷ []) (0xdd ∷ 0xcb ∷ b2 ∷ ix_code b2 b3 ∷ []) = subst (λ (n : ℕ). IsOwn (0xdd ∷ n ∷ b2 ∷ b3 ∷ []) (0xdd ∷ 0xcb ∷ b2 ∷ ix_code b2 b3 ∷ [])) (sym (eqb-true b1 0xcb cb)) by in
    subst (λ (l : List ℕ). IsOwn (0xdd ∷ b1 ∷ b2 ∷ b3 ∷ []) l) (sym same) here

iy_bits_own : (b1 b2 b3 : ℕ) → b3 < 256 → (b1 == 0xcb) ≡ true → HasOwn 0xfd b1 b2 b3 (of_bytes 4 (bits b3 (memory_of indexes.Iy b2)))
iy_bits_own b1 b2 b3 h cb =
    let same = same_at (λ w. own (of_bytes 4 (bits w (memory_of indexes.Iy b2)))) (λ w. 0xfd ∷ 0xcb ∷ b2 ∷ iy_code b2 w ∷ []) 256 0 (codes_iy_bits b2) b3 (omega arith) (omega arith) in
    let chosen = same_at (λ w. is_chosen w (iy_code b2 w)) (λ w. true) 256 0 (chosen_iy b2) b3 (omega arith) (omega arith) in
    let by = iy_by b2 b3 (iy_code b2 b3) (cases_of (b3 == iy_code b2 b3) (in_manual b3) (in_manual (iy_code b2 b3)) (nat_lt (iy_code b2 b3) b3) chosen) in
    let here : IsOwn (0xfd ∷ b1 ∷ b2 ∷ b3 ∷ []) (0xfd ∷ 0xcb ∷ b2 ∷ iy_code b2 b3 ∷ []) = subst (λ (n : ℕ). IsOwn (0xfd ∷ n ∷ b2 ∷ b3 ∷ []) (0xfd ∷ 0xcb ∷ b2 ∷ iy_code b2 b3 ∷ [])) (sym (eqb-true b1 0xcb cb)) by in
    subst (λ (l : List ℕ). IsOwn (0xfd ∷ b1 ∷ b2 ∷ b3 ∷ []) l) (sym same) here

lone_ix : (b1 b2 b3 : ℕ) → HasOwn 0xdd b1 b2 b3 (of_bytes 1 (ops.LonePrefix indexes.Ix))
unfolding prefixes opcode_of operands encoded
lone_ix b1 b2 b3 = inl refl

lone_iy : (b1 b2 b3 : ℕ) → HasOwn 0xfd b1 b2 b3 (of_bytes 1 (ops.LonePrefix indexes.Iy))
unfolding prefixes opcode_of operands encoded
lone_iy b1 b2 b3 = inl refl

nested_own : (b0 b1 b2 b3 : ℕ) → b0 < 256 → b1 < 256 → b2 < 256 → b3 < 256 → HasOwn b0 b1 b2 b3 (nested b0 b1 b2 b3)
nested_own b0 b1 b2 b3 h k l m = by_page (HasOwn b0 b1 b2 b3) b0 b1 b2 b3
    (λ cb. at_first 0xcb b0 b1 b2 b3 (of_bytes 2 (bits b1 (place_of indexes.Hl (lower b1) 0))) cb (bits_own b1 b2 b3 k))
    (λ dd. at_first 0xdd b0 b1 b2 b3 (indexed indexes.Ix b1 b2 b3) dd (by_index (HasOwn 0xdd b1 b2 b3) indexes.Ix b1 b2 b3 (λ cb. ix_bits_own b1 b2 b3 m cb) (ix_own b1 b2 b3 k l) (lone_ix b1 b2 b3) _ _ refl refl))
    (λ ed. at_first 0xed b0 b1 b2 b3 (extended b1 b2 b3) ed (extended_own b1 b2 b3 k l))
    (λ fd. at_first 0xfd b0 b1 b2 b3 (indexed indexes.Iy b1 b2 b3) fd (by_index (HasOwn 0xfd b1 b2 b3) indexes.Iy b1 b2 b3 (λ cb. iy_bits_own b1 b2 b3 m cb) (iy_own b1 b2 b3 k l) (lone_iy b1 b2 b3) _ _ refl refl))
    (λ none. plain_own b0 b1 b2 b3 h k none)
    _ _ _ _ refl refl refl refl

-- ---- of any bytes

take_is : (bytes : List ℕ) → length bytes ≤ 4 → take (length bytes) (slice_index bytes 0 ∷ slice_index bytes 1 ∷ slice_index bytes 2 ∷ slice_index bytes 3 ∷ []) ≡ bytes
take_is [] few = refl
take_is (a ∷ []) few = refl
take_is (a ∷ b ∷ []) few = refl
take_is (a ∷ b ∷ c ∷ []) few = refl
take_is (a ∷ b ∷ c ∷ d ∷ []) few = refl
take_is (a ∷ b ∷ c ∷ d ∷ e ∷ more) few = absurd (omega arith)

-- bytes of an instruction's length have their own code, or one that passes over them
pub own_or_passed : (bytes : List ℕ) → AreBytes bytes → length bytes ≤ 4 → (instruction_of bytes).length ≡ length bytes → IsOwn bytes (encoded (instruction_of bytes).op)
own_or_passed bytes h few whole =
    let nested_too = nested_own (slice_index bytes 0) (slice_index bytes 1) (slice_index bytes 2) (slice_index bytes 3) (h 0) (h 1) (h 2) (h 3) in
    let here : HasOwn (slice_index bytes 0) (slice_index bytes 1) (slice_index bytes 2) (slice_index bytes 3) (instruction_of bytes)
    = rw (decoded_is_nested bytes (h 0) (h 1) (h 3)) nested_too in
    let taken = ap (λ (n : ℕ). take n (slice_index bytes 0 ∷ slice_index bytes 1 ∷ slice_index bytes 2 ∷ slice_index bytes 3 ∷ [])) whole ∙ take_is bytes few in
    subst (λ (l : List ℕ). IsOwn l (encoded (instruction_of bytes).op)) taken here
