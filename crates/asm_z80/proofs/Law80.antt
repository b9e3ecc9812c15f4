-- The bytes of what bytes decode to decode to the same, and are bytes.
use Rattle.std.proofs.Common.{◌≡◌, ◌==◌, ℕ, zero, suc, ◌<◌, Bool, true, false, List, [], ◌∷◌, ◌++◌, refl, arith}
use Rattle.std.specs.Prelude.{IsTrue, nat_lt}
use Rattle.std.proofs.lemmas.Bool.{and_parts, false≢true}
use Rattle.std.proofs.lemmas.Bool.Decides.{nat_tests}
use Rattle.z80_decode.specs.declared.decoded80.Decoded80.{Decoded80}
use Rattle.z80_decode.specs.declared.index.Index.TheVariants as indexes
use Rattle.z80_decode.specs.declared.op80.Op80.TheVariants as ops
use Rattle.md_word.proofs.Agree.{same_at}
use Rattle.z80_decode.proofs.Table.{decoded_is_nested}
use Rattle.z80_decode.specs.Fields.{memory_of, place_of, lower}
use Rattle.z80_decode.specs.Instructions.{instruction_of}
use Rattle.z80_decode.specs.Nested.{of_bytes, bits, by_opcode, names_hl, indexed, extended, nested}
use Rattle.asm_z80.specs.Coded80.{AreBytes, is_whole}
use Rattle.asm_z80.specs.Encoding80.{encoded, prefixes, opcode_of, operands}
use Rattle.asm_z80.proofs.Again80.{again, again_bits, again_plain, again_ix_bits, again_iy_bits, again_extended, again_ix, again_iy, is_prefix, unless_prefix, unless_lone}
use Rattle.asm_z80.proofs.Bytes80.{all_bytes, made, bytes_bits, bytes_plain, bytes_ix_bits, bytes_iy_bits, bytes_extended, bytes_ix, bytes_iy}

at_plain : (w first second : ℕ) (rest : List ℕ) → w < 256 → is_prefix w ≡ false → again rest (by_opcode indexes.Hl w first second) ≡ by_opcode indexes.Hl w first second
at_plain w first second rest below none =
    let same = same_at (unless_prefix (λ w. again rest (by_opcode indexes.Hl w first second))) (unless_prefix (λ w. by_opcode indexes.Hl w first second)) 256 0 (again_plain first second rest) w (omega arith) (omega arith) in
    rw none at same

at_ix : (w first second : ℕ) (rest : List ℕ) → w < 256 → names_hl w ≡ true → again rest (by_opcode indexes.Ix w first second) ≡ by_opcode indexes.Ix w first second
at_ix w first second rest below named =
    let same = same_at (unless_lone (λ w. again rest (by_opcode indexes.Ix w first second))) (unless_lone (λ w. by_opcode indexes.Ix w first second)) 256 0 (again_ix first second rest) w (omega arith) (omega arith) in
    rw named at same

after_ix : (b1 b2 b3 : ℕ) (rest : List ℕ) → b1 < 256 → b3 < 256 → (cb named : Bool) → (b1 == 0xcb) ≡ cb → names_hl b1 ≡ named → is_whole (indexed indexes.Ix b1 b2 b3).op ≡ true → again rest (indexed indexes.Ix b1 b2 b3) ≡ indexed indexes.Ix b1 b2 b3
unfolding indexed
after_ix b1 b2 b3 rest h k true named e n whole = rw e (same_at (λ w. again rest (of_bytes 4 (bits w (memory_of indexes.Ix b2)))) (λ w. of_bytes 4 (bits w (memory_of indexes.Ix b2))) 256 0 (again_ix_bits b2 rest) b3 (omega arith) (omega arith))
after_ix b1 b2 b3 rest h k false true e n whole = rw (e, n) (at_ix b1 b2 b3 rest h n)
after_ix b1 b2 b3 rest h k false false e n whole = absurd (false≢true (rw (e, n) at whole))

at_iy : (w first second : ℕ) (rest : List ℕ) → w < 256 → names_hl w ≡ true → again rest (by_opcode indexes.Iy w first second) ≡ by_opcode indexes.Iy w first second
at_iy w first second rest below named =
    let same = same_at (unless_lone (λ w. again rest (by_opcode indexes.Iy w first second))) (unless_lone (λ w. by_opcode indexes.Iy w first second)) 256 0 (again_iy first second rest) w (omega arith) (omega arith) in
    rw named at same

after_iy : (b1 b2 b3 : ℕ) (rest : List ℕ) → b1 < 256 → b3 < 256 → (cb named : Bool) → (b1 == 0xcb) ≡ cb → names_hl b1 ≡ named → is_whole (indexed indexes.Iy b1 b2 b3).op ≡ true → again rest (indexed indexes.Iy b1 b2 b3) ≡ indexed indexes.Iy b1 b2 b3
unfolding indexed
after_iy b1 b2 b3 rest h k true named e n whole = rw e (same_at (λ w. again rest (of_bytes 4 (bits w (memory_of indexes.Iy b2)))) (λ w. of_bytes 4 (bits w (memory_of indexes.Iy b2))) 256 0 (again_iy_bits b2 rest) b3 (omega arith) (omega arith))
after_iy b1 b2 b3 rest h k false true e n whole = rw (e, n) (at_iy b1 b2 b3 rest h n)
after_iy b1 b2 b3 rest h k false false e n whole = absurd (false≢true (rw (e, n) at whole))

-- what the prefix chooses
abbrev page : Bool → Bool → Bool → Bool → ℕ → ℕ → ℕ → ℕ → Decoded80
page true dd ed fd b0 b1 b2 b3 = of_bytes 2 (bits b1 (place_of indexes.Hl (lower b1) 0))
page false true ed fd b0 b1 b2 b3 = indexed indexes.Ix b1 b2 b3
page false false true fd b0 b1 b2 b3 = extended b1 b2 b3
page false false false true b0 b1 b2 b3 = indexed indexes.Iy b1 b2 b3
page false false false false b0 b1 b2 b3 = by_opcode indexes.Hl b0 b1 b2

picked : (b0 b1 b2 b3 : ℕ) (cb dd ed fd : Bool) → (b0 == 0xcb) ≡ cb → (b0 == 0xdd) ≡ dd → (b0 == 0xed) ≡ ed → (b0 == 0xfd) ≡ fd → nested b0 b1 b2 b3 ≡ page cb dd ed fd b0 b1 b2 b3
unfolding nested
picked b0 b1 b2 b3 true dd ed fd ecb edd eed efd = rw ecb refl
picked b0 b1 b2 b3 false true ed fd ecb edd eed efd = rw (ecb, edd) refl
picked b0 b1 b2 b3 false false true fd ecb edd eed efd = rw (ecb, edd, eed) refl
picked b0 b1 b2 b3 false false false true ecb edd eed efd = rw (ecb, edd, eed, efd) refl
picked b0 b1 b2 b3 false false false false ecb edd eed efd = rw (ecb, edd, eed, efd) refl

by_page : (b0 b1 b2 b3 : ℕ) (rest : List ℕ) → b0 < 256 → b1 < 256 → b3 < 256 → (cb dd ed fd : Bool) → (b0 == 0xcb) ≡ cb → (b0 == 0xdd) ≡ dd → (b0 == 0xed) ≡ ed → (b0 == 0xfd) ≡ fd → is_whole (page cb dd ed fd b0 b1 b2 b3).op ≡ true → again rest (page cb dd ed fd b0 b1 b2 b3) ≡ page cb dd ed fd b0 b1 b2 b3
by_page b0 b1 b2 b3 rest h k l true dd ed fd ecb edd eed efd whole =
    same_at (λ w. again rest (of_bytes 2 (bits w (place_of indexes.Hl (lower w) 0)))) (λ w. of_bytes 2 (bits w (place_of indexes.Hl (lower w) 0))) 256 0 (again_bits rest) b1 (omega arith) (omega arith)
by_page b0 b1 b2 b3 rest h k l false true ed fd ecb edd eed efd whole = after_ix b1 b2 b3 rest k l (b1 == 0xcb) (names_hl b1) refl refl whole
by_page b0 b1 b2 b3 rest h k l false false true fd ecb edd eed efd whole =
    same_at (λ w. again rest (extended w b2 b3)) (λ w. extended w b2 b3) 256 0 (again_extended b2 b3 rest) b1 (omega arith) (omega arith)
by_page b0 b1 b2 b3 rest h k l false false false true ecb edd eed efd whole = after_iy b1 b2 b3 rest k l (b1 == 0xcb) (names_hl b1) refl refl whole
by_page b0 b1 b2 b3 rest h k l false false false false ecb edd eed efd whole =
    let none : is_prefix b0 ≡ false = rw (ecb, edd, eed, efd) refl in
    at_plain b0 b1 b2 rest h none

nested_again : (b0 b1 b2 b3 : ℕ) (rest : List ℕ) → b0 < 256 → b1 < 256 → b3 < 256 → is_whole (nested b0 b1 b2 b3).op ≡ true → again rest (nested b0 b1 b2 b3) ≡ nested b0 b1 b2 b3
nested_again b0 b1 b2 b3 rest h k l whole =
    let e = picked b0 b1 b2 b3 _ _ _ _ refl refl refl refl in
    rw e (by_page b0 b1 b2 b3 rest h k l _ _ _ _ refl refl refl refl (rw e at whole))

lone_ix : made (of_bytes 1 (ops.LonePrefix indexes.Ix)) ≡ true
unfolding prefixes opcode_of operands encoded
lone_ix = refl

made_ix : (b1 b2 b3 : ℕ) → b1 < 256 → b2 < 256 → b3 < 256 → (cb named : Bool) → (b1 == 0xcb) ≡ cb → names_hl b1 ≡ named → made (indexed indexes.Ix b1 b2 b3) ≡ true
unfolding indexed
made_ix b1 b2 b3 h k l true named e n = rw e (same_at (λ w. made (of_bytes 4 (bits w (memory_of indexes.Ix b2)))) (λ w. true) 256 0 (bytes_ix_bits b2 k) b3 (omega arith) (omega arith))
made_ix b1 b2 b3 h k l false true e n = rw (e, n) (same_at (λ w. made (by_opcode indexes.Ix w b2 b3)) (λ w. true) 256 0 (bytes_ix b2 b3 k l) b1 (omega arith) (omega arith))
made_ix b1 b2 b3 h k l false false e n = rw (e, n) lone_ix

lone_iy : made (of_bytes 1 (ops.LonePrefix indexes.Iy)) ≡ true
unfolding prefixes opcode_of operands encoded
lone_iy = refl

made_iy : (b1 b2 b3 : ℕ) → b1 < 256 → b2 < 256 → b3 < 256 → (cb named : Bool) → (b1 == 0xcb) ≡ cb → names_hl b1 ≡ named → made (indexed indexes.Iy b1 b2 b3) ≡ true
unfolding indexed
made_iy b1 b2 b3 h k l true named e n = rw e (same_at (λ w. made (of_bytes 4 (bits w (memory_of indexes.Iy b2)))) (λ w. true) 256 0 (bytes_iy_bits b2 k) b3 (omega arith) (omega arith))
made_iy b1 b2 b3 h k l false true e n = rw (e, n) (same_at (λ w. made (by_opcode indexes.Iy w b2 b3)) (λ w. true) 256 0 (bytes_iy b2 b3 k l) b1 (omega arith) (omega arith))
made_iy b1 b2 b3 h k l false false e n = rw (e, n) lone_iy

made_page : (b0 b1 b2 b3 : ℕ) → b0 < 256 → b1 < 256 → b2 < 256 → b3 < 256 → (cb dd ed fd : Bool) → made (page cb dd ed fd b0 b1 b2 b3) ≡ true
made_page b0 b1 b2 b3 h k l m true dd ed fd = same_at (λ w. made (of_bytes 2 (bits w (place_of indexes.Hl (lower w) 0)))) (λ w. true) 256 0 bytes_bits b1 (omega arith) (omega arith)
made_page b0 b1 b2 b3 h k l m false true ed fd = made_ix b1 b2 b3 k l m (b1 == 0xcb) (names_hl b1) refl refl
made_page b0 b1 b2 b3 h k l m false false true fd = same_at (λ w. made (extended w b2 b3)) (λ w. true) 256 0 (bytes_extended b2 b3 l m) b1 (omega arith) (omega arith)
made_page b0 b1 b2 b3 h k l m false false false true = made_iy b1 b2 b3 k l m (b1 == 0xcb) (names_hl b1) refl refl
made_page b0 b1 b2 b3 h k l m false false false false = same_at (λ w. made (by_opcode indexes.Hl w b1 b2)) (λ w. true) 256 0 (bytes_plain b1 b2 k l) b0 (omega arith) (omega arith)

nested_made : (b0 b1 b2 b3 : ℕ) → b0 < 256 → b1 < 256 → b2 < 256 → b3 < 256 → made (nested b0 b1 b2 b3) ≡ true
nested_made b0 b1 b2 b3 h k l m = rw (picked b0 b1 b2 b3 _ _ _ _ refl refl refl refl) (made_page b0 b1 b2 b3 h k l m _ _ _ _)

-- bytes before bytes are bytes
before : (bytes rest : List ℕ) → all_bytes bytes ≡ true → AreBytes rest → AreBytes (bytes ++ rest)
before [] rest e h i = h i
before (b ∷ bs) rest e h zero = let parts = and_parts (nat_lt b 256) (all_bytes bs) e in grind (arith, nat_tests)
before (b ∷ bs) rest e h (suc i) = before bs rest (and_parts (nat_lt b 256) (all_bytes bs) e).1 h i

pub all_are : (bytes : List ℕ) → all_bytes bytes ≡ true → AreBytes bytes
all_are [] e i = omega arith
all_are (b ∷ bs) e zero = let parts = and_parts (nat_lt b 256) (all_bytes bs) e in grind (arith, nat_tests)
all_are (b ∷ bs) e (suc i) = all_are bs (and_parts (nat_lt b 256) (all_bytes bs) e).1 i

decoded_made : (bytes : List ℕ) → AreBytes bytes → made (instruction_of bytes) ≡ true
decoded_made bytes h = rw (decoded_is_nested bytes (h 0) (h 1) (h 3)) (nested_made _ _ _ _ (h 0) (h 1) (h 2) (h 3))

pub encoding_bytes : (bytes : List ℕ) → AreBytes bytes → AreBytes (encoded (instruction_of bytes).op)
encoding_bytes bytes h = all_are (encoded (instruction_of bytes).op) (decoded_made bytes h)

pub encoding_again : (bytes rest : List ℕ) → AreBytes bytes → AreBytes rest → IsTrue (is_whole (instruction_of bytes).op) → instruction_of (encoded (instruction_of bytes).op ++ rest) ≡ instruction_of bytes
encoding_again bytes rest h k whole =
    let all = before (encoded (instruction_of bytes).op) rest (decoded_made bytes h) k in
    let there = decoded_is_nested (encoded (instruction_of bytes).op ++ rest) (all 0) (all 1) (all 3) in
    let here = decoded_is_nested bytes (h 0) (h 1) (h 3) in
    rw there (rw here (nested_again _ _ _ _ rest (h 0) (h 1) (h 3) (rw here at whole)))
