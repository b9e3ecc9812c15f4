-- What bytes decode to is made again of the tokens of its text. So bytes that pass the round-trip check are of that
-- instruction, whatever follows them.
use Rattle.std.proofs.Common.{◌≡◌, ℕ, ◌<◌, Bool, true, false, List, [], ◌∷◌, ◌++◌, refl, ap, ◌∙◌, sym, arith, codes}
use Rattle.std.specs.Prelude.{IsTrue}
use Rattle.std.proofs.lemmas.Slice.Eq.{bytes_eq-Decides}
use Rattle.std.proofs.lemmas.Bool.{true≢false}
use Rattle.z80_decode.specs.declared.decoded80.Decoded80.{Decoded80}
use Rattle.z80_decode.specs.declared.index.Index.{Index}
use Rattle.z80_decode.specs.declared.index.Index.TheVariants as indexes
use Rattle.z80_decode.specs.declared.op80.Op80.{Op80}
use Rattle.z80_decode.specs.declared.op80.Op80.TheVariants as ops
use Rattle.md_word.proofs.Agree.{same_at}
use Rattle.z80_decode.proofs.Table.{decoded_is_nested}
use Rattle.z80_decode.specs.Fields.{memory_of, place_of, lower}
use Rattle.z80_decode.specs.Instructions.{instruction_of}
use Rattle.z80_decode.specs.Nested.{of_bytes, bits, by_opcode, low_group, relative_jumps, names_hl, extended, nested}
use Rattle.md_disasm.specs.Rows80.{Row80, row_of}
use Rattle.md_disasm.specs.Texts80.{led, row_text, text_of}
use Rattle.md_asm_text.specs.Tokens as texts
use Rattle.md_asm_text.specs.Tokens.{Token, every, is_worded, tokens, split}
use Rattle.asm_z80.specs.Coded80.{AreBytes, is_whole}
use Rattle.asm_z80.specs.Encoding80.{encoded, opcode_of, operands, prefixes}
use Rattle.asm_z80.proofs.Law80.{encoding_again}
use Rattle.asm_z80.specs.Building.{built, meant, mnemonic_in, mnemonic_of}
use Rattle.asm_z80.specs.Checked.{tried}
use Rattle.asm_z80.specs.Reading.{Source, read_source}
use Rattle.asm_z80.specs.Instruction.{is_db}
use Rattle.asm_z80.proofs.Pages.{by_index, by_page, joined}
use Rattle.asm_z80.proofs.Read.{read, read_after, read_bits, read_ix_bits, read_iy_bits, read_extended, read_plain, read_ix, read_iy}
use Rattle.asm_z80.proofs.Rebuilt.{again, kept, named, rebuilt, built_bits, built_ix_bits, built_iy_bits, built_extended, built_low, built_middle, built_high, built_ix_low, built_ix_middle, built_ix_high, built_iy_low, built_iy_middle, built_iy_high}
use Rattle.asm_z80.proofs.Sources.{is_read, row_opens, source_again}

-- ---- by pages

-- an instruction that is no directive is read from its row, and made again of it
abbrev IsAgain : ℕ → Decoded80 → Type 0
IsAgain at d = is_db d.op ≡ false → (is_read (row_of d.op at) ≡ true) × (rebuilt (row_of d.op at) at ≡ d.op)

checked_again : (at : ℕ) (d : Decoded80) → read at d ≡ true → again at d ≡ kept d → IsAgain at d
checked_again at d reads same none = (rw none at reads, rw none at same)

bits_again : (at b1 : ℕ) → b1 < 256 → IsAgain at (of_bytes 2 (bits b1 (place_of indexes.Hl (lower b1) 0)))
bits_again at b1 h = checked_again at (of_bytes 2 (bits b1 (place_of indexes.Hl (lower b1) 0)))
    (same_at (λ w. read at (of_bytes 2 (bits w (place_of indexes.Hl (lower w) 0)))) (λ w. true) 256 0 (read_bits at) b1 (omega arith) (omega arith))
    (same_at (λ w. again at (of_bytes 2 (bits w (place_of indexes.Hl (lower w) 0)))) (λ w. kept (of_bytes 2 (bits w (place_of indexes.Hl (lower w) 0)))) 256 0 (built_bits at) b1 (omega arith) (omega arith))

extended_again : (at b1 b2 b3 : ℕ) → b1 < 256 → b2 < 256 → b3 < 256 → IsAgain at (extended b1 b2 b3)
extended_again at b1 b2 b3 h k l = checked_again at (extended b1 b2 b3)
    (same_at (λ w. read at (extended w b2 b3)) (λ w. true) 256 0 (read_extended at b2 b3 k l) b1 (omega arith) (omega arith))
    (same_at (λ w. again at (extended w b2 b3)) (λ w. kept (extended w b2 b3)) 256 0 (built_extended at b2 b3 k l) b1 (omega arith) (omega arith))

plain_again : (at b0 b1 b2 : ℕ) → at < 65536 → b0 < 256 → b1 < 256 → b2 < 256 → IsAgain at (by_opcode indexes.Hl b0 b1 b2)
plain_again at b0 b1 b2 a h k l = checked_again at (by_opcode indexes.Hl b0 b1 b2)
    (same_at (λ w. read at (by_opcode indexes.Hl w b1 b2)) (λ w. true) 256 0 (read_plain at b1 b2 k l) b0 (omega arith) (omega arith))
    (joined (λ w. again at (by_opcode indexes.Hl w b1 b2)) (λ w. kept (by_opcode indexes.Hl w b1 b2)) (built_low at b1 b2 a k l) (built_middle at b1 b2) (built_high at b1 b2 k l) b0 h)

ix_bits_again : (at b2 b3 : ℕ) → b2 < 256 → b3 < 256 → IsAgain at (of_bytes 4 (bits b3 (memory_of indexes.Ix b2)))
ix_bits_again at b2 b3 k l = checked_again at (of_bytes 4 (bits b3 (memory_of indexes.Ix b2)))
    (same_at (λ w. read at (of_bytes 4 (bits w (memory_of indexes.Ix b2)))) (λ w. true) 256 0 (read_ix_bits at b2 k) b3 (omega arith) (omega arith))
    (same_at (λ w. again at (of_bytes 4 (bits w (memory_of indexes.Ix b2)))) (λ w. kept (of_bytes 4 (bits w (memory_of indexes.Ix b2)))) 256 0 (built_ix_bits at b2 k) b3 (omega arith) (omega arith))

iy_bits_again : (at b2 b3 : ℕ) → b2 < 256 → b3 < 256 → IsAgain at (of_bytes 4 (bits b3 (memory_of indexes.Iy b2)))
iy_bits_again at b2 b3 k l = checked_again at (of_bytes 4 (bits b3 (memory_of indexes.Iy b2)))
    (same_at (λ w. read at (of_bytes 4 (bits w (memory_of indexes.Iy b2)))) (λ w. true) 256 0 (read_iy_bits at b2 k) b3 (omega arith) (omega arith))
    (same_at (λ w. again at (of_bytes 4 (bits w (memory_of indexes.Iy b2)))) (λ w. kept (of_bytes 4 (bits w (memory_of indexes.Iy b2)))) 256 0 (built_iy_bits at b2 k) b3 (omega arith) (omega arith))

ix_again : (at b1 b2 b3 : ℕ) → b1 < 256 → b2 < 256 → b3 < 256 → names_hl b1 ≡ true → IsAgain at (by_opcode indexes.Ix b1 b2 b3)
ix_again at b1 b2 b3 h k l names =
    let reads = same_at (λ w. read_after at (by_opcode indexes.Ix w b2 b3) w) (λ w. true) 256 0 (read_ix at b2 b3 k l) b1 (omega arith) (omega arith) in
    let same = joined (named (λ w. again at (by_opcode indexes.Ix w b2 b3))) (named (λ w. kept (by_opcode indexes.Ix w b2 b3))) (built_ix_low at b2 b3 k l) (built_ix_middle at b2 b3 k) (built_ix_high at b2 b3) b1 h in
    checked_again at (by_opcode indexes.Ix b1 b2 b3) (rw names at reads) (rw names at same)

iy_again : (at b1 b2 b3 : ℕ) → b1 < 256 → b2 < 256 → b3 < 256 → names_hl b1 ≡ true → IsAgain at (by_opcode indexes.Iy b1 b2 b3)
iy_again at b1 b2 b3 h k l names =
    let reads = same_at (λ w. read_after at (by_opcode indexes.Iy w b2 b3) w) (λ w. true) 256 0 (read_iy at b2 b3 k l) b1 (omega arith) (omega arith) in
    let same = joined (named (λ w. again at (by_opcode indexes.Iy w b2 b3))) (named (λ w. kept (by_opcode indexes.Iy w b2 b3))) (built_iy_low at b2 b3 k l) (built_iy_middle at b2 b3 k) (built_iy_high at b2 b3) b1 h in
    checked_again at (by_opcode indexes.Iy b1 b2 b3) (rw names at reads) (rw names at same)

-- a prefix that is alone has a directive's text
lone_again : (at : ℕ) (index : Index) → IsAgain at (of_bytes 1 (ops.LonePrefix index))
lone_again at index none = absurd (true≢false none)

nested_again : (at b0 b1 b2 b3 : ℕ) → at < 65536 → b0 < 256 → b1 < 256 → b2 < 256 → b3 < 256 → IsAgain at (nested b0 b1 b2 b3)
nested_again at b0 b1 b2 b3 a h k l m = by_page (IsAgain at) b0 b1 b2 b3
    (λ cb. bits_again at b1 k)
    (λ dd. by_index (IsAgain at) indexes.Ix b1 b2 b3 (λ cb. ix_bits_again at b2 b3 l m) (ix_again at b1 b2 b3 k l m) (lone_again at indexes.Ix) _ _ refl refl)
    (λ ed. extended_again at b1 b2 b3 k l m)
    (λ fd. by_index (IsAgain at) indexes.Iy b1 b2 b3 (λ cb. iy_bits_again at b2 b3 l m) (iy_again at b1 b2 b3 k l m) (lone_again at indexes.Iy) _ _ refl refl)
    (λ none. plain_again at b0 b1 b2 a h k l)
    _ _ _ _ refl refl refl refl

decoded_again : (bytes : List ℕ) (at : ℕ) → AreBytes bytes → at < 65536 → IsAgain at (instruction_of bytes)
decoded_again bytes at h a = rw (decoded_is_nested bytes (h 0) (h 1) (h 3)) (nested_again at _ _ _ _ a (h 0) (h 1) (h 2) (h 3))

-- ---- the law

-- the instruction is made again of the tokens of its text
pub meant_again : (bytes : List ℕ) (at : ℕ) → AreBytes bytes → at < 65536 → is_db (instruction_of bytes).op ≡ false
    → meant (read_source (tokens (text_of (instruction_of bytes) at))) at ≡ (instruction_of bytes).op
meant_again bytes at h a none =
    let both = decoded_again bytes at h a none in
    ap (λ (s : Source). meant s at) (source_again (row_of (instruction_of bytes).op at) both.0) ∙ both.1

whole_unless : (op : Op80) → is_db op ≡ false → IsTrue (is_whole op)
whole_unless (ops.LonePrefix index) none = absurd (true≢false none)
whole_unless _ none = refl

-- the bytes that are tried for it decode to it, whatever follows them
pub tried_again : (bytes rest : List ℕ) (at : ℕ) → AreBytes bytes → AreBytes rest → at < 65536 → is_db (instruction_of bytes).op ≡ false
    → instruction_of (tried (tokens (text_of (instruction_of bytes) at)) at ++ rest) ≡ instruction_of bytes
tried_again bytes rest at h k a none =
    rw (meant_again bytes at h a none) (encoding_again bytes rest h k (whole_unless (instruction_of bytes).op none))

-- ---- what is tried has never a directive's text

pub name_stays : (op : Op80) (at : ℕ) → (row_of op at).name ≡ (row_of op 0).name
name_stays (ops.JumpRelative distance) at = refl
name_stays _ at = refl

db_opens : (row : Row80) → row.name ≡ codes "db" → (more : List Token) × (tokens (row_text row) ≡ texts.Word (codes "db") ∷ more)
unfolding is_worded
db_opens row is =
    let all : every is_worded row.name ≡ true = rw is refl in (
      split [] (led (codes " ") row.first ++ (led (codes ",") row.second ++ [])),
      row_opens row all ∙ ap (λ (name : List ℕ). texts.Word name ∷ split [] (led (codes " ") row.first ++ (led (codes ",") row.second ++ []))) is,
    )

meant_db : (more : List Token) (at : ℕ) → meant (read_source (texts.Word (codes "db") ∷ more)) at ≡ ops.Nop
unfolding meant read_source mnemonic_of mnemonic_in built
meant_db [] at = refl
meant_db (p ∷ ps) at = refl

tried_db : (more : List Token) (at : ℕ) → tried (texts.Word (codes "db") ∷ more) at ≡ 0 ∷ []
unfolding encoded prefixes opcode_of operands
tried_db more at = rw (meant_db more at) refl

zero_is : (more : List ℕ) → AreBytes (0 ∷ more) → is_db (instruction_of (0 ∷ more)).op ≡ false
unfolding nested by_opcode low_group relative_jumps
zero_is more h = rw (decoded_is_nested (0 ∷ more) (h 0) (h 1) (h 3)) refl

-- what is tried for a directive's text is NOP
pub tried_zero : (d : Decoded80) (line_tokens : List Token) (at : ℕ) → is_db d.op ≡ true → tokens (text_of d at) ≡ line_tokens → tried line_tokens at ≡ 0 ∷ []
tried_zero d line_tokens at is text =
    let name = name_stays d.op at ∙ (bytes_eq-Decides (row_of d.op 0).name (codes "db")).0 is in
    let opens = db_opens (row_of d.op at) name in
    ap (λ (s : List Token). tried s at) (sym text ∙ opens.1) ∙ tried_db opens.0 at

-- so what is tried and says the tokens is no directive
pub tried_is : (bytes more : List ℕ) (line_tokens : List Token) (at : ℕ) → AreBytes (bytes ++ more) → bytes ≡ tried line_tokens at
    → tokens (text_of (instruction_of (bytes ++ more)) at) ≡ line_tokens → (b : Bool) → is_db (instruction_of (bytes ++ more)).op ≡ b → b ≡ false
tried_is bytes more line_tokens at h are text false is = refl
tried_is bytes more line_tokens at h are text true is =
    let zero : bytes ≡ 0 ∷ [] = are ∙ tried_zero (instruction_of (bytes ++ more)) line_tokens at is text in
    let all : AreBytes (0 ∷ more) = rw zero at h in
    let here : is_db (instruction_of (0 ∷ more)).op ≡ true = rw zero at is in
    sym here ∙ zero_is more all

-- bytes that say the tokens, and are those that are tried for them, say them whatever follows
pub round_trips_again : (bytes more rest : List ℕ) (line_tokens : List Token) (at : ℕ) → AreBytes (bytes ++ more) → AreBytes rest → at < 65536
    → bytes ≡ tried line_tokens at → tokens (text_of (instruction_of (bytes ++ more)) at) ≡ line_tokens → instruction_of (bytes ++ rest) ≡ instruction_of (bytes ++ more)
round_trips_again bytes more rest line_tokens at h k a are text =
    let none = tried_is bytes more line_tokens at h are text (is_db (instruction_of (bytes ++ more)).op) refl in
    let again : instruction_of (tried line_tokens at ++ rest) ≡ instruction_of (bytes ++ more)
    = rw (sym text) (tried_again (bytes ++ more) rest at h k a none) in
    ap (λ (l : List ℕ). instruction_of (l ++ rest)) are ∙ again
