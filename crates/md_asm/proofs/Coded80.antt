-- The text of what bytes of the Z80 decode to is assembled to bytes that decode to it, and its numbers fit.
use Rattle.std.proofs.Common.{◌≡◌, ℕ, ◌+◌, ◌<◌, true, false, List, [], ◌∷◌, ◌++◌, length, append-nil, ap, ◌∙◌, sym, arith, Some}
use Rattle.std.specs.Prelude.{is_some}
use Rattle.z80_decode.specs.declared.op80.Op80.{Op80}
use Rattle.z80_decode.specs.Instructions.{instruction_of}
use Rattle.md_disasm.specs.Rows80.{Row80, row_of}
use Rattle.md_disasm.specs.Texts80.{row_text, text_of}
use Rattle.md_disasm.specs.declared.operand80.Operand80.TheVariants as operands
use Rattle.md_asm_text.specs.Tokens as tokens
use Rattle.md_asm_text.specs.Tokens.{Token}
use Rattle.asm_z80.specs.Coded80.{AreBytes}
use Rattle.asm_z80.specs.Encoding80.{encoded}
use Rattle.asm_z80.specs.Instruction.{is_db}
use Rattle.asm_z80.proofs.Checked.{meant_again}
use Rattle.asm_z80.proofs.Operands.{shown}
use Rattle.asm_z80.proofs.Lengths.{encoded_long}
use Rattle.asm_z80.proofs.Sources.{led_tokens, row_tokens}
use Rattle.md_asm.specs.Codes.{code, sub_code}
use Rattle.md_asm.specs.Contents.{misfits, under}
use Rattle.md_asm.specs.Numbers.{has_name}
use Rattle.md_asm.proofs.SubTexts.{assembled_again, found}
use Rattle.md_asm.proofs.Alone80.{IsThere, all_alone}
use Rattle.md_asm.proofs.Fill80.{IsReached, all_filled, row_read}
use Rattle.md_asm.proofs.Fits.{misfits_both, moved, named_both, part_fits, single_named, some_is}
use Rattle.md_asm.proofs.Rows80.{front_split, led_filled, led_single, read_split, row_filled, row_kept}
use Rattle.md_asm.specs.Coded.{IsCoded}

-- ---- bytes for a row

-- the bytes that a row's tokens are assembled to have the length of the instruction
record IsRow (row : Row80) (at long : ℕ) : Type 0 where
  bytes : List ℕ
  is : code true (row_tokens row) at ≡ Some bytes
  whole : length bytes ≡ long

pub own_shown : (bytes : List ℕ) (at : ℕ) → AreBytes bytes → is_db (instruction_of bytes).op ≡ false → (shown (row_of (instruction_of bytes).op at).first ≡ true) × (shown (row_of (instruction_of bytes).op at).second ≡ true)
own_shown bytes at h none =
    let parts = read_split (row_of (instruction_of bytes).op at) (row_read bytes at h none) in (parts.0, parts.1)

-- the tokens before the second operand
pub front_tokens : (bytes : List ℕ) (at : ℕ) → AreBytes bytes → is_db (instruction_of bytes).op ≡ false
    → length (tokens.tokens (row_text (record (row_of (instruction_of bytes).op at) { second = operands.Nothing })))
    ≡ length (tokens.Word (row_of (instruction_of bytes).op at).name ∷ led_tokens 32 (row_of (instruction_of bytes).op at).first)
front_tokens bytes at h none = ap length (front_split (row_of (instruction_of bytes).op at) (row_read bytes at h none))

pub own_tokens : (bytes : List ℕ) (at : ℕ) → AreBytes bytes → is_db (instruction_of bytes).op ≡ false → tokens.tokens (text_of (instruction_of bytes) at) ≡ row_tokens (row_of (instruction_of bytes).op at)
own_tokens bytes at h none = (read_split (row_of (instruction_of bytes).op at) (row_read bytes at h none)).2

found_long : (bytes own : List ℕ) (at : ℕ) → AreBytes bytes → at < 65536 → is_db (instruction_of bytes).op ≡ false → sub_code (tokens.tokens (text_of (instruction_of bytes) at)) at ≡ Some own
    → length own ≡ (instruction_of bytes).length
found_long bytes own at h a none is =
    ap length ((found (tokens.tokens (text_of (instruction_of bytes) at)) own at is).own)
    ∙ ap (λ (op : Op80). length (encoded op)) (meant_again bytes at h a none) ∙ encoded_long bytes h

row_code : (row : Row80) (at long : ℕ) → at < 65536 → IsReached row at long → IsRow row at long
row_code row at long a there =
    let own = assembled_again there.bytes at there.all a there.none in
    let same : tokens.tokens (text_of (instruction_of there.bytes) at) ≡ row_tokens row
    = own_tokens there.bytes at there.all there.none ∙ ap row_tokens there.is in record {
      bytes = own.0;
      is = rw same at (own.1);
      whole = found_long there.bytes own.0 at there.all a there.none (own.1) ∙ there.whole;
    }

row_some : (row : Row80) (at : ℕ) → at < 65536 → IsThere row at → is_some (code true (row_tokens row) at) ≡ true
row_some row at a there = let own = row_code row at there.0 a there.1 in some_is _ own.bytes own.is

-- ---- the numbers fit

under_low : (n : ℕ) → under true n < 65536
under_low n = omega arith

first_fits : (bytes : List ℕ) (at : ℕ) → AreBytes bytes → is_db (instruction_of bytes).op ≡ false
    → misfits true (row_tokens (row_of (instruction_of bytes).op at)) 1 (led_tokens 32 (row_of (instruction_of bytes).op at).first) ≡ false
first_fits bytes at h none =
    let row = row_of (instruction_of bytes).op at in
    part_fits true (tokens.Word row.name ∷ []) (led_tokens 32 row.first) (led_tokens 44 row.second) (led_single 32 row.first)
    (λ n is. rw (led_filled 44 row.second) (row_some (row_kept true false row) (under true n) (under_low n) ((all_alone bytes at h none).0 n is)))

second_fits : (bytes : List ℕ) (at : ℕ) → AreBytes bytes → is_db (instruction_of bytes).op ≡ false
    → misfits true (row_tokens (row_of (instruction_of bytes).op at)) (1 + length (led_tokens 32 (row_of (instruction_of bytes).op at).first)) (led_tokens 44 (row_of (instruction_of bytes).op at).second) ≡ false
second_fits bytes at h none =
    let row = row_of (instruction_of bytes).op at in
    let front = tokens.Word row.name ∷ led_tokens 32 row.first in
    moved true (front ++ (led_tokens 44 row.second ++ [])) (row_tokens row) (length front) (1 + length (led_tokens 32 row.first)) (led_tokens 44 row.second)
    (ap (λ (l : List Token). front ++ l) (append-nil (led_tokens 44 row.second))) (omega arith)
    (part_fits true front (led_tokens 44 row.second) [] (led_single 44 row.second)
    (λ n is. rw (led_filled 32 row.first, append-nil (led_tokens 44 row.second)) (row_some (row_kept false true row) (under true n) (under_low n) ((all_alone bytes at h none).1 n is))))

row_fits : (bytes : List ℕ) (at : ℕ) → AreBytes bytes → is_db (instruction_of bytes).op ≡ false
    → misfits true (row_tokens (row_of (instruction_of bytes).op at)) 0 (row_tokens (row_of (instruction_of bytes).op at)) ≡ false
unfolding misfits
row_fits bytes at h none =
    let row = row_of (instruction_of bytes).op at in
    misfits_both true (row_tokens row) 1 (led_tokens 32 row.first) (led_tokens 44 row.second) (first_fits bytes at h none) (second_fits bytes at h none)

-- ---- what a text results in

pub sub_coded : (bytes : List ℕ) (at : ℕ) → AreBytes bytes → at < 65536 → is_db (instruction_of bytes).op ≡ false
    → (own : List ℕ) × IsCoded true (tokens.tokens (text_of (instruction_of bytes) at)) at own × (length own ≡ (instruction_of bytes).length)
    × ((rest : List ℕ) → AreBytes rest → instruction_of (own ++ rest) ≡ instruction_of bytes)
unfolding has_name
sub_coded bytes at h a none =
    let row = row_of (instruction_of bytes).op at in
    let same = own_tokens bytes at h none in
    let own = assembled_again bytes at h a none in
    let long = found_long bytes own.0 at h a none (own.1) in
    let eight = row_code (row_kept false false row) 4 (instruction_of bytes).length (omega arith) (all_filled bytes at h none) in (
      own.0,
      record {
        other = eight.bytes;
        sized = rw (same, row_filled row) eight.is;
        long = eight.whole ∙ sym long;
        fits = rw same (row_fits bytes at h none);
        plain = rw same (named_both (led_tokens 32 row.first) (led_tokens 44 row.second) (single_named (led_tokens 32 row.first) (led_single 32 row.first)) (single_named (led_tokens 44 row.second) (led_single 44 row.second)));
        own = own.1;
      },
      long,
      own.2,
    )
