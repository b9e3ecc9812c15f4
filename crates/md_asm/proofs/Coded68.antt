-- The text of what words of the 68000 decode to is assembled to bytes that decode to it, and its numbers fit.
use Rattle.std.proofs.Common.{◌≡◌, ℕ, ◌+◌, ◌*◌, ◌<◌, ◌≤◌, true, false, List, [], ◌∷◌, ◌++◌, length, append_assoc, append-nil, length-append, refl, ap, ◌∙◌, sym, subst, arith, Option, Some, None}
use Rattle.std.specs.Prelude.{is_some, option_map}
use Rattle.md_word.specs.declared.size.Size.{Size}
use Rattle.md_word.specs.declared.size.Size.TheVariants.{Byte, Word, Long}
use Rattle.m68k_decode.specs.declared.decoded.Decoded.{Decoded}
use Rattle.m68k_decode.specs.declared.op.Op.{Op}
use Rattle.m68k_decode.specs.Instructions.{instruction_of, made, picked}
use Rattle.m68k_decode.specs.Nested.{nested}
use Rattle.m68k_decode.specs.Rows as rows
use Rattle.m68k_decode.specs.Rows.{Row}
use Rattle.m68k_decode.proofs.Table.{decoded_is_picked}
use Rattle.md_disasm.specs.Rows68.{Row68, row_of}
use Rattle.md_disasm.specs.Texts68.{row_text, text_of}
use Rattle.md_disasm.specs.declared.operand68.Operand68.TheVariants as operands
use Rattle.md_asm_text.specs.Tokens as tokens
use Rattle.md_asm_text.specs.Tokens.{Token, every, is_worded}
use Rattle.asm_m68k.specs.Encoding.{encoded}
use Rattle.asm_m68k.proofs.Sources.{IsShown, led_tokens, row_tokens, row_split, size_tokens}
use Rattle.asm_m68k.specs.Table.{AreWords, IsEnteredWord, IsInstruction}
use Rattle.asm_m68k.proofs.Entered.{every_word}
use Rattle.asm_m68k.proofs.Checked.{meant_again}
use Rattle.md_asm.specs.Codes.{code, in_bytes, main_code}
use Rattle.md_asm.specs.Contents.{misfits, under}
use Rattle.md_asm.specs.Numbers.{filled, has_name}
use Rattle.md_asm.proofs.MainCodes.{encoded_long}
use Rattle.md_asm.proofs.Texts.{assembled_again, few, found}
use Rattle.md_asm.specs.Ranges.{main_allows}
use Rattle.md_asm.proofs.Fits.{filled_both, is_plain, misfits_both, moved, named_both, none_misfit, number_of, part_fits, single_named, some_is}
use Rattle.md_asm.proofs.Line.{free}
use Rattle.md_asm.proofs.Named68.{is_word, op_free}
use Rattle.md_asm.proofs.Operands68.{operand_allows, row_digits}
use Rattle.md_asm.proofs.Reach68.{AreReached, IsReached, IsThere, row_reached}
use Rattle.md_asm.proofs.Rows68.{led_filled, led_single, operand_filled, row_filled, row_kept, size_filled, size_single}
use Rattle.md_asm.proofs.Shown68.{row_shown}
use Rattle.md_asm.proofs.With68.{IsSomewhere, first_there as first_row, first_with, second_there as second_row, second_with}
use Rattle.md_asm.specs.Coded.{IsCoded}

-- ---- what words decode to

-- words of an instruction
pub record AreMain (w : ℕ) (tail : List ℕ) : Type 0 where
  pub low : w < 65536
  pub entered : IsInstruction (nested w)
  pub all : AreWords (w ∷ tail)

pub record IsKnown (d : Decoded) (at : ℕ) : Type 0 where
  pub name : is_word d.op ≡ false
  first : IsShown (row_of d.op at).first
  second : IsShown (row_of d.op at).second
  reached : AreReached d at
  pub first_allows : (n : ℕ) → number_of (led_tokens 32 (row_of d.op at).first) ≡ Some n → main_allows d.op (row_of d.op at).first n ≡ true
  pub second_allows : (n : ℕ) → number_of (led_tokens 44 (row_of d.op at).second) ≡ Some n → main_allows d.op (row_of d.op at).second n ≡ true

row_word : (row : Row) (words : List ℕ) → IsInstruction (Some row) → is_word (made row words).op ≡ false
unfolding made
row_word rows.Illegal words is = absurd is
row_word row words is = refl

known_by : (found : Option Row) (w : ℕ) (tail : List ℕ) (at : ℕ) → AreMain w tail → nested w ≡ found → IsEnteredWord w found → IsKnown (picked found (w ∷ tail)) at
known_by None w tail at main is entered = absurd entered
known_by (Some row) w tail at main is entered =
    let own : IsInstruction (Some row) = subst (λ (r : Option Row). IsInstruction r) is main.entered in
    let shown = row_shown row (w ∷ tail) at entered main.all in
    let digits = row_digits row (w ∷ tail) at entered in record {
      name = row_word row (w ∷ tail) own;
      first = shown.0;
      second = shown.1;
      first_allows = λ n is. operand_allows (made row (w ∷ tail)).op 32 (row_of (made row (w ∷ tail)).op at).first n shown.0 digits.0 is;
      second_allows = λ n is. operand_allows (made row (w ∷ tail)).op 44 (row_of (made row (w ∷ tail)).op at).second n shown.1 digits.1 is;
      reached = row_reached row w tail at (record { low = main.low; is = is; entered = main.entered; all = main.all });
    }

pub known : (w : ℕ) (tail : List ℕ) (at : ℕ) → AreMain w tail → IsKnown (instruction_of (w ∷ tail)) at
known w tail at main = rw (decoded_is_picked (w ∷ tail) main.low) (known_by (nested w) w tail at main refl (every_word w main.low main.entered))

own_worded : (w : ℕ) (tail : List ℕ) (at : ℕ) → AreMain w tail → every is_worded (row_of (instruction_of (w ∷ tail)).op at).name ≡ true
own_worded w tail at main = (free (row_of (instruction_of (w ∷ tail)).op at).name (op_free (instruction_of (w ∷ tail)).op at ((known w tail at main).name))).worded

pub own_tokens : (w : ℕ) (tail : List ℕ) (at : ℕ) → AreMain w tail → tokens.tokens (text_of (instruction_of (w ∷ tail)) at) ≡ row_tokens (row_of (instruction_of (w ∷ tail)).op at)
own_tokens w tail at main =
    let k = known w tail at main in
    row_split (row_of (instruction_of (w ∷ tail)).op at) (own_worded w tail at main) k.first k.second

abbrev pub front : Row68 → List Token
front row = tokens.Word row.name ∷ size_tokens row.size

-- the tokens before the second operand
pub front_tokens : (w : ℕ) (tail : List ℕ) (at : ℕ) → AreMain w tail
    → length (tokens.tokens (row_text (record (row_of (instruction_of (w ∷ tail)).op at) { second = operands.Nothing })))
    ≡ length (front (row_of (instruction_of (w ∷ tail)).op at) ++ led_tokens 32 (row_of (instruction_of (w ∷ tail)).op at).first)
front_tokens w tail at main =
    let row = row_of (instruction_of (w ∷ tail)).op at in
    ap length (row_split (record row { second = operands.Nothing }) (own_worded w tail at main) ((known w tail at main).first) tt
    ∙ ap (λ (l : List Token). front row ++ l) (append-nil (led_tokens 32 row.first)))

-- any other number that an operand allows is there too
record IsThereToo (d : Decoded) (at n : ℕ) : Type 0 where
  first : main_allows d.op (row_of d.op at).first n ≡ true → IsSomewhere (first_with n (row_of d.op at))
  second : main_allows d.op (row_of d.op at).second n ≡ true → IsSomewhere (second_with n (row_of d.op at))

there_by : (found : Option Row) (w : ℕ) (tail : List ℕ) (at n : ℕ) → AreMain w tail → nested w ≡ found → IsEnteredWord w found → at < 4294967296 → IsThereToo (picked found (w ∷ tail)) at n
there_by None w tail at n main is entered a = absurd entered
there_by (Some row) w tail at n main is entered a = record {
  first = λ h. first_row at n a row w tail (record { low = main.low; is = is; entered = main.entered; all = main.all }) h;
  second = λ h. second_row at n a row w tail (record { low = main.low; is = is; entered = main.entered; all = main.all }) h;
}

there_too : (w : ℕ) (tail : List ℕ) (at n : ℕ) → AreMain w tail → at < 4294967296 → IsThereToo (instruction_of (w ∷ tail)) at n
there_too w tail at n main a = rw (decoded_is_picked (w ∷ tail) main.low) (there_by (nested w) w tail at n main refl (every_word w main.low main.entered) a)

pub first_there : (w : ℕ) (tail : List ℕ) (at n : ℕ) → AreMain w tail → at < 4294967296 → main_allows (instruction_of (w ∷ tail)).op (row_of (instruction_of (w ∷ tail)).op at).first n ≡ true
    → IsSomewhere (first_with n (row_of (instruction_of (w ∷ tail)).op at))
first_there w tail at n main a h = (there_too w tail at n main a).first h

pub second_there : (w : ℕ) (tail : List ℕ) (at n : ℕ) → AreMain w tail → at < 4294967296 → main_allows (instruction_of (w ∷ tail)).op (row_of (instruction_of (w ∷ tail)).op at).second n ≡ true
    → IsSomewhere (second_with n (row_of (instruction_of (w ∷ tail)).op at))
second_there w tail at n main a h = (there_too w tail at n main a).second h

-- ---- words for a row

pub in_bytes_long : (words : List ℕ) → length (in_bytes words) ≡ 2 * length words
unfolding in_bytes
in_bytes_long [] = refl
in_bytes_long (w ∷ ws) = let e = in_bytes_long ws in omega (arith, e)

found_long : (w : ℕ) (tail own : List ℕ) (at : ℕ) → AreMain w tail → at < 4294967296 → main_code (tokens.tokens (text_of (instruction_of (w ∷ tail)) at)) at ≡ Some own
    → length (in_bytes own) ≡ (instruction_of (w ∷ tail)).length
found_long w tail own at main a is =
    let same : length own ≡ length (encoded (instruction_of (w ∷ tail)).op)
    = ap length ((found (tokens.tokens (text_of (instruction_of (w ∷ tail)) at)) own at is).own)
    ∙ ap (λ (op : Op). length (encoded op)) (meant_again w tail at main.low main.entered main.all a) in
    let long = encoded_long w tail main.all in
    in_bytes_long own ∙ (omega (arith, same, long))

record IsRow (row : Row68) (at long : ℕ) : Type 0 where
  bytes : List ℕ
  is : code false (row_tokens row) at ≡ Some bytes
  whole : length bytes ≡ long

row_code : (row : Row68) (at long : ℕ) → at < 4294967296 → IsReached row at long → IsRow row at long
row_code row at long a there =
    let main : AreMain there.word there.tail = record { low = there.low; entered = there.entered; all = there.all } in
    let own = assembled_again there.word there.tail at there.low there.entered there.all a in
    let same : tokens.tokens (text_of (instruction_of (there.word ∷ there.tail)) at) ≡ row_tokens row
    = own_tokens there.word there.tail at main ∙ ap row_tokens there.is in
    let coded : main_code (row_tokens row) at ≡ Some own.0 = rw same at (own.1) in record {
      bytes = in_bytes own.0;
      is = ap (option_map in_bytes) coded;
      whole = found_long there.word there.tail own.0 at main a (own.1) ∙ there.whole;
    }

row_some : (row : Row68) (at : ℕ) → at < 4294967296 → IsThere row at → is_some (code false (row_tokens row) at) ≡ true
row_some row at a there = let own = row_code row at there.0 a there.1 in some_is _ own.bytes own.is

-- ---- the numbers fit

under_low : (n : ℕ) → under false n < 4294967296
under_low n = omega arith

front_filled : (row : Row68) → filled (front row) ≡ front row
front_filled row = ap (λ (l : List Token). tokens.Word row.name ∷ l) (size_filled row.size)

pub size_plain : (row : Row68) → is_plain (size_tokens row.size) ≡ true
size_plain row = by row.size
  where
    by : (size : Option Size) → is_plain (size_tokens size) ≡ true
    by None = refl
    by (Some Byte) = refl
    by (Some Word) = refl
    by (Some Long) = refl

first_fits : (row : Row68) → ((n : ℕ) → number_of (led_tokens 32 row.first) ≡ Some n → IsThere (row_kept true false row) (under false n))
    → misfits false (row_tokens row) (length (front row)) (led_tokens 32 row.first) ≡ false
first_fits row there =
    part_fits false (front row) (led_tokens 32 row.first) (led_tokens 44 row.second) (led_single 32 row.first)
    (λ n is.
    let same : filled (front row) ++ (led_tokens 32 row.first ++ filled (led_tokens 44 row.second)) ≡ row_tokens (row_kept true false row)
    = ap (λ (l : List Token). l ++ (led_tokens 32 row.first ++ filled (led_tokens 44 row.second))) (front_filled row)
    ∙ ap (λ (l : List Token). front row ++ (led_tokens 32 row.first ++ l)) (led_filled 44 row.second) in
    ap (λ (l : List Token). is_some (code false l (under false n))) same ∙ row_some (row_kept true false row) (under false n) (under_low n) (there n is))

second_front : (row : Row68) → filled (front row ++ led_tokens 32 row.first) ≡ front row ++ led_tokens 32 (operand_filled row.first)
second_front row =
    filled_both (front row) (led_tokens 32 row.first)
    ∙ ap (λ (l : List Token). l ++ filled (led_tokens 32 row.first)) (front_filled row)
    ∙ ap (λ (l : List Token). front row ++ l) (led_filled 32 row.first)

second_fits : (row : Row68) → ((n : ℕ) → number_of (led_tokens 44 row.second) ≡ Some n → IsThere (row_kept false true row) (under false n))
    → misfits false (row_tokens row) (length (front row) + length (led_tokens 32 row.first)) (led_tokens 44 row.second) ≡ false
second_fits row there =
    let pre = front row ++ led_tokens 32 row.first in
    moved false (pre ++ (led_tokens 44 row.second ++ [])) (row_tokens row) (length pre) (length (front row) + length (led_tokens 32 row.first)) (led_tokens 44 row.second)
    (ap (λ (l : List Token). pre ++ l) (append-nil (led_tokens 44 row.second)) ∙ append_assoc (front row) (led_tokens 32 row.first) (led_tokens 44 row.second))
    (length-append (front row) (led_tokens 32 row.first))
    (part_fits false pre (led_tokens 44 row.second) [] (led_single 44 row.second)
    (λ n is.
    let same : filled pre ++ (led_tokens 44 row.second ++ []) ≡ row_tokens (row_kept false true row)
    = ap (λ (l : List Token). l ++ (led_tokens 44 row.second ++ [])) (second_front row)
    ∙ ap (λ (l : List Token). (front row ++ led_tokens 32 (operand_filled row.first)) ++ l) (append-nil (led_tokens 44 row.second))
    ∙ append_assoc (front row) (led_tokens 32 (operand_filled row.first)) (led_tokens 44 row.second) in
    ap (λ (l : List Token). is_some (code false l (under false n))) same ∙ row_some (row_kept false true row) (under false n) (under_low n) (there n is)))

row_fits : (row : Row68) → ((n : ℕ) → number_of (led_tokens 32 row.first) ≡ Some n → IsThere (row_kept true false row) (under false n))
    → ((n : ℕ) → number_of (led_tokens 44 row.second) ≡ Some n → IsThere (row_kept false true row) (under false n))
    → misfits false (row_tokens row) 0 (row_tokens row) ≡ false
row_fits row first second =
    misfits_both false (row_tokens row) 0 (front row) (led_tokens 32 row.first ++ led_tokens 44 row.second)
    (none_misfit false (row_tokens row) 0 (front row) (size_plain row))
    (moved false (row_tokens row) (row_tokens row) (length (front row)) (0 + length (front row)) (led_tokens 32 row.first ++ led_tokens 44 row.second) refl (omega arith)
    (misfits_both false (row_tokens row) (length (front row)) (led_tokens 32 row.first) (led_tokens 44 row.second) (first_fits row first) (second_fits row second)))

-- ---- what a text results in

four_low : 4 < 4294967296
four_low = omega arith

row_plain : (row : Row68) → has_name (row_tokens row) ≡ false
unfolding has_name
row_plain row =
    named_both (size_tokens row.size) (led_tokens 32 row.first ++ led_tokens 44 row.second) (single_named (size_tokens row.size) (size_single row.size))
    (named_both (led_tokens 32 row.first) (led_tokens 44 row.second) (single_named (led_tokens 32 row.first) (led_single 32 row.first)) (single_named (led_tokens 44 row.second) (led_single 44 row.second)))

pub record IsMade (w : ℕ) (tail : List ℕ) (at : ℕ) : Type 0 where
  pub words : List ℕ
  pub coded : IsCoded false (tokens.tokens (text_of (instruction_of (w ∷ tail)) at)) at (in_bytes words)
  pub long : length (in_bytes words) ≡ (instruction_of (w ∷ tail)).length
  pub short : length words ≤ 5
  pub again : (rest : List ℕ) → instruction_of (words ++ rest) ≡ instruction_of (w ∷ tail)

pub main_coded : (w : ℕ) (tail : List ℕ) (at : ℕ) → AreMain w tail → at < 4294967296 → IsMade w tail at
main_coded w tail at main a =
    let row = row_of (instruction_of (w ∷ tail)).op at in
    let same = own_tokens w tail at main in
    let k = known w tail at main in
    let own = assembled_again w tail at main.low main.entered main.all a in
    let long = found_long w tail own.0 at main a (own.1) in
    let eight = row_code (row_kept false false row) 4 (instruction_of (w ∷ tail)).length four_low k.reached.filled in record {
      words = own.0;
      coded = record {
        other = eight.bytes;
        sized = rw (same, row_filled row) eight.is;
        long = eight.whole ∙ sym long;
        fits = rw same (row_fits row k.reached.first k.reached.second);
        plain = rw same (row_plain row);
        own = ap (option_map in_bytes) (own.1);
      };
      long = long;
      short = few (tokens.tokens (text_of (instruction_of (w ∷ tail)) at)) own.0 at (own.1);
      again = own.2;
    }
