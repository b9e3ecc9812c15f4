-- A line that is an instruction's text but for its numbers has that instruction's length, and a number fits wherever an
-- instruction's text has it.
use Rattle.std.proofs.Common.{◌≡◌, ℕ, ◌+◌, ◌<◌, Bool, true, false, not, List, [], ◌∷◌, ◌++◌, length, ap, ◌∙◌, sym, arith, Some}
use Rattle.std.specs.Prelude.{is_some, slice_set}
use Rattle.std.proofs.lemmas.Bool.{or_parts}
use Rattle.m68k_decode.specs.Instructions as main
use Rattle.m68k_decode.specs.Nested.{nested}
use Rattle.z80_decode.specs.Instructions as sub
use Rattle.md_disasm.specs.Texts68 as main_texts
use Rattle.md_disasm.specs.Texts80 as sub_texts
use Rattle.md_asm_text.specs.Tokens as tokens
use Rattle.md_asm_text.specs.Tokens.{Token}
use Rattle.asm_m68k.specs.Table.{AreWords, IsInstruction}
use Rattle.asm_z80.specs.Coded80.{AreBytes}
use Rattle.asm_z80.specs.Instruction.{is_db}
use Rattle.md_asm_text.specs.declared.body.Body.TheVariants.{Instruction}
use Rattle.md_asm.specs.Codes.{code}
use Rattle.md_asm.specs.Contents.{misfit, misfits, size, under}
use Rattle.md_asm.specs.Numbers.{filled}
use Rattle.md_asm.specs.Forms.{HasNumber, IsForm}
use Rattle.md_asm.proofs.Coded68.{main_coded}
use Rattle.md_asm.proofs.Coded80.{sub_coded}
use Rattle.md_asm.specs.Coded.{IsCoded}
use Rattle.md_asm.proofs.Found.{coded_size}

-- none of a list's tokens is a misfit, so this one is none
one_misfit : (z80 : Bool) (own : List Token) (j : ℕ) (xs : List Token) (p : Token) (ys : List Token) → misfits z80 own j (xs ++ p ∷ ys) ≡ false → misfit z80 own (j + length xs) p ≡ false
unfolding misfits
one_misfit z80 own j [] p ys h = ap (λ (k : ℕ). misfit z80 own k p) (let e : j + 0 ≡ j = omega arith in e) ∙ (or_parts (misfit z80 own j p) (misfits z80 own (j + 1) ys) h).0
one_misfit z80 own j (x ∷ xs) p ys h =
    ap (λ (k : ℕ). misfit z80 own k p) (let e : j + length (x ∷ xs) ≡ j + 1 + length xs = omega arith in e)
    ∙ one_misfit z80 own (j + 1) xs p ys (or_parts (misfit z80 own j x) (misfits z80 own (j + 1) (xs ++ p ∷ ys)) h).1

from_start : (n : ℕ) → n ≡ 0 + n
from_start n = omega arith

coded_number : (z80 : Bool) (own line_tokens xs ys : List Token) (n at : ℕ) (bytes : List ℕ) → IsCoded z80 own at bytes → own ≡ xs ++ tokens.Number n ∷ ys → filled line_tokens ≡ filled own
    → misfit z80 line_tokens (length xs) (tokens.Number n) ≡ false
coded_number z80 own line_tokens xs ys n at bytes coded is same =
    ap (λ (l : List Token). not (is_some (code z80 (slice_set l (length xs) (tokens.Number n)) (under z80 n)))) same
    ∙ ap (λ (k : ℕ). misfit z80 own k (tokens.Number n)) (from_start (length xs))
    ∙ one_misfit z80 own 0 xs (tokens.Number n) ys (ap (λ (l : List Token). misfits z80 own 0 l) (sym is) ∙ coded.fits)

main_size : (w : ℕ) (tail : List ℕ) (at : ℕ) (line_tokens : List Token) → w < 65536 → IsInstruction (nested w) → AreWords (w ∷ tail) → at < 4294967296
    → filled line_tokens ≡ filled (tokens.tokens (main_texts.text_of (main.instruction_of (w ∷ tail)) at)) → size false Instruction line_tokens ≡ Some (main.instruction_of (w ∷ tail)).length
main_size w tail at line_tokens h is all a same =
    let own = main_coded w tail at (record { low = h; entered = is; all = all }) a in
    coded_size false _ line_tokens at _ own.coded same ∙ ap (λ (n : ℕ). Some n) own.long

main_number : (w : ℕ) (tail : List ℕ) (at : ℕ) (line_tokens xs ys : List Token) (n : ℕ) → w < 65536 → IsInstruction (nested w) → AreWords (w ∷ tail) → at < 4294967296
    → tokens.tokens (main_texts.text_of (main.instruction_of (w ∷ tail)) at) ≡ xs ++ tokens.Number n ∷ ys
    → filled line_tokens ≡ filled (tokens.tokens (main_texts.text_of (main.instruction_of (w ∷ tail)) at)) → misfit false line_tokens (length xs) (tokens.Number n) ≡ false
main_number w tail at line_tokens xs ys n h is all a own_is same =
    coded_number false _ line_tokens xs ys n at _ (main_coded w tail at (record { low = h; entered = is; all = all }) a).coded own_is same

sub_size : (bytes : List ℕ) (at : ℕ) (line_tokens : List Token) → AreBytes bytes → at < 65536 → is_db (sub.instruction_of bytes).op ≡ false
    → filled line_tokens ≡ filled (tokens.tokens (sub_texts.text_of (sub.instruction_of bytes) at)) → size true Instruction line_tokens ≡ Some (sub.instruction_of bytes).length
sub_size bytes at line_tokens h a none same =
    let own = sub_coded bytes at h a none in
    coded_size true _ line_tokens at own.0 own.1 same ∙ ap (λ (n : ℕ). Some n) own.2

sub_number : (bytes : List ℕ) (at : ℕ) (line_tokens xs ys : List Token) (n : ℕ) → AreBytes bytes → at < 65536 → is_db (sub.instruction_of bytes).op ≡ false
    → tokens.tokens (sub_texts.text_of (sub.instruction_of bytes) at) ≡ xs ++ tokens.Number n ∷ ys
    → filled line_tokens ≡ filled (tokens.tokens (sub_texts.text_of (sub.instruction_of bytes) at)) → misfit true line_tokens (length xs) (tokens.Number n) ≡ false
sub_number bytes at line_tokens xs ys n h a none own_is same =
    let own = sub_coded bytes at h a none in
    coded_number true _ line_tokens xs ys n at own.0 own.1 own_is same

-- so tokens of the form of an instruction are as long as it, and a number fits that one has
pub form_size : (z80 : Bool) (line_tokens : List Token) (long : ℕ) → IsForm z80 line_tokens long → size z80 Instruction line_tokens ≡ Some long
form_size true line_tokens long (bytes, at, form, is) = sub_size bytes at line_tokens form.all form.address form.instruction form.alike ∙ ap (λ (n : ℕ). Some n) is
form_size false line_tokens long (word, tail, at, form, is) =
    main_size word tail at line_tokens form.first form.instruction form.words form.address form.alike ∙ ap (λ (n : ℕ). Some n) is

pub has_fits : (z80 : Bool) (line_tokens : List Token) (place n : ℕ) → HasNumber z80 line_tokens place n → misfit z80 line_tokens place (tokens.Number n) ≡ false
has_fits true line_tokens place n (bytes, at, form, (front, following, is, long)) =
    ap (λ (k : ℕ). misfit true line_tokens k (tokens.Number n)) (sym long) ∙ sub_number bytes at line_tokens front following n form.all form.address form.instruction is form.alike
has_fits false line_tokens place n (word, tail, at, form, (front, following, is, long)) =
    ap (λ (k : ℕ). misfit false line_tokens k (tokens.Number n)) (sym long)
    ∙ main_number word tail at line_tokens front following n form.first form.instruction form.words form.address is form.alike
