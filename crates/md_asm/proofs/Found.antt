-- What is found for tokens at one address tells what their form is: how long it is, and that its numbers fit.
use Rattle.std.proofs.Common.{◌≡◌, ℕ, ◌+◌, ◌<◌, ◌==◌, Bool, true, false, not, List, [], ◌∷◌, ◌++◌, length, Some, refl, ap, ◌∙◌, sym, subst, arith}
use Rattle.std.specs.Prelude.{is_some, option_map, slice_set}
use Rattle.std.proofs.lemmas.Bool.{or_parts}
use Rattle.std.proofs.lemmas.Bool.Decides.{nat_tests}
use Rattle.m68k_decode.specs.Instructions as main
use Rattle.z80_decode.specs.Instructions as sub
use Rattle.md_disasm.specs.Texts68 as main_texts
use Rattle.md_disasm.specs.Texts80 as sub_texts
use Rattle.md_asm_text.specs.Tokens as tokens
use Rattle.md_asm_text.specs.Tokens.{Token}
use Rattle.md_asm_text.specs.declared.body.Body.TheVariants.{Instruction}
use Rattle.asm_m68k.specs.Checked as main_read
use Rattle.asm_m68k.specs.Table.{AreWords}
use Rattle.asm_z80.specs.Checked as sub_read
use Rattle.asm_z80.specs.Coded80.{AreBytes}
use Rattle.asm_z80.specs.Instruction.{is_db}
use Rattle.asm_z80.proofs.Checked.{tried_is}
use Rattle.md_asm.specs.Coded.{IsCoded}
use Rattle.md_asm.specs.Codes.{code, in_bytes, main_code}
use Rattle.md_asm.specs.Contents.{Good, misfit, misfits, settled_line, size, sized, under}
use Rattle.md_asm.specs.Kept.{SettlesOn}
use Rattle.md_asm.specs.Numbers.{filled, names_filled}
use Rattle.md_asm.proofs.Bytes.{filled_up, padded_bytes}
use Rattle.md_asm.proofs.Checks.{main_round_trips, sub_round_trips}
use Rattle.md_asm.proofs.Coded68.{main_coded}
use Rattle.md_asm.proofs.Coded80.{sub_coded}
use Rattle.md_asm.proofs.Slots.{settles_without_names}
use Rattle.md_asm.proofs.SubTexts as sub_found
use Rattle.md_asm.proofs.Texts as main_found

-- ---- codes

main_is : (line_tokens : List Token) (at : ℕ) (words : List ℕ) → AreWords words → at < 4294967296 → main_code line_tokens at ≡ Some words → IsCoded false line_tokens at (in_bytes words)
main_is line_tokens at [] all a is = let own = (main_found.found line_tokens [] at is).own in cc
main_is line_tokens at (word ∷ tail) all a is =
    let there = main_found.going_on line_tokens word tail at all a is in
    let made = main_coded word (tail ++ there.more) at (record { low = all 0; entered = there.instruction; all = there.all }) a in
    let coded : IsCoded false line_tokens at (in_bytes made.words) = subst (λ (l : List Token). IsCoded false l at (in_bytes made.words)) there.text made.coded in
    let both : Some (in_bytes (word ∷ tail)) ≡ Some (in_bytes made.words) = sym (ap (option_map in_bytes) is) ∙ coded.own in
    let same : in_bytes made.words ≡ in_bytes (word ∷ tail) = cc in
    subst (λ (l : List ℕ). IsCoded false line_tokens at l) same coded

pub main_tells : (words : List ℕ) (line_tokens : List Token) (at : ℕ) → AreWords words → at < 4294967296 → words ≡ main_read.tried line_tokens at
    → tokens.tokens (main_texts.text_of (main.instruction_of (main_read.padded words)) at) ≡ line_tokens → IsCoded false line_tokens at (in_bytes words)
main_tells words line_tokens at all a is text = main_is line_tokens at words all a (main_round_trips words line_tokens at is text)

pub sub_tells : (bytes : List ℕ) (line_tokens : List Token) (at : ℕ) → AreBytes bytes → at < 65536 → bytes ≡ sub_read.tried line_tokens at
    → tokens.tokens (sub_texts.text_of (sub.instruction_of (sub_read.padded bytes)) at) ≡ line_tokens → IsCoded true line_tokens at bytes
sub_tells bytes line_tokens at all a is text =
    let found = sub_round_trips bytes line_tokens at is text in
    let up = filled_up bytes (sub_found.few line_tokens bytes at all a found) in
    let filled : AreBytes (bytes ++ up.more) = rw up.up at (padded_bytes bytes all) in
    let whole : tokens.tokens (sub_texts.text_of (sub.instruction_of (bytes ++ up.more)) at) ≡ line_tokens
    = ap (λ (l : List ℕ). tokens.tokens (sub_texts.text_of (sub.instruction_of l) at)) (sym up.up) ∙ text in
    let none = tried_is bytes up.more line_tokens at filled is whole (is_db (sub.instruction_of (bytes ++ up.more)).op) refl in
    let there = sub_coded (bytes ++ up.more) at filled a none in
    let coded : IsCoded true line_tokens at there.0 = subst (λ (l : List Token). IsCoded true l at there.0) whole there.1 in
    let both : Some bytes ≡ Some there.0 = sym found ∙ coded.own in
    let same : there.0 ≡ bytes = cc in
    subst (λ (l : List ℕ). IsCoded true line_tokens at l) same coded

-- ---- lines

pub coded_size : (z80 : Bool) (own line_tokens : List Token) (at : ℕ) (bytes : List ℕ) → IsCoded z80 own at bytes → filled line_tokens ≡ filled own → size z80 Instruction line_tokens ≡ Some (length bytes)
coded_size z80 own line_tokens at bytes coded same =
    ap (λ (l : List Token). option_map length (code z80 l 4)) same ∙ ap (option_map length) coded.sized ∙ ap (λ (n : ℕ). Some n) coded.long

-- with all names known it is settled by its bytes
pub coded_settles : (z80 : Bool) (long : ℕ) (line_tokens : List Token) (at : ℕ) (bytes : List ℕ) → IsCoded z80 line_tokens at bytes
    → settled_line z80 Instruction long line_tokens at ≡ sized long (Some bytes)
coded_settles z80 long line_tokens at bytes coded = rw (coded.plain, coded.fits, coded.own) refl

same_long : (n : ℕ) → (n == n) ≡ true
same_long n = grind (arith, nat_tests)

-- so the bytes of a line without names are its own
pub coded_known : (z80 : Bool) (line_tokens : List Token) (at : ℕ) (bytes : List ℕ) → IsCoded z80 line_tokens at bytes → SettlesOn z80 Instruction (length bytes) line_tokens at bytes
coded_known z80 line_tokens at bytes coded =
    let good : sized (length bytes) (Some bytes) ≡ Good bytes = rw (same_long (length bytes)) refl in
    settles_without_names z80 Instruction (length bytes) line_tokens at bytes coded.plain (coded_settles z80 (length bytes) line_tokens at bytes coded ∙ good)

-- ---- lines with names

named_filled : (line_tokens : List Token) → filled (names_filled line_tokens) ≡ filled line_tokens
named_filled [] = refl
named_filled (tokens.Word word ∷ ps) = ap (λ (l : List Token). tokens.Word word ∷ l) (named_filled ps)
named_filled (tokens.Number n ∷ ps) = ap (λ (l : List Token). tokens.Number 8 ∷ l) (named_filled ps)
named_filled (tokens.Name name ∷ ps) = ap (λ (l : List Token). tokens.Number 8 ∷ l) (named_filled ps)
named_filled (tokens.Mark c ∷ ps) = ap (λ (l : List Token). tokens.Mark c ∷ l) (named_filled ps)

-- numbers fit that do with 8 for all names
others_fit : (z80 : Bool) (own line_tokens : List Token) (i : ℕ) (ps : List Token) → filled own ≡ filled line_tokens → misfits z80 own i (names_filled ps) ≡ false → misfits z80 line_tokens i ps ≡ false
unfolding misfits
others_fit z80 own line_tokens i [] same h = refl
others_fit z80 own line_tokens i (tokens.Word word ∷ ps) same h = others_fit z80 own line_tokens (i + 1) ps same h
others_fit z80 own line_tokens i (tokens.Mark c ∷ ps) same h = others_fit z80 own line_tokens (i + 1) ps same h
others_fit z80 own line_tokens i (tokens.Name name ∷ ps) same h =
    others_fit z80 own line_tokens (i + 1) ps same (or_parts (misfit z80 own i (tokens.Number 8)) (misfits z80 own (i + 1) (names_filled ps)) h).1
others_fit z80 own line_tokens i (tokens.Number n ∷ ps) same h =
    let parts = or_parts (misfit z80 own i (tokens.Number n)) (misfits z80 own (i + 1) (names_filled ps)) h in
    let here : misfit z80 line_tokens i (tokens.Number n) ≡ false
    = ap (λ (l : List Token). not (is_some (code z80 (slice_set l i (tokens.Number n)) (under z80 n)))) (sym same) ∙ parts.0 in
    rw (here, others_fit z80 own line_tokens (i + 1) ps same parts.1) refl

-- what is found with 8 for all names tells the same of the line
pub named_size : (z80 : Bool) (line_tokens : List Token) (at : ℕ) (bytes : List ℕ) → IsCoded z80 (names_filled line_tokens) at bytes → size z80 Instruction line_tokens ≡ Some (length bytes)
named_size z80 line_tokens at bytes coded = coded_size z80 (names_filled line_tokens) line_tokens at bytes coded (sym (named_filled line_tokens))

pub named_fits : (z80 : Bool) (line_tokens : List Token) (at : ℕ) (bytes : List ℕ) → IsCoded z80 (names_filled line_tokens) at bytes → misfits z80 line_tokens 0 line_tokens ≡ false
named_fits z80 line_tokens at bytes coded = others_fit z80 (names_filled line_tokens) line_tokens 0 line_tokens (named_filled line_tokens) coded.fits
