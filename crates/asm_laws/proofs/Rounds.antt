-- The two rounds on a source of one instruction.
use Rattle.std.proofs.Common.{◌≡◌, ℕ, zero, suc, ◌+◌, ◌-◌, ◌%◌, ◌<◌, ◌≤◌, Bool, true, false, ◌==◌, List, [], ◌∷◌, ◌++◌, nat_lt, nat_le, length, take, max, append-nil, refl, ap, ◌∙◌, sym, arith, codes, None}
use Rattle.std.proofs.lemmas.Bool.Decides.{nat_tests}
use Rattle.md_disasm.specs.Digits.{eight_digits, four_digits, marked_long, marked_word}
use Rattle.md_asm_text.specs.Tokens as tokens
use Rattle.md_asm_text.specs.Tokens.{Token, is_name, is_worded, opened, split}
use Rattle.md_asm_text.proofs.Splits.{mark_split, name_opens, number_4, number_8, word_split}
use Rattle.md_asm_text.specs.Bodies.{directive_of}
use Rattle.md_asm_text.specs.Lines.{Line, line_of}
use Rattle.md_asm_text.specs.Texts.{has}
use Rattle.text_lines.specs.Lines.{lines_of}
use Rattle.md_asm_text.specs.declared.body.Body.{Body}
use Rattle.md_asm_text.specs.declared.body.Body.TheVariants as bodies
use Rattle.md_asm.specs.Contents.{Good, settled_line}
use Rattle.md_asm.specs.Numbers.{Names, resolved}
use Rattle.md_asm.specs.Assembly.{Done, assembly, places_of, second}
use Rattle.md_asm.specs.Places.{any_written, blank, image_limit, put}
use Rattle.md_asm.proofs.Slots.{resolved_plain}
use Rattle.md_asm.specs.Rounds.{On, following, line_step, round_one, round_two, start}
use Rattle.asm_laws.specs.Sources.{main_source, sub_source}
use Rattle.md_asm.proofs.Line.{instruction_line, line_is}
use Rattle.md_asm.proofs.Solid.{IsText, eight_solid, four_solid, has_none, text_more, text_solid}
use Rattle.md_asm.specs.Coded.{IsCoded}

-- ---- the lines of a source

pub lines_front : (text rest : List ℕ) → has 10 text ≡ false → lines_of (text ++ 10 ∷ rest) ≡ text ∷ lines_of rest
unfolding lines_of has
lines_front [] rest h = refl
lines_front (c ∷ cs) rest h = cases (c == 10) (has 10 cs) refl refl (λ e. lines_front cs rest e)
  where
    cases : (b n : Bool) → (c == 10) ≡ b → has 10 cs ≡ n → (has 10 cs ≡ false → lines_of (cs ++ 10 ∷ rest) ≡ cs ∷ lines_of rest) → lines_of (c ∷ (cs ++ 10 ∷ rest)) ≡ (c ∷ cs) ∷ lines_of rest
    cases true n is e more = let no : true ≡ false = rw is at h in cc
    cases false true is e more = let no : has 10 cs ≡ false = rw is at h in cc
    cases false false is e more = rw (is, more e) refl

pub two_lines : (first text : List ℕ) → IsText first → IsText text → lines_of (first ++ 10 ∷ (text ++ 10 ∷ [])) ≡ first ∷ text ∷ []
unfolding lines_of
two_lines first text f t =
    lines_front first (text ++ 10 ∷ []) (has_none 10 first f.clean refl) ∙ ap (λ (l : List (List ℕ)). first ∷ l) (lines_front text [] (has_none 10 text t.clean refl))

-- ---- the line with the address

abbrev pub org_line : ℕ → List ℕ
org_line at = marked_long (codes "org $") at []

abbrev cpu_line : ℕ → List ℕ
cpu_line at = marked_word (codes "cpu z80 $") at []

pub org_text : (at : ℕ) → IsText (org_line at)
unfolding marked_long
org_text at =
    rw (append-nil (codes "org $" ++ eight_digits at))
    (text_more (codes "org") (codes " ") (36 ∷ eight_digits at) (text_solid (codes "org") refl) refl (eight_solid at))

cpu_text : (at : ℕ) → IsText (cpu_line at)
unfolding marked_word
cpu_text at =
    rw (append-nil (codes "cpu z80 $" ++ four_digits at))
    (text_more (codes "cpu") (codes " z80 ") (36 ∷ four_digits at) (text_solid (codes "cpu") refl) refl (four_solid at))

org_tokens : (at : ℕ) → at < 4294967296 → tokens.tokens (org_line at) ≡ tokens.Word (codes "org") ∷ tokens.Mark 32 ∷ tokens.Number at ∷ []
unfolding marked_long is_worded split
org_tokens at h =
    ap (opened []) (append-nil (codes "org $" ++ eight_digits at))
    ∙ name_opens (codes "org") (32 ∷ 36 ∷ eight_digits at) refl refl
    ∙ ap (λ (l : List Token). tokens.Word (codes "org") ∷ l) (mark_split 32 (36 ∷ eight_digits at) refl
    ∙ ap (λ (l : List Token). tokens.Mark 32 ∷ l) (ap (λ (l : List ℕ). split [] (36 ∷ l)) (sym (append-nil (eight_digits at))) ∙ number_8 at [] h refl))

cpu_tokens : (at : ℕ) → at < 65536
    → tokens.tokens (cpu_line at) ≡ tokens.Word (codes "cpu") ∷ tokens.Mark 32 ∷ tokens.Name (codes "z80") ∷ tokens.Mark 32 ∷ tokens.Number at ∷ []
unfolding marked_word is_worded is_name tokens.token_of split
cpu_tokens at h =
    ap (opened []) (append-nil (codes "cpu z80 $" ++ four_digits at))
    ∙ name_opens (codes "cpu") (32 ∷ 122 ∷ 56 ∷ 48 ∷ 32 ∷ 36 ∷ four_digits at) refl refl
    ∙ ap (λ (l : List Token). tokens.Word (codes "cpu") ∷ l) (mark_split 32 (122 ∷ 56 ∷ 48 ∷ 32 ∷ 36 ∷ four_digits at) refl
    ∙ ap (λ (l : List Token). tokens.Mark 32 ∷ l) (word_split (codes "z80") (32 ∷ 36 ∷ four_digits at) refl refl
    ∙ ap (λ (l : List Token). tokens.Name (codes "z80") ∷ l) (mark_split 32 (36 ∷ four_digits at) refl
    ∙ ap (λ (l : List Token). tokens.Mark 32 ∷ l) (ap (λ (l : List ℕ). split [] (36 ∷ l)) (sym (append-nil (four_digits at))) ∙ number_4 at [] h refl))))

abbrev pub plain_line : List ℕ → Body → Line
plain_line text body = record { label = None; text = text; body = body }

pub org_is : (at : ℕ) → at < 4294967296 → line_of (org_line at) ≡ plain_line (org_line at) (bodies.Org at)
unfolding directive_of
org_is at h = line_is (org_line at) (bodies.Org at) (org_text at) (ap directive_of (org_tokens at h))

cpu_is : (at : ℕ) → at < 65536 → line_of (cpu_line at) ≡ plain_line (cpu_line at) (bodies.Sub at)
unfolding directive_of
cpu_is at h = line_is (cpu_line at) (bodies.Sub at) (cpu_text at) (ap directive_of (cpu_tokens at h))

-- ---- the first line

cpu_step : (text : List ℕ) (at : ℕ) → at < 65536 → line_step start 1 (plain_line text (bodies.Sub at)) ≡ On (following start 1 (plain_line text (bodies.Sub at)) 0)
cpu_step text at h =
    let fits : nat_le 65536 at ≡ false = cases (nat_le 65536 at) refl in rw fits refl
  where
    cases : (b : Bool) → nat_le 65536 at ≡ b → nat_le 65536 at ≡ false
    cases true is = absurd (grind (arith, nat_tests))
    cases false is = is

-- ---- the second line

pub none_written : (long place : ℕ) → any_written (λ other. false) place long ≡ false
none_written zero place = refl
none_written (suc long) place = none_written long (place + 1)

pub max_zero : (n : ℕ) → max 0 n ≡ n
max_zero n = omega arith

max_both : (n : ℕ) → max 0 (0 + n) ≡ n
max_both n = omega arith

pub small : (at long : ℕ) → at + long ≤ image_limit → nat_lt image_limit (at + long) ≡ false
small at long h = cases (nat_lt image_limit (at + long)) refl
  where
    cases : (b : Bool) → nat_lt image_limit (at + long) ≡ b → b ≡ false
    cases true is = absurd (grind (arith, nat_tests))
    cases false is = refl

pub even : (at : ℕ) → at % 2 ≡ 0 → (at % 2 == 1) ≡ false
even at h = rw h refl

main_step : (first text : List ℕ) (at : ℕ) (bytes : List ℕ) → IsCoded false (tokens.tokens text) at bytes → at % 2 ≡ 0 → at + length bytes ≤ image_limit
    → line_step (following start 1 (plain_line first (bodies.Org at)) 0) 2 (instruction_line text) ≡ On (following (following start 1 (plain_line first (bodies.Org at)) 0) 2 (instruction_line text) (length bytes))
main_step first text at bytes coded e h =
    rw (coded.sized, coded.long, coded.fits, even at e, none_written (length bytes) at, small at (length bytes) h) refl

sub_step : (first text : List ℕ) (at : ℕ) (bytes : List ℕ) → IsCoded true (tokens.tokens text) at bytes → length bytes ≤ 4
    → line_step (following start 1 (plain_line first (bodies.Sub at)) 0) 2 (instruction_line text) ≡ On (following (following start 1 (plain_line first (bodies.Sub at)) 0) 2 (instruction_line text) (length bytes))
sub_step first text at bytes coded h =
    rw (coded.sized, coded.long, coded.fits, none_written (length bytes) 0, small 0 (length bytes) (omega arith)) refl

-- ---- the second round

same_long : (n : ℕ) → (n == n) ≡ true
same_long n = cases (n == n) refl
  where
    cases : (b : Bool) → (n == n) ≡ b → b ≡ true
    cases true is = refl
    cases false is = absurd (grind (arith, nat_tests))

settled : (sub : Bool) (names : Names) (line_tokens : List Token) (at : ℕ) (bytes : List ℕ) → IsCoded sub line_tokens at bytes
    → settled_line sub bodies.Instruction (length bytes) (resolved names line_tokens) at ≡ Good bytes
settled sub names line_tokens at bytes coded =
    rw (resolved_plain names line_tokens coded.plain, coded.plain, coded.fits, coded.own, same_long (length bytes)) refl

-- ---- the source

pub main_done : (text : List ℕ) (at : ℕ) (bytes : List ℕ) → IsText text → line_of text ≡ instruction_line text → IsCoded false (tokens.tokens text) at bytes
    → at % 2 ≡ 0 → at + length bytes ≤ image_limit
    → assembly (main_source at text) ≡ Done (take (at + length bytes) (put blank at bytes)) (record { place = at; address = at; z80 = false } ∷ [])
unfolding assembly round_one round_two places_of
main_done text at bytes is line coded e h =
    let own = settled false (λ name. None) (tokens.tokens text) at bytes coded in
    ap (λ (l : List (List ℕ)). second (round_one start 1 l)) (two_lines (org_line at) text (org_text at) is)
    ∙ rw (org_is at (omega arith), line, main_step (org_line at) text at bytes coded e h, own, max_zero (at + length bytes)) refl

at_start : (at : ℕ) → at < 65536 → (at + 0 + 4294967296 - 0) % 65536 ≡ at
at_start at h = omega arith

pub sub_done : (text : List ℕ) (at : ℕ) (bytes : List ℕ) → IsText text → line_of text ≡ instruction_line text → IsCoded true (tokens.tokens text) at bytes
    → at < 65536 → length bytes ≤ 4
    → assembly (sub_source at text) ≡ Done (take (length bytes) (put blank 0 bytes)) (record { place = 0; address = at; z80 = true } ∷ [])
unfolding assembly round_one round_two places_of
sub_done text at bytes is line coded a h =
    let own = settled true (λ name. None) (tokens.tokens text) at bytes coded in
    ap (λ (l : List (List ℕ)). second (round_one start 1 l)) (two_lines (cpu_line at) text (cpu_text at) is)
    ∙ rw (cpu_is at a, line, cpu_step (cpu_line at) at a, sub_step (cpu_line at) text at bytes coded h, at_start at a, own, max_both (length bytes)) refl
