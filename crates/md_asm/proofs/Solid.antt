-- Texts that a source's line has as they are: no comment, no label, and no blank at either end.
use Rattle.std.proofs.Common.{◌≡◌, ℕ, Bool, true, false, not, ◌&&◌, ◌||◌, ◌==◌, ◌%◌, ◌/◌, List, [], ◌∷◌, ◌++◌, nat_lt, reverse, refl, ap, ◌∙◌, arith}
use Rattle.std.proofs.lemmas.Bool.{and_parts}
use Rattle.std.proofs.lemmas.Bool.Decides.{nat_tests}
use Rattle.std.proofs.lemmas.List.{reverse-append, reverse-reverse}
use Rattle.std.specs.Fmt.{digit_glyph}
use Rattle.md_disasm.specs.Digits.{one_digit, two_digits, four_digits, eight_digits}
use Rattle.text_lines.specs.Digits.{is_hexadecimal}
use Rattle.md_asm_text.specs.Tokens.{every}
use Rattle.md_asm_text.proofs.Splits.{every_both, hexadecimal}
use Rattle.md_asm_text.specs.Texts.{before, cut_back, has, is_blank, unblanked}

-- no blank, no line feed, no colon and no semicolon
abbrev pub is_solid : ℕ → Bool
is_solid c = nat_lt 32 c && (not (c == 58) && not (c == 59))

-- or a space
abbrev pub is_clean : ℕ → Bool
is_clean c = is_solid c || c == 32

abbrev pub opens : List ℕ → Bool
opens [] = false
opens (c ∷ cs) = is_solid c

abbrev pub solid : List ℕ → Bool
solid [] = false
solid (c ∷ cs) = is_solid c && every is_solid cs

pub record IsText (text : List ℕ) : Type 0 where
  pub clean : every is_clean text ≡ true
  pub front : opens text ≡ true
  pub back : opens (reverse text) ≡ true

-- ---- characters

clean_of : (c : ℕ) → is_solid c ≡ true → is_clean c ≡ true
clean_of c h = rw h refl

pub all_clean : (xs : List ℕ) → every is_solid xs ≡ true → every is_clean xs ≡ true
all_clean [] h = refl
all_clean (c ∷ cs) h =
    let parts = and_parts (is_solid c) (every is_solid cs) h in
    rw (clean_of c parts.0, all_clean cs parts.1) refl

-- ---- ends

opens_more : (xs ys : List ℕ) → opens xs ≡ true → opens (xs ++ ys) ≡ true
opens_more [] ys h = cc
opens_more (c ∷ cs) ys h = h

ends_more : (xs ys : List ℕ) → opens (reverse ys) ≡ true → opens (reverse (xs ++ ys)) ≡ true
ends_more xs ys h = rw (reverse-append xs ys) (opens_more (reverse ys) (reverse xs) h)

solid_ends : (xs : List ℕ) → solid xs ≡ true → opens (reverse xs) ≡ true
solid_ends [] h = cc
solid_ends (c ∷ []) h = let parts = and_parts (is_solid c) true h in parts.0
solid_ends (c ∷ d ∷ ds) h =
    let parts = and_parts (is_solid c) (every is_solid (d ∷ ds)) h in
    ends_more (c ∷ []) (d ∷ ds) (solid_ends (d ∷ ds) parts.1)

solid_opens : (xs : List ℕ) → solid xs ≡ true → opens xs ≡ true
solid_opens [] h = cc
solid_opens (c ∷ cs) h = let parts = and_parts (is_solid c) (every is_solid cs) h in parts.0

pub solid_all : (xs : List ℕ) → solid xs ≡ true → every is_solid xs ≡ true
solid_all [] h = refl
solid_all (c ∷ cs) h = h

pub solid_more : (xs ys : List ℕ) → solid xs ≡ true → every is_solid ys ≡ true → solid (xs ++ ys) ≡ true
solid_more [] ys h k = cc
solid_more (c ∷ cs) ys h k = every_both is_solid (c ∷ cs) ys h k

pub marked : (front digits back : List ℕ) → solid front ≡ true → every is_solid digits ≡ true → every is_solid back ≡ true → solid ((front ++ digits) ++ back) ≡ true
marked front digits back h k l = solid_more (front ++ digits) back (solid_more front digits h k) l

-- ---- texts

pub text_solid : (xs : List ℕ) → solid xs ≡ true → IsText xs
text_solid xs h = record { clean = all_clean xs (solid_all xs h); front = solid_opens xs h; back = solid_ends xs h }

pub text_more : (xs mark ys : List ℕ) → IsText xs → every is_clean mark ≡ true → solid ys ≡ true → IsText (xs ++ (mark ++ ys))
text_more xs mark ys is m h = record {
  clean = every_both is_clean xs (mark ++ ys) is.clean (every_both is_clean mark ys m (all_clean ys (solid_all ys h)));
  front = opens_more xs (mark ++ ys) is.front;
  back = ends_more xs (mark ++ ys) (ends_more mark ys (solid_ends ys h));
}

-- ---- digits

solid_hexadecimal : (c : ℕ) → is_hexadecimal c ≡ true → is_solid c ≡ true
solid_hexadecimal c is = grind (arith, nat_tests)

pub one_solid : (n : ℕ) → every is_solid (one_digit n) ≡ true
unfolding one_digit
one_solid n = rw (solid_hexadecimal (digit_glyph false (n % 16)) (hexadecimal n)) refl

pub two_solid : (n : ℕ) → every is_solid (two_digits n) ≡ true
unfolding two_digits
two_solid n = every_both is_solid (one_digit (n / 16)) (one_digit n) (one_solid (n / 16)) (one_solid n)

pub four_solid : (n : ℕ) → every is_solid (four_digits n) ≡ true
unfolding four_digits
four_solid n = every_both is_solid (two_digits (n / 256)) (two_digits (n % 256)) (two_solid (n / 256)) (two_solid (n % 256))

pub eight_solid : (n : ℕ) → every is_solid (eight_digits n) ≡ true
unfolding eight_digits
eight_solid n = every_both is_solid (four_digits (n / 65536)) (four_digits (n % 65536)) (four_solid (n / 65536)) (four_solid (n % 65536))

-- ---- a line of such a text

clean_no : (mark c : ℕ) → is_clean c ≡ true → is_clean mark ≡ false → (c == mark) ≡ false
clean_no mark c h k = cases (c == mark) refl
  where
    cases : (b : Bool) → (c == mark) ≡ b → b ≡ false
    cases true is = absurd (grind (arith, nat_tests))
    cases false is = refl

pub has_none : (mark : ℕ) (text : List ℕ) → every is_clean text ≡ true → is_clean mark ≡ false → has mark text ≡ false
unfolding has
has_none mark [] h k = refl
has_none mark (c ∷ cs) h k =
    let parts = and_parts (is_clean c) (every is_clean cs) h in
    rw (clean_no mark c parts.0 k, has_none mark cs parts.1 k) refl

pub before_all : (mark : ℕ) (text : List ℕ) → every is_clean text ≡ true → is_clean mark ≡ false → before mark text ≡ text
unfolding before
before_all mark [] h k = refl
before_all mark (c ∷ cs) h k =
    let parts = and_parts (is_clean c) (every is_clean cs) h in
    rw (clean_no mark c parts.0 k, before_all mark cs parts.1 k) refl

solid_blank : (c : ℕ) → is_solid c ≡ true → is_blank c ≡ false
solid_blank c h = cases (is_blank c) refl
  where
    cases : (b : Bool) → is_blank c ≡ b → b ≡ false
    cases true is = absurd (grind (arith, nat_tests))
    cases false is = refl

pub unblanked_same : (text : List ℕ) → opens text ≡ true → unblanked text ≡ text
unfolding unblanked
unblanked_same [] h = refl
unblanked_same (c ∷ cs) h = rw (solid_blank c h) refl

pub cut_same : (text : List ℕ) → opens (reverse text) ≡ true → cut_back text ≡ text
cut_same text h = ap reverse (unblanked_same (reverse text) h) ∙ reverse-reverse text
