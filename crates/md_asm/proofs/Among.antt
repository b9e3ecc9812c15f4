-- Numbers among tokens, and other numbers in their places.
use Rattle.std.proofs.Common.{◌≡◌, ℕ, ◌+◌, ◌%◌, ◌<◌, ◌≤◌, Bool, true, false, not, nat_le, nat_lt, List, [], ◌∷◌, ◌++◌, length, append_assoc, length-append, refl, ap, ◌∙◌, sym, arith, Some}
use Rattle.std.proofs.lemmas.Bool.Decides.{nat_tests}
use Rattle.md_asm_text.specs.Tokens as tokens
use Rattle.md_asm_text.specs.Tokens.{Token}
use Rattle.md_asm.specs.Numbers.{filled, filled_token}
use Rattle.md_asm.specs.Forms.{StandsIn}
use Rattle.md_asm.proofs.Fits.{is_plain, is_single, number_of}

-- ---- tests of numbers

pub below : (n limit : ℕ) → nat_lt n limit ≡ true → n < limit
below n limit h = grind (arith, nat_tests)

-- a test that fails does not hold
pub refuted : {A : Type 0} → false ≡ true → A
refuted h = absurd (cc)

pub no_number : (n : ℕ) → nat_lt n 0 ≡ true → ⊥
no_number n h = let e = below n 0 h in omega (arith, e)

pub at_most : (a b : ℕ) → nat_le a b ≡ true → a ≤ b
at_most a b h = grind (arith, nat_tests)

pub not_false : (b : Bool) → not b ≡ false → b ≡ true
not_false true h = refl
not_false false h = cc

pub byte_stays : (n : ℕ) → n < 256 → n % 256 ≡ n
byte_stays n h = omega arith

-- ---- another number in the place of each

abbrev pub put_token : ℕ → Token → Token
put_token n (tokens.Number m) = tokens.Number n
put_token n (tokens.Word w) = tokens.Word w
put_token n (tokens.Name w) = tokens.Name w
put_token n (tokens.Mark c) = tokens.Mark c

abbrev pub put_all : ℕ → List Token → List Token
put_all n [] = []
put_all n (p ∷ ps) = put_token n p ∷ put_all n ps

pub put_both : (n : ℕ) (xs ys : List Token) → put_all n (xs ++ ys) ≡ put_all n xs ++ put_all n ys
put_both n [] ys = refl
put_both n (x ∷ xs) ys = ap (λ (l : List Token). put_token n x ∷ l) (put_both n xs ys)

pub put_long : (n : ℕ) (xs : List Token) → length (put_all n xs) ≡ length xs
put_long n [] = refl
put_long n (x ∷ xs) = let e = put_long n xs in omega (arith, e)

token_filled : (n : ℕ) (p : Token) → filled_token (put_token n p) ≡ filled_token p
token_filled n (tokens.Number m) = refl
token_filled n (tokens.Word w) = refl
token_filled n (tokens.Name w) = refl
token_filled n (tokens.Mark c) = refl

pub put_filled : (n : ℕ) (xs : List Token) → filled (put_all n xs) ≡ filled xs
put_filled n [] = refl
put_filled n (x ∷ xs) = ap (λ (q : Token). q ∷ filled (put_all n xs)) (token_filled n x) ∙ ap (λ (l : List Token). filled_token x ∷ l) (put_filled n xs)

pub put_plain : (n : ℕ) (xs : List Token) → is_plain xs ≡ true → put_all n xs ≡ xs
put_plain n [] h = refl
put_plain n (tokens.Word w ∷ ps) h = ap (λ (l : List Token). tokens.Word w ∷ l) (put_plain n ps h)
put_plain n (tokens.Mark c ∷ ps) h = ap (λ (l : List Token). tokens.Mark c ∷ l) (put_plain n ps h)
put_plain n (tokens.Number m ∷ ps) h = cc
put_plain n (tokens.Name w ∷ ps) h = cc

-- it is where the other was
pub put_stands : (n m : ℕ) (all : List Token) (place : ℕ) → StandsIn all place (tokens.Number m) → StandsIn (put_all n all) place (tokens.Number n)
put_stands n m all place (front, following, is, long) =
    (put_all n front, put_all n following, ap (put_all n) is ∙ put_both n front (tokens.Number m ∷ following), put_long n front ∙ long)

-- ---- the number of a part

single_number : (front following : List Token) (n : ℕ) → is_single (front ++ tokens.Number n ∷ following) ≡ true → number_of (front ++ tokens.Number n ∷ following) ≡ Some n
single_number [] following n h = refl
single_number (tokens.Word w ∷ ps) following n h = single_number ps following n h
single_number (tokens.Mark c ∷ ps) following n h = single_number ps following n h
single_number (tokens.Number m ∷ ps) following n h = absurd (not_plain ps h)
  where
    not_plain : (xs : List Token) → is_plain (xs ++ tokens.Number n ∷ following) ≡ true → ⊥
    not_plain [] k = cc
    not_plain (tokens.Word w ∷ xs) k = not_plain xs k
    not_plain (tokens.Mark c ∷ xs) k = not_plain xs k
    not_plain (tokens.Number o ∷ xs) k = cc
    not_plain (tokens.Name w ∷ xs) k = cc
single_number (tokens.Name w ∷ ps) following n h = cc

pub plain_single : (front part : List Token) → is_plain front ≡ true → is_single part ≡ true → is_single (front ++ part) ≡ true
plain_single [] part h k = k
plain_single (tokens.Word w ∷ ps) part h k = plain_single ps part h k
plain_single (tokens.Mark c ∷ ps) part h k = plain_single ps part h k
plain_single (tokens.Number m ∷ ps) part h k = cc
plain_single (tokens.Name w ∷ ps) part h k = cc

pub plain_number : (front part : List Token) → is_plain front ≡ true → number_of (front ++ part) ≡ number_of part
plain_number [] part h = refl
plain_number (tokens.Word w ∷ ps) part h = plain_number ps part h
plain_number (tokens.Mark c ∷ ps) part h = plain_number ps part h
plain_number (tokens.Number m ∷ ps) part h = cc
plain_number (tokens.Name w ∷ ps) part h = cc

-- ---- before a seam, or after it

record IsLeft (left right front : List Token) (p : Token) (following : List Token) : Type 0 where
  rest : List Token
  own : left ≡ front ++ p ∷ rest
  other : following ≡ rest ++ right

left_of : (left right front : List Token) (p : Token) (following : List Token) → left ++ right ≡ front ++ p ∷ following → length front < length left → IsLeft left right front p following
left_of [] right front p following e low = absurd (omega arith)
left_of (x ∷ xs) right [] p following e low = record { rest = xs; own = cc; other = cc }
left_of (x ∷ xs) right (f ∷ fs) p following e low =
    let head : x ≡ f = cc in
    let tail : xs ++ right ≡ fs ++ p ∷ following = cc in
    let there = left_of xs right fs p following tail (omega arith) in
    record { rest = there.rest; own = ap (λ (q : Token). q ∷ xs) head ∙ ap (λ (l : List Token). f ∷ l) there.own; other = there.other }

record IsRight (left right front : List Token) (p : Token) (following : List Token) : Type 0 where
  rest : List Token
  before : front ≡ left ++ rest
  own : right ≡ rest ++ p ∷ following

right_of : (left right front : List Token) (p : Token) (following : List Token) → left ++ right ≡ front ++ p ∷ following → length left ≤ length front → IsRight left right front p following
right_of [] right front p following e high = record { rest = front; before = refl; own = e }
right_of (x ∷ xs) right [] p following e high = absurd (omega arith)
right_of (x ∷ xs) right (f ∷ fs) p following e high =
    let head : f ≡ x = cc in
    let tail : xs ++ right ≡ fs ++ p ∷ following = cc in
    let there = right_of xs right fs p following tail (omega arith) in
    record { rest = there.rest; before = ap (λ (q : Token). q ∷ fs) head ∙ ap (λ (l : List Token). x ∷ l) there.before; own = there.own }

-- ---- a number of two parts after a plain one: in the first, or in the second

pub first_number : (plain xs ys : List Token) (place n : ℕ) → is_plain plain ≡ true → is_single xs ≡ true → nat_lt place (length (plain ++ xs)) ≡ true
    → StandsIn ((plain ++ xs) ++ ys) place (tokens.Number n) → number_of xs ≡ Some n
first_number plain xs ys place n h single low (front, following, is, long) =
    let there = left_of (plain ++ xs) ys front (tokens.Number n) following is (rw long (grind (arith, nat_tests))) in
    sym (plain_number plain xs h) ∙ ap number_of there.own ∙ single_number front there.rest n (rw there.own at (plain_single plain xs h single))

pub second_number : (left ys : List Token) (place n : ℕ) → is_single ys ≡ true → nat_lt place (length left) ≡ false → StandsIn (left ++ ys) place (tokens.Number n)
    → number_of ys ≡ Some n
second_number left ys place n single high (front, following, is, long) =
    let there = right_of left ys front (tokens.Number n) following is (rw long (grind (arith, nat_tests))) in
    ap number_of there.own ∙ single_number there.rest following n (rw there.own at single)

-- with another number in its place there
pub first_put : (left ys : List Token) (place m n : ℕ) → nat_lt place (length left) ≡ true → StandsIn (left ++ ys) place (tokens.Number m)
    → StandsIn (put_all n left ++ ys) place (tokens.Number n)
first_put left ys place m n low (front, following, is, long) =
    let there = left_of left ys front (tokens.Number m) following is (rw long (grind (arith, nat_tests))) in (
      put_all n front,
      put_all n there.rest ++ ys,
      ap (λ (l : List Token). put_all n l ++ ys) there.own ∙ ap (λ (l : List Token). l ++ ys) (put_both n front (tokens.Number m ∷ there.rest))
          ∙ append_assoc (put_all n front) (tokens.Number n ∷ put_all n there.rest) ys,
      put_long n front ∙ long,
    )

pub second_put : (left ys : List Token) (place m n : ℕ) → nat_lt place (length left) ≡ false → StandsIn (left ++ ys) place (tokens.Number m)
    → StandsIn (left ++ put_all n ys) place (tokens.Number n)
second_put left ys place m n high (front, following, is, long) =
    let there = right_of left ys front (tokens.Number m) following is (rw long (grind (arith, nat_tests))) in (
      left ++ put_all n there.rest,
      put_all n following,
      ap (λ (l : List Token). left ++ put_all n l) there.own ∙ ap (λ (l : List Token). left ++ l) (put_both n there.rest (tokens.Number m ∷ following))
          ∙ sym (append_assoc left (put_all n there.rest) (tokens.Number n ∷ put_all n following)),
      length-append left (put_all n there.rest) ∙ ap (λ (k : ℕ). length left + k) (put_long n there.rest) ∙ sym (length-append left there.rest) ∙ ap length (sym there.before) ∙ long,
    )
