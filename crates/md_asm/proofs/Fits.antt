-- Which numbers of an instruction's tokens fit: each is tried alone, with 8 for the others.
use Rattle.std.proofs.Common.{◌≡◌, ℕ, ◌+◌, Bool, true, false, ◌||◌, List, [], ◌∷◌, ◌++◌, length, append_assoc, length-append, refl, ap, ◌∙◌, sym, arith, Option, Some, None}
use Rattle.std.specs.Prelude.{is_some, slice_set}
use Rattle.md_asm_text.specs.Tokens as tokens
use Rattle.md_asm_text.specs.Tokens.{Token}
use Rattle.md_asm.specs.Codes.{code}
use Rattle.md_asm.specs.Contents.{misfit, misfits, under}
use Rattle.md_asm.specs.Numbers.{alone, filled, filled_token, has_name}

-- no number and no name
abbrev pub is_plain : List Token → Bool
is_plain [] = true
is_plain (tokens.Word w ∷ ps) = is_plain ps
is_plain (tokens.Mark c ∷ ps) = is_plain ps
is_plain (tokens.Number n ∷ ps) = false
is_plain (tokens.Name w ∷ ps) = false

-- one number at the most, and no name
abbrev pub is_single : List Token → Bool
is_single [] = true
is_single (tokens.Word w ∷ ps) = is_single ps
is_single (tokens.Mark c ∷ ps) = is_single ps
is_single (tokens.Number n ∷ ps) = is_plain ps
is_single (tokens.Name w ∷ ps) = false

abbrev pub number_of : List Token → Option ℕ
number_of [] = None
number_of (tokens.Number n ∷ ps) = Some n
number_of (p ∷ ps) = number_of ps

pub filled_both : (xs ys : List Token) → filled (xs ++ ys) ≡ filled xs ++ filled ys
filled_both [] ys = refl
filled_both (x ∷ xs) ys = ap (λ (l : List Token). filled_token x ∷ l) (filled_both xs ys)

pub filled_long : (xs : List Token) → length (filled xs) ≡ length xs
filled_long [] = refl
filled_long (x ∷ xs) = let e = filled_long xs in omega (arith, e)

-- a token after others
set_after : (xs ys : List Token) (y p : Token) → slice_set (xs ++ y ∷ ys) (length xs) p ≡ xs ++ p ∷ ys
set_after [] ys y p = refl
set_after (x ∷ xs) ys y p = ap (λ (l : List Token). x ∷ l) (set_after xs ys y p)

pub alone_is : (pre post : List Token) (n : ℕ) → alone (pre ++ tokens.Number n ∷ post) (length pre) (tokens.Number n) ≡ filled pre ++ tokens.Number n ∷ filled post
alone_is pre post n =
    ap (λ (l : List Token). slice_set l (length pre) (tokens.Number n)) (filled_both pre (tokens.Number n ∷ post))
    ∙ ap (λ (k : ℕ). slice_set (filled pre ++ tokens.Number 8 ∷ filled post) k (tokens.Number n)) (sym (filled_long pre))
    ∙ set_after (filled pre) (filled post) (tokens.Number 8) (tokens.Number n)

pub none_misfit : (sub : Bool) (line_tokens : List Token) (i : ℕ) (part : List Token) → is_plain part ≡ true → misfits sub line_tokens i part ≡ false
unfolding misfits
none_misfit sub line_tokens i [] h = refl
none_misfit sub line_tokens i (tokens.Word w ∷ ps) h = none_misfit sub line_tokens (i + 1) ps h
none_misfit sub line_tokens i (tokens.Mark c ∷ ps) h = none_misfit sub line_tokens (i + 1) ps h
none_misfit sub line_tokens i (tokens.Number n ∷ ps) h = cc
none_misfit sub line_tokens i (tokens.Name w ∷ ps) h = cc

pub misfits_both : (sub : Bool) (line_tokens : List Token) (i : ℕ) (xs ys : List Token) → misfits sub line_tokens i xs ≡ false → misfits sub line_tokens (i + length xs) ys ≡ false → misfits sub line_tokens i (xs ++ ys) ≡ false
unfolding misfits
misfits_both sub line_tokens i [] ys h k = let e : i + 0 ≡ i = omega arith in rw e at k
misfits_both sub line_tokens i (x ∷ xs) ys h k = cases (misfit sub line_tokens i x) refl (λ more. misfits_both sub line_tokens (i + 1) xs ys more (let e : i + length (x ∷ xs) ≡ i + 1 + length xs = omega arith in rw e at k))
  where
    cases : (b : Bool) → misfit sub line_tokens i x ≡ b → (misfits sub line_tokens (i + 1) xs ≡ false → misfits sub line_tokens (i + 1) (xs ++ ys) ≡ false) → misfit sub line_tokens i x || misfits sub line_tokens (i + 1) (xs ++ ys) ≡ false
    cases true is more = let no : true ≡ false = rw is at h in cc
    cases false is more = let left : misfits sub line_tokens (i + 1) xs ≡ false = rw is at h in rw (is, more left) refl

-- what the numbers of a part result in alone, with 8 for all around it
abbrev pub IsAlone : Bool → List Token → List Token → List Token → Type 0
IsAlone sub pre part post = (n : ℕ) → number_of part ≡ Some n → is_some (code sub (filled pre ++ (part ++ filled post)) (under sub n)) ≡ true

number_fits : (sub : Bool) (pre ps post : List Token) (n : ℕ) → is_plain ps ≡ true → is_some (code sub (filled pre ++ (tokens.Number n ∷ (ps ++ filled post))) (under sub n)) ≡ true
    → misfit sub (pre ++ (tokens.Number n ∷ (ps ++ post))) (length pre) (tokens.Number n) ≡ false
number_fits sub pre ps post n plain h = rw (alone_is pre (ps ++ post) n, filled_both ps post, filled_plain ps plain, h) refl
  where
    filled_plain : (xs : List Token) → is_plain xs ≡ true → filled xs ≡ xs
    filled_plain [] h = refl
    filled_plain (tokens.Word w ∷ xs) h = ap (λ (l : List Token). tokens.Word w ∷ l) (filled_plain xs h)
    filled_plain (tokens.Mark c ∷ xs) h = ap (λ (l : List Token). tokens.Mark c ∷ l) (filled_plain xs h)
    filled_plain (tokens.Number m ∷ xs) h = cc
    filled_plain (tokens.Name w ∷ xs) h = cc

shift : (pre : List Token) (p : Token) (ps post : List Token) → (pre ++ p ∷ []) ++ (ps ++ post) ≡ pre ++ (p ∷ (ps ++ post))
shift pre p ps post = append_assoc pre (p ∷ []) (ps ++ post)

shift_long : (pre : List Token) (p : Token) → length (pre ++ p ∷ []) ≡ length pre + 1
shift_long pre p = length-append pre (p ∷ [])

pub moved : (sub : Bool) (a b : List Token) (i j : ℕ) (ps : List Token) → a ≡ b → i ≡ j → misfits sub a i ps ≡ false → misfits sub b j ps ≡ false
moved sub a b i j ps e f h = ap (λ (l : List Token). misfits sub l j ps) (sym e) ∙ ap (λ (k : ℕ). misfits sub a k ps) (sym f) ∙ h

-- the numbers of a part fit
pub part_fits : (sub : Bool) (pre part post : List Token) → is_single part ≡ true → IsAlone sub pre part post
    → misfits sub (pre ++ (part ++ post)) (length pre) part ≡ false
unfolding misfits
part_fits sub pre [] post h own = refl
part_fits sub pre (tokens.Number n ∷ ps) post h own =
    rw (number_fits sub pre ps post n h (own n refl), none_misfit sub (pre ++ (tokens.Number n ∷ (ps ++ post))) (length pre + 1) ps h) refl
part_fits sub pre (tokens.Word w ∷ ps) post h own =
    moved sub _ _ _ _ ps (shift pre (tokens.Word w) ps post) (shift_long pre (tokens.Word w))
    (part_fits sub (pre ++ tokens.Word w ∷ []) ps post h (λ n is. rw (filled_both pre (tokens.Word w ∷ []), append_assoc (filled pre) (tokens.Word w ∷ []) (ps ++ filled post)) (own n is)))
part_fits sub pre (tokens.Mark c ∷ ps) post h own =
    moved sub _ _ _ _ ps (shift pre (tokens.Mark c) ps post) (shift_long pre (tokens.Mark c))
    (part_fits sub (pre ++ tokens.Mark c ∷ []) ps post h (λ n is. rw (filled_both pre (tokens.Mark c ∷ []), append_assoc (filled pre) (tokens.Mark c ∷ []) (ps ++ filled post)) (own n is)))
part_fits sub pre (tokens.Name w ∷ ps) post h own = cc

-- no names
pub single_named : (part : List Token) → is_single part ≡ true → has_name part ≡ false
unfolding has_name
single_named [] h = refl
single_named (tokens.Word w ∷ ps) h = single_named ps h
single_named (tokens.Mark c ∷ ps) h = single_named ps h
single_named (tokens.Number n ∷ ps) h = plain_named ps h
  where
    plain_named : (xs : List Token) → is_plain xs ≡ true → has_name xs ≡ false
    plain_named [] k = refl
    plain_named (tokens.Word w ∷ xs) k = plain_named xs k
    plain_named (tokens.Mark c ∷ xs) k = plain_named xs k
    plain_named (tokens.Number m ∷ xs) k = cc
    plain_named (tokens.Name w ∷ xs) k = cc
single_named (tokens.Name w ∷ ps) h = cc

pub named_both : (xs ys : List Token) → has_name xs ≡ false → has_name ys ≡ false → has_name (xs ++ ys) ≡ false
unfolding has_name
named_both [] ys h k = k
named_both (tokens.Word w ∷ xs) ys h k = named_both xs ys h k
named_both (tokens.Mark c ∷ xs) ys h k = named_both xs ys h k
named_both (tokens.Number n ∷ xs) ys h k = named_both xs ys h k
named_both (tokens.Name w ∷ xs) ys h k = cc

-- what has a value
pub some_is : (found : Option (List ℕ)) (bytes : List ℕ) → found ≡ Some bytes → is_some found ≡ true
some_is found bytes is = rw is refl
