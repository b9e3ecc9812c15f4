-- Tables of fields, one after another.
use Rattle.std.proofs.Common.{◌≡◌, ℕ, ◌+◌, Bool, true, false, cond, List, [], ◌∷◌, ◌++◌, Option, Some, None, refl, sym, ap, ◌∙◌, append_assoc, arith}
use Rattle.md_fields.specs.Fields.{AllHold, AreWithin, Field, bytes_of, first_invalid, holds_of, or_else, size_of, sizes, spelling}

-- the bytes of two tables are those of one after those of the other
pub spelling_append : (xs ys : List Field) → spelling (xs ++ ys) ≡ spelling xs ++ spelling ys
unfolding spelling
spelling_append [] ys = refl
spelling_append (x ∷ xs) ys = ap (λ (l : List ℕ). bytes_of x ++ l) (spelling_append xs ys) ∙ sym (append_assoc (bytes_of x) (spelling xs) (spelling ys))

-- what fits of two tables fits of each
pub within_both : (xs ys : List Field) → AreWithin (xs ++ ys) → AreWithin xs × AreWithin ys
unfolding AreWithin
within_both [] ys w = (tt, w)
within_both (x ∷ xs) ys w = let p = within_both xs ys w.1 in ((w.0, p.0), p.1)

-- where each rule of two tables holds each of either does
pub holds_both : (xs ys : List Field) → AllHold (xs ++ ys) → AllHold xs × AllHold ys
unfolding AllHold
holds_both [] ys h = (tt, h)
holds_both (x ∷ xs) ys h = let p = holds_both xs ys h.1 in ((h.0, p.0), p.1)

pub within_append : (xs ys : List Field) → AreWithin xs → AreWithin ys → AreWithin (xs ++ ys)
unfolding AreWithin
within_append [] ys v w = w
within_append (x ∷ xs) ys v w = (v.0, within_append xs ys v.1 w)

either : (holds : Bool) (place : ℕ) (first next : Option ℕ) → cond holds (or_else first next) (Some place) ≡ or_else (cond holds first (Some place)) next
either true place first next = refl
either false place first next = refl

-- the first rule that fails of two tables is that of the one, else that of the other
pub first_append : (place : ℕ) (xs ys : List Field) → first_invalid place (xs ++ ys) ≡ or_else (first_invalid place xs) (first_invalid (place + sizes xs) ys)
unfolding first_invalid sizes
first_append place [] ys = ap (λ (p : ℕ). first_invalid p ys) (omega arith)
first_append place (x ∷ xs) ys =
    ap (λ (f : Option ℕ). cond (holds_of x) f (Some place)) (first_append (place + size_of x) xs ys ∙ ap (λ (p : ℕ). or_else (first_invalid (place + size_of x) xs) (first_invalid p ys)) (omega arith))
    ∙ either (holds_of x) place (first_invalid (place + size_of x) xs) (first_invalid (place + (size_of x + sizes xs)) ys)

-- the first rule that fails of a table is that of the table with another after it
pub first_front : (place found : ℕ) (xs ys : List Field) → first_invalid place xs ≡ Some found → first_invalid place (xs ++ ys) ≡ Some found
first_front place found xs ys e =
    first_append place xs ys ∙ ap (λ (f : Option ℕ). or_else f (first_invalid (place + sizes xs) ys)) e

-- where none fails it is that of the table after
pub first_following : (place : ℕ) (xs ys : List Field) → first_invalid place xs ≡ None → first_invalid place (xs ++ ys) ≡ first_invalid (place + sizes xs) ys
first_following place xs ys e =
    first_append place xs ys ∙ ap (λ (f : Option ℕ). or_else f (first_invalid (place + sizes xs) ys)) e

first_none : (first next : Option ℕ) → or_else first next ≡ None → (first ≡ None) × (next ≡ None)
first_none None next e = (refl, e)
first_none (Some place) next e = absurd cc

-- where none is wrong of two tables none is of either
pub none_of : (place : ℕ) (xs ys : List Field) → first_invalid place (xs ++ ys) ≡ None → (first_invalid place xs ≡ None) × (first_invalid (place + sizes xs) ys ≡ None)
none_of place xs ys e = first_none _ _ (sym (first_append place xs ys) ∙ e)
