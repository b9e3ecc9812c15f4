-- Bytes give the values of a table of fields, and the table gives its numbers back from them: so the
-- numbers in bytes are the only ones, and what is not refused is refused nowhere.
use Rattle.std.proofs.Common.{◌≡◌, ℕ, zero, suc, ◌+◌, true, List, [], ◌∷◌, ◌++◌, length, get_or, map, take, drop, None, refl, sym, ap, subst, ◌∙◌, arith}
use Rattle.std.specs.Prelude.{slice_index}
use Rattle.std.specs.Int.{w16, w32, w64}
use Rattle.md_fields.specs.Fields.{AllHold, AreWithin, Field, IsWithin, block, byte, first_invalid, holds_of, long, quad, size_of, sizes, word, words}
use Rattle.md_fields.specs.Items.{IsRefused, IsRight, Keeps}
use Rattle.md_fields.specs.Places.{IsAt, Stand, WordsAt, number_at}
use Rattle.md_fields.proofs.Items as items

-- ---- values

-- the value of a field: its number, or its words or bytes
pub record Value : Type 0 where
  pub number : ℕ
  pub list : List ℕ

-- the value of a field
abbrev pub value_of : Field → Value
value_of (byte n holds) = record { number = n; list = [] }
value_of (word n holds) = record { number = n; list = [] }
value_of (long n holds) = record { number = n; list = [] }
value_of (quad n holds) = record { number = n; list = [] }
value_of (words count ns holds) = record { number = 0; list = ns }
value_of (block size bytes holds) = record { number = 0; list = bytes }

-- so many words from an offset on
abbrev pub words_from : ℕ → ℕ → List ℕ → List ℕ
words_from zero place bytes = []
words_from (suc count) place bytes = number_at w16 place bytes ∷ words_from count (place + 2) bytes

-- the value that bytes give a field at an offset
abbrev pub value_at : Field → ℕ → List ℕ → Value
value_at (byte n holds) place bytes = record { number = slice_index bytes place; list = [] }
value_at (word n holds) place bytes = record { number = number_at w16 place bytes; list = [] }
value_at (long n holds) place bytes = record { number = number_at w32 place bytes; list = [] }
value_at (quad n holds) place bytes = record { number = number_at w64 place bytes; list = [] }
value_at (words count ns holds) place bytes = record { number = 0; list = words_from count place bytes }
value_at (block size b holds) place bytes = record { number = 0; list = take size (drop place bytes) }

-- the values that bytes give fields from an offset on, by their kinds and sizes alone
unfoldable pub values_at : ℕ → List Field → List ℕ → List Value
values_at place [] bytes = []
values_at place (f ∷ fs) bytes = value_at f place bytes ∷ values_at (place + size_of f) fs bytes

abbrev nothing : Value
nothing = record { number = 0; list = [] }

-- the number of a value in a list, and the words or bytes of one
abbrev pub number_in : List Value → ℕ → ℕ
number_in values i = (get_or values i nothing).number

abbrev pub list_in : List Value → ℕ → List ℕ
list_in values i = (get_or values i nothing).list

-- ---- what is in bytes has the values that they give

words_are : (ns : List ℕ) (place : ℕ) (bytes : List ℕ) → WordsAt ns place bytes → ns ≡ words_from (length ns) place bytes
words_are [] place bytes at = refl
words_are (n ∷ ns) place bytes at =
    let first : n ≡ number_at w16 place bytes = at 0 (omega arith) ∙ ap (λ (k : ℕ). number_at w16 k bytes) (omega arith) in
    let next : WordsAt ns (place + 2) bytes = λ k lt. at (suc k) (omega (arith, lt)) ∙ ap (λ (i : ℕ). number_at w16 i bytes) (omega arith) in
    let others = words_are ns (place + 2) bytes next in
    λ i. first i ∷ others i

value_is : (f : Field) (place : ℕ) (bytes : List ℕ) → IsAt f place bytes → value_of f ≡ value_at f place bytes
value_is (byte n holds) place bytes e = λ i. record { number = e i; list = [] }
value_is (word n holds) place bytes e = λ i. record { number = e i; list = [] }
value_is (long n holds) place bytes e = λ i. record { number = e i; list = [] }
value_is (quad n holds) place bytes e = λ i. record { number = e i; list = [] }
value_is (words count ns holds) place bytes e =
    let all : ns ≡ words_from count place bytes = words_are ns place bytes e.1 ∙ ap (λ (k : ℕ). words_from k place bytes) e.0 in
    λ i. record { number = 0; list = all i }
value_is (block size b holds) place bytes e = λ i. record { number = 0; list = e i }

pub values_are : (place : ℕ) (fs : List Field) (bytes : List ℕ) → Stand place fs bytes → map value_of fs ≡ values_at place fs bytes
unfolding Stand values_at
values_are place [] bytes p = refl
values_are place (f ∷ fs) bytes p =
    let first = value_is f place bytes p.0 in
    let others = values_are (place + size_of f) fs bytes p.1 in
    λ i. first i ∷ others i

-- what is made of the values of fields that are in bytes is one, where it is made alike of what bytes give
pub made_once : {N : Type 0} (back : List Value → N) (fs gs : List Field) (bytes : List ℕ) → Stand 0 fs bytes → Stand 0 gs bytes
    → back (values_at 0 fs bytes) ≡ back (values_at 0 gs bytes) → back (map value_of fs) ≡ back (map value_of gs)
made_once back fs gs bytes p q alike = ap back (values_are 0 fs bytes p) ∙ alike ∙ sym (ap back (values_are 0 gs bytes q))

-- fields after others are after their bytes
pub stand_rest : (place : ℕ) (xs ys : List Field) (bytes : List ℕ) → Stand place (xs ++ ys) bytes → Stand (place + sizes xs) ys bytes
unfolding Stand sizes
stand_rest place [] ys bytes p = subst (λ (n : ℕ). Stand n ys bytes) (omega arith) p
stand_rest place (x ∷ xs) ys bytes p = subst (λ (n : ℕ). Stand n ys bytes) (omega arith) (stand_rest (place + size_of x) xs ys bytes p.1)

-- ---- and fields with these values are there

word_there : (count place : ℕ) (bytes : List ℕ) → WordsAt (words_from count (place + 2) bytes) (place + 2) bytes → WordsAt (words_from (suc count) place bytes) place bytes
word_there count place bytes rest zero lt = ap (λ (n : ℕ). number_at w16 n bytes) (omega arith)
word_there count place bytes rest (suc k) lt = rest k (omega (arith, lt)) ∙ ap (λ (n : ℕ). number_at w16 n bytes) (omega arith)

-- those words are as many, and are there
pub words_there : (count place : ℕ) (bytes : List ℕ) → (length (words_from count place bytes) ≡ count) × WordsAt (words_from count place bytes) place bytes
words_there zero place bytes = (refl, λ k lt. absurd (omega (arith, lt)))
words_there (suc count) place bytes =
    let rest = words_there count (place + 2) bytes in
    (omega (arith, rest.0), word_there count place bytes rest.1)

is_there : (f : Field) (place : ℕ) (bytes : List ℕ) → value_of f ≡ value_at f place bytes → IsAt f place bytes
is_there (byte n holds) place bytes e = ap (λ (v : Value). v.number) e
is_there (word n holds) place bytes e = ap (λ (v : Value). v.number) e
is_there (long n holds) place bytes e = ap (λ (v : Value). v.number) e
is_there (quad n holds) place bytes e = ap (λ (v : Value). v.number) e
is_there (words count ns holds) place bytes e =
    subst (λ (l : List ℕ). (length l ≡ count) × WordsAt l place bytes) (sym (ap (λ (v : Value). v.list) e)) (words_there count place bytes)
is_there (block size b holds) place bytes e = ap (λ (v : Value). v.list) e

pub stand_by : (place : ℕ) (fs : List Field) (bytes : List ℕ) → place + sizes fs ≡ length bytes → map value_of fs ≡ values_at place fs bytes → Stand place fs bytes
unfolding Stand sizes values_at
stand_by place [] bytes whole e = omega (arith, whole)
stand_by place (f ∷ fs) bytes whole e =
    let first : value_of f ≡ value_at f place bytes = cc in
    let others : map value_of fs ≡ values_at (place + size_of f) fs bytes = cc in
    (is_there f place bytes first, stand_by (place + size_of f) fs bytes (omega (arith, whole)) others)

-- ---- a field by its number

-- its rule holds, where all do
pub holds_at : (fs : List Field) → AllHold fs → (i : ℕ) → holds_of (get_or fs i (byte 0 true)) ≡ true
unfolding AllHold
holds_at [] h zero = refl
holds_at [] h (suc i) = refl
holds_at (f ∷ fs) h zero = h.0
holds_at (f ∷ fs) h (suc i) = holds_at fs h.1 i

-- its rule holds, where none fails
pub rule_at : (place : ℕ) (fs : List Field) → first_invalid place fs ≡ None → (i : ℕ) → holds_of (get_or fs i (byte 0 true)) ≡ true
rule_at place fs right i = holds_at fs (items.rules_hold place fs right) i

-- its value fits its bytes, where all do
pub fit_at : (fs : List Field) → AreWithin fs → (i : ℕ) → IsWithin (get_or fs i (byte 0 true))
unfolding AreWithin
fit_at [] w zero = omega arith
fit_at [] w (suc i) = omega arith
fit_at (f ∷ fs) w zero = w.0
fit_at (f ∷ fs) w (suc i) = fit_at fs w.1 i

-- ---- a table

-- a table of fields of one size, and the way back from its values to its numbers; what bytes give it goes
-- by its kinds and sizes alone
pub record Table {S : Type 0} (size : ℕ) (fields : S → List Field) : Type 0 where
  pub back : List Value → S
  pub again : (s : S) → back (map value_of (fields s)) ≡ s
  pub alike : (s t : S) (bytes : List ℕ) → values_at 0 (fields s) bytes ≡ values_at 0 (fields t) bytes
  pub sized : (s : S) → sizes (fields s) ≡ size

module _ {S : Type 0} {size : ℕ} {fields : S → List Field} (table : Table size fields) (bytes : List ℕ) where
  -- bytes have one table's numbers
  pub only : (s t : S) → Stand 0 (fields s) bytes → Stand 0 (fields t) bytes → s ≡ t
  only s t p q = sym (table.again s) ∙ made_once table.back (fields s) (fields t) bytes p q (ap table.back (table.alike s t bytes)) ∙ table.again t

  -- bytes keep one value
  pub one_saved : (s t : S) → Keeps fields bytes s → Keeps fields bytes t → s ≡ t
  one_saved s t p q = items.same fields bytes only s t p q

  -- what is kept and right is not refused
  pub not_refused : (s : S) → Keeps fields bytes s → IsRight fields s → (place : ℕ) → IsRefused size fields bytes place → ⊥
  not_refused s p right place invalid = items.not_both fields bytes only size s place p right (table.sized s) invalid

  -- bytes are refused at one offset
  pub refused_once : (p q : ℕ) → IsRefused size fields bytes p → IsRefused size fields bytes q → p ≡ q
  refused_once p q a b = items.one_place fields bytes only size table.sized p q a b

-- what is kept of a value is what was read, where the value is that of what was read
module _ {S C : Type 0} {size : ℕ} {fields : S → List Field} (table : Table size fields) (saved_of : C → S) (from : S → C) (bytes : List ℕ) where
  -- what is read is spelled so
  pub read_back : (s : S) → saved_of (from s) ≡ s → Keeps fields bytes s → IsRight fields s → Keeps fields bytes (saved_of (from s)) × IsRight fields (saved_of (from s))
  read_back s e keeps right = (subst (Keeps fields bytes) (sym e) keeps, subst (λ (t : S). IsRight fields t) (sym e) right)

  -- what is spelled so is read
  pub read_only : (s : S) (c : C) → from (saved_of c) ≡ c → Keeps fields bytes s → Keeps fields bytes (saved_of c) → from s ≡ c
  read_only s c again keeps spelled = ap from (one_saved table bytes s (saved_of c) keeps spelled) ∙ again

  -- bytes spell one value
  pub spelled_once : (c d : C) → from (saved_of c) ≡ c → from (saved_of d) ≡ d → Keeps fields bytes (saved_of c) → Keeps fields bytes (saved_of d) → c ≡ d
  spelled_once c d again again' p q = sym again ∙ ap from (one_saved table bytes (saved_of c) (saved_of d) p q) ∙ again'
