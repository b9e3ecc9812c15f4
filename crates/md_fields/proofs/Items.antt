-- Bytes keep the numbers of one value at most, and are refused at one place at most.
use Rattle.std.proofs.Common.{◌≡◌, ℕ, suc, ◌+◌, ◌*◌, ◌^◌, ◌<◌, ◌≤◌, List, [], ◌∷◌, length, get_or, drop, refl, sym, ap, ◌∙◌, arith, inl, inr, Option, Some, None, Bool, true, false, cond}
use Rattle.std.specs.List.{AllByRecursion}
use Rattle.std.specs.Int.{w16, w32, w64}
use Rattle.std.proofs.lemmas.List.{length-take, length-drop}
use Rattle.std.proofs.lemmas.Grind.{same_number_lists}
use Rattle.md_fields.specs.Fields.{Field, byte, word, long, quad, words, block, size_of, sizes, first_invalid, holds_of, AllHold, IsWithin, AreWithin}
use Rattle.md_fields.specs.Places.{IsBytes, number_at, WordsAt, IsAt, Stand}
use Rattle.md_fields.specs.Items.{Keeps, IsRight, IsRefused}
use Rattle.md_fields.proofs.Standing.{IsBytes-take, IsBytes-drop, within, spelled, spelled_stand, long_as}

below_16 : (place : ℕ) (bytes : List ℕ) → IsBytes bytes → number_at w16 place bytes < 2 ^ 16
unfolding number_at
below_16 place bytes fits =
    let f = IsBytes-take 2 (drop place bytes) (IsBytes-drop place bytes fits) in
    omega (arith, f 0, f 1)

below_32 : (place : ℕ) (bytes : List ℕ) → IsBytes bytes → number_at w32 place bytes < 2 ^ 32
unfolding number_at
below_32 place bytes fits =
    let f = IsBytes-take 4 (drop place bytes) (IsBytes-drop place bytes fits) in
    omega (arith, f 0, f 1, f 2, f 3)

below_64 : (place : ℕ) (bytes : List ℕ) → IsBytes bytes → number_at w64 place bytes < 2 ^ 64
unfolding number_at
below_64 place bytes fits =
    let f = IsBytes-take 8 (drop place bytes) (IsBytes-drop place bytes fits) in
    omega (arith, f 0, f 1, f 2, f 3, f 4, f 5, f 6, f 7)

all_below : (limit : ℕ) (ns : List ℕ) → ((k : ℕ) → k < length ns → get_or ns k 0 < limit) → AllByRecursion (λ n. n < limit) ns
all_below limit [] h = tt
all_below limit (n ∷ ns) h = (h 0 (omega arith), all_below limit ns (λ k lt. h (suc k) (omega (arith, lt))))

-- what is in bytes is within its bounds
within_at : (f : Field) (place : ℕ) (bytes : List ℕ) → IsBytes bytes → place + size_of f ≤ length bytes → IsAt f place bytes → IsWithin f
within_at (byte n holds) place bytes fits room e = rw e (fits place)
within_at (word n holds) place bytes fits room e = rw e (below_16 place bytes fits)
within_at (long n holds) place bytes fits room e = rw e (below_32 place bytes fits)
within_at (quad n holds) place bytes fits room e = rw e (below_64 place bytes fits)
within_at (words count ns holds) place bytes fits room e = (e.0, all_below (2 ^ 16) ns (λ k lt. rw (e.1 k lt) (below_16 (place + 2 * k) bytes fits)))
within_at (block size b holds) place bytes fits room e = ap length e ∙ omega (arith, length-take size (drop place bytes), length-drop place bytes, room)

-- fields that are in bytes fit theirs
pub within_there : (place : ℕ) (fs : List Field) (bytes : List ℕ) → IsBytes bytes → Stand place fs bytes → AreWithin fs
unfolding Stand AreWithin
within_there place [] bytes fits p = tt
within_there place (f ∷ fs) bytes fits p = (within_at f place bytes fits (omega (arith, within (place + size_of f) fs bytes p.1)) p.0, within_there (place + size_of f) fs bytes fits p.1)

-- the numbers in bytes are kept there
pub kept : {S : Type 0} (fields : S → List Field) (bytes : List ℕ) (saved : S) → IsBytes bytes → Stand 0 (fields saved) bytes → Keeps fields bytes saved
kept fields bytes saved fits p = record { within = within_there 0 (fields saved) bytes fits p; all = sym (spelled (fields saved) bytes fits p) }

module _ {S : Type 0} (fields : S → List Field) (bytes : List ℕ) (one : (s t : S) → Stand 0 (fields s) bytes → Stand 0 (fields t) bytes → s ≡ t) where
  -- bytes keep one value
  pub same : (s t : S) → Keeps fields bytes s → Keeps fields bytes t → s ≡ t
  same s t p q = one s t (spelled_stand (fields s) bytes p.within (sym p.all)) (spelled_stand (fields t) bytes q.within (sym q.all))

  -- what is kept and right is not refused
  pub not_both : (size : ℕ) (s : S) (place : ℕ) → Keeps fields bytes s → IsRight fields s → sizes (fields s) ≡ size → IsRefused size fields bytes place → ⊥
  not_both size s place p right sized (inl invalid) = invalid.0 (ap length p.all ∙ long_as (fields s) p.within ∙ sized)
  not_both size s place p right sized (inr b) =
      let e : s ≡ b.saved = same s b.saved p b.keeps in
      let e2 : first_invalid 0 (fields s) ≡ Some place = ap (λ (x : S). first_invalid 0 (fields x)) e ∙ b.first in
      absurd cc

  -- bytes are refused at one place
  pub one_place : (size : ℕ) (sized : (s : S) → sizes (fields s) ≡ size) (p q : ℕ) → IsRefused size fields bytes p → IsRefused size fields bytes q → p ≡ q
  one_place size sized p q (inl a) (inl b) = a.1 ∙ sym b.1
  one_place size sized p q (inl a) (inr b) = absurd (a.0 (ap length b.keeps.all ∙ long_as (fields b.saved) b.keeps.within ∙ sized b.saved))
  one_place size sized p q (inr a) (inl b) = absurd (b.0 (ap length a.keeps.all ∙ long_as (fields a.saved) a.keeps.within ∙ sized a.saved))
  one_place size sized p q (inr a) (inr b) =
      let e : a.saved ≡ b.saved = same a.saved b.saved a.keeps b.keeps in
      let e2 : first_invalid 0 (fields a.saved) ≡ Some q = ap (λ (x : S). first_invalid 0 (fields x)) e ∙ b.first in
      let e3 : first_invalid 0 (fields a.saved) ≡ Some p = a.first in
      cc

-- words at one offset are the same
pub same_words : (ns ms : List ℕ) (count place : ℕ) (bytes : List ℕ) → (length ns ≡ count) × WordsAt ns place bytes → (length ms ≡ count) × WordsAt ms place bytes → ns ≡ ms
same_words ns ms count place bytes p q = same_number_lists ns ms (p.0 ∙ sym q.0) (λ k lt. p.1 k lt ∙ sym (q.1 k (omega (arith, lt, p.0, q.0))))

one_holds : (holds : Bool) (next : Option ℕ) (place : ℕ) → cond holds next (Some place) ≡ None → (holds ≡ true) × (next ≡ None)
one_holds true next place e = (refl, e)
one_holds false next place e = absurd cc

-- where none is wrong each rule holds
pub rules_hold : (place : ℕ) (fs : List Field) → first_invalid place fs ≡ None → AllHold fs
unfolding first_invalid AllHold
rules_hold place [] e = tt
rules_hold place (f ∷ fs) e =
    let h = one_holds (holds_of f) (first_invalid (place + size_of f) fs) place e in
    (h.0, rules_hold (place + size_of f) fs h.1)

first_case : (holds : Bool) (next : Option ℕ) (place p more : ℕ) → cond holds next (Some place) ≡ Some p → (next ≡ Some p → p ≤ place + more) → p ≤ place + more
first_case true next place p more e h = h e
first_case false next place p more e h = let same : place ≡ p = cc in omega (arith, same)

-- the first place that is wrong is within the fields
pub first_within : (place : ℕ) (fs : List Field) (p : ℕ) → first_invalid place fs ≡ Some p → p ≤ place + sizes fs
unfolding first_invalid sizes
first_within place [] p e = absurd cc
first_within place (f ∷ fs) p e = first_case (holds_of f) (first_invalid (place + size_of f) fs) place p (size_of f + sizes fs) e (λ h. omega (arith, first_within (place + size_of f) fs p h))

-- the place of a refusal is within the item
pub refused_within : {S : Type 0} (fields : S → List Field) (bytes : List ℕ) (size : ℕ) (sized : (s : S) → sizes (fields s) ≡ size) (place : ℕ) → IsRefused size fields bytes place → place ≤ size
refused_within fields bytes size sized place (inl a) = omega (arith, a.1)
refused_within fields bytes size sized place (inr b) = omega (arith, first_within 0 (fields b.saved) place b.first, sized b.saved)

-- where each rule holds none is wrong
pub none_invalid : (place : ℕ) (fs : List Field) → AllHold fs → first_invalid place fs ≡ None
unfolding first_invalid AllHold
none_invalid place [] h = refl
none_invalid place (f ∷ fs) h = rw h.0 (none_invalid (place + size_of f) fs h.1)
