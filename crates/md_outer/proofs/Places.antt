-- The places of names, where a list gets one more.
use Rattle.std.proofs.Common.{◌≡◌, ℕ, zero, suc, ◌+◌, ◌<◌, Bool, true, false, cond, not, nat_lt, eq-eqb, List, [], ◌∷◌, ◌++◌, length, map, Option, Some, None, IsSome, IfSome, ◌⊎◌, inl, inr, refl, sym, ap, ◌∙◌, subst, arith, length-append}
use Rattle.std.specs.List.{position, position_or_len, slice_get}
use Rattle.std.specs.Str.{bytes_eq}
use Rattle.std.proofs.lemmas.Bool.Decides.{nat_tests}
use Rattle.std.proofs.lemmas.List.{length-map}
use Rattle.std.proofs.lemmas.List.Folds.{position_or_len_push}
use Rattle.std.proofs.lemmas.List.Quantifiers.{position-Some}
use Rattle.std.proofs.lemmas.List.Sums.{prefix_len-le-length}
use Rattle.std.proofs.lemmas.Option.{slice_get-get_or, slice_get_cases}
use Rattle.std.proofs.lemmas.Slice.Eq.{bytes_eq-Decides}
use Rattle.md_outer.specs.Numbers.{number_of, AreApart}

-- what is in the list keeps its place
pub position-push-Some : {X : Type 0} (p : X → Bool) (xs : List X) (y : X) (k : ℕ) → position p xs ≡ Some k → position p (xs ++ y ∷ []) ≡ Some k
position-push-Some p xs y k e = rw (position_or_len_push p xs y, length-append xs (y ∷ [])) (grind (arith, nat_tests))

-- what is new is at the end
pub position-push-None : {X : Type 0} (p : X → Bool) (xs : List X) (y : X) → position p xs ≡ None → position p (xs ++ y ∷ []) ≡ cond (p y) (Some (length xs)) None
position-push-None p xs y e =
    let within = prefix_len-le-length (λ x. not (p x)) xs in
    let full : position_or_len p xs ≡ length xs = grind (arith, nat_tests) in
    rw (position_or_len_push p xs y, length-append xs (y ∷ []), full) (rw (eq-eqb (length xs) (length xs) refl) (elim (p y) as (λ b. cond (nat_lt (length xs + cond b 0 1) (length xs + 1)) (Some (length xs + cond b 0 1)) None ≡ cond b (Some (length xs)) None) [
      | true ↦ grind (arith, nat_tests)
      | false ↦ grind (arith, nat_tests)
    ]))

position_or_len-map : {X Y : Type 0} (f : X → Y) (p : Y → Bool) (xs : List X) → position_or_len p (map f xs) ≡ position_or_len (λ x. p (f x)) xs
position_or_len-map f p [] = refl
position_or_len-map f p (x ∷ xs) = ap (λ n. cond (not (p (f x))) (1 + n) 0) (position_or_len-map f p xs)

pub position-map : {X Y : Type 0} (f : X → Y) (p : Y → Bool) (xs : List X) → position p (map f xs) ≡ position (λ x. p (f x)) xs
position-map f p xs = rw (position_or_len-map f p xs, length-map xs f) refl

pub slice_get-push-within : {X : Type 0} (xs : List X) (y : X) (k : ℕ) → k < length xs → slice_get (xs ++ y ∷ []) k ≡ slice_get xs k
slice_get-push-within [] y k h = absurd (omega arith)
slice_get-push-within (x ∷ xs) y zero h = refl
slice_get-push-within (x ∷ xs) y (suc k) h = slice_get-push-within xs y k (omega arith)

pub slice_get-push-end : {X : Type 0} (xs : List X) (y : X) → slice_get (xs ++ y ∷ []) (length xs) ≡ Some y
slice_get-push-end [] y = refl
slice_get-push-end (x ∷ xs) y = slice_get-push-end xs y

-- a list that got one more has at each place what it had, or the new one at its end
pub slice_get-push : {X : Type 0} (xs : List X) (y z : X) (k : ℕ) → slice_get (xs ++ y ∷ []) k ≡ Some z → (slice_get xs k ≡ Some z) ⊎ ((k ≡ length xs) × (y ≡ z))
slice_get-push [] y z zero h = inr (refl, cc)
slice_get-push [] y z (suc k) h = cc
slice_get-push (x ∷ xs) y z zero h = inl h
slice_get-push (x ∷ xs) y z (suc k) h = elim (slice_get-push xs y z k h) [ inl old ↦ inl old | inr new ↦ inr (omega arith, new.1) ]

pub bytes_eq-same : (a b : List ℕ) → a ≡ b → bytes_eq a b ≡ true
bytes_eq-same a b e = let decided = bytes_eq-Decides a b in grind arith

pub bytes_eq-true : (a b : List ℕ) → bytes_eq a b ≡ true → a ≡ b
bytes_eq-true a b e = let decided = bytes_eq-Decides a b in grind arith

-- names stay apart where one comes that is not among them
pub AreApart-push : (old new : List (List ℕ)) (name : List ℕ) → AreApart old → number_of old name ≡ None → new ≡ old ++ name ∷ [] → AreApart new
AreApart-push old new name apart none e number other at =
    let at' : slice_get (old ++ name ∷ []) number ≡ Some other = rw (← e) at in
    subst (λ names. number_of names other ≡ Some number) (sym e) (elim (slice_get-push old name other number at') [
      | inl before ↦ position-push-Some (λ held. bytes_eq held other) old name number (apart number other before)
      | inr end ↦
          let none' : number_of old other ≡ None = rw (← end.1) none in
          position-push-None (λ held. bytes_eq held other) old name none' ∙ rw (bytes_eq-same name other end.1) (ap Some (sym end.0))
    ])

within_of_some : (names : List (List ℕ)) (number : ℕ) → IsSome (slice_get names number) → number < length names
within_of_some names number some = elim ((slice_get_cases names number).1) [
  | inl here ↦ here.1
  | inr past ↦ (let none = past.1 in cc)
]

-- a number's name is at it
pub name_at_number : (names : List (List ℕ)) (name : List ℕ) (number : ℕ) → number_of names name ≡ Some number → slice_get names number ≡ Some name
name_at_number names name number e =
    let (within, same, _) = position-Some (λ held. bytes_eq held name) names number [] e in
    slice_get-get_or names number [] within ∙ ap Some (bytes_eq-true _ _ same)

-- the name that came has the next number
pub name_added : (old new : List (List ℕ)) (name : List ℕ) (number : ℕ) → new ≡ old ++ name ∷ [] → number ≡ length old → slice_get new number ≡ Some name
name_added old new name number e n = rw (e, n) (slice_get-push-end old name)

-- the names that were there keep their numbers
pub name_kept : (old new : List (List ℕ)) (name : List ℕ) (number : ℕ) → new ≡ old ++ name ∷ [] → IsSome (slice_get old number) → slice_get new number ≡ slice_get old number
name_kept old new name number e some = rw e (slice_get-push-within old name number (within_of_some old number some))

pub name_at_found : (names : List (List ℕ)) (name : List ℕ) (found : Option ℕ) → found ≡ number_of names name → IfSome found (λ number. slice_get names number ≡ Some name)
name_at_found names name None e = tt
name_at_found names name (Some number) e = name_at_number names name number (sym e)
