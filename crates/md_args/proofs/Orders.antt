-- The order of arguments does not matter.
use Rattle.std.proofs.Common.{◌≡◌, ◌∙◌, ◌≤◌, ◌+◌, refl, sym, ap, subst, arith, ℕ, Bool, true, false, cond, ◌&&◌, ◌||◌, List, [], ◌∷◌, find, Option, Some, None, sum_by, IsPermutation}
use Rattle.std.specs.Option.{option_map}
use Rattle.std.specs.Str.{bytes_eq}
use Rattle.std.proofs.lemmas.Bool.{and_from, and_parts, not_from_false, or_parts, true≢false, not-true}
use Rattle.std.proofs.lemmas.List.Sums.{sum_by-cons}
use Rattle.std.proofs.lemmas.List.Sorted.{IsPermutation-sym, sum_by-IsPermutation}
use Rattle.std.proofs.lemmas.Slice.Eq.{bytes_eq-Decides}
use Rattle.std.proofs.lemmas.Option.{same_Some}
use Rattle.clap.specs.Walk.{Text}
use Rattle.md_args.specs.Given.{Argument, are_single, has_name, value_in}
use Rattle.md_args.specs.Commands.{run_by, run_of_arguments}
use Rattle.md_args.proofs.Lookups.{some≢none}
use Rattle.md_args.proofs.Rows.{stands}

abbrev one_if : Bool → ℕ
one_if true = 1
one_if false = 0

-- how many pass the test
abbrev count : (Argument → Bool) → List Argument → ℕ
count test [] = 0
count test (first ∷ arguments) = one_if (test first) + count test arguments

count_is : (test : Argument → Bool) (arguments : List Argument) → count test arguments ≡ sum_by (λ argument. one_if (test argument)) arguments
count_is test [] = refl
count_is test (first ∷ arguments) =
    ap (λ n. one_if (test first) + n) (count_is test arguments) ∙ sym (sum_by-cons (λ argument. one_if (test argument)) first arguments)

count_permuted : (test : Argument → Bool) (first second : List Argument) → IsPermutation first second → count test second ≡ count test first
count_permuted test first second permuted =
    count_is test second ∙ sum_by-IsPermutation (λ argument. one_if (test argument)) first second permuted ∙ sym (count_is test first)

-- how many arguments have the name, and how many have it with this value
abbrev named : Text → List Argument → ℕ
named name = count (λ argument. has_name name argument.0)

abbrev named_with : Text → Text → List Argument → ℕ
named_with name value = count (λ argument. has_name name argument.0 && bytes_eq argument.1 value)

none_named : (name : Text) (arguments : List Argument) → stands name arguments ≡ false → named name arguments ≡ 0
none_named name [] none = refl
none_named name (first ∷ arguments) none =
    let parts = or_parts (has_name name first.0) (stands name arguments) none in
    rw (parts.0, none_named name arguments parts.1) refl

no_name : (name : Text) (arguments : List Argument) → named name arguments ≡ 0 → stands name arguments ≡ false
no_name name [] none = refl
no_name name (first ∷ arguments) none = go (has_name name first.0) none (no_name name arguments)
  where
    go : (b : Bool) → one_if b + named name arguments ≡ 0 → (named name arguments ≡ 0 → stands name arguments ≡ false) → (b || stands name arguments) ≡ false
    go true none later = absurd (omega (arith, none))
    go false none later = later (omega (arith, none))

fewer_with : (name value : Text) (arguments : List Argument) → named_with name value arguments ≤ named name arguments
fewer_with name value [] = omega arith
fewer_with name value (first ∷ arguments) = go (has_name name first.0) (bytes_eq first.1 value) (fewer_with name value arguments)
  where
    go : (b d : Bool) → named_with name value arguments ≤ named name arguments → one_if (b && d) + named_with name value arguments ≤ one_if b + named name arguments
    go true true later = omega (arith, later)
    go true false later = omega (arith, later)
    go false d later = omega (arith, later)

-- no argument comes twice exactly where no name has two
abbrev AtMostOnce : List Argument → Type 0
AtMostOnce arguments = (name : Text) → named name arguments ≤ 1

once_from_single : (arguments : List Argument) → are_single arguments ≡ true → AtMostOnce arguments
once_from_single [] single name = omega arith
once_from_single (first ∷ arguments) single name = go (has_name name first.0) refl (once_from_single arguments (and_parts _ _ single).1 name)
  where
    go : (b : Bool) → has_name name first.0 ≡ b → named name arguments ≤ 1 → one_if b + named name arguments ≤ 1
    go true is later =
        let same : first.0 ≡ name = (bytes_eq-Decides first.0 name).0 is in
        let none : named name arguments ≡ 0 =
        subst (λ n. named n arguments ≡ 0) same (none_named first.0 arguments (not-true (stands first.0 arguments) (and_parts _ _ single).0)) in
        omega (arith, none)
    go false is later = omega (arith, later)

single_from_once : (arguments : List Argument) → AtMostOnce arguments → are_single arguments ≡ true
single_from_once [] once = refl
single_from_once (first ∷ arguments) once =
    let here : one_if (has_name first.0 first.0) + named first.0 arguments ≤ 1 = once first.0 in
    let own : has_name first.0 first.0 ≡ true = (bytes_eq-Decides first.0 first.0).1 refl in
    let one : one_if (has_name first.0 first.0) ≡ 1 = ap one_if own in
    let none : stands first.0 arguments ≡ false = no_name first.0 arguments (omega (arith, here, one)) in
    and_from _ _ (not_from_false _ none) (single_from_once arguments (λ name. fewer name (has_name name first.0) (once name)))
  where
    fewer : (name : Text) (b : Bool) → one_if b + named name arguments ≤ 1 → named name arguments ≤ 1
    fewer name b all = omega (arith, all)

single_permuted : (first second : List Argument) → IsPermutation first second → are_single first ≡ true → are_single second ≡ true
single_permuted first second permuted single =
    single_from_once second
    (λ name.
    let same : named name second ≡ named name first = count_permuted (λ argument. has_name name argument.0) first second permuted in
    let once : named name first ≤ 1 = once_from_single first single name in
    omega (arith, same, once))

-- ---- values

value_counted : (arguments : List Argument) (name value : Text) → value_in arguments name ≡ Some value → 1 ≤ named_with name value arguments
value_counted [] name value is = absurd (some≢none value (sym is))
value_counted (first ∷ arguments) name value is = go (has_name name first.0) is (value_counted arguments name value)
  where
    go : (b : Bool) → option_map (λ (argument : Argument). argument.1) (cond b (Some first) (find (λ argument. has_name name argument.0) arguments)) ≡ Some value
        → (value_in arguments name ≡ Some value → 1 ≤ named_with name value arguments) → 1 ≤ one_if (b && bytes_eq first.1 value) + named_with name value arguments
    go true is later =
        let same : one_if (bytes_eq first.1 value) ≡ 1 = ap one_if ((bytes_eq-Decides first.1 value).1 (same_Some first.1 value is)) in
        omega (arith, same)
    go false is later = omega (arith, later is)

value_found : (arguments : List Argument) (name value : Text) → named name arguments ≤ 1 → 1 ≤ named_with name value arguments → value_in arguments name ≡ Some value
value_found [] name value once counted = absurd (omega (arith, counted))
value_found (first ∷ arguments) name value once counted = go (has_name name first.0) once counted (value_found arguments name value)
  where
    go : (b : Bool) → one_if b + named name arguments ≤ 1 → 1 ≤ one_if (b && bytes_eq first.1 value) + named_with name value arguments
        → (named name arguments ≤ 1 → 1 ≤ named_with name value arguments → value_in arguments name ≡ Some value)
        → option_map (λ (argument : Argument). argument.1) (cond b (Some first) (find (λ argument. has_name name argument.0) arguments)) ≡ Some value
    go true once counted later = ap Some (here (bytes_eq first.1 value) refl counted)
      where
        here : (d : Bool) → bytes_eq first.1 value ≡ d → 1 ≤ one_if d + named_with name value arguments → first.1 ≡ value
        here true is counted = (bytes_eq-Decides first.1 value).0 is
        here false is counted = absurd (omega (arith, counted, once, fewer_with name value arguments))
    go false once counted later = later (omega (arith, once)) (omega (arith, counted))

no_value_counted : (arguments : List Argument) (name : Text) → value_in arguments name ≡ None → named name arguments ≡ 0
no_value_counted [] name is = refl
no_value_counted (first ∷ arguments) name is = go (has_name name first.0) is (no_value_counted arguments name)
  where
    go : (b : Bool) → option_map (λ (argument : Argument). argument.1) (cond b (Some first) (find (λ argument. has_name name argument.0) arguments)) ≡ None
        → (value_in arguments name ≡ None → named name arguments ≡ 0) → one_if b + named name arguments ≡ 0
    go true is later = absurd (some≢none first.1 is)
    go false is later = omega (arith, later is)

no_value_found : (arguments : List Argument) (name : Text) → named name arguments ≡ 0 → value_in arguments name ≡ None
no_value_found [] name none = refl
no_value_found (first ∷ arguments) name none = go (has_name name first.0) none (no_value_found arguments name)
  where
    go : (b : Bool) → one_if b + named name arguments ≡ 0 → (named name arguments ≡ 0 → value_in arguments name ≡ None)
        → option_map (λ (argument : Argument). argument.1) (cond b (Some first) (find (λ argument. has_name name argument.0) arguments)) ≡ None
    go true none later = absurd (omega (arith, none))
    go false none later = later (omega (arith, none))

value_permuted : (first second : List Argument) → IsPermutation first second → are_single second ≡ true → (name : Text) → value_in first name ≡ value_in second name
value_permuted first second permuted single name = go (value_in first name) refl
  where
    go : (o : Option Text) → value_in first name ≡ o → value_in first name ≡ value_in second name
    go None is =
        let same : named name second ≡ named name first = count_permuted (λ argument. has_name name argument.0) first second permuted in
        let none : named name first ≡ 0 = no_value_counted first name is in
        is ∙ sym (no_value_found second name (omega (arith, same, none)))
    go (Some value) is =
        let same : named_with name value second ≡ named_with name value first =
        count_permuted (λ argument. has_name name argument.0 && bytes_eq argument.1 value) first second permuted in
        let counted : 1 ≤ named_with name value first = value_counted first name value is in
        is ∙ sym (value_found second name value (once_from_single second single name) (omega (arith, same, counted)))

-- a run's arguments mean the same in any order
pub any_order : (first second : List Argument) → IsPermutation first second → run_of_arguments first ≡ run_of_arguments second
any_order first second permuted = go (are_single first) (are_single second) refl refl
  where
    go : (b d : Bool) → are_single first ≡ b → are_single second ≡ d → cond b (run_by (value_in first)) None ≡ cond d (run_by (value_in second)) None
    go true true one other = ap run_by (λ i name. value_permuted first second permuted other name i)
    go true false one other = absurd (true≢false (sym (single_permuted first second permuted one) ∙ other))
    go false true one other = absurd (true≢false (sym (single_permuted second first (IsPermutation-sym first second permuted) other) ∙ one))
    go false false one other = refl
