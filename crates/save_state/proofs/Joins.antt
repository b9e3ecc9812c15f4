-- Readers side by side: what they keep together, and the least offset at which one of them fails.
use Rattle.std.proofs.Common.{◌≡◌, ◌≢◌, ℕ, ◌≤◌, min, true, false, Bool, List, refl, sym, subst, arith, inl, inr, ◌⊎◌, Result, Ok, Err}
use Rattle.std.specs.Result.{IfOk, IsErrAnd}
use Rattle.md_word.specs.declared.unspell.Unspell.{Unspell}
use Rattle.md_word.specs.declared.unspell.Unspell.TheVariants.{Rule, NoMemory}
use Rattle.save_state.specs.declared.layout.Part.{Part}
use Rattle.save_state.specs.Layout.{are_ordered, place_of}
use Rattle.save_state.specs.Joining.{Reads, FailsIn, placed, both, KeepsBoth, Either, with_rule}
use Rattle.md_fields.proofs.Refusals.{failed, same_rule}
use Rattle.save_state.proofs.Places.{in_order}

abbrev pub fine : {T : Type 0} → T → Result T Unspell
fine x = Ok x

-- the answer of a reader that is refused at one place at most
pub one_item : {T : Type 0} (Keeps : T → Type 0) (Fails : ℕ → Type 0) (answer : Result T Unspell) → IfOk answer Keeps → ((x : T) → Keeps x → answer ≢ failed NoMemory → answer ≡ Ok x) → ((p : ℕ) → answer ≡ failed (Rule p) → Fails p) → ((p : ℕ) → Fails p → answer ≢ failed NoMemory → answer ≡ failed (Rule p)) → Reads Keeps Fails answer
one_item {T} Keeps Fails (Ok x) found only rule invalid = record {
  found = found;
  only = only;
  none = λ p fails. (let e : fine {T = T} x ≡ failed (Rule p) = invalid p fails (λ n. cc) in absurd cc);
  least = λ p e. absurd cc;
}
one_item {T} Keeps Fails (Err (Rule q)) found only rule invalid = record {
  found = tt;
  only = only;
  none = tt;
  least = λ p e. record {
    fails = rule p e;
    least = λ r fails. (let same : failed {T = T} (Rule q) ≡ failed (Rule r) = invalid r fails (λ n. cc) in omega (arith, same_rule {T = T} q p e, same_rule {T = T} q r same));
  };
}
one_item {T} Keeps Fails (Err NoMemory) found only rule invalid = record {
  found = tt;
  only = only;
  none = tt;
  least = λ p e. absurd cc;
}

-- an item with its offsets in the state
pub in_parts : {T : Type 0} (Keeps : T → Type 0) (Fails : ℕ → Type 0) (parts : List Part) (answer : Result T Unspell) → are_ordered 0 parts ≡ true → Reads Keeps Fails answer → Reads Keeps (FailsIn parts Fails) (placed parts answer)
in_parts {T} Keeps Fails parts (Ok x) ordered r = record {
  found = r.found;
  only = r.only;
  none = λ p fails. r.none fails.0 fails.2;
  least = λ p e. absurd cc;
}
in_parts {T} Keeps Fails parts (Err (Rule q)) ordered r = record {
  found = tt;
  only = λ x keeps n. (let e : failed {T = T} (Rule q) ≡ fine x = r.only x keeps (λ m. cc) in absurd cc);
  none = tt;
  least = λ p e. (
      let first = r.least q refl in
      let same : place_of parts q ≡ p = same_rule {T = T} (place_of parts q) p e in
      record {
        fails = (q, sym same, first.fails);
        least = λ s fails. omega (arith, same, fails.1, in_order parts 0 q fails.0 ordered (first.least fails.0 fails.2));
      });
}
in_parts {T} Keeps Fails parts (Err NoMemory) ordered r = record {
  found = tt;
  only = λ x keeps n. absurd (n refl);
  none = tt;
  least = λ p e. absurd cc;
}

-- ---- two readers

not_failed : {A : Type 0} (Keeps : A → Type 0) (F : ℕ → Type 0) (p : ℕ) → Reads {T = A} Keeps F (Err (Rule p)) → (a : A) → Keeps a → ⊥
not_failed {A} Keeps F p r a keeps = let e : failed {T = A} (Rule p) ≡ fine a = r.only a keeps (λ m. cc) in absurd cc

two_right : {A B : Type 0} (K : A → Type 0) (L : B → Type 0) (F G : ℕ → Type 0) (a : A) (b : B) → Reads {T = A} K F (Ok a) → Reads {T = B} L G (Ok b) → Reads {T = A × B} (KeepsBoth K L) (Either F G) (Ok (a, b))
two_right {A} {B} K L F G a b r s = record {
  found = (r.found, s.found);
  only = λ x keeps n. (
      let e : fine {T = A} a ≡ fine x.0 = r.only x.0 keeps.0 (λ m. cc) in
      let f : fine {T = B} b ≡ fine x.1 = s.only x.1 keeps.1 (λ m. cc) in
      let ea : a ≡ x.0 = cc in
      let fb : b ≡ x.1 = cc in
      λ i. fine {T = A × B} (ea i, fb i));
  none = λ p fails. elim fails [ inl h ↦ r.none p h | inr h ↦ s.none p h ];
  least = λ p e. absurd cc;
}

first_invalid : {A B : Type 0} (K : A → Type 0) (L : B → Type 0) (F G : ℕ → Type 0) (p : ℕ) (b : B) → Reads {T = A} K F (Err (Rule p)) → Reads {T = B} L G (Ok b) → Reads {T = A × B} (KeepsBoth K L) (Either F G) (Err (Rule p))
first_invalid {A} {B} K L F G p b r s = record {
  found = tt;
  only = λ x keeps n. absurd (not_failed {A = A} K F p r x.0 keeps.0);
  none = tt;
  least = λ q e. (
      let same : p ≡ q = same_rule {T = A × B} p q e in
      let first = r.least p refl in
      record {
        fails = inl (subst F same first.fails);
        least = λ s2 fails. elim fails [ inl h ↦ omega (arith, same, first.least s2 h) | inr h ↦ absurd (s.none s2 h) ];
      });
}

second_invalid : {A B : Type 0} (K : A → Type 0) (L : B → Type 0) (F G : ℕ → Type 0) (p : ℕ) (a : A) → Reads {T = A} K F (Ok a) → Reads {T = B} L G (Err (Rule p)) → Reads {T = A × B} (KeepsBoth K L) (Either F G) (Err (Rule p))
second_invalid {A} {B} K L F G p a r s = record {
  found = tt;
  only = λ x keeps n. absurd (not_failed {A = B} L G p s x.1 keeps.1);
  none = tt;
  least = λ q e. (
      let same : p ≡ q = same_rule {T = A × B} p q e in
      let first = s.least p refl in
      record {
        fails = inr (subst G same first.fails);
        least = λ s2 fails. elim fails [ inl h ↦ absurd (r.none s2 h) | inr h ↦ omega (arith, same, first.least s2 h) ];
      });
}

least_fails : (F G : ℕ → Type 0) (p q : ℕ) → F p → G q → (p ≤ q) ⊎ (q ≤ p) → Either F G (min p q)
least_fails F G p q f g (inl le) = inl (subst F (omega (arith, le)) f)
least_fails F G p q f g (inr le) = inr (subst G (omega (arith, le)) g)

le_cases : (p q : ℕ) → (p ≤ q) ⊎ (q ≤ p)
le_cases p q = grind arith

two_invalid : {A B : Type 0} (K : A → Type 0) (L : B → Type 0) (F G : ℕ → Type 0) (p q : ℕ) → Reads {T = A} K F (Err (Rule p)) → Reads {T = B} L G (Err (Rule q)) → Reads {T = A × B} (KeepsBoth K L) (Either F G) (Err (Rule (min p q)))
two_invalid {A} {B} K L F G p q r s = record {
  found = tt;
  only = λ x keeps n. absurd (not_failed {A = A} K F p r x.0 keeps.0);
  none = tt;
  least = λ t e. (
      let same : min p q ≡ t = same_rule {T = A × B} (min p q) t e in
      let first = r.least p refl in
      let second = s.least q refl in
      record {
        fails = subst (Either F G) same (least_fails F G p q first.fails second.fails (le_cases p q));
        least = λ s2 fails. elim fails [ inl h ↦ omega (arith, same, first.least s2 h) | inr h ↦ omega (arith, same, second.least s2 h) ];
      });
}

pub no_memory : {A : Type 0} (K : A → Type 0) (F : ℕ → Type 0) → Reads {T = A} K F (Err NoMemory)
no_memory K F = record {
  found = tt;
  only = λ x keeps n. absurd (n refl);
  none = tt;
  least = λ p e. absurd cc;
}

pub joined : {A B : Type 0} (K : A → Type 0) (L : B → Type 0) (F G : ℕ → Type 0) (first : Result A Unspell) (second : Result B Unspell) → Reads K F first → Reads L G second → Reads (KeepsBoth K L) (Either F G) (both first second)
joined {A} {B} K L F G (Ok a) (Ok b) r s = two_right {A = A} {B = B} K L F G a b r s
joined {A} {B} K L F G (Ok a) (Err (Rule q)) r s = second_invalid {A = A} {B = B} K L F G q a r s
joined {A} {B} K L F G (Ok a) (Err NoMemory) r s = no_memory {A = A × B} (KeepsBoth K L) (Either F G)
joined {A} {B} K L F G (Err (Rule p)) (Ok b) r s = first_invalid {A = A} {B = B} K L F G p b r s
joined {A} {B} K L F G (Err (Rule p)) (Err (Rule q)) r s = two_invalid {A = A} {B = B} K L F G p q r s
joined {A} {B} K L F G (Err (Rule p)) (Err NoMemory) r s = no_memory {A = A × B} (KeepsBoth K L) (Either F G)
joined {A} {B} K L F G (Err NoMemory) (Ok b) r s = no_memory {A = A × B} (KeepsBoth K L) (Either F G)
joined {A} {B} K L F G (Err NoMemory) (Err (Rule q)) r s = no_memory {A = A × B} (KeepsBoth K L) (Either F G)
joined {A} {B} K L F G (Err NoMemory) (Err NoMemory) r s = no_memory {A = A × B} (KeepsBoth K L) (Either F G)

-- ---- a reader with a rule

if_ok_more : {T : Type 0} (P Q : T → Type 0) (answer : Result T Unspell) → ((x : T) → P x → Q x) → IfOk answer P → IfOk answer Q
if_ok_more P Q (Ok x) more p = more x p
if_ok_more P Q (Err fault) more p = tt

-- the same reader, said otherwise
pub said : {T : Type 0} (K L : T → Type 0) (F G : ℕ → Type 0) (answer : Result T Unspell) → ((x : T) → K x → L x) → ((x : T) → L x → K x) → ((p : ℕ) → F p → G p) → ((p : ℕ) → G p → F p) → Reads K F answer → Reads L G answer
said {T} K L F G answer to back more less r = record {
  found = if_ok_more K L answer to r.found;
  only = λ x keeps n. r.only x (back x keeps) n;
  none = if_ok_more (λ x. (p : ℕ) → F p → ⊥) (λ x. (p : ℕ) → G p → ⊥) answer (λ x none p fails. none p (less p fails)) r.none;
  least = λ p e. record { fails = more p (r.least p e).fails; least = λ q fails. (r.least p e).least q (less q fails) };
}

abbrev pub Ruled : {T : Type 0} → (T → Type 0) → Type 0 → T → Type 0
Ruled K Broken x = K x × ¬ Broken

abbrev pub Breaks : ℕ → Type 0 → ℕ → Type 0
Breaks place Broken p = (p ≡ place) × Broken

rule_of : (place : ℕ) (Broken : Type 0) (p : ℕ) → Breaks place Broken p → place ≤ p
rule_of place Broken p h = omega (arith, h.0)

rule_holds : {T : Type 0} (K : T → Type 0) (F : ℕ → Type 0) (answer : Result T Unspell) (place : ℕ) (Broken : Type 0) → ¬ Broken → Reads K F answer → Reads (Ruled K Broken) (Either F (Breaks place Broken)) answer
rule_holds {T} K F answer place Broken right r = record {
  found = if_ok_more K (Ruled K Broken) answer (λ x keeps. (keeps, right)) r.found;
  only = λ x keeps n. r.only x keeps.0 n;
  none = if_ok_more (λ x. (p : ℕ) → F p → ⊥) (λ x. (p : ℕ) → Either F (Breaks place Broken) p → ⊥) answer (λ x none p fails. elim fails [ inl h ↦ none p h | inr h ↦ right h.1 ]) r.none;
  least = λ p e. record {
    fails = inl (r.least p e).fails;
    least = λ q fails. elim fails [ inl h ↦ (r.least p e).least q h | inr h ↦ absurd (right h.1) ];
  };
}

rule_broken : {T : Type 0} (K : T → Type 0) (F : ℕ → Type 0) (answer : Result T Unspell) (place : ℕ) (Broken : Type 0) → Broken → Reads K F answer → Reads (Ruled K Broken) (Either F (Breaks place Broken)) (with_rule answer false place)
rule_broken {T} K F (Ok x) place Broken broken r = record {
  found = tt;
  only = λ y keeps n. absurd (keeps.1 broken);
  none = tt;
  least = λ p e. (
      let same : place ≡ p = same_rule {T = T} place p e in
      record {
        fails = inr (sym same, broken);
        least = λ q fails. elim fails [ inl h ↦ absurd (r.none q h) | inr h ↦ omega (arith, same, h.0) ];
      });
}
rule_broken {T} K F (Err (Rule n)) place Broken broken r = record {
  found = tt;
  only = λ y keeps m. absurd (keeps.1 broken);
  none = tt;
  least = λ p e. (
      let same : min n place ≡ p = same_rule {T = T} (min n place) p e in
      let first = r.least n refl in
      record {
        fails = subst (Either F (Breaks place Broken)) same (least_fails F (Breaks place Broken) n place first.fails (refl, broken) (le_cases n place));
        least = λ q fails. elim fails [ inl h ↦ omega (arith, same, first.least q h) | inr h ↦ omega (arith, same, h.0) ];
      });
}
rule_broken {T} K F (Err NoMemory) place Broken broken r = no_memory {A = T} (Ruled K Broken) (Either F (Breaks place Broken))

pub reads_ruled : {T : Type 0} (K : T → Type 0) (F : ℕ → Type 0) (answer : Result T Unspell) (holds : Bool) (place : ℕ) (Broken : Type 0) → (holds ≡ false → Broken) → (Broken → holds ≡ false) → Reads K F answer → Reads (Ruled K Broken) (Either F (Breaks place Broken)) (with_rule answer holds place)
reads_ruled {T} K F answer true place Broken fails reported r = rule_holds {T = T} K F answer place Broken (λ broken. (let e = reported broken in absurd cc)) r
reads_ruled {T} K F answer false place Broken fails reported r = rule_broken {T = T} K F answer place Broken (fails refl) r

-- an item of these bytes at this cycle, read over parts
pub item : {T : Type 0} (Keeps : ℕ → List ℕ → T → Type 0) (Invalid : ℕ → List ℕ → ℕ → Type 0) (parts whole : List Part) (at cycle : ℕ) (bytes kept : List ℕ) (answer : Result T Unspell) → whole ≡ parts → are_ordered 0 parts ≡ true → at ≡ cycle → bytes ≡ kept → IfOk answer (Keeps at bytes) → ((x : T) → Keeps at bytes x → answer ≢ failed NoMemory → answer ≡ Ok x) → ((p : ℕ) → answer ≡ failed (Rule p) → Invalid at bytes p) → ((p : ℕ) → Invalid at bytes p → answer ≢ failed NoMemory → answer ≡ failed (Rule p)) → Reads (Keeps cycle kept) (FailsIn parts (Invalid cycle kept)) (placed whole answer)
item {T} Keeps Invalid parts whole at cycle bytes kept answer same ordered e f found only rule invalid =
    subst (λ (ps : List Part). Reads (Keeps cycle kept) (FailsIn parts (Invalid cycle kept)) (placed {T = T} ps answer)) (sym same) (
    subst (λ (l : List ℕ). Reads (Keeps cycle l) (FailsIn parts (Invalid cycle l)) (placed {T = T} parts answer)) f (
    subst (λ (a : ℕ). Reads (Keeps a bytes) (FailsIn parts (Invalid a bytes)) (placed {T = T} parts answer)) e (
    in_parts {T = T} (Keeps at bytes) (Invalid at bytes) parts answer ordered (one_item {T = T} (Keeps at bytes) (Invalid at bytes) answer found only rule invalid))))

-- memory ran out
pub wanting : {T : Type 0} (K : T → Type 0) (F : ℕ → Type 0) (answer : Result T Unspell) → IsErrAnd answer (λ fault. fault ≡ NoMemory) → Reads K F answer
wanting {T} K F (Ok x) e = absurd e
wanting {T} K F (Err fault) e = subst (λ (f : Unspell). Reads {T = T} K F (Err f)) (sym e) (no_memory {A = T} K F)
