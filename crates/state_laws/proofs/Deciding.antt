-- What a reader that never runs out of memory answers: the value that bytes keep, or where they are invalid.
use Rattle.std.proofs.Common.{◌≡◌, ◌≢◌, ◌⊎◌, inl, inr, ℕ, List, length, min, Option, Some, None, Result, Ok, refl, ap, subst}
use Rattle.std.proofs.lemmas.Bool.{cases_eq}
use Rattle.std.specs.Result.{IfOk}
use Rattle.md_fields.specs.Fields.{Field, first_invalid}
use Rattle.md_fields.specs.Items.{Breaks, IsRefused, IsRight, Keeps}
use Rattle.md_fields.specs.Places.{IsBytes, Stand}
use Rattle.md_fields.proofs.Items.{kept}
use Rattle.md_fields.proofs.Refusals.{failed, same_rule}
use Rattle.md_word.specs.declared.unspell.Unspell.{Unspell}
use Rattle.md_word.specs.declared.unspell.Unspell.TheVariants.{NoMemory, Rule}

-- a value is kept, or something is invalid at an offset
abbrev pub Verdict : {T : Type 0} → (T → Type 0) → (ℕ → Type 0) → Type 0
Verdict {T} Kept Invalid = ((x : T) × Kept x) ⊎ ((place : ℕ) × Invalid place)

-- ---- fields

by_first : {S : Type 0} (fields : S → List Field) (bytes : List ℕ) (s : S) → Keeps fields bytes s → (first : Option ℕ) → first_invalid 0 (fields s) ≡ first
    → (Keeps fields bytes s × IsRight fields s) ⊎ ((place : ℕ) × Breaks fields bytes place)
by_first fields bytes s keeps None e = inl (keeps, e)
by_first fields bytes s keeps (Some place) e = inr (place, record { saved = s; keeps = keeps; first = e })

-- numbers that are in bytes are right, or a rule fails
pub fields_validated : {S : Type 0} (fields : S → List Field) (bytes : List ℕ) (s : S) → IsBytes bytes → Stand 0 (fields s) bytes
    → (Keeps fields bytes s × IsRight fields s) ⊎ ((place : ℕ) × Breaks fields bytes place)
fields_validated fields bytes s fits stands = by_first fields bytes s (kept fields bytes s fits stands) (first_invalid 0 (fields s)) refl

-- an item of so many bytes, of whose numbers a value is made
pub sized : {S T : Type 0} (size : ℕ) (fields : S → List Field) (Kept : T → Type 0) (bytes : List ℕ) → IsBytes bytes
    → (length bytes ≡ size → (s : S) × Stand 0 (fields s) bytes)
    → (length bytes ≡ size → (s : S) → Keeps fields bytes s → IsRight fields s → (x : T) × Kept x)
    → Verdict {T = T} Kept (IsRefused size fields bytes)
sized {S} {T} size fields Kept bytes fits read made = elim (cases_eq (length bytes) size) [
  | inl long ↦ (
      let s = read long in
      elim (fields_validated fields bytes s.0 fits s.1) [
        | inl right ↦ inl (made long s.0 right.0 right.1)
        | inr invalid ↦ inr (invalid.0, inr invalid.1)
      ])
  | inr other ↦ inr (min (length bytes) size, inl (other, refl))
]

-- ---- answers

-- the answer of a reader that says which value is kept, and else the one place that is wrong
pub record Decided {T : Type 0} (Kept : T → Type 0) (Invalid : ℕ → Type 0) : Type 0 where
  pub answer : Result T Unspell
  pub found : IfOk answer Kept
  pub only : (x : T) → Kept x → answer ≡ Ok x
  pub rule : (place : ℕ) → answer ≡ failed (Rule place) → Invalid place
  pub invalid : (place : ℕ) → Invalid place → answer ≡ failed (Rule place)
  pub memory : answer ≢ failed NoMemory

pub decided_by : {T : Type 0} (Kept : T → Type 0) (Invalid : ℕ → Type 0) → ((x y : T) → Kept x → Kept y → x ≡ y) → ((x : T) → Kept x → (place : ℕ) → Invalid place → ⊥)
    → ((p q : ℕ) → Invalid p → Invalid q → p ≡ q) → Verdict {T = T} Kept Invalid → Decided {T = T} Kept Invalid
decided_by {T} Kept Invalid one none once (inl (x, is)) = record {
  answer = Ok x;
  found = is;
  only = λ y other. ap (λ (z : T). Ok z) (one x y is other);
  rule = λ place e. absurd (no_rule place e);
  invalid = λ place bad. absurd (none x is place bad);
  memory = λ e. cc;
} where
  no_rule : (place : ℕ) → Ok x ≡ failed {T = T} (Rule place) → ⊥
  no_rule place e = cc
decided_by {T} Kept Invalid one none once (inr (place, bad)) = record {
  answer = failed (Rule place);
  found = tt;
  only = λ y is. absurd (none y is place bad);
  rule = λ p e. subst Invalid (same_rule {T = T} place p e) bad;
  invalid = λ p other. ap (λ (q : ℕ). failed {T = T} (Rule q)) (once place p bad other);
  memory = λ e. cc;
}
