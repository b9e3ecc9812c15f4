-- The answers of a reader are different ones.
use Rattle.std.proofs.Common.{◌≡◌, ◌↔◌, ℕ, Result, Ok, Err, ap, subst}
use Rattle.md_word.specs.declared.unspell.Unspell.{Unspell}
use Rattle.md_word.specs.declared.unspell.Unspell.TheVariants.{Rule, NoMemory}

abbrev pub failed : {T : Type 0} → Unspell → Result T Unspell
failed e = Err e

pub no_rule : {T : Type 0} (place : ℕ) (e : Unspell) → NoMemory ≡ e → failed {T = T} e ≡ failed (Rule place) → ⊥
no_rule place e n r = absurd cc

pub same_rule : {T : Type 0} (p q : ℕ) → failed {T = T} (Rule p) ≡ failed (Rule q) → p ≡ q
same_rule p q e = cc

-- a refusal reports the one offset that is invalid
pub reported_invalid : {T : Type 0} (Invalid : ℕ → Type 0) (p : ℕ) → Invalid p → ((q r : ℕ) → Invalid q → Invalid r → q ≡ r)
    → (place : ℕ) → (failed {T = T} (Rule p) ≡ failed (Rule place)) ↔ Invalid place
reported_invalid Invalid p invalid one place = (λ e. subst Invalid (same_rule p place e) invalid, λ w. ap (λ (q : ℕ). failed (Rule q)) (one p place invalid w))

-- where a value is read no place is wrong
pub reported_right : {T : Type 0} (value : T) (Invalid : ℕ → Type 0) → ((q : ℕ) → Invalid q → ⊥)
    → (place : ℕ) → (Ok value ≡ failed (Rule place)) ↔ Invalid place
reported_right value Invalid none place = (λ e. absurd cc, λ w. absurd (none place w))

-- a refusal is of one fault, whatever it refuses
pub same_fault : {T : Type 0} (f g : Unspell) → failed {T = T} f ≡ failed g → f ≡ g
same_fault f g e = cc

-- a refusal that is handed on reports the same, whatever it refuses
pub reported_on : {S T : Type 0} (f : Unspell) (Invalid : ℕ → Type 0) → ((place : ℕ) → (failed {T = S} f ≡ failed (Rule place)) ↔ Invalid place)
    → (place : ℕ) → (failed {T = T} f ≡ failed (Rule place)) ↔ Invalid place
reported_on f Invalid reported place = (λ e. (reported place).0 (ap Err (same_fault f (Rule place) e)), λ w. ap Err (same_fault f (Rule place) ((reported place).1 w)))
