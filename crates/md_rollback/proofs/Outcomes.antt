-- A script of which each line is obeyed has none that is refused.
use Rattle.std.proofs.Common.{◌≡◌, ◌∙◌, refl, sym, subst, ℕ, ◌<◌, ◌⊎◌, inl, inr, List, Option, Some, arith}
use Rattle.text_lines.specs.Lines.{lines_of}
use Rattle.debug_text.proofs.Scripts.{none_refused}
use Rattle.md_rollback.specs.Inputs.{IsConfirmed, Words}
use Rattle.md_rollback.specs.Lines.{line_of}
use Rattle.md_rollback.specs.declared.line.Line.{Line}
use Rattle.md_rollback.specs.declared.line.Line.TheVariants.{Advance, Press}
use Rattle.md_rollback.specs.Scripts.{IsRefused, Obeys, ObeysLine, RefusesFor, Script, begun}
use Rattle.md_rollback.specs.declared.line_fault.LineFault.{LineFault}
use Rattle.md_rollback.specs.declared.line_fault.LineFault.TheVariants as faults
use Rattle.md_rollback.specs.Rolls.{CompletesWith}
use Rattle.md_rollback.specs.declared.rolled.Completion.TheVariants.{Done, Refused}
use Rattle.md_rollback.specs.declared.rolled.Rolled.{Rolled}

pub some_same : (a b : Line) → ◌≡◌ {A = Option Line} (Some a) (Some b) → a ≡ b
some_same a b same = cc

-- so many frames are confirmed, and no other number
less_or_not : (m n : ℕ) → (m < n) ⊎ ((n < m) ⊎ (m ≡ n))
less_or_not m n = grind arith

pub one_confirmed : (local remote : Words) (m n : ℕ) → IsConfirmed local remote m → IsConfirmed local remote n → m ≡ n
one_confirmed local remote m n first second = elim (less_or_not m n) [
  | inl less ↦ absurd (first.greatest (second.below m less))
  | inr (inl more) ↦ absurd (second.greatest (first.below n more))
  | inr (inr same) ↦ same
]

-- what a line makes is one
pub obeys_one : (window : ℕ) (old : Script) (asked : Line) (one two : Script) → Obeys window old asked one → Obeys window old asked two → one ≡ two
obeys_one window old (Press player frame buttons) one two first second = first.3 ∙ sym second.3
obeys_one window old Advance one two first second = first.4 ∙ sym second.4

-- the scripts after a line that both obey
pub one_after : (window : ℕ) (line : List ℕ) (a b x y : Script) → a ≡ b → ObeysLine window line a x → ObeysLine window line b y → x ≡ y
one_after window line a b x y same (asked, is, first) (other, is2, second) =
    obeys_one window b asked x y (subst (λ (s : Script). Obeys window s asked x) same first)
    (subst (λ (l : Line). Obeys window b l y) (some_same other asked (sym is2 ∙ is)) second)

-- no line is both refused and obeyed
pub not_both : (window : ℕ) (script next : Script) (line : List ℕ) (fault : LineFault) (asked : Line) → IsRefused window script line fault → line_of line ≡ Some asked → Obeys window script asked next → ⊥
not_both window script next line faults.Unread asked refused is obeyed = cc
not_both window script next line faults.Far asked (player, frame, buttons, observable, far) is obeyed =
    let done = subst (λ (l : Line). Obeys window script l next) (some_same asked (Press player frame buttons) (sym is ∙ observable)) obeyed in
    omega (arith, far, done.0)
not_both window script next line faults.Given asked (player, frame, buttons, kept, observable, given) is obeyed =
    let done = subst (λ (l : Line). Obeys window script l next) (some_same asked (Press player frame buttons) (sym is ∙ observable)) obeyed in
    let none = done.1 in
    cc
not_both window script next line faults.Buttons asked (player, frame, buttons, observable, within, none, big) is obeyed =
    let done = subst (λ (l : Line). Obeys window script l next) (some_same asked (Press player frame buttons) (sym is ∙ observable)) obeyed in
    omega (arith, big, done.2)
not_both window script next line faults.Waiting asked (confirmed, observable, some, known, late) is obeyed =
    let done = subst (λ (l : Line). Obeys window script l next) (some_same asked Advance (sym is ∙ observable)) obeyed in
    omega (arith, late, done.3, one_confirmed script.local script.remote confirmed done.0 known done.1)
not_both window script next line faults.Ended asked (observable, ended) is obeyed =
    let done = subst (λ (l : Line). Obeys window script l next) (some_same asked Advance (sym is ∙ observable)) obeyed in
    omega (arith, ended, done.2)

pub never : (window : ℕ) (line : List ℕ) (a b x : Script) (fault : LineFault) → a ≡ b → ObeysLine window line a x → RefusesFor window fault b line → ⊥
never window line a b x fault same (asked, is, obeyed) refused =
    not_both window b x line fault asked refused is (subst (λ (s : Script). Obeys window s asked x) same obeyed)

pub done_or_refused : (cart : List ℕ) (window : ℕ) (text : List ℕ) (rolled : Rolled) (line : ℕ) (fault : LineFault)
    → CompletesWith cart window text (Done rolled) → CompletesWith cart window text (Refused line fault) → ⊥
done_or_refused cart window text rolled line fault done refused =
    none_refused (ObeysLine window) (RefusesFor window) (λ a b. a ≡ b) (one_after window) (never window)
    (lines_of text) begun begun done.0 refused.0 line fault refl done.1 refused.1
