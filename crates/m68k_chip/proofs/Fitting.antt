-- One answer more.
use Rattle.std.proofs.Common.{ℕ, inl, inr, List, [], ◌∷◌, ◌++◌, length, take, slice_index, refl, sym, ap, subst, ◌∙◌, length-append, arith}
use Rattle.std.proofs.lemmas.List.{get_or_append_left, get_or_push, take-append-le}
use Rattle.std.proofs.Math.Nat.{eq-or-lt_of_le}
use Rattle.std.proofs.Math.Seq.{take-append_seam}
use Rattle.md_word.specs.declared.main_bus.Request68.{Request68}
use Rattle.m68k_chip.specs.Validity.{AreFit, Asks, FitsValue}
use Rattle.m68k_chip.specs.States.{State68}

-- the answer fits the request that waited for it
pub fit-more : (cart : List ℕ) (state : State68) (cause : ℕ) (answers : List ℕ) (request : Request68) (value : ℕ)
    → AreFit cart state cause answers → Asks cart state cause answers request → FitsValue request value → AreFit cart state cause (answers ++ value ∷ [])
fit-more cart state cause answers request value fit asks fits k h =
    elim (eq-or-lt_of_le {n = k} {m = length answers} (let e = length-append answers (value ∷ []) in omega (arith, e, h))) [
      | inr early ↦
          let f = fit k early in (
            f.0,
            subst (λ l. Asks cart state cause l f.0) (sym (take-append-le k answers (value ∷ []) (omega arith))) f.1,
            subst (FitsValue f.0) (sym (get_or_append_left answers (value ∷ []) 0 k early)) f.2,
          )
      | inl last ↦ (
        request,
        subst (λ l. Asks cart state cause l request) (sym (ap (λ n. take n (answers ++ value ∷ [])) last ∙ take-append_seam answers (value ∷ []))) asks,
        subst (FitsValue request) (sym (ap (slice_index (answers ++ value ∷ [])) last ∙ get_or_push answers value 0 (length answers) refl)) fits,
      )
    ]
