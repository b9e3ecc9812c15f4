-- A number that does not fit is none that an instruction of the form has at its place, and a line without a length has no form.
use Rattle.std.proofs.Common.{◌≡◌, inl, inr, ℕ, ◌+◌, ◌*◌, ◌≤◌, Bool, true, false, nat_le, List, [], ◌∷◌, refl, ap, ◌∙◌, sym, arith, Some, None}
use Rattle.std.proofs.lemmas.Bool.Decides.{nat_tests}
use Rattle.md_asm_text.specs.Tokens as tokens
use Rattle.md_asm_text.specs.Tokens.{Token}
use Rattle.md_asm_text.specs.Lines.{Line}
use Rattle.md_asm_text.specs.declared.body.Body.{Body}
use Rattle.md_asm_text.specs.declared.body.Body.TheVariants as bodies
use Rattle.md_asm.specs.Contents.{is_unfit, misfit, misfits, size}
use Rattle.md_asm.specs.Numbers.{any_over, count}
use Rattle.asm_laws.specs.Faults.{HasOver, IsBad, IsUnfit}
use Rattle.md_asm.specs.Forms.{HasNumber, StandsIn}
use Rattle.asm_laws.proofs.Forms.{form_size, has_fits}
use Rattle.asm_laws.proofs.Ranges.{in_has}

-- ---- numbers that do not fit

-- a token more is at the start
stands_more : (p : Token) (ps : List Token) (place : ℕ) (token : Token) → StandsIn ps place token → StandsIn (p ∷ ps) (place + 1) token
stands_more p ps place token (front, following, is, long) = (p ∷ front, following, ap (λ (l : List Token). p ∷ l) is, (omega (arith, long)))

over_stands : (limit : ℕ) (line_tokens : List Token) → any_over limit line_tokens ≡ true → HasOver limit line_tokens
unfolding any_over
over_stands limit [] h = cc
over_stands limit (tokens.Number n ∷ ps) h = by (nat_le limit n) refl (λ more. over_stands limit ps more)
  where
    by : (b : Bool) → nat_le limit n ≡ b → (any_over limit ps ≡ true → HasOver limit ps) → HasOver limit (tokens.Number n ∷ ps)
    by true is more = (0, n, ([], ps, refl, refl), grind (arith, nat_tests))
    by false is more =
        let rest : any_over limit ps ≡ true = rw is at h in
        let there = more rest in
        (there.0 + 1, there.1, stands_more (tokens.Number n) ps there.0 (tokens.Number there.1) there.2, there.3)
over_stands limit (tokens.Word word ∷ ps) h =
    let there = over_stands limit ps h in (there.0 + 1, there.1, stands_more (tokens.Word word) ps there.0 (tokens.Number there.1) there.2, there.3)
over_stands limit (tokens.Name name ∷ ps) h =
    let there = over_stands limit ps h in (there.0 + 1, there.1, stands_more (tokens.Name name) ps there.0 (tokens.Number there.1) there.2, there.3)
over_stands limit (tokens.Mark c ∷ ps) h =
    let there = over_stands limit ps h in (there.0 + 1, there.1, stands_more (tokens.Mark c) ps there.0 (tokens.Number there.1) there.2, there.3)

-- one of a list's tokens is a misfit
abbrev HasMisfit : Bool → List Token → ℕ → List Token → Type 0
HasMisfit z80 line_tokens i ps = (place : ℕ) × (n : ℕ) × StandsIn ps place (tokens.Number n) × (misfit z80 line_tokens (i + place) (tokens.Number n) ≡ true)

misfit_more : (z80 : Bool) (line_tokens : List Token) (i : ℕ) (p : Token) (ps : List Token) → HasMisfit z80 line_tokens (i + 1) ps → HasMisfit z80 line_tokens i (p ∷ ps)
misfit_more z80 line_tokens i p ps (place, n, stands, wrong) = (
  place + 1,
  n,
  stands_more p ps place (tokens.Number n) stands,
  ap (λ (k : ℕ). misfit z80 line_tokens k (tokens.Number n)) (let e : i + (place + 1) ≡ i + 1 + place = omega arith in e) ∙ wrong,
)

misfit_stands : (z80 : Bool) (line_tokens : List Token) (i : ℕ) (ps : List Token) → misfits z80 line_tokens i ps ≡ true → HasMisfit z80 line_tokens i ps
unfolding misfits
misfit_stands z80 line_tokens i [] h = cc
misfit_stands z80 line_tokens i (tokens.Number n ∷ ps) h = by (misfit z80 line_tokens i (tokens.Number n)) refl (λ more. misfit_stands z80 line_tokens (i + 1) ps more)
  where
    by : (b : Bool) → misfit z80 line_tokens i (tokens.Number n) ≡ b → (misfits z80 line_tokens (i + 1) ps ≡ true → HasMisfit z80 line_tokens (i + 1) ps) → HasMisfit z80 line_tokens i (tokens.Number n ∷ ps)
    by true is more = (0, n, ([], ps, refl, refl), ap (λ (k : ℕ). misfit z80 line_tokens k (tokens.Number n)) (let e : i + 0 ≡ i = omega arith in e) ∙ is)
    by false is more =
        let rest : misfits z80 line_tokens (i + 1) ps ≡ true = rw is at h in
        misfit_more z80 line_tokens i (tokens.Number n) ps (more rest)
misfit_stands z80 line_tokens i (tokens.Word word ∷ ps) h = misfit_more z80 line_tokens i (tokens.Word word) ps (misfit_stands z80 line_tokens (i + 1) ps h)
misfit_stands z80 line_tokens i (tokens.Name name ∷ ps) h = misfit_more z80 line_tokens i (tokens.Name name) ps (misfit_stands z80 line_tokens (i + 1) ps h)
misfit_stands z80 line_tokens i (tokens.Mark c ∷ ps) h = misfit_more z80 line_tokens i (tokens.Mark c) ps (misfit_stands z80 line_tokens (i + 1) ps h)

-- no instruction of the form has a misfit
never : (z80 : Bool) (line_tokens : List Token) (place n : ℕ) → misfit z80 line_tokens (0 + place) (tokens.Number n) ≡ true → ¬ HasNumber z80 line_tokens place n
never z80 line_tokens place n wrong has =
    let fits = has_fits z80 line_tokens place n has in
    let same : misfit z80 line_tokens (0 + place) (tokens.Number n) ≡ misfit z80 line_tokens place (tokens.Number n)
    = ap (λ (k : ℕ). misfit z80 line_tokens k (tokens.Number n)) (let e : 0 + place ≡ place = omega arith in e) in
    let no : true ≡ false = sym wrong ∙ same ∙ fits in cc

pub unfit_is : (z80 : Bool) (body : Body) (line_tokens : List Token) → is_unfit z80 body line_tokens ≡ true → IsUnfit z80 body line_tokens
unfit_is z80 (bodies.Sub at) line_tokens h = let e : 65536 ≤ at = grind (arith, nat_tests) in e
unfit_is z80 bodies.Words line_tokens h = over_stands 65536 line_tokens h
unfit_is z80 bodies.Bytes line_tokens h = over_stands 256 line_tokens h
unfit_is z80 bodies.Instruction line_tokens h =
    let there = misfit_stands z80 line_tokens 0 line_tokens h in
    let no = never z80 line_tokens there.0 there.1 there.3 in (there.0, there.1, there.2, λ range. no (in_has z80 line_tokens there.0 there.1 range), no)
unfit_is z80 bodies.Bad line_tokens h = cc
unfit_is z80 bodies.Nothing line_tokens h = cc
unfit_is z80 (bodies.Org place) line_tokens h = cc
unfit_is z80 bodies.Main line_tokens h = cc

pub bad_is : (z80 : Bool) (line : Line) → size z80 line.body (tokens.tokens line.text) ≡ None → IsBad z80 line
bad_is z80 line h = by line.body refl
  where
    apart : (body : Body) (n : ℕ) → line.body ≡ body → size z80 body (tokens.tokens line.text) ≡ Some n → IsBad z80 line
    apart body n is some =
        let none : size z80 body (tokens.tokens line.text) ≡ None = ap (λ (b : Body). size z80 b (tokens.tokens line.text)) (sym is) ∙ h in
        let no : Some n ≡ None = sym some ∙ none in cc

    by : (body : Body) → line.body ≡ body → IsBad z80 line
    by bodies.Bad is = inl is
    by bodies.Instruction is = inr (
      is,
      λ long form.
          let some = form_size z80 (tokens.tokens line.text) long form in
          let none : size z80 bodies.Instruction (tokens.tokens line.text) ≡ None = ap (λ (b : Body). size z80 b (tokens.tokens line.text)) (sym is) ∙ h in
          let no : Some long ≡ None = sym some ∙ none in cc,
    )
    by bodies.Words is = apart bodies.Words (2 * count (tokens.tokens line.text)) is refl
    by bodies.Bytes is = apart bodies.Bytes (count (tokens.tokens line.text)) is refl
    by bodies.Nothing is = apart bodies.Nothing 0 is refl
    by (bodies.Org place) is = apart (bodies.Org place) 0 is refl
    by bodies.Main is = apart bodies.Main 0 is refl
    by (bodies.Sub at) is = apart (bodies.Sub at) 0 is refl
