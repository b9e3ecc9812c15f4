-- Lines that are kept, and what a line without names results in.
use Rattle.std.proofs.Common.{◌≡◌, ℕ, ◌==◌, Bool, true, false, List, [], ◌∷◌, ◌++◌, length, Option, Some, None, refl, ◌∙◌, ap, if◌then◌else◌}
use Rattle.std.proofs.lemmas.Bool.{eqb-true}
use Rattle.md_asm_text.specs.Tokens as tokens
use Rattle.md_asm_text.specs.Tokens.{Token}
use Rattle.md_asm_text.specs.declared.body.Body.{Body}
use Rattle.md_asm.specs.Contents.{Far, Good, Unfit, Unknown, content, is_unfit, settled_line, sized}
use Rattle.md_asm.specs.Numbers.{Names, has_name, resolved}
use Rattle.md_asm.specs.Kept.{AreKept, SettlesOn, IsKept}
use Rattle.md_asm.specs.declared.entry.Entry.{Entry}

-- one line more is kept
pub kept_more : (entries : List Entry) (entry : Entry) → AreKept entries → IsKept entry → AreKept (entries ++ entry ∷ [])
kept_more [] entry kept is = (is, tt)
kept_more (e ∷ es) entry kept is = (kept.0, kept_more es entry kept.1 is)

-- tokens without names are as they are, whatever names mean
pub resolved_plain : (names : Names) (line_tokens : List Token) → has_name line_tokens ≡ false → resolved names line_tokens ≡ line_tokens
unfolding has_name
resolved_plain names [] none = refl
resolved_plain names (tokens.Word w ∷ ps) none = ap (λ (l : List Token). tokens.Word w ∷ l) (resolved_plain names ps none)
resolved_plain names (tokens.Number n ∷ ps) none = ap (λ (l : List Token). tokens.Number n ∷ l) (resolved_plain names ps none)
resolved_plain names (tokens.Name w ∷ ps) none = cc
resolved_plain names (tokens.Mark c ∷ ps) none = ap (λ (l : List Token). tokens.Mark c ∷ l) (resolved_plain names ps none)

-- what a line without names results in does not depend on them
pub settles_without_names : (sub : Bool) (body : Body) (long : ℕ) (line_tokens : List Token) (at : ℕ) (bytes : List ℕ) → has_name line_tokens ≡ false
    → settled_line sub body long line_tokens at ≡ Good bytes → SettlesOn sub body long line_tokens at bytes
settles_without_names sub body long line_tokens at bytes none is names =
    ap (λ (l : List Token). settled_line sub body long l at) (resolved_plain names line_tokens none) ∙ is

-- the bytes of a line have its length
sized_by : (long : ℕ) (own bytes : List ℕ) (b : Bool) → (length own == long) ≡ b → (if b then Good own else Far) ≡ Good bytes → length bytes ≡ long
sized_by long own bytes true same is =
    let e : own ≡ bytes = cc in rw (← e) (eqb-true (length own) long same)
sized_by long own bytes false same is = cc

sized_long : (long : ℕ) (found : Option (List ℕ)) (bytes : List ℕ) → sized long found ≡ Good bytes → length bytes ≡ long
sized_long long None bytes is = cc
sized_long long (Some own) bytes is = sized_by long own bytes (length own == long) refl is

chosen : (b c : Bool) (long : ℕ) (found : Option (List ℕ)) (bytes : List ℕ)
    → (if b then Unknown else (if c then Unfit else sized long found)) ≡ Good bytes → length bytes ≡ long
chosen true c long found bytes is = cc
chosen false true long found bytes is = cc
chosen false false long found bytes is = sized_long long found bytes is

pub settled_long : (sub : Bool) (body : Body) (long : ℕ) (line_tokens : List Token) (at : ℕ) (bytes : List ℕ)
    → settled_line sub body long line_tokens at ≡ Good bytes → length bytes ≡ long
settled_long sub body long line_tokens at bytes is =
    chosen (has_name line_tokens) (is_unfit sub body line_tokens) long (content sub body line_tokens at) bytes is

pub settles_long : (sub : Bool) (body : Body) (long : ℕ) (line_tokens : List Token) (at : ℕ) (bytes : List ℕ) → SettlesOn sub body long line_tokens at bytes
    → length bytes ≡ long
settles_long sub body long line_tokens at bytes settles = settled_long sub body long (resolved (λ name. None) line_tokens) at bytes (settles (λ name. None))
