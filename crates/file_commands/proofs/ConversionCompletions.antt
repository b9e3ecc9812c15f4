-- The outcome without a fault and with enough memory.
use Rattle.std.proofs.Common.{◌≡◌, ◌∙◌, ◌⊎◌, inl, inr, ℕ, ◌<◌, Bool, cond, List, [], length, Option, Some, None, ap, sym, refl}
use Rattle.std.specs.Prelude.{IsSomeAnd, unwrap_or}
use Rattle.std.proofs.lemmas.Bool.{le-ltb, lt-ltb}
use Rattle.md_outer.specs.Outside.{DepotState, Rose, bytes_of}
use Rattle.md_vgm.specs.Outcomes as outcomes
use Rattle.md_vgm.specs.Outcomes.{Outcome}
use Rattle.md_vgm.proofs.Outcomes.{made_once, played_once}
use Rattle.md_args.specs.Words.{Conversion}
use Rattle.md_args.specs.declared.convert_words.Product.{Product}
use Rattle.md_args.specs.declared.convert_words.Product.TheVariants.{Vgm, Sound}
use Rattle.file_commands.specs.Conversions.{HasCause, IsFound, IsOutcome, completes_with, limit, made_completion, right_completion}
use Rattle.file_commands.specs.declared.converted.Converted.{Converted}
use Rattle.file_commands.specs.declared.converted.Converted.TheVariants.{Made, Unread, TooLong, Refused, Unwritten, NoMemory}

-- bytes have one outcome alone
once : (product : Product) (pal : Bool) (bytes : List ℕ) (first second : Outcome) → completes_with product pal bytes first → completes_with product pal bytes second → first ≡ second
once Vgm pal bytes first second is is' = made_once pal bytes first second is is'
once Sound pal bytes first second is is' = played_once pal bytes first second is is'

found_right : (conversion : Conversion) (input : Option (List ℕ)) (found outcome : Outcome) → IsFound conversion input found → IsOutcome conversion (unwrap_or input []) outcome
    → made_completion found ≡ right_completion input outcome
found_right conversion None found outcome is known = absurd is
found_right conversion (Some bytes) found outcome is known =
    ap made_completion (once conversion.product conversion.pal bytes found outcome is.1 known)
    ∙ sym (ap (λ (long : Bool). cond long TooLong (made_completion outcome)) (le-ltb limit (length bytes) is.0))

long_right : (input : Option (List ℕ)) (outcome : Outcome) → IsSomeAnd input (λ bytes. limit < length bytes) → TooLong ≡ right_completion input outcome
long_right None outcome long = absurd long
long_right (Some bytes) outcome long = sym (ap (λ (too_long : Bool). cond too_long TooLong (made_completion outcome)) (lt-ltb limit (length bytes) long))

pub right : (observable : Type 0) (conversion : Conversion) (old new : DepotState) (completion : Converted) (outcome : Outcome) → observable
    → ¬ Rose old.read_faults new.read_faults → ¬ Rose old.write_faults new.write_faults
    → HasCause observable conversion old new completion → IsOutcome conversion (bytes_of old.files conversion.input) outcome
    → (completion ≡ right_completion (old.files conversion.input) outcome) ⊎ (completion ≡ NoMemory)
right observable conversion old new (Made size) outcome t reads writes cause known =
    let made = cause t in
    inl (ap Made made.2 ∙ found_right conversion (old.files conversion.input) (outcomes.Made made.0) outcome made.1.0 known)
right observable conversion old new Unread outcome t reads writes (inl rose) known = absurd (reads rose)
right observable conversion old new Unread outcome t reads writes (inr missing) known = inl (sym (ap (λ (input : Option (List ℕ)). right_completion input outcome) missing.1))
right observable conversion old new TooLong outcome t reads writes cause known = inl (long_right (old.files conversion.input) outcome (cause t))
right observable conversion old new (Refused fault) outcome t reads writes cause known =
    inl (found_right conversion (old.files conversion.input) (outcomes.Failed fault) outcome (cause t) known)
right observable conversion old new Unwritten outcome t reads writes cause known = absurd (writes cause.0)
right observable conversion old new NoMemory outcome t reads writes cause known = inr refl
