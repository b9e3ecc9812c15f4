-- The outcome without a fault and with enough memory.
use Rattle.std.proofs.Common.{◌≡◌, ◌∙◌, ◌⊎◌, inl, inr, ℕ, ◌<◌, Bool, cond, List, length, Option, Some, None, ap, sym, refl}
use Rattle.std.specs.Prelude.{IsSomeAnd}
use Rattle.std.proofs.lemmas.Bool.{le-ltb, lt-ltb}
use Rattle.md_outer.specs.Outside.{DepotState, Rose}
use Rattle.md_asm.specs.Assembly as assembly
use Rattle.md_asm.specs.Assembly.{AssemblyOutcome}
use Rattle.md_args.specs.Words.{Assembling}
use Rattle.file_commands.specs.Assemblies.{HasCause, IsFound, limit, made_completion, right_completion}
use Rattle.file_commands.specs.declared.completion.Completion.{Completion}
use Rattle.file_commands.specs.declared.completion.Completion.TheVariants.{Made, Unread, TooLong, Refused, Unwritten, Unlisted, NoMemory}

found_right : (source : Option (List ℕ)) (found : AssemblyOutcome) → IsFound source found → made_completion found ≡ right_completion source
found_right None found is = absurd is
found_right (Some bytes) found is =
    ap made_completion (sym is.1)
    ∙ sym (ap (λ (long : Bool). cond long TooLong (made_completion (assembly.assembly bytes))) (le-ltb limit (length bytes) is.0))

long_right : (source : Option (List ℕ)) → IsSomeAnd source (λ bytes. limit < length bytes) → TooLong ≡ right_completion source
long_right None long = absurd long
long_right (Some bytes) long =
    sym (ap (λ (too_long : Bool). cond too_long TooLong (made_completion (assembly.assembly bytes))) (lt-ltb limit (length bytes) long))

pub right : (observable : Type 0) (words : Assembling) (old new : DepotState) (completion : Completion) → observable
    → ¬ Rose old.read_faults new.read_faults → ¬ Rose old.write_faults new.write_faults
    → HasCause observable words old new completion → (completion ≡ right_completion (old.files words.source)) ⊎ (completion ≡ NoMemory)
right observable words old new (Made size) t reads writes cause =
    let made = cause t in
    inl (ap Made made.3 ∙ found_right (old.files words.source) (assembly.Done made.0 made.1) made.2)
right observable words old new Unread t reads writes (inl rose) = absurd (reads rose)
right observable words old new Unread t reads writes (inr missing) = inl (sym (ap right_completion missing.1))
right observable words old new TooLong t reads writes cause = inl (long_right (old.files words.source) (cause t))
right observable words old new (Refused line kind) t reads writes cause =
    inl (found_right (old.files words.source) (assembly.Failed line kind) (cause t).0)
right observable words old new Unwritten t reads writes cause = absurd (writes cause.0)
right observable words old new Unlisted t reads writes cause = absurd (writes cause.0)
right observable words old new NoMemory t reads writes cause = inr refl
