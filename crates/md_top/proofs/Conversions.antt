-- What an outcome says of a conversion, and the outcome without a fault.
use Rattle.std.proofs.Common.{◌≡◌, ◌≢◌, ◌⊎◌, inl, inr, ℕ, Bool, cond, List, [], length, Option, Some, None, refl, ap, ◌∙◌}
use Rattle.std.specs.Prelude.{unwrap_or}
use Rattle.std.proofs.lemmas.Bool.{le-ltb}
use Rattle.md_outer.specs.Outside.{DepotState, Files, Rose}
use Rattle.md_outer.proofs.WrittenFiles.{with_file-other}
use Rattle.md_vgm.specs.Outcomes.{Made, Outcome}
use Rattle.md_args.specs.Words.{Conversion, Convert}
use Rattle.md_args.specs.declared.files.Input.TheVariants.{First}
use Rattle.md_args.specs.declared.files.Output.TheVariants.{Target}
use Rattle.file_commands.specs.Conversions as files
use Rattle.file_commands.specs.Conversions.{IsFound, IsOutcome, limit}
use Rattle.file_commands.proofs.ConversionCompletions.{right}
use Rattle.file_commands.specs.declared.converted.Converted.{Converted as Completion}
use Rattle.file_commands.specs.declared.converted.Converted.TheVariants as converted
use Rattle.md_top.specs.Conversions.{ConvertEnds, ConvertFiles, as_command_outcome, convert_command_outcome}
use Rattle.md_top.specs.CommandOutcomes.{status_of}
use Rattle.md_top.specs.declared.command_outcome.CommandOutcome.{CommandOutcome}
use Rattle.md_top.specs.declared.command_outcome.CommandOutcome.TheVariants.{Converted, InputRefused, Memory, ReadFault, TooLong, WriteFault}
use Rattle.md_top.proofs.Statuses.{Says, missing}

module _ (observable : Type 0) (conversion : Conversion) (old new : DepotState) where
  abbrev Ends : CommandOutcome → Type 0
  Ends command_outcome = ConvertEnds observable conversion old new command_outcome

  -- what its outcomes say
  pub convert_says : (command_outcome : CommandOutcome) → Ends command_outcome → Says observable (Convert conversion) old new command_outcome
  convert_says (Converted size) cause = tt
  convert_says (ReadFault First) cause = missing observable (Convert conversion) old.files (λ none. (First, none)) cause
  convert_says (TooLong First) cause = tt
  convert_says (InputRefused fault) cause = (fault, cause)
  convert_says (WriteFault Target) cause = cause.0
  convert_says Memory cause = tt
  convert_says _ cause = absurd cause

  -- without a fault the outcome is the right one, or memory runs out
  as_right : (outcome : Outcome) (completion : Completion) → (completion ≡ files.right_completion (old.files conversion.input) outcome) ⊎ (completion ≡ converted.NoMemory)
      → (status_of (as_command_outcome completion) ≡ status_of (convert_command_outcome conversion old.files outcome)) ⊎ (status_of (as_command_outcome completion) ≡ 10)
  as_right outcome completion (inl is) = inl (ap (λ (c : Completion). status_of (as_command_outcome c)) is)
  as_right outcome completion (inr is) = inr (ap (λ (c : Completion). status_of (as_command_outcome c)) is)

  pub convert_right : (outcome : Outcome) (command_outcome : CommandOutcome) → Ends command_outcome → IsOutcome conversion (unwrap_or (old.files conversion.input) []) outcome
      → ¬ Rose old.read_faults new.read_faults → ¬ Rose old.write_faults new.write_faults → observable
      → (status_of command_outcome ≡ status_of (convert_command_outcome conversion old.files outcome)) ⊎ (status_of command_outcome ≡ 10)
  convert_right outcome (Converted size) cause known reads writes t =
      as_right outcome (converted.Made size) (right observable conversion old new (converted.Made size) outcome t reads writes cause known)
  convert_right outcome (ReadFault First) cause known reads writes t = as_right outcome converted.Unread (right observable conversion old new converted.Unread outcome t reads writes cause known)
  convert_right outcome (TooLong First) cause known reads writes t = as_right outcome converted.TooLong (right observable conversion old new converted.TooLong outcome t reads writes cause known)
  convert_right outcome (InputRefused fault) cause known reads writes t =
      as_right outcome (converted.Refused fault) (right observable conversion old new (converted.Refused fault) outcome t reads writes cause known)
  convert_right outcome (WriteFault Target) cause known reads writes t = absurd (writes cause.0)
  convert_right outcome Memory cause known reads writes t = inr refl
  convert_right outcome _ cause known reads writes t = absurd cause

-- an input that is accepted
pub made_outcome : (conversion : Conversion) (input : Option (List ℕ)) (made : List ℕ) → IsFound conversion input (Made made)
    → IsOutcome conversion (unwrap_or input []) (Made made)
made_outcome conversion None made found = absurd found
made_outcome conversion (Some bytes) made found = found.1

pub convert_done : (conversion : Conversion) (input : Option (List ℕ)) (made : List ℕ) → IsFound conversion input (Made made)
    → status_of (as_command_outcome (files.right_completion input (Made made))) ≡ 0
convert_done conversion None made found = absurd found
convert_done conversion (Some bytes) made found =
    ap (λ (long : Bool). status_of (as_command_outcome (cond long converted.TooLong (converted.Made (length made))))) (le-ltb limit (length bytes) found.0)

-- the files of other names than the output's
pub converted_other : (conversion : Conversion) (old new : Files) (command_outcome : CommandOutcome) → ConvertFiles conversion old new command_outcome → (name : List ℕ) → conversion.output ≢ name → new name ≡ old name
converted_other conversion old new (Converted size) leaves name differ =
    ap (λ (held : Files). held name) leaves.3 ∙ with_file-other old conversion.output leaves.0 name differ
converted_other conversion old new (WriteFault Target) (inl same) name differ = ap (λ (held : Files). held name) same
converted_other conversion old new (WriteFault Target) (inr part) name differ =
    ap (λ (held : Files). held name) part.4 ∙ with_file-other old conversion.output part.1 name differ
converted_other conversion old new _ leaves name differ = ap (λ (held : Files). held name) leaves
