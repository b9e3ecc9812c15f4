-- What an outcome says of an assembly, and the outcome without a fault.
use Rattle.std.proofs.Common.{◌≡◌, ◌≢◌, ◌⊎◌, inl, inr, ℕ, Bool, cond, List, [], length, Option, Some, None, refl, ap, ◌∙◌}
use Rattle.std.proofs.lemmas.Bool.{le-ltb}
use Rattle.md_outer.specs.Outside.{DepotState, Files, Rose, with_file}
use Rattle.md_outer.proofs.WrittenFiles.{with_file-other}
use Rattle.md_asm.specs.Assembly as assembly
use Rattle.md_asm.specs.declared.placed.Placed.{Placed}
use Rattle.md_args.specs.Words.{Assemble, Assembling}
use Rattle.md_args.specs.declared.files.Input.TheVariants.{First}
use Rattle.md_args.specs.declared.files.Output.TheVariants.{Listing, Target}
use Rattle.file_commands.specs.Assemblies as files
use Rattle.file_commands.specs.Assemblies.{HoldsParts, IsFound, LeavesEmpty, LeavesParts, limit, with_list}
use Rattle.file_commands.proofs.AssemblyCompletions.{right}
use Rattle.file_commands.specs.declared.completion.Completion.{Completion}
use Rattle.file_commands.specs.declared.completion.Completion.TheVariants as completion
use Rattle.md_top.specs.Assemblies.{AsmEnds, AsmFiles, as_command_outcome, asm_command_outcome}
use Rattle.md_top.specs.CommandOutcomes.{status_of}
use Rattle.md_top.specs.declared.command_outcome.CommandOutcome.{CommandOutcome}
use Rattle.md_top.specs.declared.command_outcome.CommandOutcome.TheVariants.{Converted, Memory, ReadFault, SourceRefused, TooLong, WriteFault}
use Rattle.md_top.proofs.Statuses.{Says, missing}

module _ (observable : Type 0) (words : Assembling) (old new : DepotState) where
  abbrev Ends : CommandOutcome → Type 0
  Ends command_outcome = AsmEnds observable words old new command_outcome

  -- what its outcomes say
  pub asm_says : (command_outcome : CommandOutcome) → Ends command_outcome → Says observable (Assemble words) old new command_outcome
  asm_says (Converted size) cause = tt
  asm_says (ReadFault First) cause = missing observable (Assemble words) old.files (λ none. (First, none)) cause
  asm_says (TooLong First) cause = tt
  asm_says (SourceRefused line kind) cause = (line, kind, cause)
  asm_says (WriteFault Target) cause = cause.0
  asm_says (WriteFault Listing) cause = cause.0
  asm_says Memory cause = tt
  asm_says _ cause = absurd cause

  -- without a fault the outcome is the right one, or memory runs out
  as_right : (ends : Completion) → (ends ≡ files.right_completion (old.files words.source)) ⊎ (ends ≡ completion.NoMemory)
      → (status_of (as_command_outcome ends) ≡ status_of (asm_command_outcome words old.files)) ⊎ (status_of (as_command_outcome ends) ≡ 10)
  as_right ends (inl is) = inl (ap (λ (c : Completion). status_of (as_command_outcome c)) is)
  as_right ends (inr is) = inr (ap (λ (c : Completion). status_of (as_command_outcome c)) is)

  pub asm_right : (command_outcome : CommandOutcome) → Ends command_outcome → ¬ Rose old.read_faults new.read_faults → ¬ Rose old.write_faults new.write_faults → observable
      → (status_of command_outcome ≡ status_of (asm_command_outcome words old.files)) ⊎ (status_of command_outcome ≡ 10)
  asm_right (Converted size) cause reads writes t = as_right (completion.Made size) (right observable words old new (completion.Made size) t reads writes cause)
  asm_right (ReadFault First) cause reads writes t = as_right completion.Unread (right observable words old new completion.Unread t reads writes cause)
  asm_right (TooLong First) cause reads writes t = as_right completion.TooLong (right observable words old new completion.TooLong t reads writes cause)
  asm_right (SourceRefused line kind) cause reads writes t =
      as_right (completion.Refused line kind) (right observable words old new (completion.Refused line kind) t reads writes cause)
  asm_right (WriteFault Target) cause reads writes t = absurd (writes cause.0)
  asm_right (WriteFault Listing) cause reads writes t = absurd (writes cause.0)
  asm_right Memory cause reads writes t = inr refl
  asm_right _ cause reads writes t = absurd cause

-- a source at no fault
pub asm_done : (source : Option (List ℕ)) (image : List ℕ) (lines : List Placed) → IsFound source (assembly.Done image lines)
    → status_of (as_command_outcome (files.right_completion source)) ≡ 0
asm_done None image lines found = absurd found
asm_done (Some bytes) image lines found =
    ap (λ (long : Bool). status_of (as_command_outcome (cond long completion.TooLong (files.made_completion (assembly.assembly bytes))))) (le-ltb limit (length bytes) found.0)
    ∙ ap (λ (outcome : assembly.AssemblyOutcome). status_of (as_command_outcome (files.made_completion outcome))) found.1

-- the files of other names than the outputs'
list_other : (held : Files) (list : Option (List ℕ)) (bytes name : List ℕ) → list ≢ Some name → with_list list held bytes name ≡ held name
list_other held None bytes name differ = refl
list_other held (Some output) bytes name differ = with_file-other held output bytes name (λ same. differ (ap Some same))

both_other : (words : Assembling) (held : Files) (image list name : List ℕ) → words.output ≢ name → words.list ≢ Some name
    → with_list words.list (with_file held words.output image) list name ≡ held name
both_other words held image list name differ apart =
    list_other (with_file held words.output image) words.list list name apart ∙ with_file-other held words.output image name differ

holds_other : (words : Assembling) (old new : Files) (image list : List ℕ) → HoldsParts words old new image list
    → (name : List ℕ) → words.output ≢ name → words.list ≢ Some name → new name ≡ old name
holds_other words old new image list (inl part) name differ apart = ap (λ (held : Files). held name) part.2 ∙ with_file-other old words.output part.0 name differ
holds_other words old new image list (inr parts) name differ apart =
    ap (λ (held : Files). held name) parts.4 ∙ both_other words old parts.0 parts.1 name differ apart

parts_other : (words : Assembling) (old new : Files) → LeavesParts words old new
    → (name : List ℕ) → words.output ≢ name → words.list ≢ Some name → new name ≡ old name
parts_other words old new (inl same) name differ apart = ap (λ (held : Files). held name) same
parts_other words old new (inr (image, lines, found, holds)) name differ apart = holds_other words old new image _ holds name differ apart

emptied_other : (words : Assembling) (old new : Files) → LeavesEmpty words old new → (name : List ℕ) → words.output ≢ name → new name ≡ old name
emptied_other words old new (inl same) name differ = ap (λ (held : Files). held name) same
emptied_other words old new (inr (image, lines, found, is)) name differ = ap (λ (held : Files). held name) is ∙ with_file-other old words.output [] name differ

pub assembled_other : (words : Assembling) (old new : Files) (command_outcome : CommandOutcome) → AsmFiles words old new command_outcome
    → (name : List ℕ) → words.output ≢ name → words.list ≢ Some name → new name ≡ old name
assembled_other words old new (Converted size) (image, lines, found, long, leaves, said) name differ apart =
    ap (λ (held : Files). held name) leaves ∙ both_other words old image _ name differ apart
assembled_other words old new (WriteFault Target) leaves name differ apart = parts_other words old new leaves name differ apart
assembled_other words old new (WriteFault Listing) leaves name differ apart = parts_other words old new leaves name differ apart
assembled_other words old new Memory leaves name differ apart = emptied_other words old new leaves name differ
assembled_other words old new _ leaves name differ apart = ap (λ (held : Files). held name) leaves
