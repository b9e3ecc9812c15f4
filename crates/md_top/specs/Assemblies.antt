-- How an assembly ends: its causes, what it leaves and what is put.
use Rattle.std.specs.Prelude.{◌≡◌, ℕ, ◌==◌, if◌then◌else◌, List, ◌++◌, codes, decimal}
use Rattle.md_outer.specs.Outside.{DepotState, Files}
use Rattle.md_asm.specs.Assembly as assembly
use Rattle.md_asm.specs.declared.placed.Placed.{Placed}
use Rattle.md_args.specs.Words.{Assembling}
use Rattle.md_args.specs.declared.files.Input.TheVariants.{First}
use Rattle.md_args.specs.declared.files.Output.TheVariants.{Listing, Target}
use Rattle.file_commands.specs.Assemblies as files
use Rattle.file_commands.specs.Assemblies.{IsAtFault, IsFound}
use Rattle.file_commands.specs.declared.completion.Completion.TheVariants as completion
use Rattle.file_commands.specs.declared.completion.Completion.{Completion}
use Rattle.md_top.specs.declared.command_outcome.CommandOutcome.{CommandOutcome}
use Rattle.md_top.specs.declared.command_outcome.CommandOutcome.TheVariants.{Converted, Memory, ReadFault, SourceRefused, TooLong, WriteFault}

-- the end of the line of a source that is refused, by the kind of its fault
abbrev pub kind_text : ℕ → List ℕ
kind_text kind =
    if kind == 1 then codes ": bad line\n"
    else if kind == 2 then codes ": bad number\n"
    else if kind == 3 then codes ": twice\n"
    else if kind == 4 then codes ": odd\n"
    else if kind == 5 then codes ": overlap\n"
    else if kind == 6 then codes ": too large\n"
    else if kind == 7 then codes ": unknown name\n"
    else if kind == 8 then codes ": does not fit\n"
    else codes ": far\n"

-- the line of a source that is refused
abbrev pub source_line : ℕ → ℕ → List ℕ
source_line line kind = codes "refused: source line " ++ decimal line ++ kind_text kind

-- why an assembly ends
abbrev pub AsmEnds : Type 0 → Assembling → DepotState → DepotState → CommandOutcome → Type 0
AsmEnds observable words old new (Converted size) = files.HasCause observable words old new (completion.Made size)
AsmEnds observable words old new (ReadFault First) = files.HasCause observable words old new completion.Unread
AsmEnds observable words old new (TooLong First) = files.HasCause observable words old new completion.TooLong
AsmEnds observable words old new (SourceRefused line kind) = files.HasCause observable words old new (completion.Refused line kind)
AsmEnds observable words old new (WriteFault Target) = files.HasCause observable words old new completion.Unwritten
AsmEnds observable words old new (WriteFault Listing) = files.HasCause observable words old new completion.Unlisted
AsmEnds observable words old new Memory = Unit {0}
AsmEnds observable words old new command_outcome = ⊥

-- what the files hold once an assembly has ended, or was refused
abbrev pub AsmFiles : Assembling → Files → Files → CommandOutcome → Type 0
AsmFiles words old new (Converted size) = files.LeavesFiles words old new (completion.Made size)
AsmFiles words old new (WriteFault Target) = files.LeavesFiles words old new completion.Unwritten
AsmFiles words old new (WriteFault Listing) = files.LeavesFiles words old new completion.Unlisted
AsmFiles words old new Memory = files.LeavesFiles words old new completion.NoMemory
AsmFiles words old new command_outcome = new ≡ old

-- the source is held, within its limit and at no fault
abbrev pub CanAssemble : Assembling → Files → Type 0
CanAssemble words held = (image : List ℕ) × (lines : List Placed) × IsFound (held words.source) (assembly.Done image lines)

-- what an assembly results in, as its outcome
abbrev pub as_command_outcome : Completion → CommandOutcome
as_command_outcome (completion.Made size) = Converted size
as_command_outcome completion.Unread = ReadFault First
as_command_outcome completion.TooLong = TooLong First
as_command_outcome (completion.Refused line kind) = SourceRefused line kind
as_command_outcome completion.Unwritten = WriteFault Target
as_command_outcome completion.Unlisted = WriteFault Listing
as_command_outcome completion.NoMemory = Memory

-- the outcome where no fault comes between and memory suffices
abbrev pub asm_command_outcome : Assembling → Files → CommandOutcome
asm_command_outcome words held = as_command_outcome (files.right_completion (held words.source))

-- a line of the source is refused
abbrev pub IsRefusedSource : Type 0 → Assembling → Files → Type 0
IsRefusedSource observable words held = (line : ℕ) × (kind : ℕ) × (observable → IsAtFault (held words.source) line kind)
