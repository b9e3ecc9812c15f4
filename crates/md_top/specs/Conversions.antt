-- How a conversion ends: its causes, what it leaves and what is put.
use Rattle.std.specs.Prelude.{◌≡◌, ℕ, List, ◌++◌, Option, Some, None, codes, decimal}
use Rattle.md_outer.specs.Outside.{DepotState, Files, bytes_of}
use Rattle.md_vgm.specs.Outcomes.{Failed, Outcome}
use Rattle.md_vgm.specs.declared.fault.VgmFault.{VgmFault}
use Rattle.md_vgm.specs.declared.fault.VgmFault.TheVariants.{Form, Dense, Long, NoMemory}
use Rattle.md_args.specs.Words.{Conversion}
use Rattle.md_args.specs.declared.files.Input.TheVariants.{First}
use Rattle.md_args.specs.declared.files.Output.TheVariants.{Target}
use Rattle.file_commands.specs.Conversions as files
use Rattle.file_commands.specs.Conversions.{IsFound, IsMadeOf, IsOutcome}
use Rattle.file_commands.specs.declared.converted.Converted.TheVariants as converted
use Rattle.file_commands.specs.declared.converted.Converted.{Converted as Completion}
use Rattle.md_top.specs.declared.command_outcome.CommandOutcome.{CommandOutcome}
use Rattle.md_top.specs.declared.command_outcome.CommandOutcome.TheVariants.{Converted, InputRefused, Memory, ReadFault, TooLong, WriteFault}

-- the line of an input that is refused, by the place of the fault
abbrev pub fault_line : VgmFault → List ℕ
fault_line (Form place) = codes "refused: vgm form at " ++ decimal place ++ codes "\n"
fault_line (Dense place) = codes "refused: vgm dense at " ++ decimal place ++ codes "\n"
fault_line (Long place) = codes "refused: vgm long at " ++ decimal place ++ codes "\n"
fault_line NoMemory = codes "refused: memory\n"

-- why a conversion ends
abbrev pub ConvertEnds : Type 0 → Conversion → DepotState → DepotState → CommandOutcome → Type 0
ConvertEnds observable conversion old new (Converted size) = files.HasCause observable conversion old new (converted.Made size)
ConvertEnds observable conversion old new (ReadFault First) = files.HasCause observable conversion old new converted.Unread
ConvertEnds observable conversion old new (TooLong First) = files.HasCause observable conversion old new converted.TooLong
ConvertEnds observable conversion old new (InputRefused fault) = files.HasCause observable conversion old new (converted.Refused fault)
ConvertEnds observable conversion old new (WriteFault Target) = files.HasCause observable conversion old new converted.Unwritten
ConvertEnds observable conversion old new Memory = Unit {0}
ConvertEnds observable conversion old new command_outcome = ⊥

-- what the files hold once a conversion has ended, or was refused
abbrev pub ConvertFiles : Conversion → Files → Files → CommandOutcome → Type 0
ConvertFiles conversion old new (Converted size) = files.LeavesFiles conversion old new (converted.Made size)
ConvertFiles conversion old new (WriteFault Target) = files.LeavesFiles conversion old new converted.Unwritten
ConvertFiles conversion old new command_outcome = new ≡ old

-- the input of a conversion is held, within its limit and accepted
abbrev pub CanConvert : Conversion → Files → Type 0
CanConvert conversion held = (made : List ℕ) × IsMadeOf conversion (held conversion.input) made

-- what a conversion results in, as its outcome
abbrev pub as_command_outcome : Completion → CommandOutcome
as_command_outcome (converted.Made size) = Converted size
as_command_outcome converted.Unread = ReadFault First
as_command_outcome converted.TooLong = TooLong First
as_command_outcome (converted.Refused fault) = InputRefused fault
as_command_outcome converted.Unwritten = WriteFault Target
as_command_outcome converted.NoMemory = Memory

-- the command outcome where no fault comes between and memory suffices, with this outcome of the input
abbrev pub convert_command_outcome : Conversion → Files → Outcome → CommandOutcome
convert_command_outcome conversion held outcome = as_command_outcome (files.right_completion (held conversion.input) outcome)

-- the input of a conversion results in this, if one is asked for
abbrev pub IsInputOutcome : Option Conversion → Files → Outcome → Type 0
IsInputOutcome None held outcome = Unit {0}
IsInputOutcome (Some conversion) held outcome = IsOutcome conversion (bytes_of held conversion.input) outcome

-- the input of a conversion is refused
abbrev pub IsRefusedInput : Type 0 → Conversion → Files → Type 0
IsRefusedInput observable conversion held = (fault : VgmFault) × (observable → IsFound conversion (held conversion.input) (Failed fault))
