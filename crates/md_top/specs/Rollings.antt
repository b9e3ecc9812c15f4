-- How a session of two players ends: its causes and what is put.
use Rattle.std.specs.Prelude.{◌≢◌, ℕ, ◌≤◌, List, ◌++◌, length, codes, decimal, Option, Some, None, IsSomeAnd}
use Rattle.hex.specs.Hex.{encode_lower}
use Rattle.md_outer.specs.Outside.{DepotState, Files, bytes_of}
use Rattle.md_args.specs.Words.{Rolling}
use Rattle.md_args.specs.declared.files.Input.TheVariants.{Script}
use Rattle.md_rollback.specs.declared.line_fault.LineFault.{LineFault}
use Rattle.md_rollback.specs.declared.line_fault.LineFault.TheVariants as faults
use Rattle.md_rollback.specs.Rolls.{CompletesWith}
use Rattle.md_rollback.specs.declared.rolled.Completion.{Completion}
use Rattle.md_rollback.specs.declared.rolled.Completion.TheVariants as completion
use Rattle.md_rollback.specs.declared.rolled.Rolled.{Rolled}
use Rattle.md_top.specs.Inputs.{CartCause, IsAccepted, IsTooLong, IsUnread, cart_of}
use Rattle.md_top.specs.declared.command_outcome.CommandOutcome.{CommandOutcome}
use Rattle.md_top.specs.declared.command_outcome.CommandOutcome.TheVariants.{LineRefused, Memory, ReadFault, RolledBack, TooLong}

-- the greatest length of what two players press
abbrev pub inputs_limit : ℕ
inputs_limit = 4194304

-- the end of a line that is refused
abbrev pub line_fault_text : LineFault → List ℕ
line_fault_text faults.Unread = codes ": unread\n"
line_fault_text faults.Far = codes ": far\n"
line_fault_text faults.Given = codes ": given\n"
line_fault_text faults.Buttons = codes ": buttons\n"
line_fault_text faults.Waiting = codes ": waiting\n"
line_fault_text faults.Ended = codes ": ended\n"

-- the line of a refusal
abbrev pub inputs_line : ℕ → LineFault → List ℕ
inputs_line line fault = codes "refused: inputs line " ++ decimal line ++ line_fault_text fault

-- how many frames were made, and how many are confirmed
abbrev pub counts_lines : Rolled → List ℕ
counts_lines rolled = (codes "frames " ++ decimal rolled.frames ++ codes "\n") ++ (codes "confirmed " ++ decimal rolled.confirmed ++ codes "\n")

-- what is put of a session
abbrev pub rolled_lines : Rolled → List ℕ
rolled_lines rolled = counts_lines rolled ++ (codes "state sha256 " ++ encode_lower rolled.digest ++ codes "\n")

-- what the lines result in, as an outcome
abbrev pub completion_outcome : Completion → CommandOutcome
completion_outcome (completion.Done rolled) = RolledBack rolled
completion_outcome (completion.Refused line fault) = LineRefused line fault
completion_outcome completion.NoMemory = Memory

-- the cartridge is accepted and the file held, within its limit; its lines result in this
abbrev pub IsRolledTo : Rolling → Files → Completion → Type 0
IsRolledTo words held outcome =
    IsAccepted (held words.rom) × IsSomeAnd (held words.inputs) (λ inputs. (length inputs ≤ inputs_limit) × CompletesWith (cart_of words.rom held) words.window inputs outcome)

-- Why a session ends. Each cause says that none of the earlier ones holds.
abbrev pub RollEnds : Type 0 → Rolling → DepotState → DepotState → CommandOutcome → Type 0
RollEnds observable words old new (RolledBack rolled) = observable → IsRolledTo words old.files (completion.Done rolled)
RollEnds observable words old new (LineRefused line fault) = observable → IsRolledTo words old.files (completion.Refused line fault)
RollEnds observable words old new (ReadFault Script) = (observable → IsAccepted (old.files words.rom)) × IsUnread observable words.inputs old new
RollEnds observable words old new (TooLong Script) = (observable → IsAccepted (old.files words.rom)) × IsTooLong observable inputs_limit words.inputs old
RollEnds observable words old new command_outcome = CartCause observable words.rom old new command_outcome

-- the cartridge is accepted, the file is held, and each of its lines is obeyed
abbrev pub CanRoll : Rolling → Files → Type 0
CanRoll words held = (rolled : Rolled) × IsRolledTo words held (completion.Done rolled)

-- a line is the first that is refused
abbrev pub IsRefusedLine : Type 0 → Rolling → Files → Type 0
IsRefusedLine observable words held = (line : ℕ) × (fault : LineFault) × (observable → IsRolledTo words held (completion.Refused line fault))

-- the lines of a session result in this, if one is asked for, with memory for all of them
abbrev pub IsRollFound : Option Rolling → Files → Completion → Type 0
IsRollFound None held outcome = Unit {0}
IsRollFound (Some words) held outcome = CompletesWith (cart_of words.rom held) words.window (bytes_of held words.inputs) outcome × (outcome ≢ completion.NoMemory)
