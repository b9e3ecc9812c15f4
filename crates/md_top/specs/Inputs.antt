-- What the input files of a run hold, and why they are not read.
use Rattle.std.specs.Prelude.{◌≡◌, ◌⊎◌, ℕ, ◌<◌, ◌≤◌, List, length, Option, Some, None, IsSomeAnd}
use Rattle.rom_header.specs.Cartridge.{fault_of, image}
use Rattle.rom_header.specs.declared.cart.CartFault.{CartFault}
use Rattle.rom_header.specs.declared.cart.CartFault.TheVariants as fault
use Rattle.md_outer.specs.Outside.{DepotState, Files, Rose, bytes_of}
use Rattle.md_pads.specs.Recording.{InvalidAt, Recorded, Spells, no_frames}
use Rattle.md_args.specs.Files.{input_of}
use Rattle.md_args.specs.Words.{Command, Run}
use Rattle.md_args.specs.declared.files.Input.{Input}
use Rattle.md_args.specs.declared.files.Input.TheVariants.{First, Recording}
use Rattle.md_top.specs.declared.command_outcome.CommandOutcome.{CommandOutcome}
use Rattle.md_top.specs.declared.command_outcome.CommandOutcome.TheVariants.{ReadFault, Short, NoMark, RecordingInvalid, Memory, TooLong}
use Rattle.run_command.specs.declared.inputs.Inputs.{Inputs}

-- Why each outcome may come. What a file holds is spoken of where the depot's contents are observable. Each cause says
-- that none of the earlier ones holds.

-- the file of this name could not be read: a count of faults rose, or the depot tells its contents and holds no such file
abbrev pub IsUnread : Type 0 → List ℕ → DepotState → DepotState → Type 0
IsUnread observable name old new = Rose old.read_faults new.read_faults ⊎ (observable × (old.files name ≡ None))

-- it is longer than the limit
abbrev pub IsTooLong : Type 0 → ℕ → List ℕ → DepotState → Type 0
IsTooLong observable limit name old = observable → IsSomeAnd (old.files name) (λ bytes. limit < length bytes)

-- THE CARTRIDGE

-- the greatest length of a cartridge's file
abbrev pub cart_limit : ℕ
cart_limit = 4194304

-- the cartridge is held, within its limit and accepted
abbrev pub IsAccepted : Option (List ℕ) → Type 0
IsAccepted file = IsSomeAnd file (λ bytes. (length bytes ≤ cart_limit) × (fault_of bytes ≡ None))

-- the image of the cartridge of this name
abbrev pub cart_of : List ℕ → Files → List ℕ
cart_of rom files = image (bytes_of files rom)

-- what a command results in whose cartridge is not accepted
abbrev pub refusal_of : CartFault → CommandOutcome
refusal_of fault.Short = Short
refusal_of fault.Long = TooLong First
refusal_of fault.NoMark = NoMark
refusal_of fault.NoMemory = Memory

-- why the cartridge of this name is not there
abbrev pub CartCause : Type 0 → List ℕ → DepotState → DepotState → CommandOutcome → Type 0
CartCause observable rom old new (ReadFault First) = IsUnread observable rom old new
CartCause observable rom old new (TooLong First) = IsTooLong observable cart_limit rom old
CartCause observable rom old new Short = observable → IsSomeAnd (old.files rom) (λ bytes. (length bytes ≤ cart_limit) × (fault_of bytes ≡ Some fault.Short))
CartCause observable rom old new NoMark = observable → IsSomeAnd (old.files rom) (λ bytes. (length bytes ≤ cart_limit) × (fault_of bytes ≡ Some fault.NoMark))
CartCause observable rom old new Memory = Unit {0}
CartCause observable rom old new command_outcome = ⊥

-- THE RECORDING

-- the greatest length of a recording's file
abbrev pub recording_limit : ℕ
recording_limit = 4194318

-- the recording of a run: it has no frames where none is named, and else those that its file spells
abbrev pub Records : Option (List ℕ) → Files → Recorded → Type 0
Records None files recording = recording ≡ no_frames
Records (Some name) files recording = IsSomeAnd (files name) (λ bytes. (length bytes ≤ recording_limit) × Spells bytes recording)

-- why the recording of this name is not there
abbrev pub RecordingCause : Type 0 → Option (List ℕ) → DepotState → DepotState → CommandOutcome → Type 0
RecordingCause observable (Some name) old new (ReadFault Recording) = IsUnread observable name old new
RecordingCause observable (Some name) old new (TooLong Recording) = IsTooLong observable recording_limit name old
RecordingCause observable (Some name) old new (RecordingInvalid place) = observable → IsSomeAnd (old.files name) (λ bytes. (length bytes ≤ recording_limit) × InvalidAt bytes place)
RecordingCause observable (Some name) old new Memory = Unit {0}
RecordingCause observable name old new command_outcome = ⊥

-- what the bytes of a recording's file are found to be: the spelling of this recording, or invalid at an
-- offset
pub data Verdict : Type 0 where
  Spelled : Recorded → Verdict
  Unspelled : ℕ → Verdict

-- the bytes are so
abbrev pub IsVerdict : List ℕ → Verdict → Type 0
IsVerdict bytes (Spelled recording) = Spells bytes recording
IsVerdict bytes (Unspelled place) = InvalidAt bytes place

-- the bytes of the recording of this name are so, if one is named
abbrev pub IsValidated : Option (List ℕ) → Files → Verdict → Type 0
IsValidated None files verdict = Unit {0}
IsValidated (Some name) files verdict = IsVerdict (bytes_of files name) verdict

-- BOTH

-- the inputs of a run are those that its files hold
pub record AreInputs (run : Run) (files : Files) (inputs : Inputs) : Type 0 where
  pub accepted : IsAccepted (files run.rom)
  pub cart : inputs.cart ≡ cart_of run.rom files
  pub recording : Records run.recording files inputs.recording
  pub pal : inputs.pal ≡ run.pal

-- why the inputs of a run are not there
abbrev pub InputCause : Type 0 → Run → DepotState → DepotState → CommandOutcome → Type 0
InputCause observable run old new (ReadFault Recording) = (observable → IsAccepted (old.files run.rom)) × RecordingCause observable run.recording old new (ReadFault Recording)
InputCause observable run old new (TooLong Recording) = (observable → IsAccepted (old.files run.rom)) × RecordingCause observable run.recording old new (TooLong Recording)
InputCause observable run old new (RecordingInvalid place) = (observable → IsAccepted (old.files run.rom)) × RecordingCause observable run.recording old new (RecordingInvalid place)
InputCause observable run old new command_outcome = CartCause observable run.rom old new command_outcome

-- an input of the command is not held
abbrev pub IsMissing : Command → Files → Type 0
IsMissing command files = (which : Input) × IsSomeAnd (input_of command which) (λ name. files name ≡ None)
