-- Where a run begins: at power-on, or where a saved state was kept, and why that is not read.
use Rattle.std.specs.Prelude.{◌≡◌, ℕ, ◌<◌, ◌≤◌, List, length, Option, Some, None, IsSomeAnd}
use Rattle.md_outer.specs.Outside.{DepotState, Files, bytes_of}
use Rattle.md_pads.specs.Recording.{Recorded, no_frames}
use Rattle.md_chips.specs.Starts.{Start}
use Rattle.state_laws.specs.Verdicts.{IsStateVerdict, Keeps, OfOther, StateVerdict, StateInvalidAt}
use Rattle.md_args.specs.Words.{Run}
use Rattle.md_args.specs.declared.files.Input.TheVariants.{State}
use Rattle.md_top.specs.Inputs.{AreInputs, IsTooLong, IsUnread, Spelled, Verdict, cart_of}
use Rattle.run_command.specs.Runs.{powered_on}
use Rattle.md_top.specs.declared.command_outcome.CommandOutcome.{CommandOutcome}
use Rattle.md_top.specs.declared.command_outcome.CommandOutcome.TheVariants.{ReadFault, StateInvalid, OtherCart, Memory, TooLong}
use Rattle.run_command.specs.declared.inputs.Inputs.{Inputs}

-- the greatest length of a saved state's file
abbrev pub state_limit : ℕ
state_limit = 2097152

-- with the inputs of a run the bytes of a saved state's file are so
abbrev pub IsFound : Inputs → List ℕ → StateVerdict → Type 0
IsFound inputs bytes verdict = IsStateVerdict inputs.cart inputs.recording bytes verdict

-- a file is held, within its limit and found to be so
abbrev pub IsFoundIn : Option (List ℕ) → Inputs → StateVerdict → Type 0
IsFoundIn file inputs verdict = IsSomeAnd file (λ bytes. (length bytes ≤ state_limit) × IsFound inputs bytes verdict)

-- a run with these inputs begins there: at power-on where no state is named, and else at what it keeps
abbrev pub BeginsWith : Option (List ℕ) → Files → Inputs → Start → Type 0
BeginsWith None files inputs start = start ≡ powered_on inputs
BeginsWith (Some name) files inputs start = IsFoundIn (files name) inputs (Keeps start)

-- a run begins there, with the inputs that its files hold
pub record Begins (run : Run) (files : Files) (start : Start) : Type 0 where
  pub inputs : Inputs
  pub are : AreInputs run files inputs
  pub with : BeginsWith run.load files inputs start

-- whatever its files hold, a run may begin at the cycle: without a saved state it begins at 0
abbrev pub MayBeginAt : Run → ℕ → Type 0
MayBeginAt run at = run.load ≡ None → at ≡ 0

-- the files hold what a run begins with, and its end is above the cycle at which it begins
abbrev pub CanRun : Run → Files → Type 0
CanRun run files = (start : Start) × Begins run files start × (start.at < run.cycles)

-- why no machine is made of these inputs and the saved state of this name
abbrev pub StateCause : Type 0 → Option (List ℕ) → Inputs → DepotState → DepotState → CommandOutcome → Type 0
StateCause observable load inputs old new (ReadFault State) = IsSomeAnd load (λ name. IsUnread observable name old new)
StateCause observable load inputs old new (TooLong State) = IsSomeAnd load (λ name. IsTooLong observable state_limit name old)
StateCause observable load inputs old new (StateInvalid place) = IsSomeAnd load (λ name. observable → IsFoundIn (old.files name) inputs (StateInvalidAt place))
StateCause observable load inputs old new (OtherCart kept given) = IsSomeAnd load (λ name. observable → IsFoundIn (old.files name) inputs (OfOther kept given))
StateCause observable load inputs old new Memory = Unit {0}
StateCause observable load inputs old new command_outcome = ⊥

-- why the bytes of a saved state's file keep no machine for these inputs
abbrev pub IsRefused : Inputs → List ℕ → CommandOutcome → Type 0
IsRefused inputs bytes (StateInvalid place) = IsFound inputs bytes (StateInvalidAt place)
IsRefused inputs bytes (OtherCart kept given) = IsFound inputs bytes (OfOther kept given)
IsRefused inputs bytes Memory = Unit {0}
IsRefused inputs bytes command_outcome = ⊥

-- why a run has no machine, with some inputs, which are those that its files hold
abbrev pub LoadCause : Type 0 → Run → DepotState → DepotState → CommandOutcome → Type 0
LoadCause observable run old new command_outcome = (inputs : Inputs) × (observable → AreInputs run old.files inputs) × StateCause observable run.load inputs old new command_outcome

-- a saved state is named, and its bytes are found to be so
abbrev pub IsLoadFound : Type 0 → Run → Files → StateVerdict → Type 0
IsLoadFound observable run files verdict =
    (inputs : Inputs) × (observable → AreInputs run files inputs) × IsSomeAnd run.load (λ name. observable → IsFoundIn (files name) inputs verdict)

-- the frames of a recording by a verdict on it: none, if none is named or it is invalid
abbrev pub recording_by : Option (List ℕ) → Verdict → Recorded
recording_by (Some name) (Spelled recording) = recording
recording_by name verdict = no_frames

-- the inputs of a run by a verdict on its recording
abbrev pub inputs_by : Run → Files → Verdict → Inputs
inputs_by run files verdict = record { cart = cart_of run.rom files; recording = recording_by run.recording verdict; pal = run.pal }

-- with these inputs the bytes of the saved state of this name are so, if one is named
abbrev pub IsLoadValidated : Option (List ℕ) → Inputs → Files → StateVerdict → Type 0
IsLoadValidated None inputs files state = Unit {0}
IsLoadValidated (Some name) inputs files state = IsFound inputs (bytes_of files name) state

-- the bytes of the saved state of a run are so, if one is named
abbrev pub IsStateValidated : Option Run → Files → Verdict → StateVerdict → Type 0
IsStateValidated None files verdict state = Unit {0}
IsStateValidated (Some run) files verdict state = IsLoadValidated run.load (inputs_by run files verdict) files state
