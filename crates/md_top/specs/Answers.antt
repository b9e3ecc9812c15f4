-- What a call of the program answers.
use Rattle.std.specs.Prelude.{◌≡◌, ◌≢◌, ◌⊎◌, ℕ, ◌<◌, ◌≤◌, List, ◌++◌, Option, Some, None, IsSomeAnd, IfSome, option_and_then, Result, Ok}
use Rattle.md_outer.specs.Outside.{DepotState, Files, IsPrefix, PutsText, Rose, SinkState, bytes_of}
use Rattle.md_outer.specs.declared.sink.Failed.{Failed}
use Rattle.md_pads.specs.Recording.{IsSpelled}
use Rattle.md_top.specs.Inputs.{IsValidated, IsMissing, Verdict}
use Rattle.md_word.specs.Clock.{last_cycle}
use Rattle.md_top.specs.Loads.{Begins, IsLoadFound, IsStateValidated, MayBeginAt}
use Rattle.state_laws.specs.Verdicts.{OfOther, StateInvalidAt}
use Rattle.md_chips.specs.Starts.{Start}
use Rattle.md_vgm.specs.Outcomes.{Outcome}
use Rattle.md_args.specs.Files.{input_of, output_of}
use Rattle.md_args.specs.Words.{Assemble, Command, Convert, Debug, Info, Rollback, RunCart, RunDemo, assembling_in, conversion_in, debugging_in, end_of, rolling_in, run_in}
use Rattle.md_args.specs.declared.files.Input.TheVariants.{Recording}
use Rattle.md_args.specs.declared.files.Output.{Output}
use Rattle.md_top.specs.Assemblies.{IsRefusedSource}
use Rattle.md_top.specs.Conversions.{IsInputOutcome, IsRefusedInput}
use Rattle.md_top.specs.Debuggings.{IsRefusedScript, IsScripted, ShowsReplies}
use Rattle.md_top.specs.Rollings.{IsRefusedLine, IsRollFound}
use Rattle.md_top.specs.CommandOutcomes.{HasCause, IsReady, LeavesFiles, failed_status, status_of}
use Rattle.md_top.specs.Refusals.{Findings, right_completion}
use Rattle.md_top.specs.Texts.{text_of}
use Rattle.md_top.specs.declared.command_outcome.CommandOutcome.{CommandOutcome}
use Rattle.md_top.specs.declared.command_outcome.CommandOutcome.TheVariants.{Played, ReplyFault}

-- the text was put, where the sink's bytes are observable
pub record PutsAll (observable : Type 0) (text : List ℕ) (old new : SinkState) : Type 0 where
  pub later : old.faults ≤ new.faults
  pub bytes : observable → new.bytes ≡ old.bytes ++ text

-- the sink failed within the text
pub record PutsPart (observable : Type 0) (text : List ℕ) (old new : SinkState) : Type 0 where
  pub rose : Rose old.faults new.faults
  pub bytes : observable → (part : List ℕ) × IsPrefix part text × (new.bytes ≡ old.bytes ++ part)

-- what was put when a command ends so, before that is reported: in a session the replies, else nothing
abbrev pub Shows : Type 0 → Type 0 → Option Command → Files → CommandOutcome → SinkState → SinkState → Type 0
Shows observable sink (Some (Debug words)) files command_outcome old new = ShowsReplies observable sink words files command_outcome old new
Shows observable sink command files command_outcome old new = new ≡ old

-- a text was put whole, with this status, or the sink failed within it: that changes the status of a command that ended
-- well alone
abbrev pub PutsLine : Type 0 → List ℕ → ℕ → SinkState → SinkState → ℕ → Type 0
PutsLine observable text of old new status = ((status ≡ of) × PutsAll observable text old new) ⊎ ((status ≡ failed_status of) × PutsPart observable text old new)

-- the status, and what was put then; nothing of an outcome of which a session's replies are all
abbrev pub Reports : Type 0 → Option Command → CommandOutcome → SinkState → SinkState → ℕ → Type 0
Reports observable command Played old new status = (status ≡ 0) × (new ≡ old)
Reports observable command ReplyFault old new status = (status ≡ 13) × (new ≡ old)
Reports observable command command_outcome old new status = PutsLine observable (text_of command command_outcome) (status_of command_outcome) old new status

-- the same, with whether it could be put
abbrev pub PutsCommandOutcome : Type 0 → Option Command → CommandOutcome → SinkState → SinkState → Result (Unit {0}) Failed → Type 0
PutsCommandOutcome observable command Played old new result = (result ≡ Ok tt) × (new ≡ old)
PutsCommandOutcome observable command ReplyFault old new result = (result ≡ Ok tt) × (new ≡ old)
PutsCommandOutcome observable command command_outcome old new result = PutsText observable (text_of command command_outcome) old new result

-- The answer as a whole: some outcome has its cause, has left the files so, and was reported after what was shown
-- before it.
pub record Answers (depot_observable sink_observable : Type 0) (command : Option Command) (old new : DepotState) (out out' : SinkState) (status : ℕ) : Type 0 where
  pub command_outcome : CommandOutcome
  pub cause : HasCause depot_observable command old new command_outcome
  pub files : depot_observable → LeavesFiles command old.files new.files command_outcome
  pub between : SinkState
  pub shown : Shows depot_observable sink_observable command old.files command_outcome out between
  pub reports : Reports sink_observable command command_outcome between out' status

-- the name of the recording of a run, if one is given
abbrev pub recording_in : Command → Option (List ℕ)
recording_in command = input_of command Recording

-- no count of faults rose
pub record NoFaults (old new : DepotState) (out out' : SinkState) : Type 0 where
  pub reads : ¬ Rose old.read_faults new.read_faults
  pub writes : ¬ Rose old.write_faults new.write_faults
  pub puts : ¬ Rose out.faults out'.faults

-- the end of a run is not above the cycle at which it begins
abbrev pub IsBehind : Type 0 → Command → Files → Type 0
IsBehind observable (Info rom) files = ⊥
IsBehind observable (RunDemo demo) files = demo.cycles ≡ 0
IsBehind observable (Convert conversion) files = ⊥
IsBehind observable (Assemble words) files = ⊥
IsBehind observable (Debug words) files = ⊥
IsBehind observable (Rollback words) files = ⊥
IsBehind observable (RunCart run) files =
    (from : ℕ) × MayBeginAt run from × (run.cycles ≤ from) × (observable → (start : Start) × Begins run files start × (from ≡ start.at))

-- so the saved state of a run is found, so the script of a session, and so the lines of two players
abbrev pub AreFindings : Option Command → Files → Verdict → Findings → Type 0
AreFindings command files verdict found =
    IsStateValidated (option_and_then run_in command) files verdict found.state × IsScripted (option_and_then debugging_in command) files found.script
    × IsRollFound (option_and_then rolling_in command) files found.completion

-- they are found so, or what is found has no part in the outcome
abbrev pub AreFindingsRight : Option Command → Files → Verdict → Outcome → Findings → Type 0
AreFindingsRight command files verdict outcome found =
    AreFindings command files verdict found
    ⊎ ((other : Findings) → right_completion command files verdict other outcome ≡ right_completion command files verdict found outcome)

-- the status is that of the right outcome, with such findings
abbrev pub IsRight : Option Command → Files → Verdict → Outcome → ℕ → Type 0
IsRight command files verdict outcome status =
    (found : Findings) × AreFindingsRight command files verdict outcome found × (status ≡ status_of (right_completion command files verdict found outcome))

-- The same, answer by answer.
pub record Causes (depot_observable : Type 0) (command : Option Command) (old new : DepotState) (out out' : SinkState) (status : ℕ) : Type 0 where
  pub usage : status ≡ 2 → command ≡ None
  pub refused : command ≡ None → (status ≡ 2) ⊎ (status ≡ 10)
  pub too_far : status ≡ 11 → IsSomeAnd command (λ asked. last_cycle < end_of asked)
  pub far_refused : IsSomeAnd command (λ asked. last_cycle < end_of asked) → (status ≡ 11) ⊎ (status ≡ 10)
  pub read_fault : status ≡ 3 → Rose old.read_faults new.read_faults ⊎ (depot_observable × IsSomeAnd command (λ asked. IsMissing asked old.files))
  pub invalid : status ≡ 6 → IsSomeAnd (option_and_then recording_in command) (λ name. depot_observable → ¬ IsSpelled (bytes_of old.files name))
  pub state_invalid : status ≡ 7 → IsSomeAnd (option_and_then run_in command) (λ run. (place : ℕ) × IsLoadFound depot_observable run old.files (StateInvalidAt place))
  pub other_cart : status ≡ 8 → IsSomeAnd (option_and_then run_in command) (λ run. (kept : List ℕ) × (given : List ℕ) × IsLoadFound depot_observable run old.files (OfOther kept given))
  pub behind : status ≡ 9 → IsSomeAnd command (λ asked. IsBehind depot_observable asked old.files)
  pub input_refused : status ≡ 17 → IsSomeAnd (option_and_then conversion_in command) (λ conversion. IsRefusedInput depot_observable conversion old.files)
  pub source_refused : status ≡ 16 → IsSomeAnd (option_and_then assembling_in command) (λ words. IsRefusedSource depot_observable words old.files)
  pub script_refused : status ≡ 15 → IsSomeAnd (option_and_then debugging_in command) (λ words. IsRefusedScript depot_observable words old.files)
  pub line_refused : status ≡ 18 → IsSomeAnd (option_and_then rolling_in command) (λ words. IsRefusedLine depot_observable words old.files)
  pub write_fault : status ≡ 4 → Rose old.write_faults new.write_faults
  pub out_fault : status ≡ 13 → Rose out.faults out'.faults
  -- each refusal comes exactly where it should, in this order; out of memory may come between
  pub exact : NoFaults old new out out' → depot_observable → (verdict : Verdict) → IsValidated (option_and_then recording_in command) old.files verdict
      → (outcome : Outcome) → IsInputOutcome (option_and_then conversion_in command) old.files outcome
      → IsRight command old.files verdict outcome status ⊎ (status ≡ 10)
  -- where nothing is wrong the command ends well, or memory runs out
  pub complete : NoFaults old new out out' → depot_observable → IsSomeAnd command (λ asked. IsReady asked old.files) → (status ≡ 0) ⊎ (status ≡ 10)
  -- no file but the outputs changes
  pub others : depot_observable → IfSome command (λ asked. (name : List ℕ) → ((which : Output) → output_of asked which ≢ Some name) → new.files name ≡ old.files name)
