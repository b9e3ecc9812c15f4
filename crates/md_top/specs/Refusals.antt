-- The outcome where no fault comes between and memory suffices: the refusals in their order.
use Rattle.std.specs.Prelude.{ℕ, nat_le, nat_lt, if◌then◌else◌, List, length, Option, Some, None}
use Rattle.rom_header.specs.Cartridge.{fault_of}
use Rattle.rom_header.specs.Header.{header_lines}
use Rattle.rom_header.specs.declared.cart.CartFault.{CartFault}
use Rattle.md_outer.specs.Outside.{Files}
use Rattle.md_pads.specs.Recording.{Recorded, no_frames}
use Rattle.md_chips.specs.Starts.{Start}
use Rattle.state_laws.specs.Verdicts.{Keeps, OfOther, StateVerdict, StateInvalidAt}
use Rattle.md_vgm.specs.Outcomes.{Outcome}
use Rattle.md_rollback.specs.declared.rolled.Completion.{Completion}
use Rattle.md_args.specs.Words.{Assemble, Command, Convert, Debug, Debugging, Demo, Info, Rollback, Rolling, Run, RunCart, RunDemo}
use Rattle.md_args.specs.declared.files.Input.{Input}
use Rattle.md_args.specs.declared.files.Input.TheVariants.{First, Recording, Script, State}
use Rattle.md_top.specs.Assemblies.{asm_command_outcome}
use Rattle.md_top.specs.Conversions.{convert_command_outcome}
use Rattle.md_top.specs.Debuggings.{Scripted, played_outcome, script_limit}
use Rattle.run_command.specs.Demos.{demo_start, summary_from}
use Rattle.md_top.specs.Inputs.{Spelled, Verdict, Unspelled, cart_limit, cart_of, recording_limit, refusal_of}
use Rattle.md_word.specs.Clock.{last_cycle}
use Rattle.md_top.specs.Loads.{state_limit}
use Rattle.md_top.specs.Rollings.{completion_outcome, inputs_limit}
use Rattle.run_command.specs.Runs.{entries_from, halted_from, media_from, powered_on}
use Rattle.md_top.specs.declared.command_outcome.CommandOutcome.{CommandOutcome}
use Rattle.md_top.specs.declared.command_outcome.CommandOutcome.TheVariants.{Shown, Done, DemoDone, Usage, ReadFault, RecordingInvalid, StateInvalid, OtherCart, Behind, TooFar, TooLong}
use Rattle.run_command.specs.declared.inputs.Inputs.{Inputs}

-- after the file of an input: it could not be read, it is longer than its limit, or its bytes have an outcome
abbrev pub read_command_outcome : Input → ℕ → Option (List ℕ) → (List ℕ → CommandOutcome) → CommandOutcome
read_command_outcome which limit None command_outcome = ReadFault which
read_command_outcome which limit (Some bytes) command_outcome = if nat_lt limit (length bytes) then TooLong which else command_outcome bytes

-- after the bytes of the cartridge's file; `accepted` is the outcome where they are accepted
abbrev pub cart_command_outcome : Option CartFault → CommandOutcome → CommandOutcome
cart_command_outcome (Some fault) accepted = refusal_of fault
cart_command_outcome None accepted = accepted

-- after the cartridge's file
abbrev pub file_command_outcome : Option (List ℕ) → CommandOutcome → CommandOutcome
file_command_outcome file accepted = read_command_outcome First cart_limit file (λ bytes. cart_command_outcome (fault_of bytes) accepted)

-- after the bytes of the recording's file; `ready` is the outcome after what they spell
abbrev pub verdict_command_outcome : Verdict → (Recorded → CommandOutcome) → CommandOutcome
verdict_command_outcome (Unspelled place) ready = RecordingInvalid place
verdict_command_outcome (Spelled recording) ready = ready recording

-- after the recording's file
abbrev pub recording_command_outcome : Option (List ℕ) → Verdict → (Recorded → CommandOutcome) → CommandOutcome
recording_command_outcome file verdict ready = read_command_outcome Recording recording_limit file (λ bytes. verdict_command_outcome verdict ready)

-- after an accepted cartridge, with the recording of this name, if one is named
abbrev pub recorded_command_outcome : Option (List ℕ) → Files → Verdict → (Recorded → CommandOutcome) → CommandOutcome
recorded_command_outcome None files verdict ready = ready no_frames
recorded_command_outcome (Some name) files verdict ready = recording_command_outcome (files name) verdict ready

-- where a run begins
abbrev pub run_command_outcome : Start → ℕ → CommandOutcome
run_command_outcome start end =
    if nat_le end start.at then Behind start.at else Done start.at (length (media_from start end).frames) (length (entries_from start end)) (halted_from start end)

-- after a saved state that the verdict is on
abbrev pub kept_command_outcome : StateVerdict → ℕ → CommandOutcome
kept_command_outcome (StateInvalidAt place) end = StateInvalid place
kept_command_outcome (OfOther kept given) end = OtherCart kept given
kept_command_outcome (Keeps start) end = run_command_outcome start end

-- after the saved state's file
abbrev pub state_command_outcome : Option (List ℕ) → StateVerdict → ℕ → CommandOutcome
state_command_outcome file state end = read_command_outcome State state_limit file (λ bytes. kept_command_outcome state end)

-- after the inputs of a run, with the saved state of this name, if one is named
abbrev pub loaded_command_outcome : Option (List ℕ) → Files → StateVerdict → Inputs → ℕ → CommandOutcome
loaded_command_outcome None files state inputs end = run_command_outcome (powered_on inputs) end
loaded_command_outcome (Some name) files state inputs end = state_command_outcome (files name) state end

-- after the accepted cartridge of a run
abbrev pub accepted_command_outcome : Run → Files → Verdict → StateVerdict → CommandOutcome
accepted_command_outcome run files verdict state =
    recorded_command_outcome run.recording files verdict
    (λ recording. loaded_command_outcome run.load files state (record { cart = cart_of run.rom files; recording = recording; pal = run.pal }) run.cycles)

-- where a run of a demonstration cartridge begins
abbrev pub demo_command_outcome : Demo → CommandOutcome
demo_command_outcome demo = if nat_le demo.cycles 0 then Behind 0 else DemoDone (summary_from (demo_start demo) demo.cycles)

-- what a run results in, with these files and these verdicts on its recording and on its saved state
abbrev pub asked_command_outcome : Run → Files → Verdict → StateVerdict → CommandOutcome
asked_command_outcome run files verdict state =
    if nat_lt last_cycle run.cycles then TooFar else file_command_outcome (files run.rom) (accepted_command_outcome run files verdict state)

-- after the script's file
abbrev pub script_outcome : Option (List ℕ) → Scripted → CommandOutcome
script_outcome file script = read_command_outcome Script script_limit file (λ bytes. played_outcome script.command_outcome)

-- what a session of the debugger results in, with these files and this outcome of the lines of its script
abbrev pub debug_command_outcome : Debugging → Files → Scripted → CommandOutcome
debug_command_outcome words files script = file_command_outcome (files words.rom) (script_outcome (files words.script) script)

-- after the file of what two players press
abbrev pub inputs_command_outcome : Option (List ℕ) → Completion → CommandOutcome
inputs_command_outcome file outcome = read_command_outcome Script inputs_limit file (λ bytes. completion_outcome outcome)

-- what a session of two players results in, with these files and this outcome of its lines
abbrev pub roll_command_outcome : Rolling → Files → Completion → CommandOutcome
roll_command_outcome words files outcome = file_command_outcome (files words.rom) (inputs_command_outcome (files words.inputs) outcome)

-- what is found of a command's inputs: a verdict on its saved state, and what the lines of its script, or of two players, result in
pub record Findings : Type 0 where
  pub state : StateVerdict
  pub script : Scripted
  pub completion : Completion

-- what a command line results in, with these files, this verdict on the recording that it names, what is found of its
-- saved state or its script, and this outcome of the input of the conversion that it asks for
abbrev pub right_completion : Option Command → Files → Verdict → Findings → Outcome → CommandOutcome
right_completion None files verdict found outcome = Usage
right_completion (Some (Info rom)) files verdict found outcome = file_command_outcome (files rom) (Shown (header_lines (cart_of rom files)))
right_completion (Some (RunCart run)) files verdict found outcome = asked_command_outcome run files verdict found.state
right_completion (Some (RunDemo demo)) files verdict found outcome = if nat_lt last_cycle demo.cycles then TooFar else demo_command_outcome demo
right_completion (Some (Convert conversion)) files verdict found outcome = convert_command_outcome conversion files outcome
right_completion (Some (Assemble words)) files verdict found outcome = asm_command_outcome words files
right_completion (Some (Debug words)) files verdict found outcome = debug_command_outcome words files found.script
right_completion (Some (Rollback words)) files verdict found outcome = roll_command_outcome words files found.completion
