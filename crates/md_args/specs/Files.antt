-- The files that a command names.
use Rattle.std.specs.Prelude.{ℕ, List, Option, Some, None}
use Rattle.md_args.specs.Words.{Assemble, Command, Convert, Debug, Info, Rollback, Run, RunCart, RunDemo}
use Rattle.md_args.specs.declared.files.Input.{Input}
use Rattle.md_args.specs.declared.files.Input.TheVariants.{First, Recording, Script, State}
use Rattle.md_args.specs.declared.files.Output.{Output}
use Rattle.md_args.specs.declared.files.Output.TheVariants.{Frames, Journal, Listing, Save, Sound, Target}

-- the name of an input of a run, if it has one
abbrev pub run_input : Run → Input → Option (List ℕ)
run_input run First = Some run.rom
run_input run Recording = run.recording
run_input run State = run.load
run_input run Script = None

-- the name of an output of a run, if it is asked for
abbrev pub run_output : Run → Output → Option (List ℕ)
run_output run Frames = run.frames
run_output run Sound = run.sound
run_output run Journal = run.journal
run_output run Save = run.save
run_output run Target = None
run_output run Listing = None

-- that of an input of a command that reads one file
abbrev pub sole_input : List ℕ → Input → Option (List ℕ)
sole_input name First = Some name
sole_input name Recording = None
sole_input name State = None
sole_input name Script = None

-- that of an input of a command that reads a cartridge and a script
abbrev pub script_input : List ℕ → List ℕ → Input → Option (List ℕ)
script_input rom script First = Some rom
script_input rom script Recording = None
script_input rom script State = None
script_input rom script Script = Some script

-- that of an output of a command that makes one file, and a list of it if that is asked for
abbrev pub made_output : List ℕ → Option (List ℕ) → Output → Option (List ℕ)
made_output target listing Frames = None
made_output target listing Sound = None
made_output target listing Journal = None
made_output target listing Save = None
made_output target listing Target = Some target
made_output target listing Listing = listing

-- the name of an input of a command, if it has one
abbrev pub input_of : Command → Input → Option (List ℕ)
input_of (Info rom) which = sole_input rom which
input_of (RunCart run) which = run_input run which
input_of (RunDemo demo) which = None
input_of (Convert conversion) which = sole_input conversion.input which
input_of (Assemble words) which = sole_input words.source which
input_of (Debug words) which = script_input words.rom words.script which
input_of (Rollback words) which = script_input words.rom words.inputs which

-- the name of an output of a command, if it has one
abbrev pub output_of : Command → Output → Option (List ℕ)
output_of (Info rom) which = None
output_of (RunCart run) which = run_output run which
output_of (RunDemo demo) which = None
output_of (Convert conversion) which = made_output conversion.output None which
output_of (Assemble words) which = made_output words.output words.list which
output_of (Debug words) which = None
output_of (Rollback words) which = None
