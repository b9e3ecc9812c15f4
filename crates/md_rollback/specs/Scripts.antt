-- The outcome of a session's script. This project's profile.
use Rattle.std.specs.Prelude.{◌≡◌, ◌≢◌, ℕ, ◌+◌, ◌<◌, ◌≤◌, ◌^◌, List, [], slice_set, Option, Some, None}
use Rattle.debug_text.specs.Scripts.{ObeysAll, ObeysSome, RefusesLine}
use Rattle.md_pads.specs.Recording.{Frame}
use Rattle.md_rollback.specs.Inputs.{IsConfirmed, Words, expected_frames, given, most_frames, no_words}
use Rattle.md_rollback.specs.declared.input_fault.InputFault.{InputFault}
use Rattle.md_rollback.specs.declared.input_fault.InputFault.TheVariants as inputs
use Rattle.md_rollback.specs.Lines.{line_of}
use Rattle.md_rollback.specs.declared.line.Line.{Line}
use Rattle.md_rollback.specs.declared.line.Line.TheVariants.{Press, Advance}
use Rattle.md_rollback.specs.declared.line.Player.{Player}
use Rattle.md_rollback.specs.declared.line.Player.TheVariants.{Local, Remote}
use Rattle.md_rollback.specs.declared.line_fault.LineFault.{LineFault}
use Rattle.md_rollback.specs.declared.line_fault.LineFault.TheVariants as faults
use Rattle.debug_text.specs.declared.outcome.ScriptOutcome.{ScriptOutcome}
use Rattle.debug_text.specs.declared.outcome.ScriptOutcome.TheVariants.{Obeyed, Refused, OutOfMemory}

-- the outcome of the lines so far: the words that they gave of both players, how many frames were made, and
-- with which words the machine made them
pub record Script : Type 0 where
  pub local : Words
  pub remote : Words
  pub frames : ℕ
  pub played : List Frame

-- before the first line
abbrev pub begun : Script
begun = record { local = no_words; remote = no_words; frames = 0; played = [] }

-- the words of a player
abbrev pub words_of : Player → Script → Words
words_of Local script = script.local
words_of Remote script = script.remote

-- a player's buttons are given in a frame
abbrev pub pressed : Player → ℕ → ℕ → Script → Script
pressed Local frame buttons script = record script { local = slice_set script.local frame (Some buttons) }
pressed Remote frame buttons script = record script { remote = slice_set script.remote frame (Some buttons) }

-- the next frame is made, and all before it with what is expected now
abbrev pub advanced : Script → Script
advanced script = record script { frames = script.frames + 1; played = expected_frames script.local script.remote (script.frames + 1) }

-- what obeying a line makes of them
abbrev pub Obeys : ℕ → Script → Line → Script → Type 0
Obeys window old (Press player frame buttons) new =
    (frame < most_frames) × (given (words_of player old) frame ≡ None) × (buttons < 2 ^ 8) × (new ≡ pressed player frame buttons old)
Obeys window old Advance new =
    (confirmed : ℕ) × IsConfirmed old.local old.remote confirmed × (old.frames < most_frames) × (old.frames < confirmed + window) × (new ≡ advanced old)

-- why buttons are refused
abbrev pub IsRefusedInput : Script → Player → ℕ → ℕ → InputFault → Type 0
IsRefusedInput script player frame buttons (inputs.Far last) = most_frames ≤ frame
IsRefusedInput script player frame buttons (inputs.Given kept) = given (words_of player script) frame ≡ Some kept
IsRefusedInput script player frame buttons inputs.Buttons = (frame < most_frames) × (given (words_of player script) frame ≡ None) × (2 ^ 8 ≤ buttons)

-- why a line is refused
abbrev pub IsRefused : ℕ → Script → List ℕ → LineFault → Type 0
IsRefused window script line faults.Unread = line_of line ≡ None
IsRefused window script line faults.Far =
    (player : Player) × (frame : ℕ) × (buttons : ℕ) × (line_of line ≡ Some (Press player frame buttons)) × (most_frames ≤ frame)
IsRefused window script line faults.Given =
    (player : Player) × (frame : ℕ) × (buttons : ℕ) × (kept : ℕ) × (line_of line ≡ Some (Press player frame buttons)) × (given (words_of player script) frame ≡ Some kept)
IsRefused window script line faults.Buttons =
    (player : Player) × (frame : ℕ) × (buttons : ℕ) × (line_of line ≡ Some (Press player frame buttons)) × (frame < most_frames) × (given (words_of player script) frame ≡ None) × (2 ^ 8 ≤ buttons)
IsRefused window script line faults.Waiting =
    (confirmed : ℕ) × (line_of line ≡ Some Advance) × (script.frames ≢ most_frames) × IsConfirmed script.local script.remote confirmed × (confirmed + window ≤ script.frames)
IsRefused window script line faults.Ended = (line_of line ≡ Some Advance) × (script.frames ≡ most_frames)

-- .. or memory ran out
abbrev pub IsFault : ℕ → Script → List ℕ → Option LineFault → Type 0
IsFault window script line None = Unit {0}
IsFault window script line (Some fault) = IsRefused window script line fault

-- the fault of buttons that are refused
abbrev pub fault_of : InputFault → LineFault
fault_of (inputs.Far last) = faults.Far
fault_of (inputs.Given kept) = faults.Given
fault_of inputs.Buttons = faults.Buttons

-- a line was obeyed
abbrev pub ObeysLine : ℕ → List ℕ → Script → Script → Type 0
ObeysLine window line old new = (asked : Line) × (line_of line ≡ Some asked) × Obeys window old asked new

-- a line is refused
abbrev pub RefusesFor : ℕ → LineFault → Script → List ℕ → Type 0
RefusesFor window fault script line = IsRefused window script line fault

-- how a script ends: each line was obeyed; or the line of a number, from 1 on, is the first that is refused, and
-- those before it were obeyed; or memory ran out after lines that were obeyed
abbrev pub Plays : ℕ → List (List ℕ) → Script → Script → ScriptOutcome LineFault → Type 0
Plays window lines old new Obeyed = ObeysAll (ObeysLine window) lines old new
Plays window lines old new (Refused number fault) = RefusesLine (ObeysLine window) (RefusesFor window fault) lines old new number
Plays window lines old new OutOfMemory = ObeysSome (ObeysLine window) lines old new
