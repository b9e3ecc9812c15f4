-- What the output files of a run hold.
use Rattle.std.specs.Prelude.{◌≡◌, ℕ, List, [], ◌++◌, Option, Some, None, IsSome}
use Rattle.md_outer.specs.Outside.{Files, IsPrefix, with_file}
use Rattle.md_args.specs.Files.{run_output}
use Rattle.md_args.specs.Words.{Run}
use Rattle.md_args.specs.declared.files.Output.{Output}
use Rattle.md_args.specs.declared.files.Output.TheVariants.{Frames, Journal, Listing, Save, Sound, Target}
use Rattle.run_command.specs.declared.outputs.Outputs.{Outputs}

-- bytes of the four outputs
pub record Pieces : Type 0 where
  pub frames : List ℕ
  pub sound : List ℕ
  pub journal : List ℕ
  pub state : List ℕ

-- the four outputs before any byte
abbrev pub nothing : Pieces
nothing = record { frames = []; sound = []; journal = []; state = [] }

-- bytes of one output alone
abbrev pub only : Output → List ℕ → Pieces
only Frames piece = record nothing { frames = piece }
only Sound piece = record nothing { sound = piece }
only Journal piece = record nothing { journal = piece }
only Save piece = record nothing { state = piece }
only Target piece = nothing
only Listing piece = nothing

-- bytes, and after them more
abbrev pub lengthened : Pieces → Pieces → Pieces
lengthened held more = record {
  frames = held.frames ++ more.frames;
  sound = held.sound ++ more.sound;
  journal = held.journal ++ more.journal;
  state = held.state ++ more.state;
}

-- the bytes of those of the four outputs that are begun
pub record Parts : Type 0 where
  pub frames : Option (List ℕ)
  pub sound : Option (List ℕ)
  pub journal : Option (List ℕ)
  pub state : Option (List ℕ)

-- all are begun
abbrev pub all_of : Pieces → Parts
all_of held =
    record { frames = Some held.frames; sound = Some held.sound; journal = Some held.journal; state = Some held.state }

-- an output that is asked for and begun holds these bytes
abbrev pub with_part : Files → Option (List ℕ) → Option (List ℕ) → Files
with_part files name None = files
with_part files (Some name) (Some bytes) = with_file files name bytes
with_part files None (Some bytes) = files

-- the outputs of a run, each where it is asked for and begun; all other files stay
abbrev pub written : Run → Files → Parts → Files
written run files parts =
    with_part (with_part (with_part (with_part files run.frames parts.frames) run.sound parts.sound) run.journal parts.journal)
    run.save parts.state

-- the outputs are begun, and hold these bytes
abbrev pub Holds : Run → Files → Files → Pieces → Type 0
Holds run old new held = new ≡ written run old (all_of held)

-- an output that is begun holds a part of its bytes
abbrev pub IsPartOf : Option (List ℕ) → List ℕ → Type 0
IsPartOf (Some part) whole = IsPrefix part whole
IsPartOf None whole = Unit {0}

-- each output is not begun, or holds a part of its bytes; all other files stay
pub record LeavesParts (run : Run) (old new : Files) (whole : Pieces) : Type 0 where
  pub parts : Parts
  pub frames : IsPartOf parts.frames whole.frames
  pub sound : IsPartOf parts.sound whole.sound
  pub journal : IsPartOf parts.journal whole.journal
  pub state : IsPartOf parts.state whole.state
  pub files : new ≡ written run old parts

-- no file but the outputs changes
abbrev pub LeavesOthers : Run → Files → Files → Type 0
LeavesOthers run old new = (parts : Parts) × (new ≡ written run old parts)

-- an output that is asked for was begun, and this is its number
abbrev pub IsBegun : (ℕ → Option (List ℕ)) → Option ℕ → Option (List ℕ) → Type 0
IsBegun begun None name = name ≡ None
IsBegun begun (Some file) name = IsSome name × (begun file ≡ name)

-- the number of an output that is begun, if it is
abbrev pub number_in : Outputs → Output → Option ℕ
number_in outputs Frames = outputs.frames
number_in outputs Sound = outputs.sound
number_in outputs Journal = outputs.journal
number_in outputs Save = outputs.save
number_in outputs Target = None
number_in outputs Listing = None

-- the outputs that are asked for were begun, and these are their numbers
abbrev pub AreBegun : Run → (ℕ → Option (List ℕ)) → Outputs → Type 0
AreBegun run begun outputs = (which : Output) → IsBegun begun (number_in outputs which) (run_output run which)

-- whatever the outputs held before, they hold these pieces after it
abbrev pub Adds : Run → Files → Files → Pieces → Type 0
Adds run old new more = (first : Files) (held : Pieces) → Holds run first old held → Holds run first new (lengthened held more)

-- whatever they held before, they hold that and parts of these pieces after it
abbrev pub AddsParts : Run → Files → Files → Pieces → Type 0
AddsParts run old new more = (first : Files) (held : Pieces) → Holds run first old held → LeavesParts run first new (lengthened held more)
