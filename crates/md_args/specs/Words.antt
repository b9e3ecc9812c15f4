-- What the words of the command line ask for. This project's profile.
use Rattle.std.specs.Prelude.{ℕ, Bool, List, Option, Some, None}
use Rattle.md_args.specs.declared.convert_words.Product.{Product}

-- a run of a cartridge, from power-on or from a saved state: the cartridge's name, the cycle of its end, the name of the
-- recording and that of the saved state, each if one is given, those of the state to save, of the frames
-- file, of the sound file and of the journal, each if it is asked for, how many workers make it, and whether
-- the machine is one for PAL
pub record Run : Type 0 where
  pub rom : List ℕ
  pub cycles : ℕ
  pub recording : Option (List ℕ)
  pub load : Option (List ℕ)
  pub save : Option (List ℕ)
  pub frames : Option (List ℕ)
  pub sound : Option (List ℕ)
  pub journal : Option (List ℕ)
  pub workers : ℕ
  pub pal : Bool

-- a run of a demonstration cartridge from power-on: the cartridge's number, the cycle of the run's end,
-- how many workers make it, and whether the machine is one for PAL
pub record Demo : Type 0 where
  pub number : ℕ
  pub cycles : ℕ
  pub workers : ℕ
  pub pal : Bool

-- a file that is made of another one: which, the names of the one that is read and of the one that is written, and
-- whether the master clock is that of PAL
pub record Conversion : Type 0 where
  pub product : Product
  pub input : List ℕ
  pub output : List ℕ
  pub pal : Bool

-- a source that is assembled: the names of the source, of the image's file, and of the list's if it is asked for
pub record Assembling : Type 0 where
  pub source : List ℕ
  pub output : List ℕ
  pub list : Option (List ℕ)

-- a session of the debugger: the names of the cartridge and of the script
pub record Debugging : Type 0 where
  pub rom : List ℕ
  pub script : List ℕ

-- a session of two players: the names of the cartridge and of what they press, and how many frames it continues without
-- the buttons of a player
pub record Rolling : Type 0 where
  pub rom : List ℕ
  pub inputs : List ℕ
  pub window : ℕ

-- what a command line asks for: the lines of a cartridge's header, by the cartridge's name, a run, a run of
-- a demonstration cartridge, a conversion, that a source is assembled, a session of the debugger, or one of two players
pub data Command : Type 0 where
  Info : List ℕ → Command
  RunCart : Run → Command
  RunDemo : Demo → Command
  Convert : Conversion → Command
  Assemble : Assembling → Command
  Debug : Debugging → Command
  Rollback : Rolling → Command

-- the conversion, if one is asked for
abbrev pub conversion_in : Command → Option Conversion
conversion_in (Convert conversion) = Some conversion
conversion_in command = None

-- the source that is assembled, if one is
abbrev pub assembling_in : Command → Option Assembling
assembling_in (Assemble assembling) = Some assembling
assembling_in command = None

-- the session of the debugger, if one is asked for
abbrev pub debugging_in : Command → Option Debugging
debugging_in (Debug debugging) = Some debugging
debugging_in command = None

-- the session of two players, if one is asked for
abbrev pub rolling_in : Command → Option Rolling
rolling_in (Rollback rolling) = Some rolling
rolling_in command = None

-- the run of a cartridge that is named, if one is asked for
abbrev pub run_in : Command → Option Run
run_in (RunCart run) = Some run
run_in command = None

-- the cycle of the run's end; 0 where none is asked for
abbrev pub end_of : Command → ℕ
end_of (RunCart run) = run.cycles
end_of (RunDemo demo) = demo.cycles
end_of command = 0

-- how many workers make it; 1 where none is asked for
abbrev pub workers_in : Command → ℕ
workers_in (RunCart run) = run.workers
workers_in (RunDemo demo) = demo.workers
workers_in command = 1
