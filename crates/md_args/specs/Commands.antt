-- The command that the words of the command line give. This project's profile.
use Rattle.std.specs.Prelude.{ℕ, ◌==◌, nat_le, Bool, true, false, ◌&&◌, not, if◌then◌else◌, List, [], ◌∷◌, codes, Option, Some, None, option_and_then}
use Rattle.std.specs.List.{list_all}
use Rattle.std.specs.Option.{is_some, option_map}
use Rattle.std.specs.Str.{bytes_eq}
use Rattle.clap.specs.Walk.{Text}
use Rattle.text_lines.specs.Digits.{decimal_of}
use Rattle.md_args.specs.Given.{Argument, between, given, meant_by}
use Rattle.md_args.specs.declared.convert_words.Product.{Product}
use Rattle.md_args.specs.declared.convert_words.Product.TheVariants.{Vgm, Sound}
use Rattle.md_args.specs.Words.{Assemble, Assembling, Command, Conversion, Convert, Debug, Debugging, Demo, Info, Rollback, Rolling, Run, RunCart, RunDemo}

-- a word that can be a name: it is not empty and does not begin with a hyphen
abbrev pub is_name : List ℕ → Bool
is_name [] = false
is_name (first ∷ rest) = not (first == 45)

-- a number of workers: 1 to 5
abbrev pub some_workers : ℕ → Option ℕ
some_workers n = if nat_le 1 n && nat_le n 5 then Some n else None

-- the number of workers of a run, 1 where it is not given
abbrev pub workers_of : Option (List ℕ) → Option ℕ
workers_of None = Some 1
workers_of (Some count) = option_and_then some_workers (decimal_of count)

-- the value of an option can be a name
abbrev pub is_optional_name : Option (List ℕ) → Bool
is_optional_name None = true
is_optional_name (Some name) = is_name name

-- two names are not the same
abbrev pub differ : Option (List ℕ) → Option (List ℕ) → Bool
differ (Some first) (Some second) = not (bytes_eq first second)
differ first second = true

-- what is given for each argument of a run
pub record Values : Type 0 where
  pub rom : Option Text
  pub cycles : Option Text
  pub recording : Option Text
  pub load : Option Text
  pub save : Option Text
  pub frames : Option Text
  pub sound : Option Text
  pub journal : Option Text
  pub workers : Option Text
  pub pal : Option Text

-- the same, by the names of the arguments
abbrev pub values_by : (Text → Option Text) → Values
values_by value =
    record {
      rom = value (codes "rom");
      cycles = value (codes "cycles");
      recording = value (codes "in");
      load = value (codes "load");
      save = value (codes "save");
      frames = value (codes "frames");
      sound = value (codes "sound");
      journal = value (codes "journal");
      workers = value (codes "workers");
      pal = value (codes "pal");
    }

-- what is given for names of files
abbrev pub names_of : Values → List (Option Text)
names_of values = values.rom ∷ values.recording ∷ values.load ∷ values.save ∷ values.frames ∷ values.sound ∷ values.journal ∷ []

-- they can be names, and no two are the same
abbrev pub are_names : List (Option Text) → Bool
are_names [] = true
are_names (name ∷ names) = is_optional_name name && list_all (differ name) names && are_names names

-- `info` has the name of a cartridge
abbrev pub info_from : Option Text → Option Text
info_from (Some rom) = if is_name rom then Some rom else None
info_from None = None

-- the cartridge's name, by the names of the arguments
abbrev pub info_by : (Text → Option Text) → Option Text
info_by value = info_from (value (codes "rom"))

-- the cartridge's name that the words after `info` give
abbrev pub info_of : List Text → Option Text
info_of words = option_and_then (meant_by info_by) (given (codes "rom" ∷ []) [] [] between words)

-- the region is chosen where no saved state is named, which has its own
abbrev pub is_one_region : Values → Bool
is_one_region values = not (is_some values.load && is_some values.pal)

-- the run of the cartridge of this name, with this cycle of its end and this number of workers
abbrev pub run_from : Values → Option Text → Option ℕ → Option ℕ → Option Run
run_from values (Some rom) (Some end) (Some workers) =
    Some
    (record {
      rom = rom;
      cycles = end;
      recording = values.recording;
      load = values.load;
      save = values.save;
      frames = values.frames;
      sound = values.sound;
      journal = values.journal;
      workers = workers;
      pal = is_some values.pal;
    })
run_from values rom end workers = None

-- `run` has the name of a cartridge and `--cycles N`, with `--in P`, `--load S`, `--save S`, `--frames F`,
-- `--sound W`, `--journal J`, `--workers K` and `--pal` if wanted
abbrev pub run_given : Values → Option Run
run_given values =
    if are_names (names_of values) && is_one_region values then run_from values values.rom (option_and_then decimal_of values.cycles) (workers_of values.workers) else None

-- the run, by the names of the arguments
abbrev pub run_by : (Text → Option Text) → Option Run
run_by value = run_given (values_by value)

-- the names of the options of a run
abbrev pub run_options : List Text
run_options = codes "cycles" ∷ codes "in" ∷ codes "load" ∷ codes "save" ∷ codes "frames" ∷ codes "sound" ∷ codes "journal" ∷ codes "workers" ∷ []

-- those of its flags
abbrev pub run_flags : List Text
run_flags = codes "pal" ∷ []

-- the run of these arguments
abbrev pub run_of_arguments : List Argument → Option Run
run_of_arguments = meant_by run_by

-- the run that the words after `run` give
abbrev pub run_of : List Text → Option Run
run_of words = option_and_then run_of_arguments (given (codes "rom" ∷ []) run_options run_flags between words)

-- the conversion of these names, which are two
abbrev pub conversion_given : Product → Option Text → Option Text → Bool → Option Conversion
conversion_given product (Some input) (Some output) pal =
    if are_names (Some input ∷ Some output ∷ []) then Some (record { product = product; input = input; output = output; pal = pal }) else None
conversion_given product input output pal = None

-- `vgm` and `play` have the names of an input and of an output, with `--pal` if wanted
abbrev pub conversion_by : Product → (Text → Option Text) → Option Conversion
conversion_by product value = conversion_given product (value (codes "input")) (value (codes "output")) (is_some (value (codes "pal")))

-- the conversion that the words after `vgm` or `play` give
abbrev pub conversion_of : Product → List Text → Option Conversion
conversion_of product words =
    option_and_then (meant_by (conversion_by product)) (given (codes "input" ∷ codes "output" ∷ []) [] (codes "pal" ∷ []) between words)

-- the assembly of these names, which are different
abbrev pub assembling_given : Option Text → Option Text → Option Text → Option Assembling
assembling_given (Some source) (Some output) list =
    if are_names (Some source ∷ Some output ∷ list ∷ []) then Some (record { source = source; output = output; list = list }) else None
assembling_given source output list = None

-- `asm` has the names of a source and of an output, with `--list L` if wanted
abbrev pub assembling_by : (Text → Option Text) → Option Assembling
assembling_by value = assembling_given (value (codes "source")) (value (codes "output")) (value (codes "list"))

-- the assembly that the words after `asm` give
abbrev pub assembling_of : List Text → Option Assembling
assembling_of words =
    option_and_then (meant_by assembling_by) (given (codes "source" ∷ codes "output" ∷ []) (codes "list" ∷ []) [] between words)

-- the session of these names, which are different
abbrev pub debugging_given : Option Text → Option Text → Option Debugging
debugging_given (Some rom) (Some script) =
    if are_names (Some rom ∷ Some script ∷ []) then Some (record { rom = rom; script = script }) else None
debugging_given rom script = None

-- `debug` has the names of a cartridge and of a script
abbrev pub debugging_by : (Text → Option Text) → Option Debugging
debugging_by value = debugging_given (value (codes "rom")) (value (codes "script"))

-- the session that the words after `debug` give
abbrev pub debugging_of : List Text → Option Debugging
debugging_of words = option_and_then (meant_by debugging_by) (given (codes "rom" ∷ codes "script" ∷ []) [] [] between words)

-- the value of a number that has to be there
abbrev pub wanted_number : Option Text → Option ℕ
wanted_number word = option_and_then decimal_of word

-- a number of workers that has to be there
abbrev pub wanted_workers : Option Text → Option ℕ
wanted_workers word = option_and_then some_workers (wanted_number word)

-- the run of the demonstration cartridge of this number, with this cycle of its end, this number of
-- workers and this region
abbrev pub demo_from : Option ℕ → Option ℕ → Option ℕ → Bool → Option Demo
demo_from (Some number) (Some end) (Some workers) pal = Some (record { number = number; cycles = end; workers = workers; pal = pal })
demo_from number end workers pal = None

-- `demo` has a number, `--cycles N` and `--workers W`, with `--pal` if wanted
abbrev pub demo_given : Option Text → Option Text → Option Text → Bool → Option Demo
demo_given number cycles workers pal = demo_from (wanted_number number) (wanted_number cycles) (wanted_workers workers) pal

-- the run, by the names of the arguments
abbrev pub demo_by : (Text → Option Text) → Option Demo
demo_by value = demo_given (value (codes "number")) (value (codes "cycles")) (value (codes "workers")) (is_some (value (codes "pal")))

-- the run that the words after `demo` give
abbrev pub demo_of : List Text → Option Demo
demo_of words = option_and_then (meant_by demo_by) (given (codes "number" ∷ []) (codes "cycles" ∷ codes "workers" ∷ []) (codes "pal" ∷ []) between words)

-- a window: 1 to 16 frames
abbrev pub some_window : ℕ → Option ℕ
some_window n = if nat_le 1 n && nat_le n 16 then Some n else None

-- a window that has to be there
abbrev pub wanted_window : Option Text → Option ℕ
wanted_window word = option_and_then some_window (wanted_number word)

-- the session of these names, which are different, with this window
abbrev pub rolling_from : Option Text → Option Text → Option ℕ → Option Rolling
rolling_from (Some rom) (Some inputs) (Some window) =
    if are_names (Some rom ∷ Some inputs ∷ []) then Some (record { rom = rom; inputs = inputs; window = window }) else None
rolling_from rom inputs window = None

abbrev pub rolling_given : Option Text → Option Text → Option Text → Option Rolling
rolling_given rom inputs window = rolling_from rom inputs (wanted_window window)

-- `rollback` has the names of a cartridge and of what two players press, and `--window W`
abbrev pub rolling_by : (Text → Option Text) → Option Rolling
rolling_by value = rolling_given (value (codes "rom")) (value (codes "inputs")) (value (codes "window"))

-- the session that the words after `rollback` give
abbrev pub rolling_of : List Text → Option Rolling
rolling_of words =
    option_and_then (meant_by rolling_by) (given (codes "rom" ∷ codes "inputs" ∷ []) (codes "window" ∷ []) [] between words)

-- the first word chooses the command
unfoldable pub command_of : List Text → Option Command
command_of [] = None
command_of (command ∷ words) =
    if bytes_eq command (codes "info") then option_map Info (info_of words)
    else if bytes_eq command (codes "run") then option_map RunCart (run_of words)
    else if bytes_eq command (codes "demo") then option_map RunDemo (demo_of words)
    else if bytes_eq command (codes "vgm") then option_map Convert (conversion_of Vgm words)
    else if bytes_eq command (codes "play") then option_map Convert (conversion_of Sound words)
    else if bytes_eq command (codes "asm") then option_map Assemble (assembling_of words)
    else if bytes_eq command (codes "debug") then option_map Debug (debugging_of words)
    else if bytes_eq command (codes "rollback") then option_map Rollback (rolling_of words)
    else None

-- the run but for the number of its workers
abbrev pub but_workers : Run → Run
but_workers run = record run { workers = 1 }
