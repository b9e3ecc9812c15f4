-- What the reader of the words found, as the definition's command.
use Rattle.std.specs.Option.{option_copied}
use Rattle.md_args.specs.Words as words
use Rattle.md_args.specs.Commands.{Values}
use Rattle.md_args.specs.Words.{Assemble, Assembling, Command, Conversion, Convert, Debug, Debugging, Demo, Rollback, Rolling, Run, RunCart, RunDemo}
use Rattle.md_args.specs.declared.asm_words.AsmWords.{AsmWords}
use Rattle.md_args.specs.declared.command_words.CommandWords.{CommandWords}
use Rattle.md_args.specs.declared.command_words.CommandWords.TheVariants as read
use Rattle.md_args.specs.declared.convert_words.ConvertWords.{ConvertWords}
use Rattle.md_args.specs.declared.debug_words.DebugWords.{DebugWords}
use Rattle.md_args.specs.declared.demo_words.DemoWords.{DemoWords}
use Rattle.md_args.specs.declared.rollback_words.RollbackWords.{RollbackWords}
use Rattle.md_args.specs.declared.run_values.RunValues.{RunValues}
use Rattle.md_args.specs.declared.run_words.RunWords.{RunWords}

-- the run that words were read as
abbrev pub shown_run : RunWords → Run
shown_run run =
    record {
      rom = run.rom.now;
      cycles = run.cycles;
      recording = option_copied run.recording;
      load = option_copied run.load;
      save = option_copied run.save;
      frames = option_copied run.frames;
      sound = option_copied run.sound;
      journal = option_copied run.journal;
      workers = run.workers;
      pal = run.pal;
    }

-- the conversion that words were read as
abbrev pub shown_conversion : ConvertWords → Conversion
shown_conversion words = record { product = words.product; input = words.input.now; output = words.output.now; pal = words.pal }

-- the assembly that words were read as
abbrev pub shown_assembling : AsmWords → Assembling
shown_assembling words = record { source = words.source.now; output = words.output.now; list = option_copied words.list }

-- the session of the debugger that words were read as
abbrev pub shown_debugging : DebugWords → Debugging
shown_debugging words = record { rom = words.rom.now; script = words.script.now }

-- the session of two players that words were read as
abbrev pub shown_rolling : RollbackWords → Rolling
shown_rolling words = record { rom = words.rom.now; inputs = words.inputs.now; window = words.window }

-- what is given for the arguments
abbrev pub shown_values : RunValues → Values
shown_values values =
    record {
      rom = option_copied values.rom;
      cycles = option_copied values.cycles;
      recording = option_copied values.recording;
      load = option_copied values.load;
      save = option_copied values.save;
      frames = option_copied values.frames;
      sound = option_copied values.sound;
      journal = option_copied values.journal;
      workers = option_copied values.workers;
      pal = option_copied values.pal;
    }

-- the run of a demonstration cartridge that words were read as
abbrev pub shown_demo : DemoWords → Demo
shown_demo demo = record { number = demo.number; cycles = demo.cycles; workers = demo.workers; pal = demo.pal }

-- the command that words were read as
abbrev pub shown_command : CommandWords → Command
shown_command (read.Info rom) = words.Info rom.now
shown_command (read.Run run) = RunCart (shown_run run)
shown_command (read.Demo demo) = RunDemo (shown_demo demo)
shown_command (read.Convert words) = Convert (shown_conversion words)
shown_command (read.Assemble words) = Assemble (shown_assembling words)
shown_command (read.Debug words) = Debug (shown_debugging words)
shown_command (read.Rollback words) = Rollback (shown_rolling words)
