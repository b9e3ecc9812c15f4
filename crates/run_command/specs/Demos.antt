-- The run of a demonstration cartridge: where it begins, and what is reported of it.
use Rattle.std.specs.Prelude.{◌≡◌, ℕ, length}
use Rattle.sha2.specs.Hashers.{Holds256}
use Rattle.sha2.specs.Sha256.{sha256}
use Rattle.md_pads.specs.Recording.{no_frames}
use Rattle.md_demo.specs.Demo.{demo_cart}
use Rattle.md_machine.specs.Outputs.{frames_bytes, journal_bytes, sound_bytes}
use Rattle.md_chips.specs.Starts.{Start}
use Rattle.md_args.specs.Words.{Demo}
use Rattle.run_command.specs.Resuming.{RunsWell}
use Rattle.run_command.specs.Runs.{entries_from, halted_from, media_from, powered_on}
use Rattle.run_command.specs.declared.digests.Digests.{Digests}
use Rattle.run_command.specs.declared.hashers.Hashers.{Hashers}
use Rattle.run_command.specs.declared.summary.Summary.{Summary}

-- it begins at power-on, with its cartridge and nothing pressed on the pads
abbrev pub demo_start : Demo → Start
demo_start demo = powered_on (record { cart = demo_cart demo.number; recording = no_frames; pal = demo.pal })

-- the digests of a run from a start to a cycle: of its frames, each with its head, of its pairs of
-- samples, and of the records of its journal
unfoldable pub digests_from : Start → ℕ → Digests
digests_from start end =
    record {
      frames = sha256 (frames_bytes start.console.pal (media_from start end).frames);
      samples = sha256 (sound_bytes (media_from start end));
      journal = sha256 (journal_bytes (entries_from start end));
    }

-- what is reported of a run from a start to a cycle that ends well
abbrev pub summary_from : Start → ℕ → Summary
summary_from start end =
    record {
      frames = length (media_from start end).frames;
      accesses = length (entries_from start end);
      halted = halted_from start end;
      digests = digests_from start end;
    }

-- a run from a start to a cycle ends well, and this is reported of it
pub record IsSummary (start : Start) (end : ℕ) (summary : Summary) : Type 0 where
  pub well : RunsWell start end start.at summary.frames summary.accesses summary.halted
  pub digests : summary.digests ≡ digests_from start end

-- digests on their way have what a run from a start made below a cycle
pub record HaveUntil (start : Start) (at : ℕ) (hashers : Hashers) : Type 0 where
  pub frames : Holds256 hashers.frames (frames_bytes start.console.pal (media_from start at).frames)
  pub samples : Holds256 hashers.samples (sound_bytes (media_from start at))
  pub journal : Holds256 hashers.journal (journal_bytes (entries_from start at))
