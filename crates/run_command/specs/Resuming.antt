-- What comes of a run at its end, and of its machine where it is saved there.
use Rattle.std.specs.Prelude.{◌≡◌, ℕ, ◌≤◌, List, ◌++◌, length, Option}
use Rattle.md_word.specs.declared.event.Entry.{Entry}
use Rattle.md_chips.specs.Console.{Console, IsQuiet, IsRunTo}
use Rattle.md_chips.specs.Lists.{ListsEndAsRun}
use Rattle.md_chips.specs.Media.{Media, joined}
use Rattle.md_machine.specs.Outputs.{frames_bytes, journal_bytes, sound_bytes}
use Rattle.md_chips.specs.ValidParts.{HasValidParts}
use Rattle.md_chips.specs.Starts.{Start}
use Rattle.machine_laws.specs.Reached.{IsReached}
use Rattle.machine_laws.specs.Settling.{GoesOn}
use Rattle.save_state.specs.Ready.{IsReady}
use Rattle.save_state.specs.States.{settled_console, state_bytes}
use Rattle.save_state.specs.Versions.{IsState}
use Rattle.run_command.specs.Counts.{pairs_between}
use Rattle.run_command.specs.Heard.{IsHeard}
use Rattle.md_word.specs.Clock.{cycle_limit, last_cycle}
use Rattle.run_command.specs.Runs.{entries_from, frames_to, halted_from, journal_to, media_from, run_from, state_to}

-- where a run continues from what is saved at a cycle: the machine there, caught up
abbrev pub saved_start : Start → ℕ → Start
saved_start start at = record { at = at; console = settled_console at (run_from start at) }

-- what a run from a start has to save at a cycle is a saved state of its cartridge, and keeps that machine
abbrev pub IsKept : Start → ℕ → Type 0
IsKept start at = IsState start.console.cart (state_to start at) (saved_start start at)

-- a run that continues from a cycle makes what the whole run makes after it, and results in the same state
pub record IsRest (start : Start) (at end : ℕ) (after : Console) (later : List Entry) (output : Media) : Type 0 where
  pub entries : entries_from start end ≡ entries_from start at ++ later
  pub media : media_from start end ≡ joined (media_from start at) output
  -- in bytes: the whole run's frames, its sound after the header, and its journal are those of the first part, and
  -- after them those of the rest
  pub frames : frames_to start end ≡ frames_to start at ++ frames_bytes (saved_start start at).console.pal output.frames
  pub sound : sound_bytes (media_from start end) ≡ sound_bytes (media_from start at) ++ sound_bytes output
  pub journal : journal_to start end ≡ journal_to start at ++ journal_bytes later
  pub state : state_to start end ≡ state_bytes end after

-- whoever runs the machine that is saved at a cycle on makes the rest of the run
abbrev pub GoesOnFrom : Start → ℕ → Type 0
GoesOnFrom start at =
    (end : ℕ) (after : Console) (entries : List Entry) (output : Media) → at ≤ end → end ≤ last_cycle
    → IsRunTo (saved_start start at).console end after entries output → IsRest start at end after entries output

-- A RUN THAT ENDS WELL, from a start to a cycle: what is promised of it, and of what is reported of it
pub record RunsWell (start : Start) (end : ℕ) (begun finished counted : ℕ) (since : Option ℕ) : Type 0 where
  -- the machine that always moves the chip of least key has made all events below the end and no other
  pub least : IsRunTo start.console end (run_from start end) (entries_from start end) (media_from start end)
  -- from the core of its start every list of enabled events of the chips, in whatever order and to whatever
  -- cycle, ends as the run does; and segment after segment, with the frames and samples too
  pub lists : ListsEndAsRun start.at start.console
  -- it reports from where it began, and how much it made
  pub from : begun ≡ start.at
  pub frames : finished ≡ length (media_from start end).frames
  pub samples : pairs_between start.at end ≡ length (media_from start end).levels
  pub accesses : counted ≡ length (entries_from start end)
  -- and since when the 68000 is halted, if it is
  pub halted : since ≡ halted_from start end
  -- from power-on its sound is that of the writes in its journal
  pub heard : IsHeard start end
  -- the bytes that it saves there, if it is to, are a saved state
  pub kept : IsKept start end
  -- from which the run continues as it would have
  pub rest : GoesOnFrom start end

-- the laws on saved states
pub record StateLaws : Type 0 where
  pub reach : (m z : Console) (at end : ℕ) (entries : List Entry) (output : Media) → IsReached at m → at ≤ end → end ≤ cycle_limit
      → IsRunTo m end z entries output → IsReached end z
  pub ready : (at : ℕ) (m : Console) → 1 ≤ at → at ≤ last_cycle → IsReached at m → IsReady at m
  pub goes_on : (m z : Console) (at end : ℕ) (entries : List Entry) (output : Media) → HasValidParts m → IsQuiet at m → at ≤ end → end ≤ cycle_limit
      → IsRunTo m end z entries output → GoesOn end (settled_console at m) z entries output
  pub one_run : (m w z : Console) (end : ℕ) (first second : List Entry) (output other : Media) → IsRunTo m end w first output
      → IsRunTo m end z second other → (w ≡ z) × (first ≡ second) × (output ≡ other)
