-- A run of the machine from a start, which always moves the chip of least key.
use Rattle.std.specs.Prelude.{◌≡◌, ℕ, ◌+◌, ◌-◌, ◌*◌, ◌<◌, ◌≤◌, nat_le, Bool, List, [], ◌++◌, length, Option}
use Rattle.md_word.specs.Clock.{cycle_limit}
use Rattle.md_word.specs.declared.event.Entry.{Entry}
use Rattle.md_files.specs.Wav.{wav_head}
use Rattle.md_chips.specs.Console.{AllBelow, Console, IsRunTo, journal, key_in, media_after, mover, power_on, ran}
use Rattle.md_chips.specs.Media.{Media, joined}
use Rattle.md_machine.specs.Outputs.{frames_bytes, journal_bytes, sound_bytes}
use Rattle.md_chips.specs.Starts.{IsStart, Start, batches_below, frames_below}
use Rattle.save_state.specs.States.{state_bytes}
use Rattle.run_command.specs.Least.{least}
use Rattle.run_command.specs.Outputs.{Pieces}
use Rattle.run_command.specs.declared.inputs.Inputs.{Inputs}

-- power-on, with the cartridge, the recording and the region of a run
abbrev pub powered_on : Inputs → Start
powered_on inputs = record { at = 0; console = power_on inputs.cart inputs.recording inputs.pal }

-- no next event is below the cycle: the least one is not
abbrev pub is_quiet : ℕ → Console → Bool
is_quiet end machine = nat_le end (key_in machine (mover machine)).cycle

-- How many moves make all events below the cycle: the least number that leaves none. From a start
-- there are never more such events than cycles and chips.
unfoldable pub moves_from : Start → ℕ → ℕ
moves_from start end = least (λ n. is_quiet end (ran start.console n)) (end - start.at + 5)

-- the machine after all events below the cycle
abbrev pub run_from : Start → ℕ → Console
run_from start end = ran start.console (moves_from start end)

-- the start of the instruction or exception that halted the 68000 below the cycle, if one did
unfoldable pub halted_from : Start → ℕ → Option ℕ
halted_from start end = (run_from start end).main.halted

-- the entries of the accesses from the start on that stand below the cycle
unfoldable pub entries_from : Start → ℕ → List Entry
entries_from start end = journal start.console (moves_from start end)

-- the frames that were finished from the start on and below the cycle, and the samples of the sound
-- chips
unfoldable pub media_from : Start → ℕ → Media
media_from start end = media_after start.console (moves_from start end)

-- the sound file of a run to the cycle `end`, as far as the cycle `at`: a head for all samples of
-- the run, and the pairs of those below `at`
unfoldable pub sound_until : Start → ℕ → ℕ → List ℕ
sound_until start end at = wav_head (length (media_from start end).levels) start.console.pal ++ sound_bytes (media_from start at)

-- the frames file of a run to the cycle
unfoldable pub frames_to : Start → ℕ → List ℕ
frames_to start end = frames_bytes start.console.pal (media_from start end).frames

-- the journal of a run to the cycle
unfoldable pub journal_to : Start → ℕ → List ℕ
journal_to start end = journal_bytes (entries_from start end)

-- the outputs of a run to the cycle `end`, as far as the cycle `at`
abbrev pub pieces_until : Start → ℕ → ℕ → Pieces
pieces_until start end at =
    record { frames = frames_to start at; sound = sound_until start end at; journal = journal_to start at; state = [] }

-- the saved state at the end of a run to the cycle
unfoldable pub state_to : Start → ℕ → List ℕ
state_to start end = state_bytes end (run_from start end)

-- the outputs of a run to the cycle: the state comes after all others
abbrev pub pieces_of : Start → ℕ → Pieces
pieces_of start end = record (pieces_until start end end) { state = state_to start end }

-- what the machine's laws say of the runs from a start
pub record RunLaws (start : Start) : Type 0 where
  -- there are never more events below a cycle than cycles up to it, and chips
  pub few_events : (end n : ℕ) → end ≤ cycle_limit → AllBelow start.console end n → n ≤ end - start.at + 5
  -- no next event is before that of the chip that moves
  pub mover_first : (m : Console) (i : ℕ) → i < 5 → (key_in m (mover m)).cycle ≤ (key_in m i).cycle
  -- there are no more entries than moves
  pub few_entries : (moves : ℕ) → length (journal start.console moves) ≤ moves
  -- moves, and after them later ones, lead where both do, and have the entries, the frames and the
  -- samples of both
  pub moves_added : (first later : ℕ) → ran start.console (first + later) ≡ ran (ran start.console first) later
  pub entries_added : (first later : ℕ) → journal start.console (first + later) ≡ journal start.console first ++ journal (ran start.console first) later
  pub output_added : (first later : ℕ) → media_after start.console (first + later) ≡ joined (media_after start.console first) (media_after (ran start.console first) later)
  -- a run, and after it one that continues from where it ended, are a run with those of both
  pub runs_joined : (w z : Console) (s t : ℕ) (entries later_entries : List Entry) (output later_output : Media) → s ≤ t
      → IsRunTo start.console s w entries output → IsRunTo w t z later_entries later_output
      → IsRunTo start.console t z (entries ++ later_entries) (joined output later_output)
  -- a run has 16 samples of each sound chip for each of its batches
  pub sides_counted : (z : Console) (end : ℕ) (entries : List Entry) (output : Media) → IsStart start
      → IsRunTo start.console end z entries output → length output.sides ≡ 16 * (batches_below end - batches_below start.at)
  pub levels_counted : (z : Console) (end : ℕ) (entries : List Entry) (output : Media) → IsStart start
      → IsRunTo start.console end z entries output → length output.levels ≡ 16 * (batches_below end - batches_below start.at)
  -- and a frame for each start of the line after the picture
  pub frames_counted : (z : Console) (end : ℕ) (entries : List Entry) (output : Media) → IsStart start
      → IsRunTo start.console end z entries output → length output.frames ≡ frames_below start.console.pal end - frames_below start.console.pal start.at
