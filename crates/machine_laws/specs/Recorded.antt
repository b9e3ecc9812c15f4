-- A machine with another recording of the pads.
use Rattle.std.specs.Prelude.{◌≡◌, ℕ, ◌+◌, ◌*◌, ◌<◌, Bool, List, slice_get, unwrap_or}
use Rattle.md_pads.specs.Recording.{Frame, Recorded}
use Rattle.md_word.specs.Region.{finished_at, frame_cycles}
use Rattle.bus_shared.specs.Board.{Board}
use Rattle.md_chips.specs.Console.{Console}

-- the board with other frames in its recording, whose version stays
abbrev pub board_with : List Frame → Board → Board
board_with frames board = record board { recording = record board.recording { frames = frames } }

-- the machine with them
abbrev pub with_frames : List Frame → Console → Console
with_frames frames m = record m { shared = board_with frames m.shared }

-- the machine with another recording
abbrev pub with_recording : Recorded → Console → Console
with_recording recording m = record m { shared = record m.shared { recording = recording } }

-- the words of both pads in a frame of a list: none is pressed past its end
abbrev pub frame_at : List Frame → ℕ → Frame
frame_at frames f = unwrap_or (slice_get frames f) (0, 0)

-- at each line after the picture, 224 or on PAL 240, that begins below a cycle, the pads take the same words
-- from both lists of frames
abbrev pub AreAlikeBelow : Bool → ℕ → List Frame → List Frame → Type 0
AreAlikeBelow pal end one other = (f : ℕ) → frame_cycles pal * f + finished_at pal < end → frame_at one f ≡ frame_at other f
