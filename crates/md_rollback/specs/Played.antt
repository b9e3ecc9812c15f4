-- The machine of a run from power-on at the start of a frame of NTSC, and its image.
use Rattle.std.specs.Prelude.{◌≡◌, ℕ, false, ◌+◌, ◌*◌, ◌<◌, ◌≤◌, List, [], length}
use Rattle.md_pads.specs.Recording.{Frame, Recorded, recording_of}
use Rattle.md_word.specs.Clock.{frame, last_cycle}
use Rattle.md_word.specs.declared.event.Entry.{Entry}
use Rattle.md_chips.specs.Console.{Console, IsRunTo, power_on}
use Rattle.md_chips.specs.Machines.{MachineValue}
use Rattle.md_chips.specs.Media.{Media, no_media}
use Rattle.machine_laws.specs.Reached.{IsReached}
use Rattle.machine_laws.specs.Recorded.{AreAlikeBelow}
use Rattle.save_state.specs.States.{settled_console}
use Rattle.md_rollback.specs.Images.{AreImagesBelow, Image, Kept, ReachBackTo}
use Rattle.md_rollback.specs.Inputs.{frame_at}

-- the machine that a run of NTSC from power-on with this cartridge and recording is at a cycle, seen with what is
-- below the cycle settled
pub record IsRunAt (cart : List ℕ) (recording : List Frame) (at : ℕ) (m : Console) : Type 0 where
  pub last : Console
  pub entries : List Entry
  pub output : Media
  pub run : IsRunTo (power_on cart (recording_of recording) false) at last entries output
  pub same : settled_console at m ≡ settled_console at last

-- the machine that comes after so many frames
pub record IsMachineOf (cart : List ℕ) (recording : List Frame) (frames : ℕ) (machine : MachineValue) : Type 0 where
  pub at : machine.at ≡ frame * frames
  pub run : IsRunAt cart recording (frame * frames) machine.console

-- such a machine, drained, with what holds of each machine that a run reaches
pub record IsPlayed (cart : List ℕ) (recording : List Frame) (frames : ℕ) (machine : MachineValue) : Type 0 where
  pub machine_is : IsMachineOf cart recording frames machine
  pub cart_is : machine.console.cart ≡ cart
  pub reached : IsReached (frame * frames) machine.console
  pub entries : machine.entries ≡ []
  pub media : machine.media ≡ no_media

-- the machine after so many frames of a recording, seen from another whose words are the same so far
pub record IsPlayedAlike (cart : List ℕ) (recording : List Frame) (frames : ℕ) (machine : MachineValue) : Type 0 where
  pub made_with : List Frame
  pub alike : AreAlikeBelow false (frame * frames) made_with recording
  pub played : IsPlayed cart made_with frames machine

-- the bytes are the image of the machine after so many frames of a recording, of which the later ones have
-- no part in it
pub record IsImageOf (cart : List ℕ) (spelling : ℕ → Console → List ℕ) (is_own : ℕ → Console → Type 0) (recording : List Frame) (frames : ℕ) (bytes : List ℕ) : Type 0 where
  pub kept : Console
  pub made_with : List Frame
  pub alike : AreAlikeBelow false (frame * frames) made_with recording
  pub run : IsRunAt cart made_with (frame * frames) kept
  pub cart_is : kept.cart ≡ cart
  pub reached : IsReached (frame * frames) kept
  pub own : is_own (frame * frames) (settled_console (frame * frames) kept)
  pub all : bytes ≡ spelling (frame * frames) (settled_console (frame * frames) kept)

-- once so many frames of a recording were made: the images are of that recording, each of fewer frames than the one in
-- front of it, and reach back to a frame within the window where they did before
pub record AreMade (cart : List ℕ) (spelling : ℕ → Console → List ℕ) (is_own : ℕ → Console → Type 0) (recording : List Frame) (frames : ℕ) (old new : Kept) : Type 0 where
  pub each : AreImagesBelow (IsImageOf cart spelling is_own recording) (frames + 1) new.images
  pub back : (window f : ℕ) → old.most ≡ window + 1 → frames ≤ f + window → ReachBackTo f old.images → ReachBackTo f new.images
  pub rest : new ≡ record old { images = new.images }

-- images may be kept of the machines of power-on with this cartridge, and of those that a run reaches
pub record KeepsReached (cart : List ℕ) (is_ready : ℕ → Console → Type 0) : Type 0 where
  pub first : (recording : Recorded) → is_ready 0 (power_on cart recording false)
  pub later : (at : ℕ) (m : Console) → 1 ≤ at → at ≤ last_cycle → m.cart ≡ cart → IsReached at m → is_ready at m

-- the images of a run as contracts see them: how many are kept at most, the cartridge, the words with which the frames
-- were made, and the images
pub record RunImagesValue : Type 0 where
  pub most : ℕ
  pub cart : List ℕ
  pub played : List Frame
  pub images : List Image

-- the images are those of the machine after some of the frames that were played, newest first. Of each of the last
-- frames, fewer by one than images are kept, one is at its start or at most three frames earlier
pub record AreRunImages (cart : List ℕ) (spelling : ℕ → Console → List ℕ) (is_ready is_own : ℕ → Console → Type 0) (most : ℕ) (played : List Frame) (images : List Image) : Type 0 where
  pub some : 1 ≤ most
  pub keeps : KeepsReached cart is_ready
  pub each : AreImagesBelow (IsImageOf cart spelling is_own played) (length played + 1) images
  pub back : (f : ℕ) → f ≤ length played → length played < f + most → ReachBackTo f images

-- one frame more than were played is expected. So many of the first ones were played as they are expected, and the
-- images reach back to there
pub record ArePlayedRight (run : RunImagesValue) (expected : List Frame) (right : ℕ) : Type 0 where
  pub longer : length expected ≡ length run.played + 1
  pub within : right ≤ length run.played
  pub near : length run.played < right + run.most
  pub same : (f : ℕ) → f < right → frame_at run.played f ≡ frame_at expected f
