-- A session of two players.
use Rattle.std.specs.Prelude.{ℕ, ◌+◌, ◌<◌, ◌≤◌, List, length}
use Rattle.md_pads.specs.Recording.{Frame}
use Rattle.md_chips.specs.Machines.{MachineValue}
use Rattle.md_rollback.specs.Inputs.{InputsValue, IsFixed, Words, most_frames}
use Rattle.md_rollback.specs.Played.{IsPlayed}

-- a session as contracts see it
pub record SessionValue : Type 0 where
  -- how many frames it continues without the words of a player
  pub window : ℕ
  pub local : Words
  pub remote : Words
  pub confirmed : ℕ
  -- how many frames the machine made
  pub frames : ℕ
  pub machine : MachineValue

-- what holds of each session: its window is 1 to 16, it played at most all frames, its machine is that of the
-- frames that were played, and only the last frames may have been played with words that were not given
pub record IsSession (cart : List ℕ) (window : ℕ) (inputs : InputsValue) (played : List Frame) (machine : MachineValue) : Type 0 where
  pub some : 1 ≤ window
  pub most : window ≤ 16
  pub few : length played ≤ most_frames
  pub played_is : IsPlayed cart played (length played) machine
  pub fixed : (f : ℕ) → f + window < length played → IsFixed inputs.local inputs.remote played f
