-- What bytes are found to be as a saved state. This project's profile.
use Rattle.std.specs.Prelude.{◌≡◌, ℕ, List}
use Rattle.md_pads.specs.Recording.{Recorded}
use Rattle.md_chips.specs.Starts.{Start}
use Rattle.save_state.specs.Versions.{IsOtherCart, IsState, IsInvalidAt}

-- a machine at a cycle, a state of another cartridge with both digests, or invalid at an offset
pub data StateVerdict : Type 0 where
  Keeps : Start → StateVerdict
  OfOther : List ℕ → List ℕ → StateVerdict
  StateInvalidAt : ℕ → StateVerdict

-- with this cartridge and this recording of the pads the bytes are so
abbrev pub IsStateVerdict : List ℕ → Recorded → List ℕ → StateVerdict → Type 0
IsStateVerdict cart recording bytes (Keeps start) = IsState cart bytes start × (start.console.shared.recording ≡ recording)
IsStateVerdict cart recording bytes (OfOther kept given) = IsOtherCart cart bytes kept given
IsStateVerdict cart recording bytes (StateInvalidAt place) = IsInvalidAt cart bytes place
