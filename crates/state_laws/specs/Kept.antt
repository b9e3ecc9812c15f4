-- The machines that an image keeps, of which those of power-on have no saved state. This project's profile.
use Rattle.std.specs.Prelude.{◌≡◌, ◌⊎◌, ℕ, false, List}
use Rattle.md_pads.specs.Recording.{Recorded}
use Rattle.md_chips.specs.Console.{Console, power_on}
use Rattle.save_state.specs.Ready.{IsReady}
use Rattle.save_state.specs.States.{IsSaved}

-- a machine of power-on of NTSC with this cartridge
abbrev pub IsFirst : List ℕ → ℕ → Console → Type 0
IsFirst cart at m = (at ≡ 0) × ((recording : Recorded) × (m ≡ power_on cart recording false))

-- a machine that may be kept in an image
abbrev pub MayBeKept : List ℕ → ℕ → Console → Type 0
MayBeKept cart at m = IsFirst cart at m ⊎ IsReady at m

-- a machine that an image keeps
abbrev pub IsKept : List ℕ → ℕ → Console → Type 0
IsKept cart at m = IsFirst cart at m ⊎ IsSaved cart (record { at = at; console = m })
