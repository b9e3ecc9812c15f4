-- The images of the machines of a cartridge and a recording: their saved states, and that of power-on. This
-- project's profile.
use Rattle.std.specs.Prelude.{◌≡◌, ℕ, ◌≤◌, Bool, All, List, []}
use Rattle.md_word.specs.Clock.{last_cycle}
use Rattle.md_pads.specs.Recording.{IsFrame, Recorded}
use Rattle.md_chips.specs.Console.{Console, power_on}
use Rattle.md_chips.specs.Machines.{MachineValue}
use Rattle.md_chips.specs.Media.{no_media}
use Rattle.md_chips.specs.Starts.{Start}
use Rattle.machine_laws.specs.Reached.{IsReached}
use Rattle.save_state.specs.Layout.{state_size}
use Rattle.save_state.specs.States.{settled_console, state_bytes}
use Rattle.save_state.specs.Versions.{IsState}

-- whose machines have images: those of a cartridge and a recording, and of power-on in a region
pub record ImagesValue : Type 0 where
  pub cart : List ℕ
  pub recording : Recorded
  pub pal : Bool

-- a machine at its cycle
abbrev pub start_of : MachineValue → Start
start_of m = record { at = m.at; console = m.console }

-- a machine that holds no output
abbrev pub drained : ℕ → Console → MachineValue
drained at console = record { at = at; console = console; entries = []; media = no_media }

-- how many bytes an image has
abbrev pub size_of : ImagesValue → ℕ
size_of images = state_size

-- the image of a machine
abbrev pub image_of : ImagesValue → MachineValue → List ℕ
image_of images m = state_bytes m.at m.console

-- the machine at power-on
abbrev pub first_of : ImagesValue → MachineValue
first_of images = drained 0 (power_on images.cart images.recording images.pal)

-- the machine that an image keeps: fill, copy and timers are settled to its cycle
abbrev pub settled_of : ImagesValue → MachineValue → MachineValue
settled_of images m = drained m.at (settled_console m.at m.console)

-- the machines that have images here: those of the cartridge and the recording that a run reaches and that hold
-- no output; at cycle 0 that of power-on alone
pub record HasImage (images : ImagesValue) (m : MachineValue) : Type 0 where
  pub cart : m.console.cart ≡ images.cart
  pub recording : m.console.shared.recording ≡ images.recording
  pub near : m.at ≤ last_cycle
  pub reached : IsReached m.at m.console
  pub first : m.at ≡ 0 → m ≡ first_of images
  pub entries : m.entries ≡ []
  pub media : m.media ≡ no_media

-- the bytes keep this machine: they are a saved state of the cartridge, or the image of power-on
pub data Keeps (images : ImagesValue) (bytes : List ℕ) (m : MachineValue) : Type 0 where
  state : IsState images.cart bytes (start_of m) → m.console.shared.recording ≡ images.recording → m ≡ drained m.at m.console → Keeps images bytes m
  first : bytes ≡ image_of images (first_of images) → m ≡ first_of images → Keeps images bytes m

-- what is kept for the images: the image of power-on
pub record AreReady (images : ImagesValue) (first : List ℕ) : Type 0 where
  pub first_is : first ≡ image_of images (first_of images)
  pub buttons : All IsFrame images.recording.frames
