-- The states to which a session can go back, and what holds of a session.
use Rattle.std.specs.Prelude.{◌≡◌, ℕ, ◌<◌, ◌≤◌, List, [], length, get_or, take}
use Rattle.md_word.specs.Clock.{last_cycle}
use Rattle.md_word.specs.declared.event.Entry.{Entry}
use Rattle.md_chips.specs.Console.{Console, IsRunTo}
use Rattle.md_chips.specs.Machines.{MachineValue}
use Rattle.md_chips.specs.Media.{Media, no_media}
use Rattle.md_chips.specs.Starts.{IsStart}
use Rattle.md_debug.specs.Kept.{KeptValue, state_size}
use Rattle.md_debug.specs.Debuggees.{IsDebuggee}
use Rattle.md_debug.specs.Going.{drained, start_of}
use Rattle.md_debug.specs.declared.debuggee.Debuggee.{Debuggee}

-- the image that is in whole pages
abbrev pub image_in : ℕ → List ℕ → List ℕ
image_in size pages = take size pages

-- the machines that have images: each is where a run may begin and holds no output, an image keeps its cycle,
-- and each machine that a run from one of them reaches has an image too
pub record KeepsMachines (is_own : MachineValue → Type 0) (read_back : MachineValue → MachineValue) : Type 0 where
  pub start : (m : MachineValue) → is_own m → IsStart (start_of m)
  pub near : (m : MachineValue) → is_own m → m.at ≤ last_cycle
  pub entries : (m : MachineValue) → is_own m → m.entries ≡ []
  pub media : (m : MachineValue) → is_own m → m.media ≡ no_media
  pub cycle : (m : MachineValue) → is_own m → (read_back m).at ≡ m.at
  pub runs : (m : MachineValue) (end : ℕ) (z : Console) (entries : List Entry) (output : Media) → is_own m → m.at ≤ end → end ≤ last_cycle
      → IsRunTo m.console end z entries output → is_own (drained (record { at = end; console = z }))

-- each of the states keeps a machine, which is at its cycle
pub record AreImages (size : ℕ) (keeps : List ℕ → MachineValue → Type 0) (states : List (List ℕ)) (cycles : List ℕ) : Type 0 where
  pub as_many : length cycles ≡ length states
  pub machine : (i : ℕ) → i < length states → (m : MachineValue) × (keeps (image_in size (get_or states i [])) m × (m.at ≡ get_or cycles i 0))

-- what holds of a session between commands
pub record IsSession (size : ℕ) (is_own : MachineValue → Type 0) (keeps : List ℕ → MachineValue → Type 0) (read_back : MachineValue → MachineValue)
    (debuggee : Debuggee) (kept : KeptValue) : Type 0 where
  pub machines : KeepsMachines is_own read_back
  pub own : is_own debuggee.machine
  pub ready : IsDebuggee debuggee
  pub images : AreImages size keeps kept.states kept.cycles
  pub fits : size ≤ state_size
  pub some : 0 < length kept.states
