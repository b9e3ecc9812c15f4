-- The bytes of a saved state that keep the 68000. This project's profile.
use Rattle.std.specs.Prelude.{◌≡◌, ℕ, ◌+◌, false, true, List, take, drop, Option}
use Rattle.md_fields.specs.Fields.{spelling}
use Rattle.md_fields.specs.Items.{IsRefused, IsRight, Keeps}
use Rattle.md_word.specs.declared.main_bus.Request68.{Request68}
use Rattle.m68k_access.specs.Memory.{ram_size}
use Rattle.m68k_exec.specs.declared.sample.step.Predicted.{Predicted}
use Rattle.m68k_chip.specs.Held.{WaitsFor}
use Rattle.m68k_chip.specs.Numbers.{IsRegs, numbers_of}
use Rattle.m68k_chip.specs.Saved.{chip_fields, fields_by}
use Rattle.m68k_chip.specs.States.{State68}

-- how many bytes there are
abbrev pub chip_size : ℕ
chip_size = 178 + ram_size

-- the bytes that keep a state; the rules, and so the cartridge and the cycle, have no part in them
abbrev pub chip_bytes : State68 → List ℕ
chip_bytes state = spelling (fields_by 0 true (numbers_of state))

-- the bytes of a state at a cycle keep the 68000, whose rules hold
pub record Spells (cart : List ℕ) (at : ℕ) (bytes : List ℕ) (state : State68) : Type 0 where
  pub keeps : Keeps (chip_fields cart at) bytes (numbers_of state)
  pub right : IsRight (chip_fields cart at) (numbers_of state)
  pub regs : IsRegs state.regs

-- bytes of a state at a cycle that keep no 68000 are refused at this place: by their length, or by the
-- first rule that fails
abbrev pub InvalidAt : List ℕ → ℕ → List ℕ → ℕ → Type 0
InvalidAt cart at bytes place = IsRefused chip_size (chip_fields cart at) bytes place

-- work RAM as it is in the bytes
abbrev pub ram_in : List ℕ → List ℕ
ram_in bytes = take ram_size (drop 178 bytes)

-- the bytes keep the 68000, and at an access this request waits; nothing is predicted
pub record IsKept (cart : List ℕ) (at : ℕ) (bytes : List ℕ) (state : State68) (request : Option Request68) (predicted : Predicted) : Type 0 where
  pub spelled : Spells cart at bytes state
  pub waits : WaitsFor state.stage cart state request
  pub unknown : predicted.known ≡ false
