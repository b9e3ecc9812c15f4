-- Where bytes of the form that is written, which are no saved state of a cartridge, go wrong. This
-- project's profile.
use Rattle.std.specs.Prelude.{◌≡◌, ℕ, ◌≤◌, List, [], length, slice_index}
use Rattle.md_pads.specs.Recording.{Recorded}
use Rattle.md_chips.specs.Console.{renderer_state_in}
use Rattle.md_chips.specs.Machines.{MachineValue}
use Rattle.md_chips.specs.Media.{no_media}
use Rattle.md_chips.specs.Starts.{first_batch}
use Rattle.save_state.specs.Layout.{part_of, at_part, magic_part, region_part, state_size}
use Rattle.save_state.specs.Items.{at_of, IsMain, MainFails, IsSub, SubFails, IsShared, SharedFails, IsPicture, RendererStateFails, IsFm, FmFails, IsPsg, PsgFails}
use Rattle.md_word.specs.Clock.{last_cycle}
use Rattle.save_state.specs.States.{mark}

-- a field at this offset breaks its rule
pub data FailsAt (cart bytes : List ℕ) (place : ℕ) : Type 0 where
  at_is_invalid : place ≡ at_part.place → ¬ ((1 ≤ at_of bytes) × (at_of bytes ≤ last_cycle)) → FailsAt cart bytes place
  region_is_invalid : place ≡ region_part.place → ¬ (slice_index bytes region_part.place ≤ 1) → FailsAt cart bytes place
  main_is_invalid : MainFails cart bytes place → FailsAt cart bytes place
  sub_is_invalid : SubFails cart bytes place → FailsAt cart bytes place
  shared_is_invalid : SharedFails bytes place → FailsAt cart bytes place
  renderer_state_is_invalid : RendererStateFails bytes place → FailsAt cart bytes place
  fm_is_invalid : FmFails bytes place → FailsAt cart bytes place
  psg_is_invalid : PsgFails bytes place → FailsAt cart bytes place

-- as many bytes as a state has, with its magic before them
pub record HasForm (bytes : List ℕ) : Type 0 where
  pub long : length bytes ≡ state_size
  pub mark : part_of magic_part bytes ≡ mark

-- the parts after the digest keep this machine, with nothing made that waits to be drained
pub record IsMachineOf (cart : List ℕ) (recording : Recorded) (bytes : List ℕ) (m : MachineValue) : Type 0 where
  pub at : m.at ≡ at_of bytes
  pub begun : 1 ≤ m.at
  pub near : m.at ≤ last_cycle
  pub region : slice_index bytes region_part.place ≤ 1
  pub main : IsMain cart bytes (record { cart = m.console.cart; state = m.console.main })
  pub sub : IsSub cart bytes m.console.sub
  pub shared : IsShared recording bytes m.console.shared
  pub renderer_state : IsPicture bytes (renderer_state_in m.console)
  pub fm_cycle : m.console.fm_cycle ≡ first_batch m.at
  pub psg_cycle : m.console.psg_cycle ≡ first_batch m.at
  pub fm : IsFm bytes m.console.fm
  pub psg : IsPsg bytes m.console.psg
  pub entries : m.entries ≡ []
  pub media : m.media ≡ no_media
