-- What holds of each state of the Z80.
use Rattle.std.specs.Prelude.{◌≡◌, ℕ, ◌+◌, ◌*◌, List, [], length, IfSome, IsSome, Err}
use Rattle.md_word.specs.declared.sub_bus.Request80.{Request80}
use Rattle.rom_header.specs.Cartridge.{IsImage}
use Rattle.z80_parcel.specs.Parcels.{IsStore}
use Rattle.z80_chip.specs.Events.{carried_out, first_step, step}
use Rattle.z80_chip.specs.States.{State80}
use Rattle.z80_chip.specs.declared.stage.Stage.{Stage}
use Rattle.z80_chip.specs.declared.stage.Stage.TheVariants.{Sample, Access, Yield, Take}

-- a Z80 with the cartridge that its window shows
pub record Chip80Value : Type 0 where
  -- the cartridge's image
  pub cart : List ℕ
  pub state : State80

-- outside of instructions nothing is carried out
pub record IsBetween (state : State80) : Type 0 where
  pub cause : state.cause ≡ 0
  pub answers : state.answers ≡ []

-- at an access: its place, and that one is asked for
pub record IsAsking (cart : List ℕ) (state : State80) : Type 0 where
  pub store : IsSome state.store
  pub place : state.next ≡ state.start + first_step + step * length state.answers
  pub request : Request80
  pub asked : carried_out cart state state.cause ≡ Err request

-- what holds at each stage; a yield and a take come 60 cycles after their sample
abbrev pub IsAt : Stage → List ℕ → State80 → Type 0
IsAt Sample cart state = IsBetween state × (state.start ≡ state.next)
IsAt Access cart state = IsAsking cart state
IsAt Yield cart state = IsBetween state × (state.next ≡ state.start + first_step)
IsAt Take cart state = IsBetween state × (state.next ≡ state.start + first_step)

-- what holds of each chip
pub record IsChip80 (value : Chip80Value) : Type 0 where
  pub image : IsImage value.cart
  pub store : IfSome value.state.store IsStore
  pub stands : IsAt value.state.stage value.cart value.state
