-- The parts of a machine as the chips' own laws speak of them.
use Rattle.m68k_chip.specs.Validity.{IsChip68}
use Rattle.psg_sound.specs.Synth.{IsSynth}
use Rattle.vdp_chip.specs.RendererState.{IsRendererState}
use Rattle.z80_chip.specs.Validity.{IsChip80}
use Rattle.bus_shared.specs.Board.{IsBoard}
use Rattle.md_chips.specs.Console.{Console, renderer_state_in}

-- both processors, the drawing half of the VDP, the sound generator and the board are such as the code can
-- have
pub record HasValidParts (m : Console) : Type 0 where
  pub main : IsChip68 (record { cart = m.cart; state = m.main })
  pub sub : IsChip80 m.sub
  pub renderer_state : IsRendererState (renderer_state_in m)
  pub psg : IsSynth m.psg
  pub board : IsBoard m.shared
