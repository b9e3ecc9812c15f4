-- The record of a machine of five chips.
use Rattle.std.specs.Prelude.{[], None}
use Rattle.chip_core.specs.Machines.{Machine}
use Rattle.m68k_chip.specs.States as states
use Rattle.z80_chip.specs.States as states80
use Rattle.fm_chip.specs.Synth as fm_synths
use Rattle.psg_sound.specs.Synth.{at_power_on}
use Rattle.md_chips.specs.Console.{Console}
use Rattle.md_chips.specs.Lines.{no_renderer_state}
use Rattle.bus_shared.specs.Board.{Board}
use Rattle.md_chips.specs.Parts.{RendererValue, FmValue, MainValue, PsgValue, SubValue}
use Rattle.md_chips.specs.declared.chips.Chip.{Chip}
use Rattle.md_chips.specs.declared.chips.Chip.TheVariants.{Main, Sub, Renderer, Fm, Psg}

-- the 68000 of a chip; where it is another, any
abbrev pub main_of : Chip → MainValue
main_of (Main c) = c
main_of _ = record { chip = record { cart = []; state = states.power_on [] }; answer = None }

-- the Z80 of a chip; where it is another, any
abbrev pub sub_of : Chip → SubValue
sub_of (Sub c) = c
sub_of _ = record { chip = record { cart = []; state = states80.power_on }; answer = None }

-- the FM synthesis of a chip; where it is another, any
abbrev pub fm_of : Chip → FmValue
fm_of (Fm c) = c
fm_of _ = record { synth = fm_synths.at_power_on; cycle = 0; taken = []; samples = [] }

-- the PSG of a chip; where it is another, any
abbrev pub psg_of : Chip → PsgValue
psg_of (Psg c) = c
psg_of _ = record { synth = at_power_on; cycle = 0; taken = []; samples = [] }

-- the drawing half of the VDP of a chip; where it is another, any
abbrev pub renderer_of : Chip → RendererValue
renderer_of (Renderer c) = c
renderer_of _ = record { chip = no_renderer_state; view = None }

-- the record of five chips and a board: the answers that the processors keep, the view, the writes that
-- the sound chips took, and the frame and the samples that are kept are left out
abbrev pub record_of : Chip → Chip → Chip → Chip → Chip → Board → Console
record_of c0 c1 c2 c3 c4 b = record {
  cart = (main_of c0).chip.cart;
  main = (main_of c0).chip.state;
  sub = (sub_of c1).chip;
  line = (renderer_of c2).chip.next;
  note = (renderer_of c2).chip.note;
  picture = (renderer_of c2).chip.picture;
  pal = (renderer_of c2).chip.pal;
  fm_cycle = (fm_of c3).cycle;
  fm = (fm_of c3).synth;
  psg_cycle = (psg_of c4).cycle;
  psg = (psg_of c4).synth;
  shared = b;
}

-- the record of a machine
unfoldable pub console_of : Machine Chip Board → Console
console_of m = record_of (m.chip 0) (m.chip 1) (m.chip 2) (m.chip 3) (m.chip 4) m.shared
