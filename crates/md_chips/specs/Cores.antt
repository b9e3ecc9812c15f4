-- The core with which a run of a machine begins.
use Rattle.std.specs.Prelude.{List, [], ◌∷◌, None}
use Rattle.bus_shared.specs.Board.{Board}
use Rattle.chip_core.specs.Cores.{CoreValue}
use Rattle.md_chips.specs.Assembled.{bounds_of}
use Rattle.md_chips.specs.Console.{Console, renderer_state_in}
use Rattle.md_chips.specs.Machines.{core_in}
use Rattle.md_chips.specs.declared.chips.Chip.{Chip}
use Rattle.md_chips.specs.declared.chips.Chip.TheVariants.{Main, Sub, Renderer, Fm, Psg}

-- the five chips of a machine: no answer is kept, no view is away, no write was taken, and no frame and no
-- sample is kept
abbrev pub chips_in : Console → List Chip
chips_in m =
    Main (record { chip = record { cart = m.cart; state = m.main }; answer = None })
    ∷ Sub (record { chip = m.sub; answer = None })
    ∷ Renderer (record { chip = renderer_state_in m; view = None })
    ∷ Fm (record { synth = m.fm; cycle = m.fm_cycle; taken = []; samples = [] })
    ∷ Psg (record { synth = m.psg; cycle = m.psg_cycle; taken = []; samples = [] })
    ∷ []

-- THE CORE OF A MACHINE: its board, its five chips, the key of each as its bound, and an empty journal
abbrev pub core_of : Console → CoreValue Chip Board
core_of m = core_in m.shared (chips_in m) (bounds_of (chips_in m)) [] 0
