-- A chip whose frame or samples are drained.
use Rattle.std.specs.Prelude.{ℕ, ℤ, List, [], Option, None, slice_set}
use Rattle.chip_core.specs.Cores.{CoreValue, chip_in}
use Rattle.bus_shared.specs.Board.{Board}
use Rattle.md_chips.specs.Refinement.{renderer_of, fm_of, psg_of}
use Rattle.md_chips.specs.Rules.{five}
use Rattle.md_chips.specs.declared.chips.Chip.{Chip}
use Rattle.md_chips.specs.declared.chips.Chip.TheVariants.{Main, Sub, Renderer, Fm, Psg}

-- the frame that the drawing half keeps; of another chip none
abbrev pub frame_of : Chip → Option (List ℕ)
frame_of c = (renderer_of c).chip.frame

-- the sums of both sides that the FM synthesis keeps; of another chip none
abbrev pub sides_of : Chip → List (ℤ × ℤ)
sides_of c = (fm_of c).samples

-- the levels that the PSG synthesis keeps; of another chip none
abbrev pub levels_of : Chip → List ℤ
levels_of c = (psg_of c).samples

-- the chip without its frame or samples
abbrev pub emptied : Chip → Chip
emptied (Main c) = Main c
emptied (Sub c) = Sub c
emptied (Renderer c) = Renderer (record c { chip = record c.chip { frame = None } })
emptied (Fm c) = Fm (record c { samples = [] })
emptied (Psg c) = Psg (record c { samples = [] })

-- the core without the frame or samples that the chip of a number keeps
abbrev pub with_emptied : CoreValue Chip Board → ℕ → CoreValue Chip Board
with_emptied core number = record core { chips = slice_set core.chips number (emptied (chip_in five core.chips number)) }
