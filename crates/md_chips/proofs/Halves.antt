-- The half of an access under the lock leaves a chip's fields.
use Rattle.std.proofs.Common.{refl}
use Rattle.bus_shared.specs.Board.{Board}
use Rattle.md_chips.specs.Halves.{LeavesChip}
use Rattle.md_chips.specs.Rules.{perform}
use Rattle.md_chips.specs.declared.chips.Chip.{Chip}
use Rattle.md_chips.specs.declared.chips.Chip.TheVariants.{Main, Sub, Renderer, Fm, Psg}

pub leaves : (c : Chip) (b : Board) → LeavesChip c (perform c b).chip
leaves (Main c) b = refl
leaves (Sub c) b = refl
leaves (Renderer c) b = refl
leaves (Fm c) b = (refl, refl, refl)
leaves (Psg c) b = (refl, refl, refl)
