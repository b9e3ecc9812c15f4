-- A chip of the core that a machine holds.
use Rattle.std.proofs.Common.{◌≡◌, ℕ, ◌<◌, List, length, ap, ◌∙◌, arith}
use Rattle.std.specs.Prelude.{slice_index_or}
use Rattle.std.proofs.lemmas.List.{get_or_read}
use Rattle.chip_core.specs.Cores.{CoreValue, IsCore, chip_in}
use Rattle.bus_shared.specs.Board.{Board, IsBoard}
use Rattle.md_chips.specs.Rules.{IsChip, five}
use Rattle.md_chips.specs.declared.chips.Chip.{Chip}

-- what is at a place of its chips is the chip of that number
pub read-chip : (v : CoreValue Chip Board) (chips : List Chip) (i : ℕ) (x : Chip) → IsCore five IsChip IsBoard v → chips ≡ v.chips → i < 5
    → x ≡ slice_index_or chips i x → x ≡ chip_in five v.chips i
read-chip v chips i x core same within read =
    get_or_read chips i x (omega (arith, within, core.shape.chip_count, ap (λ (l : List Chip). length l) same)) read five.blank
    ∙ ap (λ (l : List Chip). chip_in five l i) same
