-- A row of a cell that is ready to be drawn: four dots in a number of 64 bits, as words of 16.
-- This project's profile.
use Rattle.std.specs.Prelude.{◌≡◌, ℕ, ◌+◌, ◌*◌, ◌/◌, ◌%◌, ◌^◌, ◌<◌}
use Rattle.vdp_planes.specs.Planes.{pattern_index, pixel_of, turned}
use Rattle.vdp_planes.specs.View.{has_bit}
use Rattle.vdp_planes.specs.declared.cells.CellRow.{CellRow}
use Rattle.vdp_planes.specs.declared.view.LineView.{LineView}

-- the words of four dots of a name from these pixels, the one in this column lowest
abbrev pub AreWords : ℕ → ℕ → ℕ → ℕ → Type 0
AreWords name pixels column words =
    (c : ℕ) → c < 4 → words / 2 ^ (16 * c) % 65536 ≡ name / 32768 % 2 * 256 + name / 8192 % 4 * 16 + pixel_of pixels (column + c)

-- it is this row of the cell of its name
pub record IsCellRow (view : LineView) (row : ℕ) (kept : CellRow) : Type 0 where
  pub pixels : (c : ℕ) → c < 8
      → pixel_of kept.pixels c ≡ pattern_index view (kept.name % 2048) (turned (has_bit kept.name 2048) c) (turned (has_bit kept.name 4096) row)
  pub left : AreWords kept.name kept.pixels 0 kept.left
  pub right : AreWords kept.name kept.pixels 4 kept.right

-- where there is a row at all, it is this one of the cell of its name
abbrev pub KeepsRow : LineView → ℕ → CellRow → Type 0
KeepsRow view row kept = kept.name < 2 ^ 16 → IsCellRow view row kept
