-- A buffer of lines that are drawn from one view.
use Rattle.std.specs.Prelude.{◌≡◌, ℕ, ◌≤◌, ◌<◌, false, List, [], slice_index_or}
use Rattle.vdp_planes.specs.declared.view.LineView.{LineView}
use Rattle.vdp_planes.specs.declared.view.SpriteNote.{SpriteNote}
use Rattle.vdp_sprites.specs.Lines.{note_on}
use Rattle.vdp_ahead.specs.Lines.{scanline_on}

-- the view, the first line, the first after it that is not drawn, and the one below which lines are to be drawn
pub record LineBufferValue : Type 0 where
  pub view : LineView
  pub from : ℕ
  pub to : ℕ
  pub until : ℕ

-- nothing set
abbrev pub no_note : SpriteNote
no_note = record { overflow = false; collision = false }

-- the lines from one to another have the scanlines and notes that they have in the view
pub record AreDrawn (line_buffer : LineBufferValue) (scanlines : List (List ℕ)) (notes : List SpriteNote) : Type 0 where
  pub few : line_buffer.to ≤ 240
  pub scanline : (y : ℕ) → line_buffer.from ≤ y → y < line_buffer.to → slice_index_or scanlines y [] ≡ scanline_on y line_buffer.view
  pub note : (y : ℕ) → line_buffer.from ≤ y → y < line_buffer.to → slice_index_or notes y no_note ≡ note_on y line_buffer.view
