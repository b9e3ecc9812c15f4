-- A whole frame by the events of its lines. This project's profile.
use Rattle.std.specs.Prelude.{◌≡◌, ℕ, ◌+◌, List, [], ◌∷◌, ◌++◌, length, Some}
use Rattle.md_word.specs.Region.{rows}
use Rattle.vdp_time.specs.Lines.{line_of}
use Rattle.vdp_planes.specs.Dots.{Dot}
use Rattle.vdp_planes.specs.declared.view.LineView.{LineView}
use Rattle.vdp_planes.specs.declared.view.SpriteNote.{SpriteNote}
use Rattle.vdp_chip.specs.Picture.{scanline_of}
use Rattle.vdp_chip.specs.RendererState.{RendererState, line_drawn}

-- what the event of a line finds: the view, the dots of the sprites and their note
pub record Line : Type 0 where
  pub view : LineView
  pub sprites : List Dot
  pub note : SpriteNote

-- the rows of lines that follow one another, of which the first is line y
unfoldable pub scanlines_from : ℕ → List Line → List ℕ
scanlines_from y [] = []
scanlines_from y (first ∷ rest) = scanline_of first.view first.sprites y ++ scanlines_from (y + 1) rest

-- after the events of lines that follow one another
unfoldable pub after : List Line → RendererState → RendererState
after [] d = d
after (first ∷ rest) d = after rest (line_drawn first.view first.sprites first.note d)

-- from line 0 on: after the events of the picture's lines and of the one after it the frame is their
-- rows, each as its own event found it
abbrev pub IsItsScanlines : RendererState → Type 0
IsItsScanlines d = (lines : List Line) (last : Line) → line_of d.next d.pal ≡ 0 → length lines ≡ rows d.pal
    → (after (lines ++ (last ∷ [])) d).frame ≡ Some (scanlines_from 0 lines)
