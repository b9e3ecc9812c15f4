-- The event of a line, as the drawing half of the VDP makes it from what the board shows. Genesis
-- Technical Overview, the display and sprites; the places of the events are this project's profile.
use Rattle.std.specs.Prelude.{ℕ, nat_lt, Bool, true, false, if◌then◌else◌, List, [], ◌∷◌, Option, Some, None}
use Rattle.md_word.specs.Region.{rows}
use Rattle.vdp_time.specs.Lines.{line_of}
use Rattle.vdp_planes.specs.declared.view.LineView.{LineView}
use Rattle.vdp_sprites.specs.Lines.{note_on, sprites_on}
use Rattle.vdp_chip.specs.RendererState.{RendererState, line_drawn}

-- the event of the next line, drawn from a view
unfoldable pub drawn_from : LineView → RendererState → RendererState
drawn_from view d = let y = line_of d.next d.pal in line_drawn view (sprites_on y view) (note_on y view) d

-- a view for a picture of a region, of which nothing else is observable
abbrev pub unreported : Bool → LineView
unreported pal = record { registers = []; vram = []; cram = []; vsram = []; pal = pal; tall = false }

-- what is observable of the view that the board fills at a cycle: after the picture it fills none
unfoldable pub reported_view : ℕ → LineView → LineView
reported_view cycle view = if nat_lt (line_of cycle view.pal) (rows view.pal) then view else unreported view.pal

-- a drawing half of which nothing is observable
abbrev pub no_renderer_state : RendererState
no_renderer_state = record { next = 0; note = record { overflow = false; collision = false }; has_view = true; picture = []; frame = None; pal = false }

-- the frame that is kept, as a list
abbrev pub frames_of : Option (List ℕ) → List (List ℕ)
frames_of None = []
frames_of (Some picture) = picture ∷ []
