-- The VDP renderer: the state between two events, and the event of a line. Genesis
-- Technical Overview, the display; the places of the events are this project's profile.
use Rattle.std.specs.Prelude.{◌≡◌, ℕ, ◌+◌, ◌-◌, ◌*◌, ◌%◌, ◌<◌, ◌≤◌, ◌==◌, Bool, true, false, if◌then◌else◌, min, List, length, slice_index, Option, None, IfSome}
use Rattle.md_word.specs.Clock.{line}
use Rattle.md_word.specs.Region.{picture_length, rows, scanline_length}
use Rattle.md_word.specs.declared.event.Next.{Next}
use Rattle.vdp_time.specs.Lines.{line_of}
use Rattle.vdp_planes.specs.Dots.{Dot}
use Rattle.vdp_planes.specs.declared.view.LineView.{LineView}
use Rattle.vdp_planes.specs.declared.view.SpriteNote.{SpriteNote}
use Rattle.vdp_chip.specs.Picture.{blank, cleared, drawn, finished, memory_length, scanline_of}

-- the next event, the picture that grows row by row, and the frame that is finished
pub record RendererState : Type 0 where
  -- the cycle of the next line's event
  pub next : ℕ
  -- what the sprites of the last line have set
  pub note : SpriteNote
  -- whether the view is here, and not away to be filled
  pub has_view : Bool
  pub picture : List ℕ
  -- the finished frame, until it is dropped
  pub frame : Option (List ℕ)
  -- whether the picture is one for PAL
  pub pal : Bool

-- rows from this one on are not drawn: those after the line of the last event, and after the picture
unfoldable pub undrawn_from : ℕ → Bool → ℕ
undrawn_from next pal = if next == 0 then 0 else min (line_of (next - 1) pal + 1) (rows pal)

-- what holds of each: lengths, the place of the next event, and undrawn rows are 0
pub record IsRendererState (d : RendererState) : Type 0 where
  pub picture : length d.picture ≡ memory_length
  pub frame : IfSome d.frame (λ bytes. length bytes ≡ picture_length d.pal)
  pub at_line : d.next % line ≡ 0
  pub undrawn : (n : ℕ) → scanline_length * undrawn_from d.next d.pal ≤ n → n < memory_length → slice_index d.picture n ≡ 0

-- nothing is drawn at power-on, and line 0 comes first
abbrev pub at_power_on : Bool → RendererState
at_power_on pal = record {
  next = 0;
  note = record { overflow = false; collision = false };
  has_view = true;
  picture = blank;
  frame = None;
  pal = pal;
}

-- the event of a line is an access of chip 2
abbrev pub next_of : RendererState → Next
next_of d = record { key = record { cycle = d.next; chip = 2 }; sample = false }

-- the picture after the event of the next line
unfoldable pub picture_after : LineView → List Dot → RendererState → List ℕ
picture_after view sprites d =
    let number = line_of d.next d.pal in
    drawn d.pal number (scanline_of view sprites number) (cleared number d.picture)

-- all after the event of the next line
unfoldable pub line_drawn : LineView → List Dot → SpriteNote → RendererState → RendererState
line_drawn view sprites note d = record d {
  next = d.next + line;
  note = note;
  picture = picture_after view sprites d;
  frame = finished d.pal (line_of d.next d.pal) (picture_after view sprites d) d.frame;
}

-- and with the view back
unfoldable pub answered : LineView → List Dot → SpriteNote → RendererState → RendererState
answered view sprites note d = record (line_drawn view sprites note d) { has_view = true }
