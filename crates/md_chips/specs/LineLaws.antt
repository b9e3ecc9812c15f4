-- What the event of a line leaves, and when two ways to draw it are one.
use Rattle.std.specs.Prelude.{◌≡◌, ℕ, ◌+◌, ◌<◌, ◌≤◌, ◌&&◌, nat_lt, not, Bool, true, false, List, Option, Some, None, is_some, option_map}
use Rattle.std.proofs.Common.{refl, sym, ap, ◌∙◌, arith, inl, inr}
use Rattle.std.proofs.lemmas.Bool.{cases_Bool, le-ltb, ltb-false}
use Rattle.md_word.specs.Clock.{line}
use Rattle.md_word.specs.Region.{height, picture_width, rows}
use Rattle.vdp_ports.specs.Vdp.{Vdp}
use Rattle.vdp_time.specs.Lines.{line_of}
use Rattle.vdp_planes.specs.Dots.{Dot}
use Rattle.vdp_planes.specs.declared.view.LineView.{LineView}
use Rattle.vdp_planes.specs.declared.view.SpriteNote.{SpriteNote}
use Rattle.vdp_planes.specs.View.{display_height, dot_at, view_of}
use Rattle.vdp_sprites.specs.Sprites.{sprite_dot}
use Rattle.vdp_chip.specs.RendererState.{RendererState, IsRendererState, answered, line_drawn, picture_after}
use Rattle.vdp_chip.specs.Picture.{cleared, drawn, finished, scanline_of}
use Rattle.vdp_chip.proofs.Lined.{renderer_state_drawn}
use Rattle.vdp_sprites.specs.Lines.{note_on, sprites_on}
use Rattle.vdp_ahead.proofs.Drawn.{scanline_drawn}
use Rattle.bus_shared.specs.Video.{line_view}
use Rattle.md_chips.specs.Parts.{IsRenderer}
use Rattle.md_chips.specs.Lines.{drawn_from, reported_view, unreported}

-- where the view is, is no matter of the picture
pub renderer_state-wherever : (b : Bool) (d : RendererState) → IsRendererState d → IsRendererState (record d { has_view = b })
renderer_state-wherever b d h = record { picture = h.picture; frame = h.frame; at_line = h.at_line; undrawn = h.undrawn }

-- what holds of the drawing half holds after the event of a line
pub renderer_state-ok : (view : LineView) (d : RendererState) → IsRendererState d → IsRendererState (drawn_from view d)
unfolding drawn_from
renderer_state-ok view d h = renderer_state_drawn view (sprites_on (line_of d.next d.pal) view) (note_on (line_of d.next d.pal) view) d h

-- there is a value under a function where there is one
some-reported : {A B : Type 0} (f : A → B) (o : Option A) → is_some (option_map f o) ≡ is_some o
some-reported f None = refl
some-reported f (Some x) = refl

-- what holds of the drawing half, wherever its view is
pub is_drawn : {A : Type 0} (d : RendererState) (f : A → LineView) (view : Option A) → IsRendererState d → d.has_view ≡ not (is_some view) → IsRenderer (record { chip = d; view = option_map f view })
is_drawn d f view ok is = record { chip = ok; view = is ∙ ap not (sym (some-reported f view)) }

-- the next line comes 3,420 cycles later
pub drawn-next : (view : LineView) (d : RendererState) → (drawn_from view d).next ≡ d.next + line
unfolding drawn_from line_drawn
drawn-next view d = refl

-- a view that is lent and given back
drawn-home : (view : LineView) (d : RendererState) → d.has_view ≡ true
    → record (drawn_from view (record d { has_view = false })) { has_view = true } ≡ drawn_from view d
unfolding drawn_from line_drawn picture_after
drawn-home view d home = λ i. record (drawn_from view d) { has_view = sym home i }

-- a line whose row is the same from other dots of the sprites
line-same : (view : LineView) (s t : List Dot) (note : SpriteNote) (d : RendererState) → scanline_of view s (line_of d.next d.pal) ≡ scanline_of view t (line_of d.next d.pal)
    → line_drawn view s note d ≡ line_drawn view t note d
unfolding line_drawn picture_after
line-same view s t note d same =
    ap (λ (row : List ℕ).
    let number = line_of d.next d.pal in
    let picture = drawn d.pal number row (cleared number d.picture) in
    record d { next = d.next + line; note = note; picture = picture; frame = finished d.pal number picture d.frame })
    same

-- after the picture it is no matter from what a line is drawn
unseen-view : (v w : LineView) (s t : List Dot) (note : SpriteNote) (d : RendererState) → nat_lt (line_of d.next d.pal) (rows d.pal) ≡ false → line_drawn v s note d ≡ line_drawn w t note d
unfolding line_drawn picture_after drawn
unseen-view v w s t note d following = rw following refl

note-following : (v w : LineView) (y : ℕ) → display_height v ≤ y → display_height w ≤ y → note_on y v ≡ note_on y w
unfolding note_on
note-following v w y first second = rw (le-ltb y (display_height v) first, le-ltb y (display_height w) second) refl

-- a line that is drawn from a view and the dots of its sprites
line-made : (view : LineView) (s : List Dot) (note : SpriteNote) (d : RendererState) → note ≡ note_on (line_of d.next d.pal) view
    → (line_of d.next d.pal < display_height view → (x : ℕ) → x < picture_width → dot_at s x ≡ sprite_dot view (line_of d.next d.pal) x)
    → line_drawn view s note d ≡ drawn_from view d
unfolding drawn_from
line-made view s note d noted dots =
    rw noted (line-same view s (sprites_on (line_of d.next d.pal) view) (note_on (line_of d.next d.pal) view) d (scanline_drawn view s (line_of d.next d.pal) dots))

-- the display has no line after the picture
height-within : (pal tall : Bool) → height (pal && tall) ≤ rows pal
height-within true true = omega arith
height-within true false = omega arith
height-within false tall = omega arith

-- what is not observable of a view is not seen
pub reported-drawn : (view : LineView) (d : RendererState) → view.pal ≡ d.pal → drawn_from (reported_view d.next view) d ≡ drawn_from view d
unfolding drawn_from reported_view
reported-drawn view d same =
    let y = line_of d.next d.pal in
    let test : nat_lt (line_of d.next view.pal) (rows view.pal) ≡ nat_lt y (rows d.pal) = ap (λ (pal : Bool). nat_lt (line_of d.next pal) (rows pal)) same in
    elim (cases_Bool (nat_lt y (rows d.pal))) [
      | inl below ↦ rw (test ∙ below) refl
      | inr following ↦
          (let past : rows d.pal ≤ y = ltb-false y (rows d.pal) following in
          let region : rows view.pal ≡ rows d.pal = ap rows same in
          let none = unreported view.pal in
          let first : display_height none ≤ y = omega (arith, height-within view.pal false, region, past) in
          let second : display_height view ≤ y = omega (arith, height-within view.pal view.tall, region, past) in
          rw (test ∙ following) (
          ap (λ (n : SpriteNote). line_drawn none (sprites_on y none) n d) (note-following none view y first second)
          ∙ unseen-view none view (sprites_on y none) (sprites_on y view) (note_on y view) d following))
    ]

-- what the board fills is observable
pub reported_filled : (pal : Bool) (cycle : ℕ) (vdp : Vdp) (view : LineView) → view.pal ≡ pal → reported_view cycle (line_view cycle vdp view) ≡ reported_view cycle (view_of pal vdp)
unfolding reported_view line_view
reported_filled pal cycle vdp view same = elim (cases_Bool (nat_lt (line_of cycle view.pal) (rows view.pal))) [
  | inl below ↦ rw (below, sym same, below) refl
  | inr following ↦ rw (following, sym same, following) refl
]

-- and its region stays
pub filled_region : (cycle : ℕ) (vdp : Vdp) (view : LineView) → (line_view cycle vdp view).pal ≡ view.pal
unfolding line_view
filled_region cycle vdp view = elim (cases_Bool (nat_lt (line_of cycle view.pal) (rows view.pal))) [
  | inl below ↦ rw below refl
  | inr following ↦ rw following refl
]

-- a line that is drawn from a view which was lent, and returns with it
pub lent_drawn : (view : LineView) (s : List Dot) (note : SpriteNote) (d : RendererState) → view.pal ≡ d.pal → note ≡ note_on (line_of d.next d.pal) view
    → (line_of d.next d.pal < display_height view → (x : ℕ) → x < picture_width → dot_at s x ≡ sprite_dot view (line_of d.next d.pal) x)
    → answered view s note d ≡ record (drawn_from (reported_view d.next view) d) { has_view = true }
unfolding answered
lent_drawn view s note d same noted dots = ap (λ (after : RendererState). record after { has_view = true }) (line-made view s note d noted dots ∙ sym (reported-drawn view d same))

-- a line that is drawn straight from a scene
pub straight_drawn : (view : LineView) (s : List Dot) (note : SpriteNote) (d : RendererState) → d.has_view ≡ true → view.pal ≡ d.pal → note ≡ note_on (line_of d.next d.pal) view
    → (line_of d.next d.pal < display_height view → (x : ℕ) → x < picture_width → dot_at s x ≡ sprite_dot view (line_of d.next d.pal) x)
    → line_drawn view s note d ≡ record (drawn_from (reported_view d.next view) (record d { has_view = false })) { has_view = true }
straight_drawn view s note d home same noted dots =
    line-made view s note d noted dots ∙ sym (reported-drawn view d same) ∙ sym (drawn-home (reported_view d.next view) d home)

-- a line whose row was drawn ahead
pub placed_drawn : (view : LineView) (note : SpriteNote) (d after : RendererState) → d.has_view ≡ true → view.pal ≡ d.pal → note ≡ note_on (line_of d.next d.pal) view
    → after ≡ line_drawn view (sprites_on (line_of d.next d.pal) view) note d
    → after ≡ record (drawn_from (reported_view d.next view) (record d { has_view = false })) { has_view = true }
unfolding drawn_from
placed_drawn view note d after home same noted placed =
    placed ∙ ap (λ (n : SpriteNote). line_drawn view (sprites_on (line_of d.next d.pal) view) n d) noted
    ∙ sym (reported-drawn view d same) ∙ sym (drawn-home (reported_view d.next view) d home)
