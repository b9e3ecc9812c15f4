-- The bytes of a saved state that keep the VDP renderer. This project's profile.
use Rattle.std.specs.Prelude.{◌≡◌, ℕ, ◌+◌, ◌<◌, ◌≤◌, Bool, true, false, None, List}
use Rattle.md_fields.specs.Fields.{spelling}
use Rattle.md_fields.specs.Items.{IsRefused, IsRight, Keeps}
use Rattle.md_word.specs.Clock.{line}
use Rattle.vdp_chip.specs.RendererState.{RendererState}
use Rattle.vdp_chip.specs.Saved.{renderer_state_fields, numbers_of}

-- how many bytes there are
abbrev pub renderer_state_size : ℕ
renderer_state_size = 230410

-- the bytes that keep a chip; the rules, and so the cycle and the region, have no part in them
abbrev pub renderer_state_bytes : RendererState → List ℕ
renderer_state_bytes d = spelling (renderer_state_fields 0 false (numbers_of d))

-- its view is here, and no frame waits to be handed out
pub record IsDrained (d : RendererState) : Type 0 where
  pub view : d.has_view ≡ true
  pub frame : d.frame ≡ None

-- the bytes of a state at a cycle and of a region keep the chip, whose rules hold
pub record Spells (at : ℕ) (pal : Bool) (bytes : List ℕ) (d : RendererState) : Type 0 where
  pub keeps : Keeps (renderer_state_fields at pal) bytes (numbers_of d)
  pub right : IsRight (renderer_state_fields at pal) (numbers_of d)
  pub region : d.pal ≡ pal
  pub drained : IsDrained d

-- bytes of a state at a cycle and of a region that keep no chip are invalid at this offset: by their
-- length, or by the first rule that fails
abbrev pub InvalidAt : ℕ → Bool → List ℕ → ℕ → Type 0
InvalidAt at pal bytes place = IsRefused renderer_state_size (renderer_state_fields at pal) bytes place

-- a chip as it is kept: with its view here, and without a frame
abbrev pub drained : RendererState → RendererState
drained d = record d { has_view = true; frame = None }

-- a chip may be kept at a cycle: its next event is the first of a line from the cycle on
pub record IsReady (at : ℕ) (d : RendererState) : Type 0 where
  pub from : at ≤ d.next
  pub near : d.next < at + line
