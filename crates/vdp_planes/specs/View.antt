-- What a line is drawn from, and its dots.
use Rattle.std.specs.Prelude.{◌≡◌, ℕ, ◌+◌, ◌*◌, ◌/◌, ◌%◌, ◌<◌, ◌≤◌, Bool, false, ◌==◌, ◌&&◌, List, length, slice_index, slice_index_or}
use Rattle.md_word.specs.Region.{height, picture_width}
use Rattle.vdp_planes.specs.Dots.{Dot}
use Rattle.vdp_planes.specs.declared.view.LineView.{LineView}
use Rattle.vdp_planes.specs.declared.view.Scene.{Scene}
use Rattle.vdp_ports.specs.Vdp.{Vdp, vram_size}

-- what a scene borrows
abbrev pub seen : Scene → LineView
seen s = record { registers = s.registers.now; vram = s.vram.now; cram = s.cram.now; vsram = s.vsram.now; pal = s.pal; tall = s.tall }

-- what a line of a picture of a region is drawn from of the VDP
abbrev pub view_of : Bool → Vdp → LineView
view_of pal s = record { registers = s.registers; vram = s.vram; cram = s.cram; vsram = s.vsram; pal = pal; tall = s.tall }

-- the lines of the display, of which a picture for PAL may have 240
abbrev pub display_height : LineView → ℕ
display_height view = height (view.pal && view.tall)

-- a register by its number
abbrev pub register : LineView → ℕ → ℕ
register view n = slice_index view.registers n

-- a bit by its value
abbrev pub has_bit : ℕ → ℕ → Bool
has_bit n place = n / place % 2 == 1

-- the big-endian word of the video memory at an address, which wraps
unfoldable pub word_at : LineView → ℕ → ℕ
word_at view a = slice_index view.vram (a % vram_size) * 256 + slice_index view.vram ((a + 1) % vram_size)

-- a dot where nothing is
abbrev pub clear : Dot
clear = record { colour = 0; priority = false }

-- the dot at a place
abbrev pub dot_at : List Dot → ℕ → Dot
dot_at dots x = slice_index_or dots x clear

-- there are 64 colours
abbrev pub AllColours : List Dot → Type 0
AllColours dots = (x : ℕ) → x < picture_width → (dot_at dots x).colour < 64

-- a list of 320 items in which those from one place to another were filled: each with the function
-- of its place
pub record IsFilled {A : Type 0} (d : A) (from to : ℕ) (old new : List A) (f : ℕ → A) : Type 0 where
  pub whole : length new ≡ picture_width
  pub inside : (x : ℕ) → from ≤ x → x < to → slice_index_or new x d ≡ f x
  pub below : (x : ℕ) → x < from → slice_index_or new x d ≡ slice_index_or old x d
  pub above : (x : ℕ) → to ≤ x → slice_index_or new x d ≡ slice_index_or old x d
