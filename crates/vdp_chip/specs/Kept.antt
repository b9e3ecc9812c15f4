-- Where the finished frame is. This project's profile.
use Rattle.std.specs.Prelude.{◌≡◌, ℕ, ◌<◌, Bool, List, length, Option, Some, None}
use Rattle.md_word.specs.Region.{rows}
use Rattle.vdp_time.specs.Lines.{line_of}
use Rattle.vdp_chip.specs.declared.kept.Kept.{Kept}
use Rattle.vdp_chip.specs.declared.kept.Kept.TheVariants as kinds
use Rattle.vdp_chip.specs.Picture.{frame_of, memory_length}

-- the frame that is kept
abbrev pub kept_frame : Bool → Kept → List ℕ → List ℕ → Option (List ℕ)
kept_frame pal kinds.Nowhere picture aside = None
kept_frame pal kinds.Picture picture aside = Some (frame_of pal picture)
kept_frame pal kinds.Aside picture aside = Some (frame_of pal aside)

-- the picture is the frame until the next one begins
pub record IsKept (pal : Bool) (kept : Kept) (next : ℕ) (aside : List ℕ) : Type 0 where
  pub whole : length aside ≡ memory_length
  pub free : kept ≡ kinds.Picture → 0 < line_of next pal → rows pal < line_of next pal
