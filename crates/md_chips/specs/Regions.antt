-- The region of a machine, and the limits of a segment in it. Genesis Technical Overview, the television
-- systems; the limits are this project's profile.
use Rattle.std.specs.Prelude.{◌≡◌, ℕ, Bool, if◌then◌else◌}
use Rattle.md_chips.specs.Console.{Console}

-- the board and the drawing half of the VDP are of one region
abbrev pub IsOneRegion : Console → Type 0
IsOneRegion z = z.pal ≡ z.shared.vdp.pal

-- the region of both halves of the VDP is another machine's
pub record Stays (old new : Console) : Type 0 where
  pub pal : new.pal ≡ old.pal
  pub region : new.shared.vdp.pal ≡ old.shared.vdp.pal

-- the entries of a segment, at most
abbrev pub most_entries : Bool → ℕ
most_entries pal = if pal then 62600 else 52500

-- its batches of each sound chip
abbrev pub most_batches : Bool → ℕ
most_batches pal = if pal then 67 else 56

-- its pairs of samples, of which a batch has 16
abbrev pub most_pairs : Bool → ℕ
most_pairs pal = if pal then 1072 else 896
