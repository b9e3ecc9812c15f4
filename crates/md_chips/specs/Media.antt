-- What is seen and rendered of a run, before the sounds are mixed.
use Rattle.std.specs.Prelude.{ℕ, ℤ, List, [], ◌++◌}

-- the finished frames, the sums of both sides of each sample of the FM chip, and the level of each
-- sample of the PSG
pub record Media : Type 0 where
  pub frames : List (List ℕ)
  pub sides : List (ℤ × ℤ)
  pub levels : List ℤ

-- nothing is seen or rendered
abbrev pub no_media : Media
no_media = record { frames = []; sides = []; levels = [] }

-- those of one run, and after them those of another
abbrev pub joined : Media → Media → Media
joined first second = record {
  frames = first.frames ++ second.frames;
  sides = first.sides ++ second.sides;
  levels = first.levels ++ second.levels;
}
