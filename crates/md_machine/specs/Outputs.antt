-- The bytes of the machine's output.
use Rattle.std.specs.Prelude.{◌≡◌, ◌⊎◌, ℕ, ◌+◌, ℤ, pos, Bool, true, false, List, [], ◌∷◌, ◌++◌, drop}
use Rattle.std.proofs.Common.{inl, inr}
use Rattle.std.specs.List.{flat_map}
use Rattle.md_files.specs.Journal.{entry_bytes}
use Rattle.md_files.specs.Pair.{mixed}
use Rattle.md_word.specs.Region.{picture_length}
use Rattle.md_files.specs.Wav.{pair_bytes}
use Rattle.md_word.specs.declared.event.Entry.{Entry}
use Rattle.md_files.specs.Ppm.{ppm_head}
use Rattle.md_chips.specs.Media.{Media}

-- the pair of a sample: the sums of the FM chip, mixed with the level of the PSG
abbrev pub sample_bytes : ℤ × ℤ → ℤ → List ℕ
sample_bytes sums level = pair_bytes (mixed sums.0 level) (mixed sums.1 level)

-- the sums of the first sample; silence where there is none
abbrev pub first_sums : List (ℤ × ℤ) → ℤ × ℤ
first_sums [] = (pos 0, pos 0)
first_sums (sums ∷ later) = sums

-- each level is mixed with the sums of the same number
abbrev pub mixed_bytes : List ℤ → List (ℤ × ℤ) → List ℕ
mixed_bytes [] sides = []
mixed_bytes (level ∷ levels) sides = sample_bytes (first_sums sides) level ++ mixed_bytes levels (drop 1 sides)

-- the pairs of samples
unfoldable pub sound_bytes : Media → List ℕ
sound_bytes media = mixed_bytes media.levels media.sides

-- the bytes of a frame of a region with its header
abbrev pub frame_length : Bool → ℕ
frame_length pal = 15 + picture_length pal

-- a picture has one of two lengths
pub a_length : (n : ℕ) (pal : Bool) → n ≡ picture_length pal → (n ≡ picture_length false) ⊎ (n ≡ picture_length true)
a_length n true e = inr e
a_length n false e = inl e

-- a frame with its header
abbrev pub frame_bytes : Bool → List ℕ → List ℕ
frame_bytes pal picture = ppm_head pal ++ picture

-- the frames, one after the other
unfoldable pub frames_bytes : Bool → List (List ℕ) → List ℕ
frames_bytes pal frames = flat_map (frame_bytes pal) frames

-- the records of entries
unfoldable pub journal_bytes : List Entry → List ℕ
journal_bytes entries = flat_map entry_bytes entries
