-- The bytes of a sound file. RIFF WAVE, Multimedia Programming Interface and Data Specifications
-- 1.0.
use Rattle.std.specs.Prelude.{ℕ, ℤ, ◌+◌, ◌*◌, Bool, List, ◌++◌, codes}
use Rattle.std.specs.Int.{w16, cast_unsigned}
use Rattle.md_word.specs.Region.{sound_rate}
use Rattle.byteorder.specs.Endian.{little_bytes}

-- how samples are kept: format 1 (PCM), 2 channels, pairs a second, bytes a second, bytes a pair,
-- bits a sample
unfoldable pub wav_format : Bool → List ℕ
wav_format pal =
    little_bytes 4 16 ++ little_bytes 2 1 ++ little_bytes 2 2 ++ little_bytes 4 (sound_rate pal) ++ little_bytes 4 (4 * sound_rate pal) ++ little_bytes 2 4 ++ little_bytes 2 16

-- the header of a file of so many pairs of 4 bytes, of a region
unfoldable pub wav_head : ℕ → Bool → List ℕ
wav_head pairs pal =
    codes "RIFF" ++ little_bytes 4 (36 + 4 * pairs) ++ codes "WAVEfmt " ++ wav_format pal ++ codes "data" ++ little_bytes 4 (4 * pairs)

-- a pair of samples in two's complement, left and right
unfoldable pub pair_bytes : ℤ → ℤ → List ℕ
pair_bytes left right = little_bytes 2 (cast_unsigned w16 left) ++ little_bytes 2 (cast_unsigned w16 right)
