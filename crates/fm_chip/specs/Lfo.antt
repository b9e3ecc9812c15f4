-- The low frequency oscillator: tremolo (AM) and vibrato (PM).
-- Yamaha, YM2608 Application Manual, LFO; its depths are this project's profile.
use Rattle.std.specs.Prelude.{ℕ, ◌+◌, ◌-◌, ◌*◌, ◌/◌, ◌%◌, ◌==◌, nat_lt, nat_le, ℤ, pos, neg_ℤ, if◌then◌else◌, List, [], ◌∷◌, slice_index}
use Rattle.fm_chip.specs.declared.lfo.Lfo.{Lfo}

-- samples from one step to the next
abbrev pub periods : List ℕ
periods = 108 ∷ 77 ∷ 71 ∷ 67 ∷ 62 ∷ 44 ∷ 8 ∷ 5 ∷ []

-- at a sample, by register 22: bit 3 is on, the low three the rate; off, it is at 0
unfoldable pub stepped : ℕ → Lfo → Lfo
stepped register lfo =
    if register / 8 % 2 == 0 then record { t = 0; count = 0 } else (
    if nat_le (slice_index periods (register % 8)) (lfo.count + 1) then record { t = (lfo.t + 1) % 128; count = 0 }
    else record { t = lfo.t; count = lfo.count + 1 })

-- tremolo at its whole depth
unfoldable pub triangle : ℕ → ℕ
triangle t = if nat_lt t 64 then 2 * t else 2 * (127 - t)

-- how much of it is heard at each depth: none, an eighth, a half, all
abbrev pub eighths : List ℕ
eighths = 0 ∷ 1 ∷ 4 ∷ 8 ∷ []

-- tremolo at a depth of 0 to 3, bits 5 and 4 of register B4
unfoldable pub tremolo : ℕ → ℕ → ℕ
tremolo depth t = triangle t * slice_index eighths depth / 8

-- vibrato's deviation without its sign at q of 32 places
unfoldable pub swing : ℕ → ℕ
swing q =
    if nat_lt q 8 then q else (
    if nat_lt q 16 then 16 - q else (
    if nat_lt q 24 then q - 16 else 32 - q))

-- the factor of each depth of vibrato, 0 to 7, bits 2 to 0 of register B4
abbrev pub factors : List ℕ
factors = 0 ∷ 1 ∷ 2 ∷ 3 ∷ 4 ∷ 6 ∷ 12 ∷ 24 ∷ []

-- what vibrato changes a frequency by, without its sign
unfoldable pub share : ℕ → ℕ → ℕ → ℕ
share fnum depth q = fnum * (swing q * slice_index factors depth) / 4096

-- what a frequency gains: negative in the second half, rounded towards zero
unfoldable pub gain : ℕ → ℕ → ℕ → ℤ
gain fnum depth q = if nat_lt q 16 then pos (share fnum depth q) else neg_ℤ (pos (share fnum depth q))
