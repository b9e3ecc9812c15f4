-- The mixed pair of samples. This project's profile.
use Rattle.std.specs.Prelude.{◌/◌, ℤ, pos, negsuc, ◌+ℤ◌}
use Rattle.std.specs.Int.{int_max, int_min}

-- half, rounded down
abbrev pub half : ℤ → ℤ
half (pos n) = pos (n / 2)
half (negsuc n) = negsuc (n / 2)

-- the nearest number of 16 bits
abbrev pub clamped : ℤ → ℤ
clamped z = int_max (negsuc 32767) (int_min z (pos 32767))

-- one side: the half of the FM sum plus the PSG's level
abbrev pub mixed : ℤ → ℤ → ℤ
mixed fm psg = clamped (half fm +ℤ psg)
