-- The wave of an operator: a sine, made weaker by an attenuation, of which 64 are half the amplitude.
-- Yamaha, YM2608 Application Manual, operator; the approximations are this project's profile.
use Rattle.std.specs.Prelude.{ℕ, ◌+◌, ◌-◌, ◌*◌, ◌/◌, ◌%◌, ◌^◌, nat_lt, ℤ, pos, neg_ℤ, ◌+ℤ◌, if◌then◌else◌}
use Rattle.std.specs.Int.{int_rem_euclid}
use Rattle.std.specs.Int.RustNames.{unsigned_abs}

-- an arch over 1,024 places
unfoldable pub arch : ℕ → ℕ
arch q = q * (1024 - q)

-- the sine at n of 512 places of half a wave, made of an arch
unfoldable pub sine : ℕ → ℕ
sine n = 131056 * arch (2 * n + 1) / (5242880 - 4 * arch (2 * n + 1))

-- what a power of two is above 1,024, at x of 256 places
unfoldable pub grown : ℕ → ℕ
grown x = x * (5378 + 11 * x) / 2048

-- 1,024 times a power of two, at n of 64 places: it falls from 2 to 1
unfoldable pub power : ℕ → ℕ
power n = 1024 + grown (255 - 4 * n)

-- the wave without its sign, rounded down
unfoldable pub magnitude : ℕ → ℕ → ℕ
magnitude index attenuation = sine (index % 512) * power (attenuation % 64) / 2 ^ (11 + attenuation / 64)

-- negative in the second half
unfoldable pub wave : ℕ → ℕ → ℤ
wave index attenuation =
    if nat_lt index 512 then pos (magnitude index attenuation) else neg_ℤ (pos (magnitude index attenuation))

-- the place in the wave: the upper ten bits of the phase, moved by the modulation
unfoldable pub place : ℕ → ℤ → ℕ
place phase modulation = unsigned_abs (int_rem_euclid (pos (phase / 1024) +ℤ modulation) (pos 1024))

-- the output of an operator
unfoldable pub output : ℕ → ℤ → ℕ → ℤ
output phase modulation attenuation = wave (place phase modulation) attenuation
