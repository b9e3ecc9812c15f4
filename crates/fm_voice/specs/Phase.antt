-- The phase of an operator: its step at a sample.
-- Yamaha, YM2608 Application Manual, phase generator; the detunes are this project's profile.
use Rattle.std.specs.Prelude.{ℕ, ◌+◌, ◌-◌, ◌*◌, ◌/◌, ◌%◌, ◌^◌, ◌==◌, ℤ, pos, ◌+ℤ◌, if◌then◌else◌, List, [], ◌∷◌, slice_index}
use Rattle.std.specs.Int.RustNames.{unsigned_abs}

-- the key code: the block, the frequency's highest bit, and a bit made of the highest four
unfoldable pub key_code : ℕ → ℕ → ℕ
key_code fnum block =
    if fnum / 1024 % 2 == 1
    then 4 * block + 2 + (if fnum / 128 % 8 == 0 then 0 else 1)
    else 4 * block + (if fnum / 128 % 8 == 7 then 1 else 0)

-- by the low two bits of the detune and the key code, 32 to a row
unfoldable pub detunes : List ℕ
detunes =
    0 ∷ 0 ∷ 0 ∷ 0 ∷ 0 ∷ 0 ∷ 0 ∷ 0 ∷ 0 ∷ 0 ∷ 0 ∷ 0 ∷ 0 ∷ 0 ∷ 0 ∷ 0 ∷ 0 ∷ 0 ∷ 0 ∷ 0 ∷ 0 ∷ 0 ∷ 0 ∷ 0 ∷ 0 ∷ 0 ∷ 0 ∷ 0 ∷ 0 ∷ 0 ∷ 0 ∷ 0 ∷
    0 ∷ 0 ∷ 0 ∷ 0 ∷ 1 ∷ 1 ∷ 1 ∷ 1 ∷ 1 ∷ 1 ∷ 1 ∷ 1 ∷ 2 ∷ 2 ∷ 2 ∷ 2 ∷ 2 ∷ 3 ∷ 3 ∷ 3 ∷ 4 ∷ 4 ∷ 4 ∷ 5 ∷ 5 ∷ 6 ∷ 6 ∷ 7 ∷ 8 ∷ 8 ∷ 8 ∷ 8 ∷
    1 ∷ 1 ∷ 1 ∷ 1 ∷ 2 ∷ 2 ∷ 2 ∷ 2 ∷ 2 ∷ 3 ∷ 3 ∷ 3 ∷ 4 ∷ 4 ∷ 4 ∷ 5 ∷ 5 ∷ 6 ∷ 6 ∷ 7 ∷ 8 ∷ 8 ∷ 9 ∷ 10 ∷ 11 ∷ 12 ∷ 13 ∷ 14 ∷ 16 ∷ 16 ∷ 16 ∷ 16 ∷
    2 ∷ 2 ∷ 2 ∷ 2 ∷ 2 ∷ 3 ∷ 3 ∷ 3 ∷ 4 ∷ 4 ∷ 4 ∷ 5 ∷ 5 ∷ 6 ∷ 6 ∷ 7 ∷ 8 ∷ 8 ∷ 9 ∷ 10 ∷ 11 ∷ 12 ∷ 13 ∷ 14 ∷ 16 ∷ 17 ∷ 19 ∷ 20 ∷ 22 ∷ 22 ∷ 22 ∷ 22 ∷ []

-- the detune is added, or taken off where its bit 2 is set
unfoldable pub detuned : ℕ → ℕ → ℕ → ℕ
detuned detune code n =
    if detune / 4 % 2 == 1
    then (n + (2 ^ 17 - slice_index detunes (detune % 4 * 32 + code))) % 2 ^ 17
    else (n + slice_index detunes (detune % 4 * 32 + code)) % 2 ^ 17

-- times the multiple; 0 halves
unfoldable pub multiplied : ℕ → ℕ → ℕ
multiplied multiple n = if multiple == 0 then n / 2 else n * multiple

-- the step of a phase: the frequency `fnum` as it is written, what vibrato adds to it, its octave,
-- and the operator's detune and multiple
unfoldable pub step_of : ℕ → ℤ → ℕ → ℕ → ℕ → ℕ
step_of fnum gain block detune multiple =
    multiplied multiple (detuned detune (key_code fnum block) (unsigned_abs (pos fnum +ℤ gain) * 2 ^ block / 2))
