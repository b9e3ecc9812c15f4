-- By how much an envelope steps at a tick, by its rate and by the counter that all envelopes share.
-- This project's profile.
use Rattle.std.specs.Prelude.{ℕ, ◌+◌, ◌-◌, ◌*◌, ◌/◌, ◌%◌, ◌^◌, ◌==◌, nat_lt, if◌then◌else◌, List, [], ◌∷◌, slice_index}

-- eight rows of eight places: four rows for the rates below 48, four for those from 48 on
abbrev pub rows : List ℕ
rows =
    0 ∷ 1 ∷ 0 ∷ 1 ∷ 0 ∷ 1 ∷ 0 ∷ 1 ∷
    0 ∷ 1 ∷ 0 ∷ 1 ∷ 1 ∷ 1 ∷ 0 ∷ 1 ∷
    0 ∷ 1 ∷ 1 ∷ 1 ∷ 0 ∷ 1 ∷ 1 ∷ 1 ∷
    0 ∷ 1 ∷ 1 ∷ 1 ∷ 1 ∷ 1 ∷ 1 ∷ 1 ∷
    1 ∷ 1 ∷ 1 ∷ 1 ∷ 1 ∷ 1 ∷ 1 ∷ 1 ∷
    1 ∷ 1 ∷ 1 ∷ 2 ∷ 1 ∷ 1 ∷ 1 ∷ 2 ∷
    1 ∷ 2 ∷ 1 ∷ 2 ∷ 1 ∷ 2 ∷ 1 ∷ 2 ∷
    1 ∷ 2 ∷ 2 ∷ 2 ∷ 1 ∷ 2 ∷ 2 ∷ 2 ∷ []

-- an envelope steps where 2 to this power divides the counter
unfoldable pub shift_of : ℕ → ℕ
shift_of rate = if nat_lt rate 48 then 11 - rate / 4 else 0

-- the row by the rate modulo 4, of the second four from 48 on; doubled from 52, and again from 56;
-- always 8 from 60 on
unfoldable pub entry : ℕ → ℕ → ℕ
entry rate place =
    if nat_lt rate 48 then slice_index rows (rate % 4 * 8 + place) else (
    if nat_lt rate 52 then slice_index rows (32 + rate % 4 * 8 + place) else (
    if nat_lt rate 56 then 2 * slice_index rows (32 + rate % 4 * 8 + place) else (
    if nat_lt rate 60 then 4 * slice_index rows (32 + rate % 4 * 8 + place) else 8)))

-- at rates 0 and 1 nothing steps
unfoldable pub step : ℕ → ℕ → ℕ
step counter rate =
    if nat_lt rate 2 then 0 else (
    if counter % 2 ^ shift_of rate == 0 then entry rate (counter / 2 ^ shift_of rate % 8) else 0)
