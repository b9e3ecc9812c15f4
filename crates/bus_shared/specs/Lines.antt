-- The Z80's bus request and its reset, as the 68000 writes and reads them.
-- Genesis Technical Overview, the Z80's bus request and reset.
use Rattle.std.specs.Prelude.{ℕ, ◌+◌, ◌-◌, ◌^◌, ◌==◌, true, false, if◌then◌else◌, is_some}
use Rattle.md_word.specs.declared.key.Key.{Key}
use Rattle.bus_shared.specs.Board.{Board}
use Rattle.bus_shared.specs.Fm.{with_fm_reset}
use Rattle.bus_shared.specs.Z80Space.{granted}

-- what the request reads in bit 8 of its word: 0 where the bus is granted
abbrev pub request_bit : Board → ℕ
request_bit board = if is_some (granted board.request board.store) then 0 else 1

-- the request is set or cleared
abbrev pub requested : Board → ℕ → Board
requested board bit = record board { request = bit == 1 }

-- a count that stops at its greatest value
abbrev pub counted : ℕ → ℕ
counted n = if n == 2 ^ 64 - 1 then n else n + 1

-- 0 holds the reset, counts and resets the FM chip, 1 releases it
abbrev pub reset_written : Board → Key → ℕ → Board
reset_written board key bit =
    if bit == 0 then record (with_fm_reset board key) { reset = true; resets = counted board.resets }
    else record board { reset = false }
