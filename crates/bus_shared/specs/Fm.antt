-- The FM chip's port on the board: what an access of a processor does there, and a batch.
-- Genesis Technical Overview, the Z80's memory map; Sega, Genesis Software Manual, FM addresses.
use Rattle.std.specs.Prelude.{ℕ, ◌%◌, Bool, if◌then◌else◌}
use Rattle.md_word.specs.Map.{is_within}
use Rattle.md_word.specs.declared.key.Key.{Key}
use Rattle.fm_port.specs.Port.{left_from, reset, written}
use Rattle.fm_port.specs.Timers.{both_settled, status}
use Rattle.bus_shared.specs.Board.{Board}

-- the FM chip, as the Z80 addresses it: its four addresses, repeated
abbrev pub is_fm : ℕ → Bool
is_fm at = is_within 0x4000 0x5fff at

-- what a read at a cycle shows: the flags of both timers
abbrev pub fm_status : Board → ℕ → ℕ
fm_status board cycle = status cycle (both_settled cycle board.fm.timers)

-- the board after a read: the overflows below its cycle are made
abbrev pub fm_read : Board → ℕ → Board
fm_read board cycle = record board { fm = record board.fm { timers = both_settled cycle board.fm.timers } }

-- what a read beside the Z80's RAM gives: only the FM chip answers
abbrev pub chip_byte : Board → ℕ → ℕ → ℕ
chip_byte board cycle at = if is_fm at then fm_status board cycle else 0xff

-- the board after that read
abbrev pub chip_read : Board → ℕ → ℕ → Board
chip_read board cycle at = if is_fm at then fm_read board cycle else board

-- the board after a byte is written to the FM chip
abbrev pub with_fm : Board → Key → ℕ → ℕ → Board
with_fm board key at value = record board { fm = written key (at % 4) value board.fm }

-- the board after a reset of the FM chip
abbrev pub with_fm_reset : Board → Key → Board
with_fm_reset board key = record board { fm = reset key board.fm }

-- a batch of the FM synthesis takes the writes stamped below it
unfoldable pub fm_board : Board → ℕ → Board
fm_board board cycle = record board { fm = record board.fm { writes = left_from cycle board.fm.writes } }
