-- The registers of the input/output area.
-- Genesis Technical Overview, the I/O area; which of the console's versions answers is this
-- project's profile.
use Rattle.std.specs.Prelude.{ℕ, ◌/◌, ◌%◌, ◌==◌, if◌then◌else◌}
use Rattle.md_pads.specs.Pad.{control_written, pad_value, value_written}
use Rattle.md_pads.specs.Recording.{six}
use Rattle.bus_shared.specs.Board.{Board}
use Rattle.bus_shared.specs.declared.register.Register.{Register}
use Rattle.bus_shared.specs.declared.register.Register.TheVariants.{Version, Data1, Data2, DataExpansion, Control1, Control2, Unused}

-- the register at an address: sixteen pairs of an even address and the odd one after it
unfoldable pub register_at : ℕ → Register
register_at address =
    let pair = address % 0x20 / 2 in
    if pair == 0 then Version
    else (if pair == 1 then Data1
    else (if pair == 2 then Data2
    else (if pair == 3 then DataExpansion
    else (if pair == 4 then Control1
    else (if pair == 5 then Control2 else Unused)))))

-- what a register reads at a cycle
unfoldable pub register_read : Board → ℕ → Register → ℕ
register_read board cycle Version = if board.vdp.pal then 0xe0 else 0xa0
register_read board cycle Data1 = pad_value cycle (six board.recording.version 1) board.port1 board.pads.0
register_read board cycle Data2 = pad_value cycle (six board.recording.version 2) board.port2 board.pads.1
register_read board cycle DataExpansion = 0x7f
register_read board cycle Control1 = board.port1.control
register_read board cycle Control2 = board.port2.control
register_read board cycle Unused = 0

-- the board after a byte is written to a register at a cycle
unfoldable pub register_written : Board → ℕ → Register → ℕ → Board
register_written board cycle Data1 value = record board { port1 = value_written cycle value board.port1 }
register_written board cycle Data2 value = record board { port2 = value_written cycle value board.port2 }
register_written board cycle Control1 value = record board { port1 = control_written cycle value board.port1 }
register_written board cycle Control2 value = record board { port2 = control_written cycle value board.port2 }
register_written board cycle register value = board
