-- What the 68000 reads in each area that it shares, and what its writes there change.
-- Genesis Technical Overview, the memory map.
use Rattle.std.specs.Prelude.{ℕ, ◌*◌, ◌%◌, ◌==◌, if◌then◌else◌, Option, Some, None, ◌/◌}
use Rattle.md_word.specs.declared.area.Area.{Area}
use Rattle.md_word.specs.declared.area.Area.TheVariants.{Z80Space, InputOutput, BusRequest, Z80Reset, VideoPorts}
use Rattle.md_word.specs.declared.key.Key.{Key}
use Rattle.md_word.specs.declared.main_bus.Transfer.{Transfer}
use Rattle.bus_shared.specs.Board.{Board}
use Rattle.bus_shared.specs.Lines.{request_bit, requested, reset_written}
use Rattle.bus_shared.specs.Registers.{register_at, register_read, register_written}
use Rattle.bus_shared.specs.Video.{half_at, port_at, port_transfer, port_word, video_byte_written, video_read, video_word_written}
use Rattle.bus_shared.specs.Z80Space.{granted, space_byte, space_read, space_written, z80_address}

-- a byte, area by area
unfoldable pub byte_in : Area → Board → Key → ℕ → ℕ
byte_in Z80Space board key address = space_byte (granted board.request board.store) board key.cycle (z80_address address)
byte_in InputOutput board key address = register_read board key.cycle (register_at address)
byte_in BusRequest board key address = if address % 2 == 0 then request_bit board else 0
byte_in Z80Reset board key address = 0
byte_in VideoPorts board key address = half_at address (port_word (port_at address) key.cycle board.vdp)

-- a word, area by area: a register's byte is in both halves, and so does that of the Z80's space
-- at the even address
unfoldable pub word_in : Area → Board → Key → ℕ → ℕ
word_in Z80Space board key address = space_byte (granted board.request board.store) board key.cycle (z80_address address) * 0x101
word_in InputOutput board key address = register_read board key.cycle (register_at address) * 0x101
word_in BusRequest board key address = request_bit board * 0x100
word_in Z80Reset board key address = 0
word_in VideoPorts board key address = port_word (port_at address) key.cycle board.vdp

-- the board after a byte or a word is read, area by area: the VDP's ports change by it, and in the Z80's
-- space the FM chip
unfoldable pub read_in : Area → Board → Key → ℕ → Board
read_in VideoPorts board key address = video_read board key address
read_in Z80Space board key address = space_read (granted board.request board.store) board key.cycle (z80_address address)
read_in area board key address = board

-- the board after a byte is written, area by area: a register and a port take it, and the lines bit 0
-- of that of an even address
unfoldable pub byte_written_in : Area → Board → Key → ℕ → ℕ → Board
byte_written_in InputOutput board key address value = register_written board key.cycle (register_at address) (value % 0x100)
byte_written_in VideoPorts board key address value = video_byte_written (port_at address) board key address value
byte_written_in Z80Space board key address value =
    space_written (granted board.request board.store) board key (z80_address address) value
byte_written_in BusRequest board key address value = if address % 2 == 0 then requested board (value % 2) else board
byte_written_in Z80Reset board key address value = if address % 2 == 0 then reset_written board key (value % 2) else board

-- the board after a word is written, area by area: a register takes its low byte, a port the word, the
-- Z80's space its upper byte at the even address, and the lines bit 8
unfoldable pub word_written_in : Area → Board → Key → ℕ → ℕ → Board
word_written_in InputOutput board key address value = register_written board key.cycle (register_at address) (value % 0x100)
word_written_in VideoPorts board key address value = video_word_written (port_at address) board key value
word_written_in Z80Space board key address value =
    space_written (granted board.request board.store) board key (z80_address address) (value / 0x100)
word_written_in BusRequest board key address value = requested board (value / 0x100 % 2)
word_written_in Z80Reset board key address value = reset_written board key (value / 0x100 % 2)

-- the transfer that a word starts which is written, area by area
unfoldable pub transfer_in : Area → Board → Key → ℕ → ℕ → Option Transfer
transfer_in VideoPorts board key address word = port_transfer (port_at address) key.cycle word board.vdp
transfer_in area board key address word = None

-- a byte at any address: beside the areas nothing answers, and it is FFh
abbrev pub byte_at : Option Area → Board → Key → ℕ → ℕ
byte_at None board key address = 0xff
byte_at (Some area) board key address = byte_in area board key address

-- a word at any address: beside the areas nothing answers, and it is FFFFh
abbrev pub word_at : Option Area → Board → Key → ℕ → ℕ
word_at None board key address = 0xffff
word_at (Some area) board key address = word_in area board key address

-- the board after a byte or a word is read at any address
abbrev pub read_at : Option Area → Board → Key → ℕ → Board
read_at None board key address = board
read_at (Some area) board key address = read_in area board key address

-- the board after a byte is written at any address
abbrev pub byte_written_at : Option Area → Board → Key → ℕ → ℕ → Board
byte_written_at None board key address value = board
byte_written_at (Some area) board key address value = byte_written_in area board key address value

-- the board after a word is written at any address
abbrev pub word_written_at : Option Area → Board → Key → ℕ → ℕ → Board
word_written_at None board key address value = board
word_written_at (Some area) board key address value = word_written_in area board key address value

-- the transfer that a word starts which is written at any address
abbrev pub transfer_at : Option Area → Board → Key → ℕ → ℕ → Option Transfer
transfer_at None board key address word = None
transfer_at (Some area) board key address word = transfer_in area board key address word
