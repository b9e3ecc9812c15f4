-- The Z80's RAM and chips, as the 68000 sees them while the bus is granted.
-- Genesis Technical Overview, the Z80's area and its bus request.
use Rattle.std.specs.Prelude.{ℕ, ◌%◌, ◌==◌, Bool, true, false, if◌then◌else◌, Option, Some, None, slice_index}
use Rattle.md_word.specs.declared.key.Key.{Key}
use Rattle.psg_sound.specs.Port.{held_with}
use Rattle.z80_parcel.specs.Parcels.{Store, banked, is_ram, ram_place, stored}
use Rattle.bus_shared.specs.Board.{Board}
use Rattle.bus_shared.specs.Fm.{chip_byte, chip_read, is_fm, with_fm}

-- a byte that reaches the PSG is held until the synthesis takes it
abbrev pub with_psg : Board → Key → ℕ → Board
with_psg board key value = record board { psg = held_with board.psg key value }

-- the bus is granted where it is requested and has the Z80's RAM
abbrev pub granted : Bool → Option Store → Option Store
granted true store = store
granted false store = None

-- the Z80's address of one of the 68000's
abbrev pub z80_address : ℕ → ℕ
z80_address address = address % 0x1_0000

-- the PSG, as the Z80 addresses it
abbrev pub is_psg80 : ℕ → Bool
is_psg80 at = at == 0x7f11

-- a byte that is read at a cycle: RAM's, the FM chip's status, else FFh
abbrev pub space_byte : Option Store → Board → ℕ → ℕ → ℕ
space_byte None board cycle at = 0xff
space_byte (Some store) board cycle at =
    if is_ram at then slice_index store.ram (ram_place at) % 0x100 else chip_byte board cycle at

-- the board after the read
abbrev pub space_read : Option Store → Board → ℕ → ℕ → Board
space_read None board cycle at = board
space_read (Some store) board cycle at = chip_read board cycle at

-- RAM and bank register after a byte is written
abbrev pub store_written : Store → ℕ → ℕ → Store
store_written store at value = record { ram = stored store.ram (at, value); bank = banked store.bank (at, value) }

-- the board after a byte is written: the PSG or the FM chip takes it, or RAM or the bank register;
-- without the grant it is lost
abbrev pub space_written : Option Store → Board → Key → ℕ → ℕ → Board
space_written None board key at value = board
space_written (Some store) board key at value =
    if is_psg80 at then with_psg board key value else (
    if is_fm at then with_fm board key at value else record board { store = Some (store_written store at value) })
