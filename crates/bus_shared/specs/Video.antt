-- The VDP as the 68000 reaches it: its ports, the words of a transfer, and what they cost.
-- Genesis Technical Overview, the VDP's ports, its status, the HV counter and DMA; the cost of a word
-- is this project's profile.
use Rattle.std.specs.Prelude.{ℕ, ◌*◌, ◌/◌, ◌%◌, ◌==◌, nat_lt, Bool, true, false, ◌&&◌, ◌||◌, IsTrue, if◌then◌else◌, Option, Some, None, refl}
use Rattle.md_word.specs.Region.{rows}
use Rattle.md_word.specs.declared.key.Key.{Key}
use Rattle.md_word.specs.declared.main_bus.Transfer.{Transfer}
use Rattle.md_word.specs.declared.pins.Pins68.{Pins68}
use Rattle.vdp_ports.specs.Vdp.{Vdp, is_shown, register}
use Rattle.vdp_ports.specs.Control.{acknowledged, controlled, level, started_by, status, status_read}
use Rattle.vdp_ports.specs.Data.{accessed, read, transferred, written}
use Rattle.vdp_dma.specs.Settling.{is_busy, settled}
use Rattle.vdp_planes.specs.View.{view_of}
use Rattle.vdp_planes.specs.declared.view.LineView.{LineView}
use Rattle.vdp_planes.specs.declared.view.SpriteNote.{SpriteNote}
use Rattle.vdp_time.specs.Lines.{h_blank, hv, line_of, line_started, v_blank}
use Rattle.bus_shared.specs.Board.{Board}
use Rattle.bus_shared.specs.Z80Space.{with_psg}
use Rattle.bus_shared.specs.declared.port.VideoPort.{VideoPort}
use Rattle.bus_shared.specs.declared.port.VideoPort.TheVariants.{Data, Control, Counter, Sound, Unused}

-- the port at an address: C00000h, C00004h, C00008h, C00010h and C00018h on
unfoldable pub port_at : ℕ → VideoPort
port_at address =
    let place = address % 0x20 in
    if nat_lt place 0x04 then Data
    else (if nat_lt place 0x08 then Control
    else (if nat_lt place 0x10 then Counter
    else (if nat_lt place 0x18 then Sound else Unused)))

-- whether the picture has 320 dots: bit 0 of register 12
unfoldable pub is_wide : Vdp → Bool
is_wide vdp = register vdp 12 % 2 == 1

-- the status at a cycle
abbrev pub status_at : ℕ → Vdp → ℕ
status_at cycle vdp = status (is_busy cycle vdp) (h_blank cycle) (v_blank cycle (is_shown vdp.registers) vdp.pal vdp.tall) vdp

-- the word that a port gives at a cycle: fill and copy are settled to it where data or status is read
unfoldable pub port_word : VideoPort → ℕ → Vdp → ℕ
port_word Data cycle vdp = read (settled cycle vdp) % 0x1_0000
port_word Control cycle vdp = status_at cycle (settled cycle vdp)
port_word Counter cycle vdp = hv cycle (is_wide vdp) vdp.pal vdp.tall
port_word Sound cycle vdp = 0xffff
port_word Unused cycle vdp = 0xffff

-- the VDP after a port was read
unfoldable pub port_read : VideoPort → ℕ → Vdp → Vdp
port_read Data cycle vdp = accessed (settled cycle vdp)
port_read Control cycle vdp = status_read (settled cycle vdp)
port_read port cycle vdp = vdp

-- the VDP after a word was written to a port
unfoldable pub port_written : VideoPort → ℕ → ℕ → Vdp → Vdp
port_written Data cycle word vdp = written cycle word (settled cycle vdp)
port_written Control cycle word vdp = controlled cycle word (settled cycle vdp)
port_written port cycle word vdp = vdp

-- the cycles to the next word of a transfer: 34 in the vertical blanking and where the display is off,
-- else 380
unfoldable pub word_cost : ℕ → Vdp → ℕ
word_cost cycle vdp = if v_blank cycle (is_shown vdp.registers) vdp.pal vdp.tall then 34 else 380

-- a transfer that starts, with what its first word costs
abbrev pub with_cost : ℕ → Option (ℕ × ℕ) → Option Transfer
with_cost cost None = None
with_cost cost (Some start) = Some (record { source = start.0; words = start.1; cost = cost })

-- the transfer that a word starts which is written to a port
unfoldable pub port_transfer : VideoPort → ℕ → ℕ → Vdp → Option Transfer
port_transfer Control cycle word vdp = with_cost (word_cost cycle vdp) (started_by word (settled cycle vdp))
port_transfer port cycle word vdp = None

-- a byte that is read: the upper half of the word at an even address, the lower at an odd one
abbrev pub half_at : ℕ → ℕ → ℕ
half_at address word = if address % 2 == 0 then word / 0x100 else word % 0x100

-- a byte that is written is in both halves
abbrev pub both_halves : ℕ → ℕ
both_halves value = value * 0x101

-- the board after a port was read
abbrev pub video_read : Board → Key → ℕ → Board
video_read board key address = record board { vdp = port_read (port_at address) key.cycle board.vdp }

-- the board after a byte is written: the PSG takes that of an odd address
unfoldable pub video_byte_written : VideoPort → Board → Key → ℕ → ℕ → Board
video_byte_written Sound board key address value = if address % 2 == 1 then with_psg board key value else board
video_byte_written port board key address value =
    record board { vdp = port_written port key.cycle (both_halves value) board.vdp }

-- the board after a word is written: the PSG takes its low byte
unfoldable pub video_word_written : VideoPort → Board → Key → ℕ → Board
video_word_written Sound board key value = with_psg board key (value % 0x100)
video_word_written port board key value = record board { vdp = port_written port key.cycle value board.vdp }

-- the board after the interrupt of a level is acknowledged
abbrev pub video_acknowledged : Board → ℕ → Board
video_acknowledged board level = record board { vdp = acknowledged level board.vdp }

-- the board after a word of a transfer
abbrev pub word_taken : Board → Key → ℕ → Board
word_taken board key word = record board { vdp = transferred word (settled key.cycle board.vdp) }

-- what the sprites of the line before have set joins the status
abbrev pub joined : SpriteNote → Vdp → Vdp
joined note vdp = record vdp { overflow = vdp.overflow || note.overflow; collision = vdp.collision || note.collision }

-- the VDP after the event of a line, to which fill and copy are settled
unfoldable pub line_begun : ℕ → SpriteNote → Vdp → Vdp
line_begun cycle note vdp = line_started cycle (joined note (settled cycle vdp))

-- what the line at a cycle is drawn from, for a picture of the view's region; after the picture a view
-- stays as it was
unfoldable pub line_view : ℕ → Vdp → LineView → LineView
line_view cycle vdp view = if nat_lt (line_of cycle view.pal) (rows view.pal) then view_of view.pal vdp else view

-- the interrupt level: 6 where a vertical interrupt is asked for, else 4 for a horizontal one
abbrev pub level_by : Bool → Bool → ℕ
level_by vertical horizontal = if vertical then 6 else (if horizontal then 4 else 0)

-- such a level is 0, 4 or 6
pub known_by : (vertical horizontal : Bool)
    → IsTrue (level_by vertical horizontal == 0 || level_by vertical horizontal == 4 || level_by vertical horizontal == 6)
known_by true horizontal = refl
known_by false true = refl
known_by false false = refl

-- the VDP's interrupt level is 0, 4 or 6
pub level_known : (vdp : Vdp) → IsTrue (level vdp == 0 || level vdp == 4 || level vdp == 6)
unfolding level
level_known vdp = known_by (vdp.vertical && (register vdp 1 / 32 % 2 == 1)) (vdp.horizontal && (register vdp 0 / 16 % 2 == 1))

-- the pins of the 68000, as the VDP shows them
abbrev pub pins_by : Vdp → Pins68
pins_by vdp = record { level = level vdp; known = level_known vdp }
