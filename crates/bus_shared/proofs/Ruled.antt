-- Each access keeps the VDP's rules, at each cycle above its own.
use Rattle.std.proofs.Common.{ℕ, ◌/◌, ◌%◌, ◌==◌, ◌<◌, ◌≡◌, Bool, true, false, Option, Some, None, if◌then◌else◌, sym, subst, arith}
use Rattle.md_pads.specs.Recording.{pads_of}
use Rattle.md_word.specs.Clock.{line}
use Rattle.md_word.specs.Region.{finished_at, frame_cycles}
use Rattle.md_word.specs.Map.{area_of}
use Rattle.md_word.specs.declared.area.Area.{Area}
use Rattle.md_word.specs.declared.area.Area.TheVariants.{Z80Space, InputOutput, BusRequest, Z80Reset, VideoPorts}
use Rattle.md_word.specs.declared.key.Key.{Key}
use Rattle.md_word.specs.declared.main_bus.Request68.{Request68}
use Rattle.md_word.specs.declared.main_bus.Request68.TheVariants.{Read8, Read16, Write8, Write16, Ack, Word}
use Rattle.vdp_dma.proofs.Kept.{settled_kept_by}
use Rattle.vdp_dma.specs.Settling.{settled}
use Rattle.vdp_planes.specs.declared.view.SpriteNote.{SpriteNote}
use Rattle.vdp_ports.proofs.Kept.{accessed_kept, acknowledged_kept, controlled_kept, status_read_kept, transferred_kept, written_kept}
use Rattle.vdp_ports.specs.Rules.{HasRules}
use Rattle.vdp_ports.specs.Vdp.{Vdp}
use Rattle.vdp_time.proofs.Kept.{started_kept}
use Rattle.z80_parcel.specs.Parcels.{Store}
use Rattle.z80_parcel.specs.Requests.{RequestValue80}
use Rattle.bus_shared.specs.Accesses.{line_board, main_board, pads_board, psg_board, sub_access, video_started}
use Rattle.bus_shared.specs.Areas.{byte_written_at, byte_written_in, read_at, read_in, word_written_at, word_written_in}
use Rattle.bus_shared.specs.Board.{Board}
use Rattle.bus_shared.specs.Fm.{fm_board, fm_read, is_fm, with_fm, with_fm_reset}
use Rattle.bus_shared.specs.Lines.{counted, requested}
use Rattle.bus_shared.specs.Registers.{register_at, register_written}
use Rattle.bus_shared.specs.Video.{both_halves, joined, line_begun, port_at, port_read, port_written, video_byte_written, video_word_written}
use Rattle.bus_shared.specs.Z80Space.{granted, is_psg80, space_read, space_written, store_written, with_psg, z80_address}
use Rattle.bus_shared.specs.declared.port.VideoPort.{VideoPort}
use Rattle.bus_shared.specs.declared.port.VideoPort.TheVariants.{Data, Control, Counter, Sound, Unused as NoPort}
use Rattle.bus_shared.specs.declared.register.Register.{Register}
use Rattle.bus_shared.specs.declared.register.Register.TheVariants.{Version, Data1, Data2, DataExpansion, Control1, Control2, Unused}
use Rattle.bus_shared.proofs.Touches.{left_by_sub}

-- ---- the VDP

settled-ruled : (at cycle : ℕ) (vdp : Vdp) → cycle < at → HasRules at vdp → HasRules at (settled cycle vdp)
settled-ruled at cycle vdp below ok = settled_kept_by at cycle at vdp (omega arith) (omega arith) ok

port-read-ruled : (at : ℕ) (port : VideoPort) (cycle : ℕ) (vdp : Vdp) → cycle < at → HasRules at vdp → HasRules at (port_read port cycle vdp)
unfolding port_read
port-read-ruled at Data cycle vdp below ok = accessed_kept at (settled cycle vdp) (settled-ruled at cycle vdp below ok)
port-read-ruled at Control cycle vdp below ok = status_read_kept at (settled cycle vdp) (settled-ruled at cycle vdp below ok)
port-read-ruled at Counter cycle vdp below ok = ok
port-read-ruled at Sound cycle vdp below ok = ok
port-read-ruled at NoPort cycle vdp below ok = ok

port-ruled : (at : ℕ) (port : VideoPort) (cycle word : ℕ) (vdp : Vdp) → cycle < at → HasRules at vdp → HasRules at (port_written port cycle word vdp)
unfolding port_written
port-ruled at Data cycle word vdp below ok = written_kept cycle at word (settled cycle vdp) below (settled-ruled at cycle vdp below ok)
port-ruled at Control cycle word vdp below ok = controlled_kept cycle at word (settled cycle vdp) below (settled-ruled at cycle vdp below ok)
port-ruled at Counter cycle word vdp below ok = ok
port-ruled at Sound cycle word vdp below ok = ok
port-ruled at NoPort cycle word vdp below ok = ok

joined-ruled : (at : ℕ) (note : SpriteNote) (vdp : Vdp) → HasRules at vdp → HasRules at (joined note vdp)
joined-ruled at note vdp ok = record { code = ok.code; cram = ok.cram; vsram = ok.vsram; going = ok.going; interval = ok.interval; region = ok.region }

begun-ruled : (at cycle : ℕ) (note : SpriteNote) (vdp : Vdp) → cycle < at → cycle % line ≡ 0 → HasRules at vdp → HasRules at (line_begun cycle note vdp)
unfolding line_begun
begun-ruled at cycle note vdp below whole ok =
    started_kept at cycle (joined note (settled cycle vdp)) below whole (joined-ruled at note (settled cycle vdp) (settled-ruled at cycle vdp below ok))

-- ---- the board

-- a choice keeps the rules where both of its sides do
ruled-if : (b : Bool) (at : ℕ) (one other : Board) → HasRules at one.vdp → HasRules at other.vdp → HasRules at (if b then one else other).vdp
ruled-if true at one other first second = first
ruled-if false at one other first second = second

register-ruled : (at : ℕ) (board : Board) (cycle : ℕ) (register : Register) (value : ℕ) → HasRules at board.vdp → HasRules at (register_written board cycle register value).vdp
unfolding register_written
register-ruled at board cycle Version value ok = ok
register-ruled at board cycle Data1 value ok = ok
register-ruled at board cycle Data2 value ok = ok
register-ruled at board cycle DataExpansion value ok = ok
register-ruled at board cycle Control1 value ok = ok
register-ruled at board cycle Control2 value ok = ok
register-ruled at board cycle Unused value ok = ok

space-ruled : (at : ℕ) (store : Option Store) (board : Board) (key : Key) (address value : ℕ) → HasRules at board.vdp → HasRules at (space_written store board key address value).vdp
space-ruled at None board key address value ok = ok
space-ruled at (Some store) board key address value ok =
    ruled-if (is_psg80 address) at (with_psg board key value) _ ok
    (ruled-if (is_fm address) at (with_fm board key address value) (record board { store = Some (store_written store address value) }) ok ok)

space_read-ruled : (at : ℕ) (store : Option Store) (board : Board) (cycle address : ℕ) → HasRules at board.vdp → HasRules at (space_read store board cycle address).vdp
space_read-ruled at None board cycle address ok = ok
space_read-ruled at (Some store) board cycle address ok = ruled-if (is_fm address) at (fm_read board cycle) board ok ok

reset-ruled : (b : Bool) (at : ℕ) (board : Board) (key : Key) → HasRules at board.vdp
    → HasRules at (if b then record (with_fm_reset board key) { reset = true; resets = counted board.resets } else record board { reset = false }).vdp
reset-ruled true at board key ok = ok
reset-ruled false at board key ok = ok

read-ruled : (at : ℕ) (area : Option Area) (board : Board) (key : Key) (address : ℕ) → key.cycle < at → HasRules at board.vdp → HasRules at (read_at area board key address).vdp
unfolding read_in
read-ruled at None board key address below ok = ok
read-ruled at (Some Z80Space) board key address below ok = space_read-ruled at (granted board.request board.store) board key.cycle (z80_address address) ok
read-ruled at (Some InputOutput) board key address below ok = ok
read-ruled at (Some BusRequest) board key address below ok = ok
read-ruled at (Some Z80Reset) board key address below ok = ok
read-ruled at (Some VideoPorts) board key address below ok = port-read-ruled at (port_at address) key.cycle board.vdp below ok

video-byte-ruled : (at : ℕ) (port : VideoPort) (board : Board) (key : Key) (address value : ℕ) → key.cycle < at → HasRules at board.vdp
    → HasRules at (video_byte_written port board key address value).vdp
unfolding video_byte_written
video-byte-ruled at Data board key address value below ok = port-ruled at Data key.cycle (both_halves value) board.vdp below ok
video-byte-ruled at Control board key address value below ok = port-ruled at Control key.cycle (both_halves value) board.vdp below ok
video-byte-ruled at Counter board key address value below ok = port-ruled at Counter key.cycle (both_halves value) board.vdp below ok
video-byte-ruled at Sound board key address value below ok = ruled-if (address % 2 == 1) at (with_psg board key value) board ok ok
video-byte-ruled at NoPort board key address value below ok = port-ruled at NoPort key.cycle (both_halves value) board.vdp below ok

video-word-ruled : (at : ℕ) (port : VideoPort) (board : Board) (key : Key) (value : ℕ) → key.cycle < at → HasRules at board.vdp
    → HasRules at (video_word_written port board key value).vdp
unfolding video_word_written
video-word-ruled at Data board key value below ok = port-ruled at Data key.cycle value board.vdp below ok
video-word-ruled at Control board key value below ok = port-ruled at Control key.cycle value board.vdp below ok
video-word-ruled at Counter board key value below ok = port-ruled at Counter key.cycle value board.vdp below ok
video-word-ruled at Sound board key value below ok = ok
video-word-ruled at NoPort board key value below ok = port-ruled at NoPort key.cycle value board.vdp below ok

byte-ruled : (at : ℕ) (area : Option Area) (board : Board) (key : Key) (address value : ℕ) → key.cycle < at → HasRules at board.vdp
    → HasRules at (byte_written_at area board key address value).vdp
unfolding byte_written_in
byte-ruled at None board key address value below ok = ok
byte-ruled at (Some Z80Space) board key address value below ok = space-ruled at (granted board.request board.store) board key (z80_address address) value ok
byte-ruled at (Some InputOutput) board key address value below ok = register-ruled at board key.cycle (register_at address) (value % 0x100) ok
byte-ruled at (Some BusRequest) board key address value below ok = ruled-if (address % 2 == 0) at (requested board (value % 2)) board ok ok
byte-ruled at (Some Z80Reset) board key address value below ok = ruled-if (address % 2 == 0) at _ board (reset-ruled (value % 2 == 0) at board key ok) ok
byte-ruled at (Some VideoPorts) board key address value below ok = video-byte-ruled at (port_at address) board key address value below ok

word-ruled : (at : ℕ) (area : Option Area) (board : Board) (key : Key) (address value : ℕ) → key.cycle < at → HasRules at board.vdp
    → HasRules at (word_written_at area board key address value).vdp
unfolding word_written_in
word-ruled at None board key address value below ok = ok
word-ruled at (Some Z80Space) board key address value below ok = space-ruled at (granted board.request board.store) board key (z80_address address) (value / 0x100) ok
word-ruled at (Some InputOutput) board key address value below ok = register-ruled at board key.cycle (register_at address) (value % 0x100) ok
word-ruled at (Some BusRequest) board key address value below ok = ok
word-ruled at (Some Z80Reset) board key address value below ok = reset-ruled (value / 0x100 % 2 == 0) at board key ok
word-ruled at (Some VideoPorts) board key address value below ok = video-word-ruled at (port_at address) board key value below ok

-- an access of the 68000
pub main_ruled : (at : ℕ) (board : Board) (key : Key) (request : Request68) → key.cycle < at → HasRules at board.vdp → HasRules at (main_board board key request).vdp
unfolding main_board
main_ruled at board key (Read8 address) below ok = read-ruled at (area_of address) board key address below ok
main_ruled at board key (Read16 address) below ok = read-ruled at (area_of address) board key address below ok
main_ruled at board key (Write8 address value) below ok = byte-ruled at (area_of address) board key address value below ok
main_ruled at board key (Write16 address value) below ok = word-ruled at (area_of address) board key address value below ok
main_ruled at board key (Ack level) below ok = acknowledged_kept at level board.vdp ok
main_ruled at board key (Word value) below ok = transferred_kept at value (settled key.cycle board.vdp) (settled-ruled at key.cycle board.vdp below ok)

-- an access of the Z80
pub sub_ruled : (at : ℕ) (board : Board) (key : Key) (asks : RequestValue80) → HasRules at board.vdp → HasRules at (sub_access board key asks).board.vdp
sub_ruled at board key asks ok = subst (λ (vdp : Vdp). HasRules at vdp) (sym (left_by_sub board key asks).vdp) ok

-- the start of a line
pub line_ruled : (at : ℕ) (board : Board) (cycle : ℕ) (note : SpriteNote) → cycle < at → cycle % line ≡ 0 → HasRules at board.vdp → HasRules at (line_board board cycle note).vdp
unfolding line_board pads_board
line_ruled at board cycle note below whole ok =
    let begun = begun-ruled at cycle note board.vdp below whole ok in
    let pal = (video_started board cycle note).vdp.pal in
    ruled-if (cycle % frame_cycles pal == finished_at pal) at (record (video_started board cycle note) { pads = pads_of board.recording (cycle / frame_cycles pal) }) (video_started board cycle note) begun begun

-- a batch of a sound chip
pub batch_ruled : (at : ℕ) (board : Board) (cycle : ℕ) → HasRules at board.vdp → HasRules at (psg_board board cycle).vdp
unfolding psg_board
batch_ruled at board cycle ok = ok

pub fm_batch_ruled : (at : ℕ) (board : Board) (cycle : ℕ) → HasRules at board.vdp → HasRules at (fm_board board cycle).vdp
unfolding fm_board
fm_batch_ruled at board cycle ok = ok
