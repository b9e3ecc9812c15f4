-- Each access leaves a board.
use Rattle.std.proofs.Common.{ℕ, ◌+◌, ◌&&◌, ◌/◌, ◌%◌, ◌==◌, ◌<◌, ◌≤◌, Bool, true, false, Option, Some, None, if◌then◌else◌, arith, lit<, lit≤, not}
use Rattle.std.proofs.lemmas.List.Elements.{All-filter, All-nil}
use Rattle.fm_port.specs.Port.{Port, first_write, held_with, left_from, reset, reset_write, second_write, taken_below, written}
use Rattle.fm_port.specs.Stamp.{stamp_of}
use Rattle.fm_port.specs.Timers.{both_settled, shown, status, timed}
use Rattle.fm_port.specs.Timers as fm_timers
use Rattle.fm_port.specs.declared.timers.Timers.{Timers}
use Rattle.fm_port.specs.declared.write.FmWrite.{FmWrite}
use Rattle.sound_writes.proofs.Helds.{All-held_with, length-filter-most, length-held_with}
use Rattle.sound_writes.specs.Order.{is_below}
use Rattle.md_pads.specs.Recording.{Frame, Recorded, pads_of}
use Rattle.md_pads.specs.Pad.{Port as PadPort, control_written, counted, in_force, is_th_high, value_written}
use Rattle.md_word.specs.Region.{finished_at, frame_cycles}
use Rattle.md_word.specs.Map.{area_of}
use Rattle.md_word.specs.declared.area.Area.{Area}
use Rattle.md_word.specs.declared.area.Area.TheVariants.{Z80Space, InputOutput, BusRequest, Z80Reset, VideoPorts}
use Rattle.md_word.specs.declared.key.Key.{Key}
use Rattle.md_word.specs.declared.main_bus.Request68.{Request68}
use Rattle.md_word.specs.declared.main_bus.Request68.TheVariants.{Read8, Read16, Write8, Write16, Ack, Word}
use Rattle.psg_sound.specs.PortLaws.{IsPort-held_with, IsPort-left_from, IsPort-nil}
use Rattle.vdp_ports.specs.Vdp.{Vdp}
use Rattle.bus_shared.specs.Accesses.{line_board, main_board, pads_board, psg_board, sub_access, taken_back, video_started, yielded}
use Rattle.bus_shared.specs.Areas.{byte_written_at, byte_written_in, read_at, read_in, word_written_at, word_written_in}
use Rattle.bus_shared.specs.Laws.{StaysBoard}
use Rattle.bus_shared.specs.Lines.{counted as resets_counted, requested}
use Rattle.bus_shared.specs.Video.{both_halves, port_at, port_written, video_byte_written, video_read, video_word_written}
use Rattle.bus_shared.specs.Z80Space.{granted, is_psg80, space_read, space_written, store_written, with_psg, z80_address}
use Rattle.vdp_planes.specs.declared.view.SpriteNote.{SpriteNote}
use Rattle.bus_shared.proofs.Ports.{acknowledged_bytes, line_begun_bytes, port_read_bytes, port_written_bytes, power_on_bytes, taken_bytes}
use Rattle.z80_parcel.proofs.Writes.{banked_fits, stored_fits}
use Rattle.z80_parcel.specs.Parcels.{IsStore, Store}
use Rattle.z80_parcel.specs.Requests.{RequestValue80, ReadByte, WriteByte, HandOver, TakeBack, Fits}
use Rattle.std.proofs.Common.{◌∙◌, IfSome}
use Rattle.bus_shared.specs.Board.{AreBytes, Board, IsBoard, IsFewFm, IsLatched, power_on}
use Rattle.bus_shared.specs.Fm.{fm_board, fm_read, is_fm, with_fm, with_fm_reset}
use Rattle.bus_shared.specs.Registers.{register_at, register_written}
use Rattle.bus_shared.specs.declared.port.VideoPort.{VideoPort}
use Rattle.bus_shared.specs.declared.port.VideoPort.TheVariants.{Data, Control, Counter, Sound, Unused as NoPort}
use Rattle.bus_shared.specs.declared.register.Register.{Register}
use Rattle.bus_shared.specs.declared.register.Register.TheVariants.{Version, Data1, Data2, DataExpansion, Control1, Control2, Unused}
use Rattle.std.specs.Prelude.{List, length}

pub power_on-ok : (recording : Recorded) (pal : Bool) → IsBoard (power_on recording pal)
power_on-ok recording pal = record {
  port1 = record { value = lit< tt; control = lit< tt; count = lit≤ tt };
  port2 = record { value = lit< tt; control = lit< tt; count = lit≤ tt };
  psg = IsPort-nil;
  fm = record { most = lit≤ tt; chips = All-nil (λ (w : FmWrite). w.key.chip < 2) };
  store = tt;
  registers = power_on_bytes pal;
}

-- a port stays one where a fall of TH is counted
counted-ok : (cycle : ℕ) (high : Bool) (port : PadPort) → IsLatched port → IsLatched (counted cycle high port)
counted-ok cycle high port ok =
    elim (high && not (is_th_high port)) as (λ falls. IsLatched (if falls then record port { count = 1 + in_force cycle port % 4; fall = cycle } else port)) [
      | true ↦ record { value = ok.value; control = ok.control; count = omega arith }
      | false ↦ ok
    ]

value-ok : (cycle value : ℕ) (port : PadPort) → value < 0x100 → IsLatched port → IsLatched (value_written cycle value port)
value-ok cycle value port below ok = counted-ok cycle (is_th_high port) (record port { value = value }) (record { value = below; control = ok.control; count = ok.count })

control-ok : (cycle value : ℕ) (port : PadPort) → value < 0x100 → IsLatched port → IsLatched (control_written cycle value port)
control-ok cycle value port below ok = counted-ok cycle (is_th_high port) (record port { control = value }) (record { value = ok.value; control = below; count = ok.count })

register-ok : (board : Board) (cycle : ℕ) (register : Register) (value : ℕ) → value < 0x100 → IsBoard board → IsBoard (register_written board cycle register value)
unfolding register_written
register-ok board cycle Version value below ok = ok
register-ok board cycle Data1 value below ok = record { port1 = value-ok cycle value board.port1 below ok.port1; port2 = ok.port2; psg = ok.psg; fm = ok.fm; store = ok.store; registers = ok.registers }
register-ok board cycle Data2 value below ok = record { port1 = ok.port1; port2 = value-ok cycle value board.port2 below ok.port2; psg = ok.psg; fm = ok.fm; store = ok.store; registers = ok.registers }
register-ok board cycle DataExpansion value below ok = ok
register-ok board cycle Control1 value below ok = record { port1 = control-ok cycle value board.port1 below ok.port1; port2 = ok.port2; psg = ok.psg; fm = ok.fm; store = ok.store; registers = ok.registers }
register-ok board cycle Control2 value below ok = record { port1 = ok.port1; port2 = control-ok cycle value board.port2 below ok.port2; psg = ok.psg; fm = ok.fm; store = ok.store; registers = ok.registers }
register-ok board cycle Unused value below ok = ok

psg-ok : (board : Board) (key : Key) (value : ℕ) → key.chip < 2 → IsBoard board → IsBoard (with_psg board key value)
psg-ok board key value low ok = record { port1 = ok.port1; port2 = ok.port2; psg = IsPort-held_with board.psg key value low ok.psg; fm = ok.fm; store = ok.store; registers = ok.registers }

-- the FM chip's port, where writes come and go
few-held : (writes : List FmWrite) (w : FmWrite) → w.key.chip < 2 → IsFewFm writes → IsFewFm (held_with writes w)
few-held writes w low few = record {
  most = length-held_with writes w few.most;
  chips = All-held_with (λ v. v.key.chip < 2) writes w few.chips low;
}

few-by : (a b c : Bool) (key : Key) (value : ℕ) (p : Port) → key.chip < 2 → IsFewFm p.writes
    → IsFewFm (if a then record p { first = value } else (
    if b then record p { second = value } else (
    if c then record p {
      timers = timed key.cycle p.first value p.timers;
      writes = held_with p.writes (first_write key p.first value);
    } else record p { writes = held_with p.writes (second_write key p.second value) }))).writes
few-by true b c key value p low few = few
few-by false true c key value p low few = few
few-by false false true key value p low few = few-held p.writes (first_write key p.first value) low few
few-by false false false key value p low few = few-held p.writes (second_write key p.second value) low few

few-written : (key : Key) (address value : ℕ) (p : Port) → key.chip < 2 → IsFewFm p.writes → IsFewFm (written key address value p).writes
unfolding written
few-written key address value p low few = few-by (address == 0) (address == 2) (address == 1) key value p low few

few-reset : (key : Key) (p : Port) → key.chip < 2 → IsFewFm p.writes → IsFewFm (reset key p).writes
unfolding reset
few-reset key p low few = few-held p.writes (reset_write key) low few

few-left : (cycle : ℕ) (writes : List FmWrite) → IsFewFm writes → IsFewFm (left_from cycle writes)
few-left cycle writes few = record {
  most = length-filter-most (λ w. not (is_below stamp_of cycle w)) 1024 writes few.most;
  chips = All-filter (λ w. not (is_below stamp_of cycle w)) (λ w. w.key.chip < 2) writes few.chips;
}

-- the writes that a batch takes are few
pub fm_taken-few : (cycle : ℕ) (writes : List FmWrite) → IsFewFm writes → length (taken_below cycle writes) ≤ 1024
fm_taken-few cycle writes few = length-filter-most (is_below stamp_of cycle) 1024 writes few.most

fm-ok : (board : Board) (key : Key) (at value : ℕ) → key.chip < 2 → IsBoard board → IsBoard (with_fm board key at value)
fm-ok board key at value low ok =
    record { port1 = ok.port1; port2 = ok.port2; psg = ok.psg; fm = few-written key (at % 4) value board.fm low ok.fm; store = ok.store; registers = ok.registers }

fm_read-if : (b : Bool) (board : Board) (cycle : ℕ) → IsBoard board → IsBoard (if b then fm_read board cycle else board)
fm_read-if true board cycle ok = record { port1 = ok.port1; port2 = ok.port2; psg = ok.psg; fm = ok.fm; store = ok.store; registers = ok.registers }
fm_read-if false board cycle ok = ok

psg-if : (b : Bool) (board : Board) (key : Key) (value : ℕ) → key.chip < 2 → IsBoard board → IsBoard (if b then with_psg board key value else board)
psg-if true board key value low ok = psg-ok board key value low ok
psg-if false board key value low ok = ok

-- a write in the Z80's space
granted-ok : (request : Bool) (store : Option Store) → IfSome store IsStore → IfSome (granted request store) IsStore
granted-ok true store ok = ok
granted-ok false store ok = tt

store-ok : (store : Store) (at value : ℕ) → IsStore store → IsStore (store_written store at value)
store-ok store at value ok = record { ram = stored_fits store.ram (at, value) ∙ ok.ram; bank = banked_fits store.bank (at, value) ok.bank }

space-by : (b c : Bool) (board : Board) (key : Key) (at value : ℕ) (store : Store) → key.chip < 2 → IsBoard board → IsStore store
    → IsBoard (if b then with_psg board key value else (if c then with_fm board key at value else record board { store = Some store }))
space-by true c board key at value store low ok sound = psg-ok board key value low ok
space-by false true board key at value store low ok sound = fm-ok board key at value low ok
space-by false false board key at value store low ok sound = record { port1 = ok.port1; port2 = ok.port2; psg = ok.psg; fm = ok.fm; store = sound; registers = ok.registers }

space-ok : (store : Option Store) (board : Board) (key : Key) (at value : ℕ) → key.chip < 2 → IsBoard board → IfSome store IsStore → IsBoard (space_written store board key at value)
space-ok None board key at value low ok sound = ok
space-ok (Some store) board key at value low ok sound = space-by (is_psg80 at) (is_fm at) board key at value _ low ok (store-ok store at value sound)

-- a write to a line
requested-ok : (board : Board) (bit : ℕ) → IsBoard board → IsBoard (requested board bit)
requested-ok board bit ok = record { port1 = ok.port1; port2 = ok.port2; psg = ok.psg; fm = ok.fm; store = ok.store; registers = ok.registers }

reset-ok : (b : Bool) (board : Board) (key : Key) → key.chip < 2 → IsBoard board
    → IsBoard (if b then record (with_fm_reset board key) { reset = true; resets = resets_counted board.resets } else record board { reset = false })
reset-ok true board key low ok = record { port1 = ok.port1; port2 = ok.port2; psg = ok.psg; fm = few-reset key board.fm low ok.fm; store = ok.store; registers = ok.registers }
reset-ok false board key low ok = record { port1 = ok.port1; port2 = ok.port2; psg = ok.psg; fm = ok.fm; store = ok.store; registers = ok.registers }

even-ok : (b : Bool) (one other : Board) → IsBoard one → IsBoard other → IsBoard (if b then one else other)
even-ok true one other first second = first
even-ok false one other first second = second

-- a board with another VDP whose registers are bytes
with-vdp : (board : Board) (vdp : Vdp) → AreBytes vdp.registers → IsBoard board → IsBoard (record board { vdp = vdp })
with-vdp board vdp bytes ok = record { port1 = ok.port1; port2 = ok.port2; psg = ok.psg; fm = ok.fm; store = ok.store; registers = bytes }

-- a read
video-read-ok : (board : Board) (key : Key) (address : ℕ) → IsBoard board → IsBoard (video_read board key address)
video-read-ok board key address ok = with-vdp board _ (port_read_bytes (port_at address) key.cycle board.vdp ok.registers) ok

space_read-ok : (store : Option Store) (board : Board) (cycle at : ℕ) → IsBoard board → IsBoard (space_read store board cycle at)
space_read-ok None board cycle at ok = ok
space_read-ok (Some store) board cycle at ok = fm_read-if (is_fm at) board cycle ok

read-ok : (area : Option Area) (board : Board) (key : Key) (address : ℕ) → IsBoard board → IsBoard (read_at area board key address)
unfolding read_in
read-ok None board key address ok = ok
read-ok (Some Z80Space) board key address ok = space_read-ok (granted board.request board.store) board key.cycle (z80_address address) ok
read-ok (Some InputOutput) board key address ok = ok
read-ok (Some BusRequest) board key address ok = ok
read-ok (Some Z80Reset) board key address ok = ok
read-ok (Some VideoPorts) board key address ok = video-read-ok board key address ok

-- a write to a port of the VDP
port-ok : (board : Board) (port : VideoPort) (cycle word : ℕ) → IsBoard board → IsBoard (record board { vdp = port_written port cycle word board.vdp })
port-ok board port cycle word ok = with-vdp board _ (port_written_bytes port cycle word board.vdp ok.registers) ok

video-byte-ok : (port : VideoPort) (board : Board) (key : Key) (address value : ℕ) → key.chip < 2 → IsBoard board → IsBoard (video_byte_written port board key address value)
unfolding video_byte_written
video-byte-ok Data board key address value low ok = port-ok board Data key.cycle (both_halves value) ok
video-byte-ok Control board key address value low ok = port-ok board Control key.cycle (both_halves value) ok
video-byte-ok Counter board key address value low ok = port-ok board Counter key.cycle (both_halves value) ok
video-byte-ok Sound board key address value low ok = psg-if (address % 2 == 1) board key value low ok
video-byte-ok NoPort board key address value low ok = port-ok board NoPort key.cycle (both_halves value) ok

video-word-ok : (port : VideoPort) (board : Board) (key : Key) (value : ℕ) → key.chip < 2 → IsBoard board → IsBoard (video_word_written port board key value)
unfolding video_word_written
video-word-ok Data board key value low ok = port-ok board Data key.cycle value ok
video-word-ok Control board key value low ok = port-ok board Control key.cycle value ok
video-word-ok Counter board key value low ok = port-ok board Counter key.cycle value ok
video-word-ok Sound board key value low ok = psg-ok board key (value % 0x100) low ok
video-word-ok NoPort board key value low ok = port-ok board NoPort key.cycle value ok

low-byte : (value : ℕ) → value % 0x100 < 0x100
low-byte value = omega arith

byte-ok : (area : Option Area) (board : Board) (key : Key) (address value : ℕ) → key.chip < 2 → IsBoard board → IsBoard (byte_written_at area board key address value)
unfolding byte_written_in
byte-ok None board key address value low ok = ok
byte-ok (Some Z80Space) board key address value low ok =
    space-ok (granted board.request board.store) board key (z80_address address) value low ok (granted-ok board.request board.store ok.store)
byte-ok (Some InputOutput) board key address value low ok = register-ok board key.cycle (register_at address) (value % 0x100) (low-byte value) ok
byte-ok (Some BusRequest) board key address value low ok = even-ok (address % 2 == 0) _ board (requested-ok board (value % 2) ok) ok
byte-ok (Some Z80Reset) board key address value low ok = even-ok (address % 2 == 0) _ board (reset-ok (value % 2 == 0) board key low ok) ok
byte-ok (Some VideoPorts) board key address value low ok = video-byte-ok (port_at address) board key address value low ok

word-ok : (area : Option Area) (board : Board) (key : Key) (address value : ℕ) → key.chip < 2 → IsBoard board → IsBoard (word_written_at area board key address value)
unfolding word_written_in
word-ok None board key address value low ok = ok
word-ok (Some Z80Space) board key address value low ok =
    space-ok (granted board.request board.store) board key (z80_address address) (value / 0x100) low ok (granted-ok board.request board.store ok.store)
word-ok (Some InputOutput) board key address value low ok = register-ok board key.cycle (register_at address) (value % 0x100) (low-byte value) ok
word-ok (Some BusRequest) board key address value low ok = requested-ok board (value / 0x100 % 2) ok
word-ok (Some Z80Reset) board key address value low ok = reset-ok (value / 0x100 % 2 == 0) board key low ok
word-ok (Some VideoPorts) board key address value low ok = video-word-ok (port_at address) board key value low ok

-- an access of the 68000
pub main-ok : (board : Board) (key : Key) (request : Request68) → key.chip < 2 → IsBoard board → IsBoard (main_board board key request)
unfolding main_board
main-ok board key (Read8 address) low ok = read-ok (area_of address) board key address ok
main-ok board key (Read16 address) low ok = read-ok (area_of address) board key address ok
main-ok board key (Write8 address value) low ok = byte-ok (area_of address) board key address value low ok
main-ok board key (Write16 address value) low ok = word-ok (area_of address) board key address value low ok
main-ok board key (Ack level) low ok = with-vdp board _ (acknowledged_bytes level board.vdp ok.registers) ok
main-ok board key (Word value) low ok = with-vdp board _ (taken_bytes key.cycle value board.vdp ok.registers) ok

pads-ok : (b : Bool) (board : Board) (pads : Frame) → IsBoard board → IsBoard (if b then record board { pads = pads } else board)
pads-ok true board pads ok = record { port1 = ok.port1; port2 = ok.port2; psg = ok.psg; fm = ok.fm; store = ok.store; registers = ok.registers }
pads-ok false board pads ok = ok

-- the start of a line
pub line-ok : (board : Board) (cycle : ℕ) (note : SpriteNote) → IsBoard board → IsBoard (line_board board cycle note)
unfolding line_board pads_board
line-ok board cycle note ok =
    let pal = (video_started board cycle note).vdp.pal in
    pads-ok (cycle % frame_cycles pal == finished_at pal) (video_started board cycle note) (pads_of board.recording (cycle / frame_cycles pal))
    (with-vdp board _ (line_begun_bytes cycle note board.vdp ok.registers) ok)

-- a batch of the PSG synthesis
pub psg_board-ok : (board : Board) (cycle : ℕ) → IsBoard board → IsBoard (psg_board board cycle)
unfolding psg_board
psg_board-ok board cycle ok = record { port1 = ok.port1; port2 = ok.port2; psg = IsPort-left_from cycle board.psg ok.psg; fm = ok.fm; store = ok.store; registers = ok.registers }

-- a batch of the FM synthesis
pub fm_board-ok : (board : Board) (cycle : ℕ) → IsBoard board → IsBoard (fm_board board cycle)
unfolding fm_board
fm_board-ok board cycle ok = record { port1 = ok.port1; port2 = ok.port2; psg = ok.psg; fm = few-left cycle board.fm.writes ok.fm; store = ok.store; registers = ok.registers }

-- what a request hands over
abbrev pub HandsOver : RequestValue80 → Type 0
HandsOver (HandOver store) = IsStore store
HandsOver request = Unit {0}

yielded-ok : (request : Bool) (board : Board) (key : Key) (store : Store) → IsBoard board → IsStore store → IsBoard (yielded request board key store).board
yielded-ok true board key store ok sound = record { port1 = ok.port1; port2 = ok.port2; psg = ok.psg; fm = ok.fm; store = sound; registers = ok.registers }
yielded-ok false board key store ok sound = ok

taken-ok : (request : Bool) (store : Option Store) (board : Board) (key : Key) → IsBoard board → IsBoard (taken_back request store board key).board
taken-ok true store board key ok = ok
taken-ok false None board key ok = ok
taken-ok false (Some store) board key ok = record { port1 = ok.port1; port2 = ok.port2; psg = ok.psg; fm = ok.fm; store = tt; registers = ok.registers }

sub_written-ok : (b c : Bool) (board : Board) (key : Key) (at value : ℕ) → key.chip < 2 → IsBoard board
    → IsBoard (if b then with_psg board key value else (if c then with_fm board key at value else board))
sub_written-ok true c board key at value low ok = psg-ok board key value low ok
sub_written-ok false true board key at value low ok = fm-ok board key at value low ok
sub_written-ok false false board key at value low ok = ok

-- an access of the Z80
pub sub-ok : (board : Board) (key : Key) (request : RequestValue80) → key.chip < 2 → HandsOver request → IsBoard board → IsBoard (sub_access board key request).board
unfolding sub_access
sub-ok board key (ReadByte at) low hands ok = fm_read-if (is_fm at) board key.cycle ok
sub-ok board key (WriteByte at value) low hands ok = sub_written-ok (is_psg80 at) (is_fm at) board key at value low ok
sub-ok board key (HandOver store) low hands ok = yielded-ok board.request board key store ok hands
sub-ok board key TakeBack low hands ok = taken-ok board.request board.store board key ok

yielded-fits : (request : Bool) (board : Board) (key : Key) (store : Store) → IsStore store → Fits (HandOver store) (yielded request board key store).answer
yielded-fits true board key store sound = tt
yielded-fits false board key store sound = sound

taken-fits : (request : Bool) (store : Option Store) (board : Board) (key : Key) → IfSome store IsStore → Fits TakeBack (taken_back request store board key).answer
taken-fits true store board key sound = tt
taken-fits false None board key sound = tt
taken-fits false (Some store) board key sound = sound

-- what the FM chip's status or nothing gives is a byte
flag : (b : Bool) → fm_timers.bit b ≤ 1
flag true = omega arith
flag false = omega arith

pub status-below : (b : Bool) (timers : Timers) (cycle : ℕ) → (if b then status cycle timers else 0xff) < 0x100
unfolding status
status-below true timers cycle =
    omega (arith, flag (shown cycle (timers.control / 4 % 2 == 1) timers.a), flag (shown cycle (timers.control / 8 % 2 == 1) timers.b))
status-below false timers cycle = lit< tt

-- what it is answered fits
pub sub-fits : (board : Board) (key : Key) (request : RequestValue80) → HandsOver request → IsBoard board → Fits request (sub_access board key request).answer
unfolding sub_access
sub-fits board key (ReadByte at) hands ok = status-below (is_fm at) (both_settled key.cycle board.fm.timers) key.cycle
sub-fits board key (WriteByte at value) hands ok = tt
sub-fits board key (HandOver store) hands ok = yielded-fits board.request board key store hands
sub-fits board key TakeBack hands ok = taken-fits board.request board.store board key ok.store

-- the accesses of the 68000, lines and batches
pub stays : (board : Board) (key : Key) → IsBoard board → StaysBoard board key
stays board key ok = record {
  main = λ request low. main-ok board key request low ok;
  line = λ cycle note. line-ok board cycle note ok;
  batch = λ cycle. psg_board-ok board cycle ok;
  fm_batch = λ cycle. fm_board-ok board cycle ok;
}
