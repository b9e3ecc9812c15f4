-- What each chip's accesses leave as it was.
use Rattle.std.proofs.Common.{◌≡◌, ◌≢◌, ℕ, ◌/◌, ◌%◌, ◌==◌, Bool, true, false, Option, Some, None, if◌then◌else◌, refl, ap, ◌∙◌}
use Rattle.md_pads.specs.Recording.{Frame, pads_of}
use Rattle.md_word.specs.Region.{finished_at, frame_cycles}
use Rattle.md_word.specs.Map.{area_of}
use Rattle.md_word.specs.declared.area.Area.{Area}
use Rattle.md_word.specs.declared.area.Area.TheVariants.{Z80Space, InputOutput, BusRequest, Z80Reset, VideoPorts}
use Rattle.md_word.specs.declared.key.Key.{Key}
use Rattle.md_word.specs.declared.main_bus.Request68.{Request68}
use Rattle.md_word.specs.declared.main_bus.Request68.TheVariants.{Read8, Read16, Write8, Write16, Ack, Word}
use Rattle.vdp_ports.specs.Vdp.{Vdp}
use Rattle.vdp_planes.specs.declared.view.SpriteNote.{SpriteNote}
use Rattle.bus_shared.specs.Accesses.{carried, line_board, main_board, pads_board, psg_board, sub_access, taken_back, video_started, yielded}
use Rattle.z80_parcel.specs.Requests.{RequestValue80, ReadByte, WriteByte, HandOver, TakeBack, request_value80_of}
use Rattle.bus_shared.specs.Areas.{byte_written_at, byte_written_in, read_at, read_in, word_written_at, word_written_in}
use Rattle.bus_shared.specs.Lines.{counted}
use Rattle.vdp_ports.proofs.Regions.{accessed_region, acknowledged_region, controlled_region, status_read_region, transferred_region, written_region}
use Rattle.vdp_dma.specs.Settling.{settled}
use Rattle.vdp_dma.proofs.Regions.{settled_region}
use Rattle.vdp_time.proofs.Kept.{started_region}
use Rattle.bus_shared.specs.Video.{both_halves, joined, line_begun, pins_by, port_at, port_read, port_written, video_byte_written, video_word_written}
use Rattle.bus_shared.specs.Fm.{fm_board, fm_read, is_fm, with_fm, with_fm_reset}
use Rattle.bus_shared.specs.Z80Space.{granted, is_psg80, space_read, space_written, with_psg, z80_address}
use Rattle.z80_parcel.specs.Parcels.{Store}
use Rattle.bus_shared.specs.Board.{Board}
use Rattle.bus_shared.specs.Laws.{BatchLeaves, FmBatchLeaves, LeavesPins, LineLeaves, MainLeaves, SubLeaves, WritersLaw, looked_at}
use Rattle.bus_shared.specs.Registers.{register_at, register_written}
use Rattle.bus_shared.specs.declared.port.VideoPort.{VideoPort}
use Rattle.bus_shared.specs.declared.port.VideoPort.TheVariants.{Data, Control, Counter, Sound, Unused as NoPort}
use Rattle.bus_shared.specs.declared.request.Request.{Request}
use Rattle.bus_shared.specs.declared.request.Request.TheVariants as requests
use Rattle.bus_shared.specs.declared.register.Register.{Register}
use Rattle.bus_shared.specs.declared.register.Register.TheVariants.{Version, Data1, Data2, DataExpansion, Control1, Control2, Unused}

-- what the 68000 leaves: recording, buttons and region
record Same (old new : Board) : Type 0 where
  recording : new.recording ≡ old.recording
  pads : new.pads ≡ old.pads
  region : new.vdp.pal ≡ old.vdp.pal

-- a port leaves the region
port_read_region : (port : VideoPort) (cycle : ℕ) (vdp : Vdp) → (port_read port cycle vdp).pal ≡ vdp.pal
unfolding port_read
port_read_region Data cycle vdp = accessed_region (settled cycle vdp) ∙ settled_region cycle vdp
port_read_region Control cycle vdp = status_read_region (settled cycle vdp) ∙ settled_region cycle vdp
port_read_region Counter cycle vdp = refl
port_read_region Sound cycle vdp = refl
port_read_region NoPort cycle vdp = refl

port_written_region : (port : VideoPort) (cycle word : ℕ) (vdp : Vdp) → (port_written port cycle word vdp).pal ≡ vdp.pal
unfolding port_written
port_written_region Data cycle word vdp = written_region cycle word (settled cycle vdp) ∙ settled_region cycle vdp
port_written_region Control cycle word vdp = controlled_region cycle word (settled cycle vdp) ∙ settled_region cycle vdp
port_written_region Counter cycle word vdp = refl
port_written_region Sound cycle word vdp = refl
port_written_region NoPort cycle word vdp = refl

itself : (board : Board) → Same board board
itself board = record { recording = refl; pads = refl; region = refl }

register-same : (board : Board) (cycle : ℕ) (register : Register) (value : ℕ) → Same board (register_written board cycle register value)
unfolding register_written
register-same board cycle Version value = itself board
register-same board cycle Data1 value = record { recording = refl; pads = refl; region = refl }
register-same board cycle Data2 value = record { recording = refl; pads = refl; region = refl }
register-same board cycle DataExpansion value = itself board
register-same board cycle Control1 value = record { recording = refl; pads = refl; region = refl }
register-same board cycle Control2 value = record { recording = refl; pads = refl; region = refl }
register-same board cycle Unused value = itself board

fm_read-same : (b : Bool) (board : Board) (cycle : ℕ) → Same board (if b then fm_read board cycle else board)
fm_read-same true board cycle = record { recording = refl; pads = refl; region = refl }
fm_read-same false board cycle = itself board

psg-same : (b : Bool) (board : Board) (key : Key) (value : ℕ) → Same board (if b then with_psg board key value else board)
psg-same true board key value = record { recording = refl; pads = refl; region = refl }
psg-same false board key value = itself board

space-by : (b c : Bool) (board : Board) (key : Key) (at value : ℕ) (store : Option Store)
    → Same board (if b then with_psg board key value else (if c then with_fm board key at value else record board { store = store }))
space-by true c board key at value store = record { recording = refl; pads = refl; region = refl }
space-by false true board key at value store = record { recording = refl; pads = refl; region = refl }
space-by false false board key at value store = record { recording = refl; pads = refl; region = refl }

space-same : (store : Option Store) (board : Board) (key : Key) (at value : ℕ) → Same board (space_written store board key at value)
space-same None board key at value = itself board
space-same (Some store) board key at value = space-by (is_psg80 at) (is_fm at) board key at value _

reset-same : (b : Bool) (board : Board) (key : Key)
    → Same board (if b then record (with_fm_reset board key) { reset = true; resets = counted board.resets } else record board { reset = false })
reset-same true board key = record { recording = refl; pads = refl; region = refl }
reset-same false board key = record { recording = refl; pads = refl; region = refl }

even-same : (b : Bool) (board new : Board) → Same board new → Same board (if b then new else board)
even-same true board new same = same
even-same false board new same = itself board

space_read-same : (store : Option Store) (board : Board) (cycle at : ℕ) → Same board (space_read store board cycle at)
space_read-same None board cycle at = itself board
space_read-same (Some store) board cycle at = fm_read-same (is_fm at) board cycle

read-same : (area : Option Area) (board : Board) (key : Key) (address : ℕ) → Same board (read_at area board key address)
unfolding read_in
read-same None board key address = itself board
read-same (Some Z80Space) board key address = space_read-same (granted board.request board.store) board key.cycle (z80_address address)
read-same (Some InputOutput) board key address = itself board
read-same (Some BusRequest) board key address = itself board
read-same (Some Z80Reset) board key address = itself board
read-same (Some VideoPorts) board key address = record { recording = refl; pads = refl; region = port_read_region (port_at address) key.cycle board.vdp }

video-byte-same : (port : VideoPort) (board : Board) (key : Key) (address value : ℕ) → Same board (video_byte_written port board key address value)
unfolding video_byte_written
video-byte-same Data board key address value = record { recording = refl; pads = refl; region = port_written_region Data key.cycle (both_halves value) board.vdp }
video-byte-same Control board key address value = record { recording = refl; pads = refl; region = port_written_region Control key.cycle (both_halves value) board.vdp }
video-byte-same Counter board key address value = record { recording = refl; pads = refl; region = port_written_region Counter key.cycle (both_halves value) board.vdp }
video-byte-same Sound board key address value = psg-same (address % 2 == 1) board key value
video-byte-same NoPort board key address value = record { recording = refl; pads = refl; region = port_written_region NoPort key.cycle (both_halves value) board.vdp }

video-word-same : (port : VideoPort) (board : Board) (key : Key) (value : ℕ) → Same board (video_word_written port board key value)
unfolding video_word_written
video-word-same Data board key value = record { recording = refl; pads = refl; region = port_written_region Data key.cycle value board.vdp }
video-word-same Control board key value = record { recording = refl; pads = refl; region = port_written_region Control key.cycle value board.vdp }
video-word-same Counter board key value = record { recording = refl; pads = refl; region = port_written_region Counter key.cycle value board.vdp }
video-word-same Sound board key value = record { recording = refl; pads = refl; region = refl }
video-word-same NoPort board key value = record { recording = refl; pads = refl; region = port_written_region NoPort key.cycle value board.vdp }

byte-same : (area : Option Area) (board : Board) (key : Key) (address value : ℕ) → Same board (byte_written_at area board key address value)
unfolding byte_written_in
byte-same None board key address value = itself board
byte-same (Some Z80Space) board key address value = space-same (granted board.request board.store) board key (z80_address address) value
byte-same (Some InputOutput) board key address value = register-same board key.cycle (register_at address) (value % 0x100)
byte-same (Some BusRequest) board key address value = even-same (address % 2 == 0) board _ (record { recording = refl; pads = refl; region = refl })
byte-same (Some Z80Reset) board key address value = even-same (address % 2 == 0) board _ (reset-same (value % 2 == 0) board key)
byte-same (Some VideoPorts) board key address value = video-byte-same (port_at address) board key address value

word-same : (area : Option Area) (board : Board) (key : Key) (address value : ℕ) → Same board (word_written_at area board key address value)
unfolding word_written_in
word-same None board key address value = itself board
word-same (Some Z80Space) board key address value = space-same (granted board.request board.store) board key (z80_address address) (value / 0x100)
word-same (Some InputOutput) board key address value = register-same board key.cycle (register_at address) (value % 0x100)
word-same (Some BusRequest) board key address value = record { recording = refl; pads = refl; region = refl }
word-same (Some Z80Reset) board key address value = reset-same (value / 0x100 % 2 == 0) board key
word-same (Some VideoPorts) board key address value = video-word-same (port_at address) board key value

main-same : (board : Board) (key : Key) (request : Request68) → Same board (main_board board key request)
unfolding main_board
main-same board key (Read8 address) = read-same (area_of address) board key address
main-same board key (Read16 address) = read-same (area_of address) board key address
main-same board key (Write8 address value) = byte-same (area_of address) board key address value
main-same board key (Write16 address value) = word-same (area_of address) board key address value
main-same board key (Ack level) = record { recording = refl; pads = refl; region = acknowledged_region level board.vdp }
main-same board key (Word value) = record { recording = refl; pads = refl; region = transferred_region value (settled key.cycle board.vdp) ∙ settled_region key.cycle board.vdp }

-- a read
fm_read-leaves : (b : Bool) (board : Board) (cycle : ℕ) → looked_at (if b then fm_read board cycle else board) board ≡ board
fm_read-leaves true board cycle = refl
fm_read-leaves false board cycle = refl

space_read-leaves : (store : Option Store) (board : Board) (cycle at : ℕ) → looked_at (space_read store board cycle at) board ≡ board
space_read-leaves None board cycle at = refl
space_read-leaves (Some store) board cycle at = fm_read-leaves (is_fm at) board cycle

read-leaves : (area : Option Area) (board : Board) (key : Key) (address : ℕ) → looked_at (read_at area board key address) board ≡ board
unfolding read_in
read-leaves None board key address = refl
read-leaves (Some Z80Space) board key address = space_read-leaves (granted board.request board.store) board key.cycle (z80_address address)
read-leaves (Some InputOutput) board key address = refl
read-leaves (Some BusRequest) board key address = refl
read-leaves (Some Z80Reset) board key address = refl
read-leaves (Some VideoPorts) board key address = refl

read-beside : (area : Option Area) (board : Board) (key : Key) (address : ℕ) → area ≢ Some VideoPorts → area ≢ Some Z80Space → read_at area board key address ≡ board
unfolding read_in
read-beside None board key address other away = refl
read-beside (Some Z80Space) board key address other away = absurd (away refl)
read-beside (Some InputOutput) board key address other away = refl
read-beside (Some BusRequest) board key address other away = refl
read-beside (Some Z80Reset) board key address other away = refl
read-beside (Some VideoPorts) board key address other away = absurd (other refl)

pub left_by_main : (board : Board) (key : Key) → MainLeaves board key
unfolding main_board
left_by_main board key = record {
  recording = λ request. (main-same board key request).recording;
  pads = λ request. (main-same board key request).pads;
  region = λ request. (main-same board key request).region;
  byte_read = λ address. read-leaves (area_of address) board key address;
  word_read = λ address. read-leaves (area_of address) board key address;
  byte_beside = λ address other away. read-beside (area_of address) board key address other away;
  word_beside = λ address other away. read-beside (area_of address) board key address other away;
}

record Beside (old new : Board) : Type 0 where
  recording : new.recording ≡ old.recording
  port1 : new.port1 ≡ old.port1
  port2 : new.port2 ≡ old.port2
  psg : new.psg ≡ old.psg
  fm : new.fm ≡ old.fm
  request : new.request ≡ old.request
  reset : new.reset ≡ old.reset
  resets : new.resets ≡ old.resets
  store : new.store ≡ old.store
  vdp : new.vdp ≡ old.vdp

pads-beside : (b : Bool) (board : Board) (pads : Frame) → Beside board (if b then record board { pads = pads } else board)
pads-beside true board pads = record { recording = refl; port1 = refl; port2 = refl; psg = refl; fm = refl; request = refl; reset = refl; resets = refl; store = refl; vdp = refl }
pads-beside false board pads = record { recording = refl; port1 = refl; port2 = refl; psg = refl; fm = refl; request = refl; reset = refl; resets = refl; store = refl; vdp = refl }

pub begun_region : (cycle : ℕ) (note : SpriteNote) (vdp : Vdp) → (line_begun cycle note vdp).pal ≡ vdp.pal
unfolding line_begun
begun_region cycle note vdp = started_region cycle (joined note (settled cycle vdp)) ∙ settled_region cycle vdp

pub left_by_line : (board : Board) (cycle : ℕ) (note : SpriteNote) → LineLeaves board cycle note
unfolding line_board pads_board
left_by_line board cycle note =
    let pal = (video_started board cycle note).vdp.pal in
    let beside = pads-beside (cycle % frame_cycles pal == finished_at pal) (video_started board cycle note) (pads_of board.recording (cycle / frame_cycles pal)) in
    record {
      recording = beside.recording;
      port1 = beside.port1;
      port2 = beside.port2;
      psg = beside.psg;
      fm = beside.fm;
      request = beside.request;
      reset = beside.reset;
      resets = beside.resets;
      store = beside.store;
      region = ap (λ (vdp : Vdp). vdp.pal) beside.vdp ∙ begun_region cycle note board.vdp;
    }

pub left_by_batch : (board : Board) (cycle : ℕ) → BatchLeaves board cycle
unfolding psg_board
left_by_batch board cycle = record { recording = refl; pads = refl; port1 = refl; port2 = refl; vdp = refl; fm = refl }

pub left_by_fm_batch : (board : Board) (cycle : ℕ) → FmBatchLeaves board cycle
unfolding fm_board
left_by_fm_batch board cycle = refl

-- the Z80
record Alike (old new : Board) : Type 0 where
  recording : new.recording ≡ old.recording
  pads : new.pads ≡ old.pads
  port1 : new.port1 ≡ old.port1
  port2 : new.port2 ≡ old.port2
  request : new.request ≡ old.request
  reset : new.reset ≡ old.reset
  resets : new.resets ≡ old.resets
  vdp : new.vdp ≡ old.vdp

unchanged : (board : Board) → Alike board board
unchanged board = record { recording = refl; pads = refl; port1 = refl; port2 = refl; request = refl; reset = refl; resets = refl; vdp = refl }

read-alike : (b : Bool) (board : Board) (cycle : ℕ) → Alike board (if b then fm_read board cycle else board)
read-alike true board cycle = record { recording = refl; pads = refl; port1 = refl; port2 = refl; request = refl; reset = refl; resets = refl; vdp = refl }
read-alike false board cycle = unchanged board

written-alike : (b c : Bool) (board : Board) (key : Key) (at value : ℕ)
    → Alike board (if b then with_psg board key value else (if c then with_fm board key at value else board))
written-alike true c board key at value = record { recording = refl; pads = refl; port1 = refl; port2 = refl; request = refl; reset = refl; resets = refl; vdp = refl }
written-alike false true board key at value = record { recording = refl; pads = refl; port1 = refl; port2 = refl; request = refl; reset = refl; resets = refl; vdp = refl }
written-alike false false board key at value = unchanged board

yielded-alike : (b : Bool) (board : Board) (key : Key) (store : Store) → Alike board (yielded b board key store).board
yielded-alike true board key store = record { recording = refl; pads = refl; port1 = refl; port2 = refl; request = refl; reset = refl; resets = refl; vdp = refl }
yielded-alike false board key store = unchanged board

taken-alike : (b : Bool) (store : Option Store) (board : Board) (key : Key) → Alike board (taken_back b store board key).board
taken-alike true store board key = unchanged board
taken-alike false None board key = unchanged board
taken-alike false (Some store) board key = record { recording = refl; pads = refl; port1 = refl; port2 = refl; request = refl; reset = refl; resets = refl; vdp = refl }

access-alike : (board : Board) (key : Key) (request : RequestValue80) → Alike board (sub_access board key request).board
unfolding sub_access
access-alike board key (ReadByte at) = read-alike (is_fm at) board key.cycle
access-alike board key (WriteByte at value) = written-alike (is_psg80 at) (is_fm at) board key at value
access-alike board key (HandOver store) = yielded-alike board.request board key store
access-alike board key TakeBack = taken-alike board.request board.store board key

pub left_by_sub : (board : Board) (key : Key) (request : RequestValue80) → SubLeaves board key request
left_by_sub board key request =
    let same = access-alike board key request in
    record {
      recording = same.recording;
      pads = same.pads;
      port1 = same.port1;
      port2 = same.port2;
      request = same.request;
      reset = same.reset;
      resets = same.resets;
      vdp = same.vdp;
    }

-- the pins go by the lines and by the VDP
pins-leave : (old new : Board) → Alike old new → LeavesPins old new
pins-leave old new same = record {
  main = ap pins_by same.vdp;
  sub = ap (λ (r : Bool). record { request = r; reset = new.reset; resets = new.resets; int_from = new.vdp.int_from; int_to = new.vdp.int_to }) same.request
      ∙ ap (λ (r : Bool). record { request = old.request; reset = r; resets = new.resets; int_from = new.vdp.int_from; int_to = new.vdp.int_to }) same.reset
      ∙ ap (λ (n : ℕ). record { request = old.request; reset = old.reset; resets = n; int_from = new.vdp.int_from; int_to = new.vdp.int_to }) same.resets
      ∙ ap (λ (vdp : Vdp). record { request = old.request; reset = old.reset; resets = old.resets; int_from = vdp.int_from; int_to = vdp.int_to }) same.vdp;
}

pub sub_pins_stay : (board : Board) (key : Key) (asks : RequestValue80) → LeavesPins board (sub_access board key asks).board
sub_pins_stay board key asks = pins-leave board _ (access-alike board key asks)

pub batch_pins_stay : (board : Board) (cycle : ℕ) → LeavesPins board (psg_board board cycle)
unfolding psg_board
batch_pins_stay board cycle = record { main = refl; sub = refl }

pub fm_batch_pins_stay : (board : Board) (cycle : ℕ) → LeavesPins board (fm_board board cycle)
unfolding fm_board
fm_batch_pins_stay board cycle = record { main = refl; sub = refl }

pub writers : (board : Board) (key : Key) (request : Request) → WritersLaw board key request
unfolding carried
writers board key (requests.Main request) first third = absurd (first refl)
writers board key (requests.Sub request) first third = sub_pins_stay board key (request_value80_of request)
writers board key (requests.Line view note) first third = absurd (third refl)
writers board key (requests.Fm list) first third = fm_batch_pins_stay board key.cycle
writers board key (requests.Psg list) first third = batch_pins_stay board key.cycle
