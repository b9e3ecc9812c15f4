-- What of the 68000 leaves the Z80's pins as they were.
use Rattle.std.proofs.Common.{◌≡◌, ◌≢◌, ℕ, ◌/◌, ◌%◌, ◌==◌, Bool, true, false, Option, Some, None, if◌then◌else◌, refl, ap, ◌∙◌}
use Rattle.md_word.specs.Map.{area_of}
use Rattle.md_word.specs.declared.area.Area.{Area}
use Rattle.md_word.specs.declared.area.Area.TheVariants.{Z80Space, InputOutput, BusRequest, Z80Reset, VideoPorts}
use Rattle.md_word.specs.declared.key.Key.{Key}
use Rattle.md_word.specs.declared.main_bus.Request68.{Request68}
use Rattle.md_word.specs.declared.main_bus.Request68.TheVariants.{Read8, Read16, Write8, Write16, Ack, Word}
use Rattle.vdp_ports.specs.Control.{acknowledged, status_read}
use Rattle.vdp_ports.specs.Pins.{HasSameInterval}
use Rattle.vdp_ports.specs.Vdp.{Vdp}
use Rattle.vdp_ports.proofs.Same.{accessed_same, controlled_same, transferred_same, written_same}
use Rattle.vdp_dma.specs.Settling.{settled}
use Rattle.vdp_dma.proofs.Same.{settled_same}
use Rattle.z80_parcel.specs.Parcels.{Store}
use Rattle.bus_shared.specs.Accesses.{main_board, sub_pins}
use Rattle.bus_shared.specs.Areas.{byte_written_at, byte_written_in, read_at, read_in, word_written_at, word_written_in}
use Rattle.bus_shared.specs.Board.{Board}
use Rattle.bus_shared.specs.Fm.{fm_read, is_fm, with_fm}
use Rattle.bus_shared.specs.Laws.{IsBesideLines}
use Rattle.bus_shared.specs.Registers.{register_at, register_written}
use Rattle.bus_shared.specs.Video.{both_halves, port_at, port_read, port_written, video_byte_written, video_word_written}
use Rattle.bus_shared.specs.Z80Space.{granted, is_psg80, space_read, space_written, with_psg, z80_address}
use Rattle.bus_shared.specs.declared.port.VideoPort.{VideoPort}
use Rattle.bus_shared.specs.declared.port.VideoPort.TheVariants.{Data, Control, Counter, Sound, Unused as NoPort}
use Rattle.bus_shared.specs.declared.register.Register.{Register}
use Rattle.bus_shared.specs.declared.register.Register.TheVariants.{Version, Data1, Data2, DataExpansion, Control1, Control2, Unused}

-- one interval and the next
followed : (a b c : Vdp) → HasSameInterval a b → HasSameInterval b c → HasSameInterval a c
followed a b c first next = record { from_stays = next.from_stays ∙ first.from_stays; to_stays = next.to_stays ∙ first.to_stays }

as-is : (a : Vdp) → HasSameInterval a a
as-is a = record { from_stays = refl; to_stays = refl }

status-interval : (a : Vdp) → HasSameInterval a (status_read a)
unfolding status_read
status-interval a = record { from_stays = refl; to_stays = refl }

acknowledged-interval : (level : ℕ) (a : Vdp) → HasSameInterval a (acknowledged level a)
unfolding acknowledged
acknowledged-interval level a = by (level == 6) (level == 4)
  where
    by : (b c : Bool) → HasSameInterval a (if b then record a { vertical = false } else (if c then record a { horizontal = false } else a))
    by true c = record { from_stays = refl; to_stays = refl }
    by false true = record { from_stays = refl; to_stays = refl }
    by false false = as-is a

read-interval : (port : VideoPort) (cycle : ℕ) (vdp : Vdp) → HasSameInterval vdp (port_read port cycle vdp)
unfolding port_read
read-interval Data cycle vdp = followed vdp (settled cycle vdp) _ (settled_same cycle vdp).interval_stays (accessed_same (settled cycle vdp)).interval_stays
read-interval Control cycle vdp = followed vdp (settled cycle vdp) _ (settled_same cycle vdp).interval_stays (status-interval (settled cycle vdp))
read-interval Counter cycle vdp = as-is vdp
read-interval Sound cycle vdp = as-is vdp
read-interval NoPort cycle vdp = as-is vdp

written-interval : (port : VideoPort) (cycle word : ℕ) (vdp : Vdp) → HasSameInterval vdp (port_written port cycle word vdp)
unfolding port_written
written-interval Data cycle word vdp = followed vdp (settled cycle vdp) _ (settled_same cycle vdp).interval_stays (written_same cycle word (settled cycle vdp)).interval_stays
written-interval Control cycle word vdp = followed vdp (settled cycle vdp) _ (settled_same cycle vdp).interval_stays (controlled_same cycle word (settled cycle vdp))
written-interval Counter cycle word vdp = as-is vdp
written-interval Sound cycle word vdp = as-is vdp
written-interval NoPort cycle word vdp = as-is vdp

-- the Z80's lines and its interval
record Pinned (old new : Board) : Type 0 where
  request : new.request ≡ old.request
  reset : new.reset ≡ old.reset
  resets : new.resets ≡ old.resets
  interval : HasSameInterval old.vdp new.vdp

unmoved : (board : Board) → Pinned board board
unmoved board = record { request = refl; reset = refl; resets = refl; interval = as-is board.vdp }

with-video : (board : Board) (vdp : Vdp) → HasSameInterval board.vdp vdp → Pinned board (record board { vdp = vdp })
with-video board vdp same = record { request = refl; reset = refl; resets = refl; interval = same }

register-pinned : (board : Board) (cycle : ℕ) (register : Register) (value : ℕ) → Pinned board (register_written board cycle register value)
unfolding register_written
register-pinned board cycle Version value = unmoved board
register-pinned board cycle Data1 value = record { request = refl; reset = refl; resets = refl; interval = as-is board.vdp }
register-pinned board cycle Data2 value = record { request = refl; reset = refl; resets = refl; interval = as-is board.vdp }
register-pinned board cycle DataExpansion value = unmoved board
register-pinned board cycle Control1 value = record { request = refl; reset = refl; resets = refl; interval = as-is board.vdp }
register-pinned board cycle Control2 value = record { request = refl; reset = refl; resets = refl; interval = as-is board.vdp }
register-pinned board cycle Unused value = unmoved board

psg-pinned : (b : Bool) (board : Board) (key : Key) (value : ℕ) → Pinned board (if b then with_psg board key value else board)
psg-pinned true board key value = record { request = refl; reset = refl; resets = refl; interval = as-is board.vdp }
psg-pinned false board key value = unmoved board

fm-pinned : (b : Bool) (board : Board) (cycle : ℕ) → Pinned board (if b then fm_read board cycle else board)
fm-pinned true board cycle = record { request = refl; reset = refl; resets = refl; interval = as-is board.vdp }
fm-pinned false board cycle = unmoved board

space-by : (b c : Bool) (board : Board) (key : Key) (at value : ℕ) (store : Option Store)
    → Pinned board (if b then with_psg board key value else (if c then with_fm board key at value else record board { store = store }))
space-by true c board key at value store = record { request = refl; reset = refl; resets = refl; interval = as-is board.vdp }
space-by false true board key at value store = record { request = refl; reset = refl; resets = refl; interval = as-is board.vdp }
space-by false false board key at value store = record { request = refl; reset = refl; resets = refl; interval = as-is board.vdp }

space-pinned : (store : Option Store) (board : Board) (key : Key) (at value : ℕ) → Pinned board (space_written store board key at value)
space-pinned None board key at value = unmoved board
space-pinned (Some store) board key at value = space-by (is_psg80 at) (is_fm at) board key at value _

space_read-pinned : (store : Option Store) (board : Board) (cycle at : ℕ) → Pinned board (space_read store board cycle at)
space_read-pinned None board cycle at = unmoved board
space_read-pinned (Some store) board cycle at = fm-pinned (is_fm at) board cycle

read-pinned : (area : Option Area) (board : Board) (key : Key) (address : ℕ) → Pinned board (read_at area board key address)
unfolding read_in
read-pinned None board key address = unmoved board
read-pinned (Some Z80Space) board key address = space_read-pinned (granted board.request board.store) board key.cycle (z80_address address)
read-pinned (Some InputOutput) board key address = unmoved board
read-pinned (Some BusRequest) board key address = unmoved board
read-pinned (Some Z80Reset) board key address = unmoved board
read-pinned (Some VideoPorts) board key address = with-video board _ (read-interval (port_at address) key.cycle board.vdp)

video-byte-pinned : (port : VideoPort) (board : Board) (key : Key) (address value : ℕ) → Pinned board (video_byte_written port board key address value)
unfolding video_byte_written
video-byte-pinned Data board key address value = with-video board _ (written-interval Data key.cycle (both_halves value) board.vdp)
video-byte-pinned Control board key address value = with-video board _ (written-interval Control key.cycle (both_halves value) board.vdp)
video-byte-pinned Counter board key address value = with-video board _ (written-interval Counter key.cycle (both_halves value) board.vdp)
video-byte-pinned Sound board key address value = psg-pinned (address % 2 == 1) board key value
video-byte-pinned NoPort board key address value = with-video board _ (written-interval NoPort key.cycle (both_halves value) board.vdp)

video-word-pinned : (port : VideoPort) (board : Board) (key : Key) (value : ℕ) → Pinned board (video_word_written port board key value)
unfolding video_word_written
video-word-pinned Data board key value = with-video board _ (written-interval Data key.cycle value board.vdp)
video-word-pinned Control board key value = with-video board _ (written-interval Control key.cycle value board.vdp)
video-word-pinned Counter board key value = with-video board _ (written-interval Counter key.cycle value board.vdp)
video-word-pinned Sound board key value = record { request = refl; reset = refl; resets = refl; interval = as-is board.vdp }
video-word-pinned NoPort board key value = with-video board _ (written-interval NoPort key.cycle value board.vdp)

byte-pinned : (area : Option Area) → area ≢ Some BusRequest → area ≢ Some Z80Reset → (board : Board) (key : Key) (address value : ℕ) → Pinned board (byte_written_at area board key address value)
unfolding byte_written_in
byte-pinned None line reset board key address value = unmoved board
byte-pinned (Some Z80Space) line reset board key address value = space-pinned (granted board.request board.store) board key (z80_address address) value
byte-pinned (Some InputOutput) line reset board key address value = register-pinned board key.cycle (register_at address) (value % 0x100)
byte-pinned (Some BusRequest) line reset board key address value = absurd (line refl)
byte-pinned (Some Z80Reset) line reset board key address value = absurd (reset refl)
byte-pinned (Some VideoPorts) line reset board key address value = video-byte-pinned (port_at address) board key address value

word-pinned : (area : Option Area) → area ≢ Some BusRequest → area ≢ Some Z80Reset → (board : Board) (key : Key) (address value : ℕ) → Pinned board (word_written_at area board key address value)
unfolding word_written_in
word-pinned None line reset board key address value = unmoved board
word-pinned (Some Z80Space) line reset board key address value = space-pinned (granted board.request board.store) board key (z80_address address) (value / 0x100)
word-pinned (Some InputOutput) line reset board key address value = register-pinned board key.cycle (register_at address) (value % 0x100)
word-pinned (Some BusRequest) line reset board key address value = absurd (line refl)
word-pinned (Some Z80Reset) line reset board key address value = absurd (reset refl)
word-pinned (Some VideoPorts) line reset board key address value = video-word-pinned (port_at address) board key value

main-pinned : (board : Board) (key : Key) (request : Request68) → IsBesideLines request → Pinned board (main_board board key request)
unfolding main_board
main-pinned board key (Read8 address) beside = read-pinned (area_of address) board key address
main-pinned board key (Read16 address) beside = read-pinned (area_of address) board key address
main-pinned board key (Write8 address value) beside = byte-pinned (area_of address) beside.0 beside.1 board key address value
main-pinned board key (Write16 address value) beside = word-pinned (area_of address) beside.0 beside.1 board key address value
main-pinned board key (Ack level) beside = with-video board _ (acknowledged-interval level board.vdp)
main-pinned board key (Word value) beside =
    with-video board _ (followed board.vdp (settled key.cycle board.vdp) _ (settled_same key.cycle board.vdp).interval_stays (transferred_same value (settled key.cycle board.vdp)).interval_stays)

pub main_leaves_sub_pins : (board : Board) (key : Key) (request : Request68) → IsBesideLines request → sub_pins (main_board board key request) ≡ sub_pins board
main_leaves_sub_pins board key request beside = go (main_board board key request) (main-pinned board key request beside)
  where
    go : (new : Board) → Pinned board new → sub_pins new ≡ sub_pins board
    go new same =
        ap (λ (r : Bool). record { request = r; reset = new.reset; resets = new.resets; int_from = new.vdp.int_from; int_to = new.vdp.int_to }) same.request
        ∙ ap (λ (r : Bool). record { request = board.request; reset = r; resets = new.resets; int_from = new.vdp.int_from; int_to = new.vdp.int_to }) same.reset
        ∙ ap (λ (n : ℕ). record { request = board.request; reset = board.reset; resets = n; int_from = new.vdp.int_from; int_to = new.vdp.int_to }) same.resets
        ∙ ap (λ (n : ℕ). record { request = board.request; reset = board.reset; resets = board.resets; int_from = n; int_to = new.vdp.int_to }) same.interval.from_stays
        ∙ ap (λ (n : ℕ). record { request = board.request; reset = board.reset; resets = board.resets; int_from = board.vdp.int_from; int_to = n }) same.interval.to_stays
