-- The resets of the Z80 are counted one by one: each access of the 68000 writes one at most, and no other
-- access any.
use Rattle.std.proofs.Common.{ℕ, ◌+◌, ◌/◌, ◌%◌, ◌^◌, ◌-◌, ◌==◌, ◌≤◌, Bool, true, false, Option, Some, None, if◌then◌else◌, arith}
use Rattle.md_word.specs.Map.{area_of}
use Rattle.md_word.specs.declared.area.Area.{Area}
use Rattle.md_word.specs.declared.area.Area.TheVariants.{Z80Space, InputOutput, BusRequest, Z80Reset, VideoPorts}
use Rattle.md_word.specs.declared.key.Key.{Key}
use Rattle.md_word.specs.declared.main_bus.Request68.{Request68}
use Rattle.md_word.specs.declared.main_bus.Request68.TheVariants.{Read8, Read16, Write8, Write16, Ack, Word}
use Rattle.z80_parcel.specs.Parcels.{Store}
use Rattle.bus_shared.specs.Accesses.{main_board}
use Rattle.bus_shared.specs.Areas.{byte_written_at, byte_written_in, read_at, read_in, word_written_at, word_written_in}
use Rattle.bus_shared.specs.Board.{Board}
use Rattle.bus_shared.specs.Fm.{fm_read, is_fm, with_fm, with_fm_reset}
use Rattle.bus_shared.specs.Lines.{counted, requested}
use Rattle.bus_shared.specs.Registers.{register_at, register_written}
use Rattle.bus_shared.specs.Video.{port_at, video_byte_written, video_word_written}
use Rattle.bus_shared.specs.Z80Space.{granted, is_psg80, space_read, space_written, store_written, with_psg, z80_address}
use Rattle.bus_shared.specs.declared.port.VideoPort.{VideoPort}
use Rattle.bus_shared.specs.declared.port.VideoPort.TheVariants.{Data, Control, Counter, Sound, Unused as NoPort}
use Rattle.bus_shared.specs.declared.register.Register.{Register}
use Rattle.bus_shared.specs.declared.register.Register.TheVariants.{Version, Data1, Data2, DataExpansion, Control1, Control2, Unused}

stays : (n : ℕ) → n ≤ n + 1
stays n = omega arith

counted-one : (b : Bool) (n : ℕ) → (if b then n else n + 1) ≤ n + 1
counted-one true n = omega arith
counted-one false n = omega arith

-- a choice counts one at most where both of its sides do
one-if : (b : Bool) (n : ℕ) (one other : Board) → one.resets ≤ n → other.resets ≤ n → (if b then one else other).resets ≤ n
one-if true n one other first second = first
one-if false n one other first second = second

register-one : (board : Board) (cycle : ℕ) (register : Register) (value : ℕ) → (register_written board cycle register value).resets ≤ board.resets + 1
unfolding register_written
register-one board cycle Version value = stays board.resets
register-one board cycle Data1 value = stays board.resets
register-one board cycle Data2 value = stays board.resets
register-one board cycle DataExpansion value = stays board.resets
register-one board cycle Control1 value = stays board.resets
register-one board cycle Control2 value = stays board.resets
register-one board cycle Unused value = stays board.resets

space-one : (store : Option Store) (board : Board) (key : Key) (address value : ℕ) → (space_written store board key address value).resets ≤ board.resets + 1
space-one None board key address value = stays board.resets
space-one (Some store) board key address value =
    one-if (is_psg80 address) (board.resets + 1) (with_psg board key value) _ (stays board.resets)
    (one-if (is_fm address) (board.resets + 1) (with_fm board key address value) (record board { store = Some (store_written store address value) }) (stays board.resets) (stays board.resets))

space_read-one : (store : Option Store) (board : Board) (cycle address : ℕ) → (space_read store board cycle address).resets ≤ board.resets + 1
space_read-one None board cycle address = stays board.resets
space_read-one (Some store) board cycle address = one-if (is_fm address) (board.resets + 1) (fm_read board cycle) board (stays board.resets) (stays board.resets)

reset-one : (b : Bool) (board : Board) (key : Key)
    → (if b then record (with_fm_reset board key) { reset = true; resets = counted board.resets } else record board { reset = false }).resets ≤ board.resets + 1
reset-one true board key = counted-one (board.resets == 2 ^ 64 - 1) board.resets
reset-one false board key = stays board.resets

read-one : (area : Option Area) (board : Board) (key : Key) (address : ℕ) → (read_at area board key address).resets ≤ board.resets + 1
unfolding read_in
read-one None board key address = stays board.resets
read-one (Some Z80Space) board key address = space_read-one (granted board.request board.store) board key.cycle (z80_address address)
read-one (Some InputOutput) board key address = stays board.resets
read-one (Some BusRequest) board key address = stays board.resets
read-one (Some Z80Reset) board key address = stays board.resets
read-one (Some VideoPorts) board key address = stays board.resets

video-byte-one : (port : VideoPort) (board : Board) (key : Key) (address value : ℕ) → (video_byte_written port board key address value).resets ≤ board.resets + 1
unfolding video_byte_written
video-byte-one Data board key address value = stays board.resets
video-byte-one Control board key address value = stays board.resets
video-byte-one Counter board key address value = stays board.resets
video-byte-one Sound board key address value = one-if (address % 2 == 1) (board.resets + 1) (with_psg board key value) board (stays board.resets) (stays board.resets)
video-byte-one NoPort board key address value = stays board.resets

video-word-one : (port : VideoPort) (board : Board) (key : Key) (value : ℕ) → (video_word_written port board key value).resets ≤ board.resets + 1
unfolding video_word_written
video-word-one Data board key value = stays board.resets
video-word-one Control board key value = stays board.resets
video-word-one Counter board key value = stays board.resets
video-word-one Sound board key value = stays board.resets
video-word-one NoPort board key value = stays board.resets

byte-one : (area : Option Area) (board : Board) (key : Key) (address value : ℕ) → (byte_written_at area board key address value).resets ≤ board.resets + 1
unfolding byte_written_in
byte-one None board key address value = stays board.resets
byte-one (Some Z80Space) board key address value = space-one (granted board.request board.store) board key (z80_address address) value
byte-one (Some InputOutput) board key address value = register-one board key.cycle (register_at address) (value % 0x100)
byte-one (Some BusRequest) board key address value = one-if (address % 2 == 0) (board.resets + 1) (requested board (value % 2)) board (stays board.resets) (stays board.resets)
byte-one (Some Z80Reset) board key address value = one-if (address % 2 == 0) (board.resets + 1) _ board (reset-one (value % 2 == 0) board key) (stays board.resets)
byte-one (Some VideoPorts) board key address value = video-byte-one (port_at address) board key address value

word-one : (area : Option Area) (board : Board) (key : Key) (address value : ℕ) → (word_written_at area board key address value).resets ≤ board.resets + 1
unfolding word_written_in
word-one None board key address value = stays board.resets
word-one (Some Z80Space) board key address value = space-one (granted board.request board.store) board key (z80_address address) (value / 0x100)
word-one (Some InputOutput) board key address value = register-one board key.cycle (register_at address) (value % 0x100)
word-one (Some BusRequest) board key address value = stays board.resets
word-one (Some Z80Reset) board key address value = reset-one (value / 0x100 % 2 == 0) board key
word-one (Some VideoPorts) board key address value = video-word-one (port_at address) board key value

-- an access of the 68000
pub main_one : (board : Board) (key : Key) (request : Request68) → (main_board board key request).resets ≤ board.resets + 1
unfolding main_board
main_one board key (Read8 address) = read-one (area_of address) board key address
main_one board key (Read16 address) = read-one (area_of address) board key address
main_one board key (Write8 address value) = byte-one (area_of address) board key address value
main_one board key (Write16 address value) = word-one (area_of address) board key address value
main_one board key (Ack level) = stays board.resets
main_one board key (Word value) = stays board.resets
