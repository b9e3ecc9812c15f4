-- The falls of TH that the pads counted are before a cycle, and stay so after each access of the 68000 before
-- it.
use Rattle.std.proofs.Common.{ℕ, ◌+◌, ◌/◌, ◌%◌, ◌==◌, ◌<◌, Bool, true, false, not, ◌&&◌, Option, Some, None, if◌then◌else◌, arith}
use Rattle.md_word.specs.Map.{area_of}
use Rattle.md_word.specs.declared.area.Area.{Area}
use Rattle.md_word.specs.declared.area.Area.TheVariants.{Z80Space, InputOutput, BusRequest, Z80Reset, VideoPorts}
use Rattle.md_word.specs.declared.key.Key.{Key}
use Rattle.md_word.specs.declared.main_bus.Request68.{Request68}
use Rattle.md_word.specs.declared.main_bus.Request68.TheVariants.{Read8, Read16, Write8, Write16, Ack, Word}
use Rattle.md_pads.specs.Pad.{Port, control_written, counted, in_force, is_th_high, value_written}
use Rattle.z80_parcel.specs.Parcels.{Store}
use Rattle.bus_shared.specs.Accesses.{main_board}
use Rattle.bus_shared.specs.Areas.{byte_written_at, byte_written_in, read_at, read_in, word_written_at, word_written_in}
use Rattle.bus_shared.specs.Board.{Board}
use Rattle.bus_shared.specs.Fm.{fm_read, is_fm, with_fm, with_fm_reset}
use Rattle.bus_shared.specs.Lines.{counted as resets_counted, requested}
use Rattle.bus_shared.specs.Registers.{register_at, register_written}
use Rattle.bus_shared.specs.Spelling.{IsCounted}
use Rattle.bus_shared.specs.Video.{port_at, video_byte_written, video_word_written}
use Rattle.bus_shared.specs.Z80Space.{granted, is_psg80, space_read, space_written, store_written, with_psg, z80_address}
use Rattle.bus_shared.specs.declared.port.VideoPort.{VideoPort}
use Rattle.bus_shared.specs.declared.port.VideoPort.TheVariants.{Data, Control, Counter, Sound, Unused as NoPort}
use Rattle.bus_shared.specs.declared.register.Register.{Register}
use Rattle.bus_shared.specs.declared.register.Register.TheVariants.{Version, Data1, Data2, DataExpansion, Control1, Control2, Unused}

-- those of both ports
pub record HasFalls (end : ℕ) (board : Board) : Type 0 where
  pub port1 : IsCounted end board.port1
  pub port2 : IsCounted end board.port2

counted-before : (end cycle : ℕ) (high : Bool) (port : Port) → cycle < end → IsCounted end port → IsCounted end (counted cycle high port)
counted-before end cycle high port early has =
    elim (high && not (is_th_high port)) as (λ falls. IsCounted end (if falls then record port { count = 1 + in_force cycle port % 4; fall = cycle } else port)) [
      | true ↦ record { none = λ none. absurd (omega arith); some = λ some. early }
      | false ↦ has
    ]

value-before : (end cycle value : ℕ) (port : Port) → cycle < end → IsCounted end port → IsCounted end (value_written cycle value port)
value-before end cycle value port early has =
    counted-before end cycle (is_th_high port) (record port { value = value }) early (record { none = has.none; some = has.some })

control-before : (end cycle value : ℕ) (port : Port) → cycle < end → IsCounted end port → IsCounted end (control_written cycle value port)
control-before end cycle value port early has =
    counted-before end cycle (is_th_high port) (record port { control = value }) early (record { none = has.none; some = has.some })

-- a choice has them where both of its sides do
falls-if : (b : Bool) (end : ℕ) (one other : Board) → HasFalls end one → HasFalls end other → HasFalls end (if b then one else other)
falls-if true end one other first second = first
falls-if false end one other first second = second

register-falls : (end : ℕ) (board : Board) (cycle : ℕ) (register : Register) (value : ℕ) → cycle < end → HasFalls end board → HasFalls end (register_written board cycle register value)
unfolding register_written
register-falls end board cycle Version value early has = has
register-falls end board cycle Data1 value early has = record { port1 = value-before end cycle value board.port1 early has.port1; port2 = has.port2 }
register-falls end board cycle Data2 value early has = record { port1 = has.port1; port2 = value-before end cycle value board.port2 early has.port2 }
register-falls end board cycle DataExpansion value early has = has
register-falls end board cycle Control1 value early has = record { port1 = control-before end cycle value board.port1 early has.port1; port2 = has.port2 }
register-falls end board cycle Control2 value early has = record { port1 = has.port1; port2 = control-before end cycle value board.port2 early has.port2 }
register-falls end board cycle Unused value early has = has

-- all but the registers leave the ports
space-falls : (end : ℕ) (store : Option Store) (board : Board) (key : Key) (address value : ℕ) → HasFalls end board → HasFalls end (space_written store board key address value)
space-falls end None board key address value has = has
space-falls end (Some store) board key address value has =
    falls-if (is_psg80 address) end (with_psg board key value) _ (record { port1 = has.port1; port2 = has.port2 })
    (falls-if (is_fm address) end (with_fm board key address value) (record board { store = Some (store_written store address value) }) (record { port1 = has.port1; port2 = has.port2 }) (record { port1 = has.port1; port2 = has.port2 }))

space_read-falls : (end : ℕ) (store : Option Store) (board : Board) (cycle address : ℕ) → HasFalls end board → HasFalls end (space_read store board cycle address)
space_read-falls end None board cycle address has = has
space_read-falls end (Some store) board cycle address has = falls-if (is_fm address) end (fm_read board cycle) board (record { port1 = has.port1; port2 = has.port2 }) has

reset-falls : (end : ℕ) (b : Bool) (board : Board) (key : Key) → HasFalls end board
    → HasFalls end (if b then record (with_fm_reset board key) { reset = true; resets = resets_counted board.resets } else record board { reset = false })
reset-falls end true board key has = record { port1 = has.port1; port2 = has.port2 }
reset-falls end false board key has = record { port1 = has.port1; port2 = has.port2 }

read-falls : (end : ℕ) (area : Option Area) (board : Board) (key : Key) (address : ℕ) → HasFalls end board → HasFalls end (read_at area board key address)
unfolding read_in
read-falls end None board key address has = has
read-falls end (Some Z80Space) board key address has = space_read-falls end (granted board.request board.store) board key.cycle (z80_address address) has
read-falls end (Some InputOutput) board key address has = has
read-falls end (Some BusRequest) board key address has = has
read-falls end (Some Z80Reset) board key address has = has
read-falls end (Some VideoPorts) board key address has = record { port1 = has.port1; port2 = has.port2 }

video-byte-falls : (end : ℕ) (port : VideoPort) (board : Board) (key : Key) (address value : ℕ) → HasFalls end board → HasFalls end (video_byte_written port board key address value)
unfolding video_byte_written
video-byte-falls end Data board key address value has = record { port1 = has.port1; port2 = has.port2 }
video-byte-falls end Control board key address value has = record { port1 = has.port1; port2 = has.port2 }
video-byte-falls end Counter board key address value has = record { port1 = has.port1; port2 = has.port2 }
video-byte-falls end Sound board key address value has = falls-if (address % 2 == 1) end (with_psg board key value) board (record { port1 = has.port1; port2 = has.port2 }) has
video-byte-falls end NoPort board key address value has = record { port1 = has.port1; port2 = has.port2 }

video-word-falls : (end : ℕ) (port : VideoPort) (board : Board) (key : Key) (value : ℕ) → HasFalls end board → HasFalls end (video_word_written port board key value)
unfolding video_word_written
video-word-falls end Data board key value has = record { port1 = has.port1; port2 = has.port2 }
video-word-falls end Control board key value has = record { port1 = has.port1; port2 = has.port2 }
video-word-falls end Counter board key value has = record { port1 = has.port1; port2 = has.port2 }
video-word-falls end Sound board key value has = record { port1 = has.port1; port2 = has.port2 }
video-word-falls end NoPort board key value has = record { port1 = has.port1; port2 = has.port2 }

byte-falls : (end : ℕ) (area : Option Area) (board : Board) (key : Key) (address value : ℕ) → key.cycle < end → HasFalls end board → HasFalls end (byte_written_at area board key address value)
unfolding byte_written_in
byte-falls end None board key address value early has = has
byte-falls end (Some Z80Space) board key address value early has = space-falls end (granted board.request board.store) board key (z80_address address) value has
byte-falls end (Some InputOutput) board key address value early has = register-falls end board key.cycle (register_at address) (value % 0x100) early has
byte-falls end (Some BusRequest) board key address value early has = falls-if (address % 2 == 0) end (requested board (value % 2)) board (record { port1 = has.port1; port2 = has.port2 }) has
byte-falls end (Some Z80Reset) board key address value early has = falls-if (address % 2 == 0) end _ board (reset-falls end (value % 2 == 0) board key has) has
byte-falls end (Some VideoPorts) board key address value early has = video-byte-falls end (port_at address) board key address value has

word-falls : (end : ℕ) (area : Option Area) (board : Board) (key : Key) (address value : ℕ) → key.cycle < end → HasFalls end board → HasFalls end (word_written_at area board key address value)
unfolding word_written_in
word-falls end None board key address value early has = has
word-falls end (Some Z80Space) board key address value early has = space-falls end (granted board.request board.store) board key (z80_address address) (value / 0x100) has
word-falls end (Some InputOutput) board key address value early has = register-falls end board key.cycle (register_at address) (value % 0x100) early has
word-falls end (Some BusRequest) board key address value early has = record { port1 = has.port1; port2 = has.port2 }
word-falls end (Some Z80Reset) board key address value early has = reset-falls end (value / 0x100 % 2 == 0) board key has
word-falls end (Some VideoPorts) board key address value early has = video-word-falls end (port_at address) board key value has

-- an access of the 68000 before the cycle
pub main_falls : (end : ℕ) (board : Board) (key : Key) (request : Request68) → key.cycle < end → HasFalls end board → HasFalls end (main_board board key request)
unfolding main_board
main_falls end board key (Read8 address) early has = read-falls end (area_of address) board key address has
main_falls end board key (Read16 address) early has = read-falls end (area_of address) board key address has
main_falls end board key (Write8 address value) early has = byte-falls end (area_of address) board key address value early has
main_falls end board key (Write16 address value) early has = word-falls end (area_of address) board key address value early has
main_falls end board key (Ack level) early has = record { port1 = has.port1; port2 = has.port2 }
main_falls end board key (Word value) early has = record { port1 = has.port1; port2 = has.port2 }
