-- What a read of the 68000 gives has the width of the access.
use Rattle.std.proofs.Common.{ℕ, ◌<◌, ◌≤◌, ◌==◌, ◌&&◌, Bool, true, false, [], ◌∷◌, Option, Some, None, if◌then◌else◌, arith, lit<, IfSome}
use Rattle.md_pads.specs.Buttons.{up, down, left, right, button_b, button_c, button_a, start, button_z, button_y, button_x, mode}
use Rattle.md_pads.specs.Pad.{Port, binary, fourth_lines, in_force, is_set, is_th_high, lines, pad_value, released, third_lines}
use Rattle.md_pads.specs.Recording.{six}
use Rattle.md_word.specs.declared.area.Area.{Area}
use Rattle.md_word.specs.declared.area.Area.TheVariants.{Z80Space, InputOutput, BusRequest, Z80Reset, VideoPorts}
use Rattle.md_word.specs.Map.{area_of}
use Rattle.md_word.specs.declared.key.Key.{Key}
use Rattle.md_word.specs.declared.main_bus.Request68.{Request68}
use Rattle.md_word.specs.declared.main_bus.Request68.TheVariants.{Read8, Read16, Write8, Write16, Ack, Word}
use Rattle.bus_shared.specs.Accesses.{main_cost, main_transfer, main_value}
use Rattle.bus_shared.specs.Areas.{byte_at, byte_in, transfer_at, transfer_in, word_at, word_in}
use Rattle.bus_shared.specs.Board.{Board, IsBoard}
use Rattle.bus_shared.specs.Laws.{IsTransfer, ReportsMain}
use Rattle.bus_shared.specs.Lines.{request_bit}
use Rattle.bus_shared.specs.Registers.{register_at, register_read}
use Rattle.bus_shared.specs.Video.{both_halves, port_at, port_word}
use Rattle.bus_shared.specs.Fm.{is_fm}
use Rattle.bus_shared.specs.Z80Space.{granted, space_byte, z80_address}
use Rattle.bus_shared.proofs.Ports.{half-below, port-below, transfer-sound, cost-of-word}
use Rattle.fm_port.specs.Timers.{both_settled}
use Rattle.bus_shared.proofs.Keeps.{status-below}
use Rattle.z80_parcel.specs.Parcels.{Store, is_ram, ram_place}
use Rattle.std.specs.Prelude.{is_some, slice_index, ◌==◌, ◌%◌}
use Rattle.bus_shared.specs.declared.register.Register.{Register}
use Rattle.bus_shared.specs.declared.register.Register.TheVariants.{Version, Data1, Data2, DataExpansion, Control1, Control2, Unused}

digit : (b : Bool) → (if b then 1 else 0) ≤ 1
digit true = omega arith
digit false = omega arith

eight : (a b c d e f g h : Bool) → binary (a ∷ b ∷ c ∷ d ∷ e ∷ f ∷ g ∷ h ∷ []) < 0x100
eight a b c d e f g h = omega (arith, digit a, digit b, digit c, digit d, digit e, digit f, digit g, digit h)

-- eight lines are a byte
usual-below : (bit_7 high : Bool) (word : ℕ) → binary (bit_7 ∷ lines high word) < 0x100
usual-below bit_7 true word = eight bit_7 true (released word button_c) (released word button_b) (released word right) (released word left) (released word down) (released word up)
usual-below bit_7 false word = eight bit_7 false (released word start) (released word button_a) false false (released word down) (released word up)

third-below : (bit_7 high : Bool) (word : ℕ) → binary (bit_7 ∷ third_lines high word) < 0x100
third-below bit_7 true word = eight bit_7 true (released word button_c) (released word button_b) (released word mode) (released word button_x) (released word button_y) (released word button_z)
third-below bit_7 false word = eight bit_7 false (released word start) (released word button_a) false false false false

fourth-below : (bit_7 high : Bool) (word : ℕ) → binary (bit_7 ∷ fourth_lines high word) < 0x100
fourth-below bit_7 true word = usual-below bit_7 true word
fourth-below bit_7 false word = eight bit_7 false (released word start) (released word button_a) true true true true

lines-below : (bit_7 third fourth high : Bool) (word : ℕ)
    → binary (bit_7 ∷ (if third then third_lines high word else (if fourth then fourth_lines high word else lines high word))) < 0x100
lines-below bit_7 true fourth high word = third-below bit_7 high word
lines-below bit_7 false true high word = fourth-below bit_7 high word
lines-below bit_7 false false high word = usual-below bit_7 high word

pad-below : (cycle : ℕ) (six : Bool) (port : Port) (word : ℕ) → pad_value cycle six port word < 0x100
pad-below cycle six port word =
    lines-below (is_set port.value 7) (six && (in_force cycle port == 3)) (six && (in_force cycle port == 4)) (is_th_high port) word

version-below : (pal : Bool) → (if pal then 0xe0 else 0xa0) < 0x100
version-below true = lit< tt
version-below false = lit< tt

register-below : (board : Board) (cycle : ℕ) (register : Register) → IsBoard board → register_read board cycle register < 0x100
unfolding register_read
register-below board cycle Version ok = version-below board.vdp.pal
register-below board cycle Data1 ok = pad-below cycle (six board.recording.version 1) board.port1 board.pads.0
register-below board cycle Data2 ok = pad-below cycle (six board.recording.version 2) board.port2 board.pads.1
register-below board cycle DataExpansion ok = lit< tt
register-below board cycle Control1 ok = ok.port1.control
register-below board cycle Control2 ok = ok.port2.control
register-below board cycle Unused ok = lit< tt

-- a byte of the Z80's space
space-by : (b : Bool) (n m : ℕ) → m < 0x100 → (if b then n % 0x100 else m) < 0x100
space-by true n m below = omega arith
space-by false n m below = below

space-below : (store : Option Store) (board : Board) (cycle at : ℕ) → space_byte store board cycle at < 0x100
space-below None board cycle at = lit< tt
space-below (Some store) board cycle at =
    space-by (is_ram at) (slice_index store.ram (ram_place at)) _ (status-below (is_fm at) (both_settled cycle board.fm.timers) cycle)

bit-below : (b : Bool) → (if b then 0 else 1) ≤ 1
bit-below true = omega arith
bit-below false = omega arith

even-below : (b : Bool) (bit : ℕ) → bit ≤ 1 → (if b then bit else 0) < 0x100
even-below true bit h = omega (arith, h)
even-below false bit h = lit< tt

-- a byte is below 100h
pub byte-below : (area : Option Area) (board : Board) (key : Key) (address : ℕ) → IsBoard board → byte_at area board key address < 0x100
unfolding byte_in
byte-below None board key address ok = lit< tt
byte-below (Some Z80Space) board key address ok = space-below (granted board.request board.store) board key.cycle (z80_address address)
byte-below (Some InputOutput) board key address ok = register-below board key.cycle (register_at address) ok
byte-below (Some BusRequest) board key address ok = even-below (address % 2 == 0) (request_bit board) (bit-below (is_some (granted board.request board.store)))
byte-below (Some Z80Reset) board key address ok = lit< tt
byte-below (Some VideoPorts) board key address ok =
    half-below address (port_word (port_at address) key.cycle board.vdp) (port-below (port_at address) key.cycle board.vdp)

-- a word is below 10000h
pub word-below : (area : Option Area) (board : Board) (key : Key) (address : ℕ) → IsBoard board → word_at area board key address < 0x1_0000
unfolding word_in
word-below None board key address ok = lit< tt
word-below (Some Z80Space) board key address ok = omega (arith, space-below (granted board.request board.store) board key.cycle (z80_address address))
word-below (Some InputOutput) board key address ok = omega (arith, register-below board key.cycle (register_at address) ok)
word-below (Some BusRequest) board key address ok = omega (arith, bit-below (is_some (granted board.request board.store)))
word-below (Some Z80Reset) board key address ok = lit< tt
word-below (Some VideoPorts) board key address ok = port-below (port_at address) key.cycle board.vdp

-- a transfer starts with its words, at an even address on the bus
area-transfer : (area : Option Area) (board : Board) (key : Key) (address word : ℕ) → IsBoard board → IfSome (transfer_at area board key address word) IsTransfer
unfolding transfer_in
area-transfer None board key address word ok = tt
area-transfer (Some Z80Space) board key address word ok = tt
area-transfer (Some InputOutput) board key address word ok = tt
area-transfer (Some BusRequest) board key address word ok = tt
area-transfer (Some Z80Reset) board key address word ok = tt
area-transfer (Some VideoPorts) board key address word ok = transfer-sound (port_at address) key.cycle word board.vdp ok.registers

transfer-ok : (board : Board) (key : Key) (request : Request68) → IsBoard board → IfSome (main_transfer board key request) IsTransfer
unfolding main_transfer
transfer-ok board key (Read8 address) ok = tt
transfer-ok board key (Read16 address) ok = tt
transfer-ok board key (Write8 address value) ok = area-transfer (area_of address) board key address (both_halves value) ok
transfer-ok board key (Write16 address value) ok = area-transfer (area_of address) board key address value ok
transfer-ok board key (Ack level) ok = tt
transfer-ok board key (Word value) ok = tt

-- what the 68000 is answered
pub reports : (board : Board) (key : Key) → IsBoard board → ReportsMain board key
unfolding main_value main_cost
reports board key ok = record {
  byte = λ address. byte-below (area_of address) board key address ok;
  word = λ address. word-below (area_of address) board key address ok;
  transfer = λ request. transfer-ok board key request ok;
  cost = λ word. cost-of-word key.cycle board.vdp;
}
