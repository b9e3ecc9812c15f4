-- A Z80 that rests, and the accesses that leave its pins.
use Rattle.std.proofs.Common.{◌≡◌, ◌≢◌, ℕ, Bool, true, false, true≢false, if◌then◌else◌, Option, Some, None, ap, ◌∙◌, arith}
use Rattle.std.proofs.lemmas.Bool.Decides.{nat_tests}
use Rattle.md_word.specs.Map.{area_of, is_within}
use Rattle.md_word.specs.declared.area.Area.{Area}
use Rattle.md_word.specs.declared.area.Area.TheVariants.{Z80Space, InputOutput, BusRequest, Z80Reset, VideoPorts}
use Rattle.md_word.specs.declared.event.Entry.{Entry}
use Rattle.md_word.specs.declared.main_bus.Request68.{Request68}
use Rattle.md_word.specs.declared.main_bus.Request68.TheVariants.{Read8, Read16, Write8, Write16, Ack, Word}
use Rattle.m68k_chip.specs.Events.{request_of}
use Rattle.m68k_chip.specs.States.{next_of}
use Rattle.chip_core.specs.Chips as chips
use Rattle.z80_chip.specs.Events.{Rests, asked_of}
use Rattle.z80_chip.specs.States.{is_sample, next_of as sub_next_of}
use Rattle.bus_shared.specs.Accesses.{main_reported, main_value, sub_pins}
use Rattle.bus_shared.specs.Board.{Board, IsBoard}
use Rattle.bus_shared.specs.Entries.{main_entry}
use Rattle.bus_shared.specs.Laws.{IsBesideLines}
use Rattle.bus_shared.proofs.Pinned.{main_leaves_sub_pins}
use Rattle.bus_shared.proofs.Touches.{batch_pins_stay, fm_batch_pins_stay, sub_pins_stay}
use Rattle.md_chips.specs.Parts.{SubValue}
use Rattle.md_chips.specs.Pins.{may_move_pins, pins_of}
use Rattle.md_chips.specs.Rules.{IsChip, five}
use Rattle.md_chips.specs.declared.chips.Chip.TheVariants.{Main, Sub, Renderer, Fm, Psg}
use Rattle.md_chips.specs.declared.pins.Pins.TheVariants as pins
use Rattle.md_chips.proofs.Ahead.{all-sub-begun}

-- a Z80 that rests does so as the scheduler's rules say
pub sub-rests : (c : SubValue) (board : Board) → Rests c.chip.cart c.chip.state (sub_pins board) → chips.Rests five (pins_of board 1) (Sub c)
unfolding sub_next_of
sub-rests c board rests n = ap (λ x. (five.next x).sample) (all-sub-begun c (pins_of board 1) n) ∙ ap is_sample (rests n)

-- by the tests of an address, neither the bus request nor the reset
beside-by : (space ports request reset video : Bool) → request ≡ false → reset ≡ false
    → let area : Option Area = if space then Some Z80Space else (if ports then Some InputOutput else (if request then Some BusRequest else (if reset then Some Z80Reset else (if video then Some VideoPorts else None)))) in
    (area ≢ Some BusRequest) × (area ≢ Some Z80Reset)
beside-by true ports request reset video a b = ((λ e. cc), (λ e. cc))
beside-by false true request reset video a b = ((λ e. cc), (λ e. cc))
beside-by false false true reset video a b = ((λ e. cc), (λ e. cc))
beside-by false false false true video a b = ((λ e. cc), (λ e. cc))
beside-by false false false false true a b = ((λ e. cc), (λ e. cc))
beside-by false false false false false a b = ((λ e. cc), (λ e. cc))

request-out : (address : ℕ) → is_within 0xa1_1100 0xa1_1201 address ≡ false → is_within 0xa1_1100 0xa1_1101 address ≡ false
request-out address out = grind (arith, nat_tests)

reset-out : (address : ℕ) → is_within 0xa1_1100 0xa1_1201 address ≡ false → is_within 0xa1_1200 0xa1_1201 address ≡ false
reset-out address out = grind (arith, nat_tests)

outside : (address : ℕ) → is_within 0xa1_1100 0xa1_1201 address ≡ false → (area_of address ≢ Some BusRequest) × (area_of address ≢ Some Z80Reset)
unfolding area_of
outside address out =
    beside-by (is_within 0xa0_0000 0xa0_ffff address) (is_within 0xa1_0000 0xa1_001f address) (is_within 0xa1_1100 0xa1_1101 address) (is_within 0xa1_1200 0xa1_1201 address) (is_within 0xc0_0000 0xc0_001f address)
    (request-out address out) (reset-out address out)

-- an access of the 68000 whose entry is not said to move them
main-beside : (cycle : ℕ) (request : Request68) (given a : ℕ) → may_move_pins (main_entry (record { cycle = cycle; chip = 0 }) request given a) ≡ false → IsBesideLines request
main-beside cycle (Read8 address) given a quiet = tt
main-beside cycle (Read16 address) given a quiet = tt
main-beside cycle (Write8 address value) given a quiet = outside address quiet
main-beside cycle (Write16 address value) given a quiet = outside address quiet
main-beside cycle (Ack level) given a quiet = tt
main-beside cycle (Word value) given a quiet = tt

pub leaves-sub-pins : (entry : Entry) → may_move_pins entry ≡ false → chips.LeavesPins five IsChip IsBoard entry 1
unfolding main_reported next_of
leaves-sub-pins entry quiet (Main c) board i due ne is =
    ap pins.Sub (main_leaves_sub_pins board (next_of c.chip.state).key (request_of c.chip.cart c.chip.state)
    (main-beside (next_of c.chip.state).key.cycle (request_of c.chip.cart c.chip.state) (main_value board (next_of c.chip.state).key (request_of c.chip.cart c.chip.state)) board.vdp.a (ap may_move_pins is ∙ quiet)))
leaves-sub-pins entry quiet (Sub c) board i due ne is = ap pins.Sub (sub_pins_stay board (sub_next_of c.chip.state).key (asked_of c.chip.cart c.chip.state)).sub
leaves-sub-pins entry quiet (Renderer c) board i due ne is = absurd (true≢false (ap may_move_pins is ∙ quiet))
leaves-sub-pins entry quiet (Fm c) board i due ne is = ap pins.Sub (fm_batch_pins_stay board c.cycle).sub
leaves-sub-pins entry quiet (Psg c) board i due ne is = ap pins.Sub (batch_pins_stay board c.cycle).sub
