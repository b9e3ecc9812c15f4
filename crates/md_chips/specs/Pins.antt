-- The input pins of a chip.
use Rattle.std.specs.Prelude.{ℕ, ◌==◌, Bool, true, false, if◌then◌else◌}
use Rattle.md_word.specs.Map.{is_within}
use Rattle.md_word.specs.declared.event.Entry.{Entry}
use Rattle.md_word.specs.declared.pins.Pins80.{Pins80}
use Rattle.bus_shared.specs.Accesses.{main_pins, sub_pins}
use Rattle.bus_shared.specs.Board.{Board}
use Rattle.md_chips.specs.declared.pins.Pins.{Pins}
use Rattle.md_chips.specs.declared.pins.Pins.TheVariants.{Main, Sub}

-- no pin is set
abbrev pub no_pins : Pins80
no_pins = record { request = false; reset = false; resets = 0; int_from = 0; int_to = 0 }

-- the 68000's level
abbrev pub level_in : Pins → ℕ
level_in (Main pins) = pins.level
level_in (Sub pins) = 0

-- the Z80's pins
abbrev pub sub_in : Pins → Pins80
sub_in (Main pins) = no_pins
sub_in (Sub pins) = pins

-- the pins of a processor, by whether it is the Z80
abbrev pub pins_by : Bool → Board → Pins
pins_by true board = Sub (sub_pins board)
pins_by false board = Main (main_pins board)

-- the pins of a chip, by its number; the Z80 is chip 1
abbrev pub pins_of : Board → ℕ → Pins
pins_of board chip = pins_by (chip == 1) board

-- whether an access, by its entry, may change the Z80's pins: one of the 68000 from the Z80's bus
-- request to its reset, A11100h to A11201h, and a line
abbrev pub may_move_pins : Entry → Bool
may_move_pins entry = if entry.key.chip == 0 then is_within 0xa1_1100 0xa1_1201 entry.address else entry.key.chip == 2
