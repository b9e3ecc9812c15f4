-- What the Z80 does at a sample.
-- Zilog UM0080, "Pin Description", "Interrupt Response"; the order, and the requests of the bus, are
-- this project's profile.
use Rattle.std.specs.Prelude.{Bool, true, IsTrue, not, ◌&&◌, ◌||◌, ◌==◌, nat_le, nat_lt, if◌then◌else◌, is_some, false}
use Rattle.md_word.specs.declared.pins.Pins80.{Pins80}
use Rattle.z80_exec.specs.Sample.Entries.{after_reset}
use Rattle.z80_chip.specs.States.{State80}
use Rattle.z80_chip.specs.declared.case.Case.{Case}
use Rattle.z80_chip.specs.declared.case.Case.TheVariants.{Yield, Take, Suspended, InReset, Interrupt, Halted, Instruction}

-- whether a reset is held, or was written since the last sample
abbrev pub is_reset : State80 → Pins80 → Bool
is_reset state pins = pins.reset || not (pins.resets == state.resets)

-- first it looks at its reset, which sets the registers and ends a halt
unfoldable pub seen : State80 → Pins80 → State80
seen state pins = if is_reset state pins then record state { regs = after_reset; halted = false; resets = pins.resets } else state

-- whether the interrupt is taken: it is enabled, the last instruction was not EI, and the sample
-- lies within the interval in which it is asked for
unfoldable pub is_interrupted : State80 → Pins80 → Bool
is_interrupted state pins =
    state.regs.iff1 && not state.after_ei && nat_le pins.int_from state.start && nat_lt state.start pins.int_to

-- what it does while it has its RAM, and the bus is not requested: the first that applies of a reset
-- that is held, the interrupt, a halt, and the instruction
unfoldable pub running_case : State80 → Pins80 → Case
running_case state pins =
    if pins.reset then InReset
    else (if is_interrupted state pins then Interrupt
    else (if state.halted then Halted else Instruction))

-- by whether the bus is requested, and whether the Z80 has its RAM
abbrev pub bus_case : Bool → Bool → Case → Case
bus_case true true running = Yield
bus_case false false running = Take
bus_case true false running = Suspended
bus_case false true running = running

-- what the Z80 does at a sample of these pins
unfoldable pub case_of : State80 → Pins80 → Case
case_of state pins = bus_case pins.request (is_some state.store) (running_case state pins)

-- whether it does nothing, and at the samples after it neither while the pins stay
abbrev pub is_rest : Case → Bool
is_rest Suspended = true
is_rest InReset = true
is_rest case = false

-- something is carried out only where the Z80 has its RAM
abbrev pub RunsWithRam : Case → Bool → Type 0
RunsWithRam Interrupt has = IsTrue has
RunsWithRam Instruction has = IsTrue has
RunsWithRam case has = Unit {0}
