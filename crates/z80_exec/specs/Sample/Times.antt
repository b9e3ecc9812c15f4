-- How many clocks each instruction takes: a line a row. Of two times the longer is where a jump, a
-- call or a return is taken or a block instruction continues.
-- Zilog UM0080, "Z80 Instruction Description"; undefined opcodes and halves of IX and IY, this
-- project's profile.
use Rattle.std.specs.Prelude.{ℕ, ◌+◌, Bool, if◌then◌else◌}
use Rattle.z80_decode.specs.declared.index.Index.{Index}
use Rattle.z80_decode.specs.declared.index.Index.TheVariants as indexes
use Rattle.z80_decode.specs.declared.interrupt_mode.InterruptMode.{InterruptMode}
use Rattle.z80_decode.specs.declared.interrupt_mode.InterruptMode.TheVariants.{Mode0, Mode1, Mode2}
use Rattle.z80_decode.specs.declared.op80.Op80.{Op80}
use Rattle.z80_decode.specs.declared.op80.Op80.TheVariants as ops
use Rattle.z80_decode.specs.declared.pair.Pair.{Pair}
use Rattle.z80_decode.specs.declared.pair.Pair.TheVariants as pairs
use Rattle.z80_decode.specs.declared.place8.Place8.{Place8}
use Rattle.z80_decode.specs.declared.place8.Place8.TheVariants as places
use Rattle.z80_exec.specs.declared.sample.times.Kind.{Kind}
use Rattle.z80_exec.specs.declared.sample.times.Kind.TheVariants.{Register, Half, Indirect, Displaced, Absolute, Immediate}

-- the kind of a place
abbrev pub kind_of : Place8 → Kind
kind_of places.A = Register
kind_of places.B = Register
kind_of places.C = Register
kind_of places.D = Register
kind_of places.E = Register
kind_of places.H = Register
kind_of places.L = Register
kind_of places.Ixh = Half
kind_of places.Ixl = Half
kind_of places.Iyh = Half
kind_of places.Iyl = Half
kind_of places.AtBc = Indirect
kind_of places.AtDe = Indirect
kind_of places.AtHl = Indirect
kind_of (places.AtIx d) = Displaced
kind_of (places.AtIy d) = Displaced
kind_of (places.At nn) = Absolute
kind_of (places.Number n) = Immediate

-- LD of 8 bits, by its target and source; the last line is of none
unfoldable pub load_time : Kind → Kind → ℕ
load_time Register Register = 4
load_time Register Immediate = 7
load_time Register Indirect = 7
load_time Indirect Register = 7
load_time Indirect Immediate = 10
load_time Register Absolute = 13
load_time Absolute Register = 13
load_time Half Immediate = 11
load_time Half source = 8
load_time Register Half = 8
load_time Register Displaced = 19
load_time Displaced Register = 19
load_time Displaced Immediate = 19
load_time target source = 10

-- an operation of A, by the kind of its operand
abbrev pub arithmetic_time : Kind → ℕ
arithmetic_time Register = 4
arithmetic_time Half = 8
arithmetic_time Displaced = 19
arithmetic_time place = 7

-- INC and DEC of 8 bits
abbrev pub step_time : Kind → ℕ
step_time Register = 4
step_time Half = 8
step_time Displaced = 23
step_time place = 11

-- the rotates, shifts, RES and SET of the prefix CB
abbrev pub change_time : Kind → ℕ
change_time Register = 8
change_time Displaced = 23
change_time place = 15

-- BIT
abbrev pub test_time : Kind → ℕ
test_time Register = 8
test_time Displaced = 20
test_time place = 12

-- what a prefix DD or FD adds where it puts IX or IY in the place of HL
abbrev pub index_time : Index → ℕ
index_time indexes.Hl = 0
index_time indexes.Ix = 4
index_time indexes.Iy = 4

-- the same for a pair that is IX or IY
abbrev pub pair_time : Pair → ℕ
pair_time pairs.Ix = 4
pair_time pairs.Iy = 4
pair_time pair = 0

-- of two times the one that it takes
abbrev pub either : Bool → ℕ → ℕ → ℕ
either taken longer shorter = if taken then longer else shorter

-- the clocks of an instruction, by whether it took the longer of two times
abbrev pub time_of : Op80 → Bool → ℕ
time_of (ops.Load target source) taken = load_time (kind_of target) (kind_of source)
time_of (ops.LoadFromSpecial special) taken = 9
time_of (ops.LoadToSpecial special) taken = 9
time_of (ops.LoadPair pair value) taken = 10 + pair_time pair
time_of (ops.LoadIndex index at) taken = 16 + index_time index
time_of (ops.LoadPairExtended pair at) taken = 20
time_of (ops.StoreIndex at index) taken = 16 + index_time index
time_of (ops.StorePairExtended at pair) taken = 20
time_of (ops.LoadStackPointer index) taken = 6 + index_time index
time_of (ops.Push pair) taken = 11 + pair_time pair
time_of (ops.Pop pair) taken = 10 + pair_time pair
time_of ops.ExchangeDeHl taken = 4
time_of ops.ExchangeAf taken = 4
time_of ops.ExchangeAll taken = 4
time_of (ops.ExchangeStack index) taken = 19 + index_time index
time_of (ops.BlockLoad block) taken = either taken 21 16
time_of (ops.BlockCompare block) taken = either taken 21 16
time_of (ops.Arithmetic task place) taken = arithmetic_time (kind_of place)
time_of (ops.Step task place) taken = step_time (kind_of place)
time_of (ops.Accumulator task) taken = 4
time_of ops.Negate taken = 8
time_of ops.Nop taken = 4
time_of ops.Halt taken = 4
time_of ops.DisableInterrupts taken = 4
time_of ops.EnableInterrupts taken = 4
time_of (ops.SetInterruptMode mode) taken = 8
time_of (ops.AddPair index pair) taken = 11 + index_time index
time_of (ops.AddPairWithCarry pair) taken = 15
time_of (ops.SubtractPairWithCarry pair) taken = 15
time_of (ops.IncrementPair pair) taken = 6 + pair_time pair
time_of (ops.DecrementPair pair) taken = 6 + pair_time pair
time_of (ops.Change task place) taken = change_time (kind_of place)
time_of (ops.TestBit bit place) taken = test_time (kind_of place)
time_of ops.RotateDigitsLeft taken = 18
time_of ops.RotateDigitsRight taken = 18
time_of (ops.Jump target) taken = 10
time_of (ops.JumpIf condition target) taken = 10
time_of (ops.JumpRelative distance) taken = 12
time_of (ops.JumpRelativeIf condition distance) taken = either taken 12 7
time_of (ops.JumpIndex index) taken = 4 + index_time index
time_of (ops.DecrementAndJump distance) taken = either taken 13 8
time_of (ops.Call target) taken = 17
time_of (ops.CallIf condition target) taken = either taken 17 10
time_of ops.Return taken = 10
time_of (ops.ReturnIf condition) taken = either taken 11 5
time_of ops.ReturnFromInterrupt taken = 14
time_of ops.ReturnFromNonMaskable taken = 14
time_of (ops.Restart target) taken = 11
time_of (ops.InputAtNumber port) taken = 11
time_of (ops.Input place) taken = 12
time_of (ops.BlockInput block) taken = either taken 21 16
time_of (ops.OutputAtNumber port) taken = 11
time_of (ops.Output place) taken = 12
time_of (ops.BlockOutput block) taken = either taken 21 16
time_of (ops.LonePrefix index) taken = 4
time_of (ops.Undefined opcode) taken = 8

-- an interrupt, by its mode
abbrev pub interrupt_time : InterruptMode → ℕ
interrupt_time Mode0 = 13
interrupt_time Mode1 = 13
interrupt_time Mode2 = 19
