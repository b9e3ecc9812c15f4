-- What each instruction does: a line a row, in the order of the manual's groups.
-- Zilog UM0080, "Z80 Instruction Description".
use Rattle.md_word.specs.declared.task80.Task80.TheVariants as tasks
use Rattle.z80_decode.specs.declared.op80.Op80.{Op80}
use Rattle.z80_decode.specs.declared.op80.Op80.TheVariants as ops
use Rattle.z80_exec.specs.declared.regs80.Regs80.{Regs80}
use Rattle.z80_exec.specs.Access.Actions.{Act, give}
use Rattle.z80_exec.specs.Access.Outcomes.{Outcome, plain}
use Rattle.z80_exec.specs.Access.Parts.{pair_at, with_pair}
use Rattle.z80_exec.specs.Rows.Arithmetic as arithmetic
use Rattle.z80_exec.specs.Rows.Bits as bits
use Rattle.z80_exec.specs.Rows.Blocks as blocks
use Rattle.z80_exec.specs.Rows.Calls as calls
use Rattle.z80_exec.specs.Rows.Control as control
use Rattle.z80_exec.specs.Rows.Exchanges as exchanges
use Rattle.z80_exec.specs.Rows.Jumps as jumps
use Rattle.z80_exec.specs.Rows.Loads as loads
use Rattle.z80_exec.specs.Rows.Pairs as pairs
use Rattle.z80_exec.specs.Rows.Ports as ports
use Rattle.z80_exec.specs.Rows.Rotates as rotates

-- an instruction with the program counter after it
abbrev pub row : Op80 → Regs80 → Act Outcome
row (ops.Load target source) regs = loads.load target source regs
row (ops.LoadFromSpecial special) regs = give (plain (loads.load_from_special special regs))
row (ops.LoadToSpecial special) regs = give (plain (loads.load_to_special special regs))
row (ops.LoadPair pair value) regs = give (plain (with_pair pair value regs))
row (ops.LoadIndex index at) regs = loads.load_pair_from (pair_at index) at regs
row (ops.LoadPairExtended pair at) regs = loads.load_pair_from pair at regs
row (ops.StoreIndex at index) regs = loads.store_pair at (pair_at index) regs
row (ops.StorePairExtended at pair) regs = loads.store_pair at pair regs
row (ops.LoadStackPointer index) regs = give (plain (loads.load_stack_pointer index regs))
row (ops.Push pair) regs = loads.push_pair pair regs
row (ops.Pop pair) regs = loads.pop_pair pair regs
row ops.ExchangeDeHl regs = give (plain (exchanges.exchange_de_hl regs))
row ops.ExchangeAf regs = give (plain (exchanges.exchange_af regs))
row ops.ExchangeAll regs = give (plain (exchanges.exchange_all regs))
row (ops.ExchangeStack index) regs = exchanges.exchange_stack index regs
row (ops.BlockLoad block) regs = blocks.block_load block regs
row (ops.BlockCompare block) regs = blocks.block_compare block regs
row (ops.Arithmetic task place) regs = arithmetic.arithmetic task place regs
row (ops.Step task place) regs = arithmetic.change task place regs
row (ops.Accumulator task) regs = give (plain (control.accumulator task regs))
row ops.Negate regs = give (plain (control.accumulator tasks.Neg regs))
row ops.Nop regs = give (plain regs)
row ops.Halt regs = give (plain regs)
row ops.DisableInterrupts regs = give (plain (control.disabled regs))
row ops.EnableInterrupts regs = give (plain (control.enabled regs))
row (ops.SetInterruptMode mode) regs = give (plain (control.with_mode mode regs))
row (ops.AddPair index pair) regs = give (plain (pairs.add_pair index pair regs))
row (ops.AddPairWithCarry pair) regs = give (plain (pairs.add_pair_with_carry pair regs))
row (ops.SubtractPairWithCarry pair) regs = give (plain (pairs.subtract_pair_with_carry pair regs))
row (ops.IncrementPair pair) regs = give (plain (pairs.increment_pair pair regs))
row (ops.DecrementPair pair) regs = give (plain (pairs.decrement_pair pair regs))
row (ops.Change task place) regs = arithmetic.change task place regs
row (ops.TestBit bit place) regs = bits.test_bit bit place regs
row ops.RotateDigitsLeft regs = rotates.rotate_digits_left regs
row ops.RotateDigitsRight regs = rotates.rotate_digits_right regs
row (ops.Jump target) regs = give (plain (jumps.jump target regs))
row (ops.JumpIf condition target) regs = give (jumps.jump_if condition target regs)
row (ops.JumpRelative distance) regs = give (plain (jumps.jump_relative distance regs))
row (ops.JumpRelativeIf condition distance) regs = give (jumps.jump_relative_if condition distance regs)
row (ops.JumpIndex index) regs = give (plain (jumps.jump_index index regs))
row (ops.DecrementAndJump distance) regs = give (jumps.decrement_and_jump distance regs)
row (ops.Call target) regs = calls.call target regs
row (ops.CallIf condition target) regs = calls.call_if condition target regs
row ops.Return regs = calls.return_from regs
row (ops.ReturnIf condition) regs = calls.return_if condition regs
row ops.ReturnFromInterrupt regs = calls.return_from regs
row ops.ReturnFromNonMaskable regs = calls.return_from_non_maskable regs
row (ops.Restart target) regs = calls.call target regs
row (ops.InputAtNumber port) regs = give (plain (ports.input_at_number regs))
row (ops.Input place) regs = ports.input place regs
row (ops.BlockInput block) regs = ports.block_input block regs
row (ops.OutputAtNumber port) regs = give (plain regs)
row (ops.Output place) regs = give (plain regs)
row (ops.BlockOutput block) regs = ports.block_output block regs
row (ops.LonePrefix index) regs = give (plain regs)
row (ops.Undefined opcode) regs = give (plain regs)
