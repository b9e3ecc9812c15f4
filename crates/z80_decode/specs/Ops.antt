-- What holds of every instruction that bytes decode to.
use Rattle.std.specs.Prelude.{◌%◌, ◌≤◌, Bool, true, false, IsTrue, nat_lt, ◌==◌, ◌&&◌}
use Rattle.md_word.specs.declared.task80.Task80.{Task80}
use Rattle.md_word.specs.declared.task80.Task80.TheVariants as tasks
use Rattle.z80_decode.specs.declared.condition.Condition.{Condition}
use Rattle.z80_decode.specs.declared.condition.Condition.TheVariants.{NonZero, Zero, NonCarry, Carry}
use Rattle.z80_decode.specs.declared.decoded80.Decoded80.{Decoded80}
use Rattle.z80_decode.specs.declared.index.Index.{Index}
use Rattle.z80_decode.specs.declared.index.Index.TheVariants as indexes
use Rattle.z80_decode.specs.declared.op80.Op80.{Op80}
use Rattle.z80_decode.specs.declared.op80.Op80.TheVariants as ops
use Rattle.z80_decode.specs.declared.pair.Pair.{Pair}
use Rattle.z80_decode.specs.declared.pair.Pair.TheVariants as pairs
use Rattle.z80_decode.specs.declared.place8.Place8.{Place8}
use Rattle.z80_decode.specs.declared.place8.Place8.TheVariants as places

-- a place that r names, or that (HL) and the displaced places are
abbrev pub is_simple : Place8 → Bool
is_simple places.AtBc = false
is_simple places.AtDe = false
is_simple (places.At _) = false
is_simple (places.Number _) = false
is_simple _ = true

-- a register of 8 bits that no prefix names
abbrev pub is_register : Place8 → Bool
is_register places.A = true
is_register places.B = true
is_register places.C = true
is_register places.D = true
is_register places.E = true
is_register places.H = true
is_register places.L = true
is_register _ = false

-- a place of r, or a number
abbrev pub is_source : Place8 → Bool
is_source (places.Number _) = true
is_source place = is_simple place

-- LD: a number is no target, and (BC), (DE) and (nn) go with A
abbrev pub is_load : Place8 → Place8 → Bool
is_load places.AtBc places.A = true
is_load places.AtDe places.A = true
is_load (places.At _) places.A = true
is_load places.A places.AtBc = true
is_load places.A places.AtDe = true
is_load places.A (places.At _) = true
is_load target source = is_simple target && is_source source

-- a pair that dd and ss name
abbrev pub is_counted : Pair → Bool
is_counted pairs.Af = false
is_counted _ = true

-- a pair that qq names
abbrev pub is_stacked : Pair → Bool
is_stacked pairs.Sp = false
is_stacked _ = true

-- a pair without a prefix
abbrev pub is_plain : Pair → Bool
is_plain pairs.Af = false
is_plain pairs.Ix = false
is_plain pairs.Iy = false
is_plain _ = true

-- BC, DE, SP, or the register itself
abbrev pub is_added : Index → Pair → Bool
is_added _ pairs.Bc = true
is_added _ pairs.De = true
is_added _ pairs.Sp = true
is_added indexes.Hl pairs.Hl = true
is_added indexes.Ix pairs.Ix = true
is_added indexes.Iy pairs.Iy = true
is_added _ _ = false

-- the eight operations on A
abbrev pub is_arithmetic : Task80 → Bool
is_arithmetic tasks.Add = true
is_arithmetic tasks.Adc = true
is_arithmetic tasks.Sub = true
is_arithmetic tasks.Sbc = true
is_arithmetic tasks.And = true
is_arithmetic tasks.Xor = true
is_arithmetic tasks.Or = true
is_arithmetic tasks.Cp = true
is_arithmetic _ = false

-- INC and DEC of 8 bits
abbrev pub is_step : Task80 → Bool
is_step tasks.Inc = true
is_step tasks.Dec = true
is_step _ = false

-- the operations of the prefix CB that write
abbrev pub is_change : Task80 → Bool
is_change tasks.Rlc = true
is_change tasks.Rrc = true
is_change tasks.Rl = true
is_change tasks.Rr = true
is_change tasks.Sla = true
is_change tasks.Sra = true
is_change tasks.Sll = true
is_change tasks.Srl = true
is_change (tasks.Res _) = true
is_change (tasks.Set _) = true
is_change _ = false

-- the operations on the accumulator alone
abbrev pub is_accumulator : Task80 → Bool
is_accumulator tasks.Rlca = true
is_accumulator tasks.Rrca = true
is_accumulator tasks.Rla = true
is_accumulator tasks.Rra = true
is_accumulator tasks.Daa = true
is_accumulator tasks.Cpl = true
is_accumulator tasks.Scf = true
is_accumulator tasks.Ccf = true
is_accumulator _ = false

-- the conditions of JR
abbrev pub is_relative : Condition → Bool
is_relative NonZero = true
is_relative Zero = true
is_relative NonCarry = true
is_relative Carry = true
is_relative _ = false

-- IX or IY
abbrev pub is_prefix : Index → Bool
is_prefix indexes.Hl = false
is_prefix _ = true

-- the operands of an instruction are of the kinds that its row allows
abbrev pub is_op : Op80 → Bool
is_op (ops.Load target source) = is_load target source
is_op (ops.LoadPair pair _) = is_counted pair
is_op (ops.LoadPairExtended pair _) = is_plain pair
is_op (ops.StorePairExtended _ pair) = is_plain pair
is_op (ops.Push pair) = is_stacked pair
is_op (ops.Pop pair) = is_stacked pair
is_op (ops.Arithmetic task source) = is_arithmetic task && is_source source
is_op (ops.Step task place) = is_step task && is_simple place
is_op (ops.Accumulator task) = is_accumulator task
is_op (ops.AddPair index pair) = is_added index pair
is_op (ops.AddPairWithCarry pair) = is_plain pair
is_op (ops.SubtractPairWithCarry pair) = is_plain pair
is_op (ops.IncrementPair pair) = is_counted pair
is_op (ops.DecrementPair pair) = is_counted pair
is_op (ops.Change task place) = is_change task && is_simple place
is_op (ops.TestBit _ place) = is_simple place
is_op (ops.JumpRelativeIf condition _) = is_relative condition
is_op (ops.Restart address) = nat_lt address 0x40 && address % 8 == 0
is_op (ops.Input place) = is_register place
is_op (ops.Output place) = is_register place
is_op (ops.LonePrefix index) = is_prefix index
is_op _ = true

-- an instruction of 1 to 4 bytes whose operands are of their kinds
pub record IsInstruction (decoded : Decoded80) : Type 0 where
  pub operands : IsTrue (is_op decoded.op)
  pub least : 1 ≤ decoded.length
  pub most : decoded.length ≤ 4
