-- The assembler's syntax of every instruction of the Z80: its name and its operands, a line each.
-- Zilog UM0080, "Z80 Instruction Description"; what is no instruction is given by its bytes.
use Rattle.std.specs.Prelude.{ℕ, ◌+◌, ◌%◌, List, codes}
use Rattle.md_word.specs.Width.{extended}
use Rattle.md_word.specs.declared.size.Size.TheVariants.{Byte}
use Rattle.md_word.specs.declared.task80.Task80.{Task80}
use Rattle.md_word.specs.declared.task80.Task80.TheVariants as tasks
use Rattle.z80_decode.specs.declared.index.Index.{Index}
use Rattle.z80_decode.specs.declared.index.Index.TheVariants as indexes
use Rattle.z80_decode.specs.declared.op80.Op80.{Op80}
use Rattle.z80_decode.specs.declared.op80.Op80.TheVariants as ops
use Rattle.z80_decode.specs.declared.pair.Pair.{Pair}
use Rattle.z80_decode.specs.declared.pair.Pair.TheVariants as pairs
use Rattle.z80_decode.specs.declared.place8.Place8.{Place8}
use Rattle.z80_decode.specs.declared.place8.Place8.TheVariants as places
use Rattle.md_disasm.specs.Names80.{task_name, block_load, block_compare, block_input, block_output}
use Rattle.md_disasm.specs.Operands80.{register}
use Rattle.md_disasm.specs.declared.operand80.Operand80.{Operand80}
use Rattle.md_disasm.specs.declared.operand80.Operand80.TheVariants as operands

-- a name, and two operands that may be none
pub record Row80 : Type 0 where
  pub name : List ℕ
  pub first : Operand80
  pub second : Operand80

-- a row of no operands
abbrev pub none : List ℕ → Row80
none name = record { name = name; first = operands.Nothing; second = operands.Nothing }

-- a row of one operand
abbrev pub one : List ℕ → Operand80 → Row80
one name operand = record { name = name; first = operand; second = operands.Nothing }

-- a row of two operands
abbrev pub two : List ℕ → Operand80 → Operand80 → Row80
two name first second = record { name = name; first = first; second = second }

-- the address that a relative jump of two bytes goes to
unfoldable pub target : ℕ → ℕ → ℕ
target at distance = (at + 2 + extended Byte distance) % 0x1_0000

-- an operation on A: the manual names A where the operation has a form on a pair too
abbrev pub arithmetic : Task80 → Place8 → Row80
arithmetic tasks.Add source = two (codes "add") (operands.Place places.A) (operands.Place source)
arithmetic tasks.Adc source = two (codes "adc") (operands.Place places.A) (operands.Place source)
arithmetic tasks.Sbc source = two (codes "sbc") (operands.Place places.A) (operands.Place source)
arithmetic task source = one (task_name task) (operands.Place source)

-- a change of bits; RES and SET name the bit
abbrev pub change : Task80 → Place8 → Row80
change (tasks.Res bit) place = two (codes "res") (operands.Bit bit) (operands.Place place)
change (tasks.Set bit) place = two (codes "set") (operands.Bit bit) (operands.Place place)
change task place = one (task_name task) (operands.Place place)

-- LD dd,(nn) of the prefix ED; of HL, which has a shorter form, the bytes
abbrev pub load_extended : Pair → ℕ → Row80
load_extended pairs.Hl address = two (codes "db") (operands.Byte 0xed) (operands.ByteAndWord 0x6b address)
load_extended pair address = two (codes "ld") (operands.Register pair) (operands.AtWord address)

-- LD (nn),dd of the prefix ED; of HL, which has a shorter form, the bytes
abbrev pub store_extended : ℕ → Pair → Row80
store_extended address pairs.Hl = two (codes "db") (operands.Byte 0xed) (operands.ByteAndWord 0x63 address)
store_extended address pair = two (codes "ld") (operands.AtWord address) (operands.Register pair)

-- the byte of a prefix alone
abbrev pub lone_prefix : Index → Operand80
lone_prefix indexes.Hl = operands.Nothing
lone_prefix indexes.Ix = operands.Byte 0xdd
lone_prefix indexes.Iy = operands.Byte 0xfd

-- the name and the operands of an instruction at an address
abbrev pub row_of : Op80 → ℕ → Row80
row_of (ops.Load target source) at = two (codes "ld") (operands.Place target) (operands.Place source)
row_of (ops.LoadFromSpecial special) at = two (codes "ld") (operands.Place places.A) (operands.Special special)
row_of (ops.LoadToSpecial special) at = two (codes "ld") (operands.Special special) (operands.Place places.A)
row_of (ops.LoadPair pair n) at = two (codes "ld") (operands.Register pair) (operands.Word n)
row_of (ops.LoadIndex index address) at = two (codes "ld") (operands.Register (register index)) (operands.AtWord address)
row_of (ops.LoadPairExtended pair address) at = load_extended pair address
row_of (ops.StoreIndex address index) at = two (codes "ld") (operands.AtWord address) (operands.Register (register index))
row_of (ops.StorePairExtended address pair) at = store_extended address pair
row_of (ops.LoadStackPointer index) at = two (codes "ld") (operands.Register pairs.Sp) (operands.Register (register index))
row_of (ops.Push pair) at = one (codes "push") (operands.Register pair)
row_of (ops.Pop pair) at = one (codes "pop") (operands.Register pair)
row_of ops.ExchangeDeHl at = two (codes "ex") (operands.Register pairs.De) (operands.Register pairs.Hl)
row_of ops.ExchangeAf at = two (codes "ex") (operands.Register pairs.Af) operands.OtherAf
row_of ops.ExchangeAll at = none (codes "exx")
row_of (ops.ExchangeStack index) at = two (codes "ex") (operands.AtRegister pairs.Sp) (operands.Register (register index))
row_of (ops.BlockLoad steps) at = none (block_load steps)
row_of (ops.BlockCompare steps) at = none (block_compare steps)
row_of (ops.Arithmetic task source) at = arithmetic task source
row_of (ops.Step task place) at = one (task_name task) (operands.Place place)
row_of (ops.Accumulator task) at = none (task_name task)
row_of ops.Negate at = none (codes "neg")
row_of ops.Nop at = none (codes "nop")
row_of ops.Halt at = none (codes "halt")
row_of ops.DisableInterrupts at = none (codes "di")
row_of ops.EnableInterrupts at = none (codes "ei")
row_of (ops.SetInterruptMode mode) at = one (codes "im") (operands.Mode mode)
row_of (ops.AddPair index pair) at = two (codes "add") (operands.Register (register index)) (operands.Register pair)
row_of (ops.AddPairWithCarry pair) at = two (codes "adc") (operands.Register pairs.Hl) (operands.Register pair)
row_of (ops.SubtractPairWithCarry pair) at = two (codes "sbc") (operands.Register pairs.Hl) (operands.Register pair)
row_of (ops.IncrementPair pair) at = one (codes "inc") (operands.Register pair)
row_of (ops.DecrementPair pair) at = one (codes "dec") (operands.Register pair)
row_of (ops.Change task place) at = change task place
row_of (ops.TestBit bit place) at = two (codes "bit") (operands.Bit bit) (operands.Place place)
row_of ops.RotateDigitsLeft at = none (codes "rld")
row_of ops.RotateDigitsRight at = none (codes "rrd")
row_of (ops.Jump address) at = one (codes "jp") (operands.Word address)
row_of (ops.JumpIf condition address) at = two (codes "jp") (operands.Condition condition) (operands.Word address)
row_of (ops.JumpRelative distance) at = one (codes "jr") (operands.Word (target at distance))
row_of (ops.JumpRelativeIf condition distance) at = two (codes "jr") (operands.Condition condition) (operands.Word (target at distance))
row_of (ops.JumpIndex index) at = one (codes "jp") (operands.AtRegister (register index))
row_of (ops.DecrementAndJump distance) at = one (codes "djnz") (operands.Word (target at distance))
row_of (ops.Call address) at = one (codes "call") (operands.Word address)
row_of (ops.CallIf condition address) at = two (codes "call") (operands.Condition condition) (operands.Word address)
row_of ops.Return at = none (codes "ret")
row_of (ops.ReturnIf condition) at = one (codes "ret") (operands.Condition condition)
row_of ops.ReturnFromInterrupt at = none (codes "reti")
row_of ops.ReturnFromNonMaskable at = none (codes "retn")
row_of (ops.Restart address) at = one (codes "rst") (operands.Byte address)
row_of (ops.InputAtNumber port) at = two (codes "in") (operands.Place places.A) (operands.Port port)
row_of (ops.Input place) at = two (codes "in") (operands.Place place) operands.PortC
row_of (ops.BlockInput steps) at = none (block_input steps)
row_of (ops.OutputAtNumber port) at = two (codes "out") (operands.Port port) (operands.Place places.A)
row_of (ops.Output place) at = two (codes "out") operands.PortC (operands.Place place)
row_of (ops.BlockOutput steps) at = none (block_output steps)
row_of (ops.LonePrefix index) at = one (codes "db") (lone_prefix index)
row_of (ops.Undefined opcode) at = two (codes "db") (operands.Byte 0xed) (operands.Byte opcode)
