-- The assembler's syntax of every instruction of the 68000: its name, its size where the row has one,
-- and its operands with the source first, a line each.
-- M68000 Programmer's Reference Manual, section 4; what is no instruction is given by its word.
use Rattle.std.specs.Prelude.{ℕ, ◌+◌, ◌%◌, Bool, true, false, List, ◌++◌, codes, Option, Some, None}
use Rattle.md_word.specs.Width.{extended}
use Rattle.md_word.specs.declared.mode.Mode.{Mode}
use Rattle.md_word.specs.declared.mode.Mode.TheVariants as modes
use Rattle.md_word.specs.declared.size.Size.{Size}
use Rattle.md_word.specs.declared.size.Size.TheVariants.{Byte, Word, Long}
use Rattle.m68k_decode.specs.declared.displacement.Displacement.{Displacement}
use Rattle.m68k_decode.specs.declared.displacement.Displacement.TheVariants as displacements
use Rattle.m68k_decode.specs.declared.op.Op.{Op}
use Rattle.m68k_decode.specs.declared.op.Op.TheVariants as ops
use Rattle.md_disasm.specs.Names68.{task_name}
use Rattle.md_disasm.specs.Operands68.{condition_name}
use Rattle.md_disasm.specs.declared.operand68.Operand68.{Operand68}
use Rattle.md_disasm.specs.declared.operand68.Operand68.TheVariants as operands

-- a name, a size that may be none, and two operands that may be none
pub record Row68 : Type 0 where
  pub name : List ℕ
  pub size : Option Size
  pub first : Operand68
  pub second : Operand68

-- a row of two operands, without a size
abbrev pub two : List ℕ → Operand68 → Operand68 → Row68
two name first second = record { name = name; size = None; first = first; second = second }

-- a row of one operand, without a size
abbrev pub one : List ℕ → Operand68 → Row68
one name operand = two name operand operands.Nothing

-- a row of no operands, without a size
abbrev pub none : List ℕ → Row68
none name = two name operands.Nothing operands.Nothing

-- the row with a size
abbrev pub sized : Size → Row68 → Row68
sized size row = record row { size = Some size }

-- the size of a branch
abbrev pub size_of : Displacement → Size
size_of (displacements.Byte displacement) = Byte
size_of (displacements.Word displacement) = Word

-- a displacement, with its sign extended
abbrev pub distance : Displacement → ℕ
distance (displacements.Byte displacement) = extended Byte displacement
distance (displacements.Word displacement) = extended Word displacement

-- the address that a branch goes to: the displacement counts from after the first word
unfoldable pub target : ℕ → Displacement → ℕ
target at displacement = (at + 2 + distance displacement) % 0x1_0000_0000

-- −(An) turns the list of MOVEM round
abbrev pub is_turned : Mode → Bool
is_turned (modes.PreDec n) = true
is_turned _ = false

-- the name, the size and the operands of an instruction at an address
abbrev pub row_of : Op → ℕ → Row68
row_of (ops.Immediate task size n mode) at = sized size (two (task_name task ++ codes "i") (operands.Number size n) (operands.Place size mode))
row_of (ops.CompareImmediate size n mode) at = sized size (two (codes "cmpi") (operands.Number size n) (operands.Place size mode))
row_of (ops.ImmediateToCcr task n) at = two (task_name task ++ codes "i") (operands.Number Byte n) operands.Ccr
row_of (ops.ImmediateToSr task n) at = two (task_name task ++ codes "i") (operands.Number Word n) operands.Sr
row_of (ops.BitByRegister task n mode) at = two (task_name task) (operands.Data n) (operands.Place Byte mode)
row_of (ops.BitByNumber task n mode) at = two (task_name task) (operands.Number Byte n) (operands.Place Byte mode)
row_of (ops.MovepToRegister size x y displacement) at = sized size (two (codes "movep") (operands.Place size (modes.Displaced y displacement)) (operands.Data x))
row_of (ops.MovepToMemory size x y displacement) at = sized size (two (codes "movep") (operands.Data x) (operands.Place size (modes.Displaced y displacement)))
row_of (ops.Move size source place) at = sized size (two (codes "move") (operands.Place size source) (operands.Place size place))
row_of (ops.Movea size n mode) at = sized size (two (codes "movea") (operands.Place size mode) (operands.Address n))
row_of (ops.Unary task size mode) at = sized size (one (task_name task) (operands.Place size mode))
row_of (ops.MoveFromSr mode) at = two (codes "move") operands.Sr (operands.Place Word mode)
row_of (ops.MoveToCcr mode) at = two (codes "move") (operands.Place Word mode) operands.Ccr
row_of (ops.MoveToSr mode) at = two (codes "move") (operands.Place Word mode) operands.Sr
row_of (ops.Nbcd mode) at = one (codes "nbcd") (operands.Place Byte mode)
row_of (ops.Swap n) at = one (codes "swap") (operands.Data n)
row_of (ops.Ext size n) at = sized size (one (codes "ext") (operands.Data n))
row_of (ops.Pea mode) at = one (codes "pea") (operands.Place Long mode)
row_of (ops.MovemToMemory size list mode) at = sized size (two (codes "movem") (operands.Registers (is_turned mode) list) (operands.Place size mode))
row_of (ops.MovemToRegisters size list mode) at = sized size (two (codes "movem") (operands.Place size mode) (operands.Registers false list))
row_of (ops.Tst size mode) at = sized size (one (codes "tst") (operands.Place size mode))
row_of (ops.Tas mode) at = one (codes "tas") (operands.Place Byte mode)
row_of (ops.Trap n) at = one (codes "trap") (operands.Digit n)
row_of (ops.Link n displacement) at = two (codes "link") (operands.Address n) (operands.Number Word displacement)
row_of (ops.Unlk n) at = one (codes "unlk") (operands.Address n)
row_of (ops.MoveToUsp n) at = two (codes "move") (operands.Address n) operands.Usp
row_of (ops.MoveFromUsp n) at = two (codes "move") operands.Usp (operands.Address n)
row_of ops.Reset at = none (codes "reset")
row_of ops.Nop at = none (codes "nop")
row_of (ops.Stop n) at = one (codes "stop") (operands.Number Word n)
row_of ops.Rte at = none (codes "rte")
row_of ops.Rts at = none (codes "rts")
row_of ops.Trapv at = none (codes "trapv")
row_of ops.Rtr at = none (codes "rtr")
row_of (ops.Jsr mode) at = one (codes "jsr") (operands.Place Long mode)
row_of (ops.Jmp mode) at = one (codes "jmp") (operands.Place Long mode)
row_of (ops.Lea n mode) at = two (codes "lea") (operands.Place Long mode) (operands.Address n)
row_of (ops.Chk n mode) at = two (codes "chk") (operands.Place Word mode) (operands.Data n)
row_of (ops.Quick task size n mode) at = sized size (two (task_name task ++ codes "q") (operands.Digit n) (operands.Place size mode))
row_of (ops.Scc condition mode) at = one (codes "s" ++ condition_name condition) (operands.Place Byte mode)
row_of (ops.Dbcc condition n displacement) at = two (codes "db" ++ condition_name condition) (operands.Data n) (operands.Target (target at (displacements.Word displacement)))
row_of (ops.Bra displacement) at = sized (size_of displacement) (one (codes "bra") (operands.Target (target at displacement)))
row_of (ops.Bsr displacement) at = sized (size_of displacement) (one (codes "bsr") (operands.Target (target at displacement)))
row_of (ops.Bcc condition displacement) at = sized (size_of displacement) (one (codes "b" ++ condition_name condition) (operands.Target (target at displacement)))
row_of (ops.Moveq n value) at = two (codes "moveq") (operands.Number Byte value) (operands.Data n)
row_of (ops.Divu n mode) at = two (codes "divu") (operands.Place Word mode) (operands.Data n)
row_of (ops.Divs n mode) at = two (codes "divs") (operands.Place Word mode) (operands.Data n)
row_of (ops.Decimal task source place) at = two (task_name task) (operands.Place Byte source) (operands.Place Byte place)
row_of (ops.Extended task size source place) at = sized size (two (task_name task) (operands.Place size source) (operands.Place size place))
row_of (ops.ToRegister task size n mode) at = sized size (two (task_name task) (operands.Place size mode) (operands.Data n))
row_of (ops.ToMemory task size n mode) at = sized size (two (task_name task) (operands.Data n) (operands.Place size mode))
row_of (ops.ToAddress task size n mode) at = sized size (two (task_name task ++ codes "a") (operands.Place size mode) (operands.Address n))
row_of (ops.Cmp size n mode) at = sized size (two (codes "cmp") (operands.Place size mode) (operands.Data n))
row_of (ops.Cmpa size n mode) at = sized size (two (codes "cmpa") (operands.Place size mode) (operands.Address n))
row_of (ops.Eor size n mode) at = sized size (two (codes "eor") (operands.Data n) (operands.Place size mode))
row_of (ops.Cmpm size x y) at = sized size (two (codes "cmpm") (operands.Place size (modes.PostInc y)) (operands.Place size (modes.PostInc x)))
row_of (ops.Mulu n mode) at = two (codes "mulu") (operands.Place Word mode) (operands.Data n)
row_of (ops.Muls n mode) at = two (codes "muls") (operands.Place Word mode) (operands.Data n)
row_of (ops.Exg x y) at = two (codes "exg") (operands.Either x) (operands.Either y)
row_of (ops.ShiftByNumber task size n r) at = sized size (two (task_name task) (operands.Digit n) (operands.Data r))
row_of (ops.ShiftByRegister task size n r) at = sized size (two (task_name task) (operands.Data n) (operands.Data r))
row_of (ops.ShiftMemory task mode) at = one (task_name task) (operands.Place Word mode)
row_of (ops.Illegal word) at = one (codes "dc.w") (operands.Opcode word)
row_of (ops.LineA word) at = one (codes "dc.w") (operands.Opcode word)
row_of (ops.LineF word) at = one (codes "dc.w") (operands.Opcode word)
