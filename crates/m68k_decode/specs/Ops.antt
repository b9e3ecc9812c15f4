-- What holds of every decoded instruction, how often it accesses memory, and what it can spend.
use Rattle.std.specs.Prelude.{ℕ, ◌≡◌, ◌≢◌, ◌+◌, ◌*◌, ◌%◌, ◌<◌, ◌≤◌, count_ones}
use Rattle.md_word.specs.Modes.{IsMode}
use Rattle.md_word.specs.Width.{modulus_of}
use Rattle.md_word.specs.declared.mode.Mode.{Mode}
use Rattle.md_word.specs.declared.mode.Mode.TheVariants as modes
use Rattle.md_word.specs.declared.size.Size.{Size}
use Rattle.md_word.specs.declared.size.Size.TheVariants.{Byte, Word, Long}
use Rattle.md_word.specs.declared.spent.Spent.{Spent}
use Rattle.md_word.specs.declared.task.Task.{Task}
use Rattle.md_word.specs.declared.task.Task.TheVariants as tasks
use Rattle.m68k_decode.specs.declared.decoded.Decoded.{Decoded}
use Rattle.m68k_decode.specs.declared.op.Op.{Op}
use Rattle.m68k_decode.specs.declared.op.Op.TheVariants as ops
use Rattle.m68k_decode.specs.Addressing.{control, control_alterable_or_predecrement, control_or_postincrement}
use Rattle.m68k_decode.specs.Operands.{ArePaired, IsOf, IsOperand}

-- its registers are some that there are, its numbers fit, and its modes are some that have a time
abbrev pub IsOp : Op → Type 0
IsOp (ops.Immediate _ size value mode) = (value < modulus_of size) × IsOperand size mode
IsOp (ops.CompareImmediate size value mode) = (value < modulus_of size) × IsOperand size mode
IsOp (ops.BitByRegister _ n mode) = (n < 8) × IsOperand Byte mode
IsOp (ops.BitByNumber _ _ mode) = IsOperand Byte mode
IsOp (ops.MovepToRegister _ n r _) = (n < 8) × (r < 8)
IsOp (ops.MovepToMemory _ n r _) = (n < 8) × (r < 8)
IsOp (ops.Move size source target) = IsOperand size source × IsOperand size target
IsOp (ops.Movea size n mode) = (n < 8) × IsOperand size mode
IsOp (ops.Unary _ size mode) = IsOperand size mode
IsOp (ops.MoveFromSr mode) = IsOperand Word mode
IsOp (ops.MoveToCcr mode) = IsOperand Word mode
IsOp (ops.MoveToSr mode) = IsOperand Word mode
IsOp (ops.Nbcd mode) = IsOperand Byte mode
IsOp (ops.Swap r) = r < 8
IsOp (ops.Ext _ r) = r < 8
IsOp (ops.Pea mode) = IsOperand Long mode × IsOf control mode
IsOp (ops.MovemToMemory size _ mode) = IsOperand size mode × IsOf control_alterable_or_predecrement mode
IsOp (ops.MovemToRegisters size _ mode) = IsOperand size mode × IsOf control_or_postincrement mode
IsOp (ops.Tst size mode) = IsOperand size mode
IsOp (ops.Tas mode) = IsOperand Byte mode
IsOp (ops.Trap number) = number < 16
IsOp (ops.Link r _) = r < 8
IsOp (ops.Unlk r) = r < 8
IsOp (ops.MoveToUsp r) = r < 8
IsOp (ops.MoveFromUsp r) = r < 8
IsOp (ops.Jsr mode) = IsOperand Long mode × IsOf control mode
IsOp (ops.Jmp mode) = IsOperand Long mode × IsOf control mode
IsOp (ops.Lea n mode) = (n < 8) × IsOperand Long mode × IsOf control mode
IsOp (ops.Chk n mode) = (n < 8) × IsOperand Word mode
IsOp (ops.Quick _ size number mode) = (0 < number) × (number ≤ 8) × IsOperand size mode
IsOp (ops.Scc _ mode) = IsOperand Byte mode
IsOp (ops.Dbcc _ r _) = r < 8
IsOp (ops.Moveq n _) = n < 8
IsOp (ops.Divu n mode) = (n < 8) × IsOperand Word mode
IsOp (ops.Divs n mode) = (n < 8) × IsOperand Word mode
IsOp (ops.Decimal _ source target) = IsMode source × IsMode target × ArePaired source target
IsOp (ops.Extended _ _ source target) = IsMode source × IsMode target × ArePaired source target
IsOp (ops.ToRegister _ size n mode) = (n < 8) × IsOperand size mode
IsOp (ops.ToMemory _ size n mode) = (n < 8) × IsOperand size mode
IsOp (ops.ToAddress _ size n mode) = (n < 8) × IsOperand size mode
IsOp (ops.Cmp size n mode) = (n < 8) × IsOperand size mode
IsOp (ops.Cmpa size n mode) = (n < 8) × IsOperand size mode
IsOp (ops.Eor size n mode) = (n < 8) × IsOperand size mode
IsOp (ops.Cmpm _ n r) = (n < 8) × (r < 8)
IsOp (ops.Mulu n mode) = (n < 8) × IsOperand Word mode
IsOp (ops.Muls n mode) = (n < 8) × IsOperand Word mode
IsOp (ops.Exg n r) = (n < 16) × (r < 16)
IsOp (ops.ShiftByNumber _ _ number r) = (0 < number) × (number ≤ 8) × (r < 8)
IsOp (ops.ShiftByRegister _ _ n r) = (n < 8) × (r < 8)
IsOp (ops.ShiftMemory _ mode) = IsOperand Word mode
IsOp _ = Unit {0}

-- what holds of an instruction: its operands, and that its length is even and from 2 to 10
pub record IsInstruction (decoded : Decoded) : Type 0 where
  pub operands : IsOp decoded.op
  pub least : 2 ≤ decoded.length
  pub most : decoded.length ≤ 10
  pub even : decoded.length % 2 ≡ 0

-- the accesses that move a number of the size: a long is two words
abbrev pub moves_of : Size → ℕ
moves_of Byte = 1
moves_of Word = 1
moves_of Long = 2

-- the accesses that read or write a place once
abbrev pub touches_of : Size → Mode → ℕ
touches_of size (modes.Data n) = 0
touches_of size (modes.Address n) = 0
touches_of size (modes.Immediate value) = 0
touches_of size _ = moves_of size

-- a test of a bit only reads; the others read and write
abbrev pub bit_touches : Task → ℕ
bit_touches tasks.Btst = 1
bit_touches _ = 2

-- the most accesses that an instruction makes of its own: those of its operands and of the stack,
-- but not the instruction's words, and not those of an exception that ends it or that it is
abbrev pub accesses_of : Op → ℕ
accesses_of (ops.Immediate _ size _ mode) = 2 * touches_of size mode
accesses_of (ops.CompareImmediate size _ mode) = touches_of size mode
accesses_of (ops.BitByRegister operation _ mode) = bit_touches operation * touches_of Byte mode
accesses_of (ops.BitByNumber operation _ mode) = bit_touches operation * touches_of Byte mode
accesses_of (ops.MovepToRegister size _ _ _) = 2 * moves_of size
accesses_of (ops.MovepToMemory size _ _ _) = 2 * moves_of size
accesses_of (ops.Move size source target) = touches_of size source + touches_of size target
accesses_of (ops.Movea size _ mode) = touches_of size mode
accesses_of (ops.Unary _ size mode) = 2 * touches_of size mode
accesses_of (ops.MoveFromSr mode) = 2 * touches_of Word mode
accesses_of (ops.MoveToCcr mode) = touches_of Word mode
accesses_of (ops.MoveToSr mode) = touches_of Word mode
accesses_of (ops.Nbcd mode) = 2 * touches_of Byte mode
accesses_of (ops.Pea _) = 2
accesses_of (ops.MovemToMemory size registers _) = count_ones registers * moves_of size
accesses_of (ops.MovemToRegisters size registers _) = count_ones registers * moves_of size
accesses_of (ops.Tst size mode) = touches_of size mode
accesses_of (ops.Tas mode) = touches_of Byte mode
accesses_of (ops.Link _ _) = 2
accesses_of (ops.Unlk _) = 2
accesses_of ops.Rte = 3
accesses_of ops.Rts = 2
accesses_of ops.Rtr = 3
accesses_of (ops.Jsr _) = 2
accesses_of (ops.Chk _ mode) = touches_of Word mode
accesses_of (ops.Quick _ size _ mode) = 2 * touches_of size mode
accesses_of (ops.Scc _ mode) = 2 * touches_of Byte mode
accesses_of (ops.Bsr _) = 2
accesses_of (ops.Divu _ mode) = touches_of Word mode
accesses_of (ops.Divs _ mode) = touches_of Word mode
accesses_of (ops.Decimal _ source target) = touches_of Byte source + 2 * touches_of Byte target
accesses_of (ops.Extended _ size source target) = touches_of size source + 2 * touches_of size target
accesses_of (ops.ToRegister _ size _ mode) = touches_of size mode
accesses_of (ops.ToMemory _ size _ mode) = 2 * touches_of size mode
accesses_of (ops.ToAddress _ size _ mode) = touches_of size mode
accesses_of (ops.Cmp size _ mode) = touches_of size mode
accesses_of (ops.Cmpa size _ mode) = touches_of size mode
accesses_of (ops.Eor size _ mode) = 2 * touches_of size mode
accesses_of (ops.Cmpm size _ _) = 2 * moves_of size
accesses_of (ops.Mulu _ mode) = touches_of Word mode
accesses_of (ops.Muls _ mode) = touches_of Word mode
accesses_of (ops.ShiftMemory _ mode) = 2 * touches_of Word mode
accesses_of _ = 0

-- MOVEM reports how many registers its list has
abbrev pub Counts : Op → ℕ → Type 0
Counts (ops.MovemToMemory size list mode) count = count ≡ count_ones list
Counts (ops.MovemToRegisters size list mode) count = count ≡ count_ones list
Counts _ count = Unit {0}

-- what an instruction can have spent: its own accesses, or with those of the exception in which it
-- ended. An address error and a halt have the cause 3
pub record IsSpent (op : Op) (spent : Spent) : Type 0 where
  pub most : spent.accesses ≤ 32
  pub own : spent.cause ≡ 0 → spent.accesses ≤ accesses_of op
  pub counted : spent.cause ≡ 0 → Counts op spent.count
  pub address_error : spent.cause ≡ 3 → spent.accesses ≤ 11
  pub exception : spent.cause ≢ 0 → spent.cause ≢ 3 → spent.accesses ≤ 7
