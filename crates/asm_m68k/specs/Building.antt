-- The instruction that the code makes of what it read. What does not fit is cut off, and found out
-- when the instruction's text is compared with what was written.
use Rattle.std.specs.Prelude.{ℕ, ◌+◌, ◌-◌, ◌%◌, ◌^◌, Bool, true, false, nat_lt, if◌then◌else◌, List, [], ◌∷◌, Option, Some, None, codes}
use Rattle.std.specs.Str.{bytes_eq}
use Rattle.md_word.specs.Width.{modulus_of}
use Rattle.md_word.specs.declared.mode.Mode.{Mode}
use Rattle.md_word.specs.declared.mode.Mode.TheVariants as modes
use Rattle.md_word.specs.declared.size.Size.{Size}
use Rattle.md_word.specs.declared.size.Size.TheVariants.{Byte, Word, Long}
use Rattle.md_word.specs.declared.task.Task.{Task}
use Rattle.md_word.specs.declared.task.Task.TheVariants as tasks
use Rattle.m68k_decode.specs.declared.condition.Condition.TheVariants as conditions
use Rattle.m68k_decode.specs.declared.displacement.Displacement.{Displacement}
use Rattle.m68k_decode.specs.declared.displacement.Displacement.TheVariants as displacements
use Rattle.m68k_decode.specs.declared.op.Op.{Op}
use Rattle.m68k_decode.specs.declared.op.Op.TheVariants as ops
use Rattle.asm_m68k.specs.Reading.{Source}
use Rattle.asm_m68k.specs.declared.form.Form.{Form}
use Rattle.asm_m68k.specs.declared.form.Form.TheVariants as forms
use Rattle.asm_m68k.specs.declared.mnemonic.Mnemonic.{Mnemonic}
use Rattle.asm_m68k.specs.declared.mnemonic.Mnemonic.TheVariants as stems

-- an addressing mode; the size is that of a number
unfoldable pub mode : Size → Form → Mode
mode size (forms.Register n) = if nat_lt n 8 then modes.Data n else modes.Address (n % 8)
mode size (forms.Indirect n) = modes.Indirect n
mode size (forms.PostInc n) = modes.PostInc n
mode size (forms.PreDec n) = modes.PreDec n
mode size (forms.Displaced n by) = modes.Displaced n (by % 65536)
mode size (forms.Indexed n index long by) = modes.Indexed n index long (by % 256)
mode size (forms.Short at) = modes.AbsShort (at % 65536)
mode size (forms.Long at) = modes.AbsLong at
mode size (forms.PcDisplaced by) = modes.PcDisplaced (by % 65536)
mode size (forms.PcIndexed index long by) = modes.PcIndexed index long (by % 256)
mode size (forms.Immediate n) = modes.Immediate (n % modulus_of size)
mode size _ = modes.Data 0

-- a register of one kind
unfoldable pub register : Form → ℕ
register (forms.Register n) = n % 8
register _ = 0

-- a register of sixteen
unfoldable pub either : Form → ℕ
either (forms.Register n) = n
either _ = 0

-- a number
unfoldable pub number : Form → ℕ
number (forms.Immediate n) = n
number (forms.Bare n) = n
number _ = 0

-- a number from 1 to 8
abbrev pub quick : Form → ℕ
quick f = (number f + 7) % 8 + 1

-- a list of registers as the bits of D0 to A7
unfoldable pub list : Form → ℕ
list (forms.Register n) = 2 ^ n % 65536
list (forms.Registers up down) = up
list _ = 0

-- the same turned round
unfoldable pub turned : Form → ℕ
turned (forms.Register n) = 2 ^ (15 - n) % 65536
turned (forms.Registers up down) = down
turned _ = 0

-- the list of MOVEM with this mode
abbrev pub list_with : Mode → Form → ℕ
list_with (modes.PreDec n) f = turned f
list_with _ f = list f

-- the displacement from the end of the first word to a target
abbrev pub by_byte : ℕ → Form → Displacement
by_byte at f = displacements.Byte ((number f + 0x2_0000_0000 - at - 2) % 256)

abbrev pub by_word : ℕ → Form → ℕ
by_word at f = (number f + 0x2_0000_0000 - at - 2) % 65536

abbrev pub displacement : Size → ℕ → Form → Displacement
displacement Byte at f = by_byte at f
displacement _ at f = displacements.Word (by_word at f)

-- the size that is written, or long
abbrev pub written : Option Size → Size
written None = Long
written (Some size) = size

abbrev pub is_ccr : Form → Bool
is_ccr forms.Ccr = true
is_ccr _ = false

abbrev pub is_sr : Form → Bool
is_sr forms.Sr = true
is_sr _ = false

abbrev pub is_usp : Form → Bool
is_usp forms.Usp = true
is_usp _ = false

abbrev pub is_nothing : Form → Bool
is_nothing forms.Nothing = true
is_nothing _ = false

abbrev pub is_immediate_form : Form → Bool
is_immediate_form (forms.Immediate n) = true
is_immediate_form _ = false

abbrev pub is_displaced : Form → Bool
is_displaced (forms.Displaced n by) = true
is_displaced _ = false

-- a data register
abbrev pub is_data : Form → Bool
is_data (forms.Register n) = nat_lt n 8
is_data _ = false

-- MOVEM: the list comes first where the registers are stored
abbrev pub is_list : Form → Bool
is_list (forms.Register n) = true
is_list (forms.Registers up down) = true
is_list _ = false

-- An of d16(An) and (An)+
unfoldable pub base : Form → ℕ
base (forms.Displaced n by) = n
base (forms.PostInc n) = n
base _ = 0

unfoldable pub offset : Form → ℕ
offset (forms.Displaced n by) = by % 65536
offset _ = 0

abbrev pub movem : Size → Form → Form → Op
movem size first second =
    if is_list first then ops.MovemToMemory size (list_with (mode size second) first) (mode size second)
    else ops.MovemToRegisters size (list second) (mode size first)

abbrev pub immediate : Task → Size → Form → Form → Op
immediate task size first second =
    if is_ccr second then ops.ImmediateToCcr task (number first % 256) else
    if is_sr second then ops.ImmediateToSr task (number first % 65536) else
    ops.Immediate task size (number first % modulus_of size) (mode size second)

abbrev pub bit : Task → Form → Form → Op
bit task first second =
    if is_immediate_form first then ops.BitByNumber task (number first % 256) (mode Byte second)
    else ops.BitByRegister task (register first) (mode Byte second)

abbrev pub movep : Size → Form → Form → Op
movep size first second =
    if is_displaced first then ops.MovepToRegister size (register second) (base first) (offset first)
    else ops.MovepToMemory size (register first) (base second) (offset second)

abbrev pub move : Size → Form → Form → Op
move size first second =
    if is_sr first then ops.MoveFromSr (mode Word second) else
    if is_usp first then ops.MoveFromUsp (register second) else
    if is_ccr second then ops.MoveToCcr (mode Word first) else
    if is_sr second then ops.MoveToSr (mode Word first) else
    if is_usp second then ops.MoveToUsp (register first) else
    ops.Move size (mode size first) (mode size second)

abbrev pub sum : Task → Size → Form → Form → Op
sum task size first second =
    if is_data second then ops.ToRegister task size (register second) (mode size first)
    else ops.ToMemory task size (register first) (mode size second)

abbrev pub shift : Task → Size → Form → Form → Op
shift task size first second =
    if is_nothing second then ops.ShiftMemory task (mode Word first) else
    if is_immediate_form first then ops.ShiftByNumber task size (quick first) (register second) else
    ops.ShiftByRegister task size (register first) (register second)

-- the instruction of a name, a size and two operands, at an address
unfoldable pub built : Mnemonic → Size → Form → Form → ℕ → Op
built stems.Unknown size first second at = ops.Nop
built (stems.Immediate task) size first second at = immediate task size first second
built stems.CompareImmediate size first second at = ops.CompareImmediate size (number first % modulus_of size) (mode size second)
built (stems.Bit task) size first second at = bit task first second
built stems.Movep size first second at = movep size first second
built stems.Move size first second at = move size first second
built stems.Movea size first second at = ops.Movea size (register second) (mode size first)
built stems.Movem size first second at = movem size first second
built (stems.Unary task) size first second at = ops.Unary task size (mode size first)
built stems.Nbcd size first second at = ops.Nbcd (mode Byte first)
built stems.Swap size first second at = ops.Swap (register first)
built stems.Ext size first second at = ops.Ext size (register first)
built stems.Pea size first second at = ops.Pea (mode Long first)
built stems.Tst size first second at = ops.Tst size (mode size first)
built stems.Tas size first second at = ops.Tas (mode Byte first)
built stems.Trap size first second at = ops.Trap (number first % 16)
built stems.Link size first second at = ops.Link (register first) (number second % 65536)
built stems.Unlk size first second at = ops.Unlk (register first)
built stems.Reset size first second at = ops.Reset
built stems.Nop size first second at = ops.Nop
built stems.Stop size first second at = ops.Stop (number first % 65536)
built stems.Rte size first second at = ops.Rte
built stems.Rts size first second at = ops.Rts
built stems.Trapv size first second at = ops.Trapv
built stems.Rtr size first second at = ops.Rtr
built stems.Jsr size first second at = ops.Jsr (mode Long first)
built stems.Jmp size first second at = ops.Jmp (mode Long first)
built stems.Lea size first second at = ops.Lea (register second) (mode Long first)
built stems.Chk size first second at = ops.Chk (register second) (mode Word first)
built (stems.Quick task) size first second at = ops.Quick task size (quick first) (mode size second)
built (stems.Scc condition) size first second at = ops.Scc condition (mode Byte first)
built (stems.Dbcc condition) size first second at = ops.Dbcc condition (register first) (by_word at second)
built stems.Bra size first second at = ops.Bra (displacement size at first)
built stems.Bsr size first second at = ops.Bsr (displacement size at first)
built (stems.Bcc condition) size first second at = ops.Bcc condition (displacement size at first)
built stems.Moveq size first second at = ops.Moveq (register second) (number first % 256)
built stems.Divu size first second at = ops.Divu (register second) (mode Word first)
built stems.Divs size first second at = ops.Divs (register second) (mode Word first)
built (stems.Decimal task) size first second at = ops.Decimal task (mode Byte first) (mode Byte second)
built (stems.Extended task) size first second at = ops.Extended task size (mode size first) (mode size second)
built (stems.Sum task) size first second at = sum task size first second
built (stems.ToAddress task) size first second at = ops.ToAddress task size (register second) (mode size first)
built stems.Cmp size first second at = ops.Cmp size (register second) (mode size first)
built stems.Cmpa size first second at = ops.Cmpa size (register second) (mode size first)
built stems.Eor size first second at = ops.Eor size (register first) (mode size second)
built stems.Cmpm size first second at = ops.Cmpm size (base second) (base first)
built stems.Mulu size first second at = ops.Mulu (register second) (mode Word first)
built stems.Muls size first second at = ops.Muls (register second) (mode Word first)
built stems.Exg size first second at = ops.Exg (either first) (either second)
built (stems.Shift task) size first second at = shift task size first second

-- an instruction's name, by its text
pub record Entry : Type 0 where
  pub text : List ℕ
  pub mnemonic : Mnemonic

abbrev pub entry_for : List ℕ → Mnemonic → Entry
entry_for text mnemonic = record { text = text; mnemonic = mnemonic }

abbrev pub table : List Entry
table =
    entry_for (codes "abcd") (stems.Decimal tasks.Abcd) ∷
    entry_for (codes "add") (stems.Sum tasks.Add) ∷
    entry_for (codes "adda") (stems.ToAddress tasks.Add) ∷
    entry_for (codes "addi") (stems.Immediate tasks.Add) ∷
    entry_for (codes "addq") (stems.Quick tasks.Add) ∷
    entry_for (codes "addx") (stems.Extended tasks.Addx) ∷
    entry_for (codes "and") (stems.Sum tasks.And) ∷
    entry_for (codes "andi") (stems.Immediate tasks.And) ∷
    entry_for (codes "asl") (stems.Shift tasks.Asl) ∷
    entry_for (codes "asr") (stems.Shift tasks.Asr) ∷
    entry_for (codes "bcc") (stems.Bcc conditions.CarryClear) ∷
    entry_for (codes "bchg") (stems.Bit tasks.Bchg) ∷
    entry_for (codes "bclr") (stems.Bit tasks.Bclr) ∷
    entry_for (codes "bcs") (stems.Bcc conditions.CarrySet) ∷
    entry_for (codes "beq") (stems.Bcc conditions.Equal) ∷
    entry_for (codes "bf") (stems.Bcc conditions.False) ∷
    entry_for (codes "bge") (stems.Bcc conditions.GreaterOrEqual) ∷
    entry_for (codes "bgt") (stems.Bcc conditions.GreaterThan) ∷
    entry_for (codes "bhi") (stems.Bcc conditions.High) ∷
    entry_for (codes "ble") (stems.Bcc conditions.LessOrEqual) ∷
    entry_for (codes "bls") (stems.Bcc conditions.LowOrSame) ∷
    entry_for (codes "blt") (stems.Bcc conditions.LessThan) ∷
    entry_for (codes "bmi") (stems.Bcc conditions.Minus) ∷
    entry_for (codes "bne") (stems.Bcc conditions.NotEqual) ∷
    entry_for (codes "bpl") (stems.Bcc conditions.Plus) ∷
    entry_for (codes "bra") stems.Bra ∷
    entry_for (codes "bset") (stems.Bit tasks.Bset) ∷
    entry_for (codes "bsr") stems.Bsr ∷
    entry_for (codes "bt") (stems.Bcc conditions.True) ∷
    entry_for (codes "btst") (stems.Bit tasks.Btst) ∷
    entry_for (codes "bvc") (stems.Bcc conditions.OverflowClear) ∷
    entry_for (codes "bvs") (stems.Bcc conditions.OverflowSet) ∷
    entry_for (codes "chk") stems.Chk ∷
    entry_for (codes "clr") (stems.Unary tasks.Clr) ∷
    entry_for (codes "cmp") stems.Cmp ∷
    entry_for (codes "cmpa") stems.Cmpa ∷
    entry_for (codes "cmpi") stems.CompareImmediate ∷
    entry_for (codes "cmpm") stems.Cmpm ∷
    entry_for (codes "dbcc") (stems.Dbcc conditions.CarryClear) ∷
    entry_for (codes "dbcs") (stems.Dbcc conditions.CarrySet) ∷
    entry_for (codes "dbeq") (stems.Dbcc conditions.Equal) ∷
    entry_for (codes "dbf") (stems.Dbcc conditions.False) ∷
    entry_for (codes "dbge") (stems.Dbcc conditions.GreaterOrEqual) ∷
    entry_for (codes "dbgt") (stems.Dbcc conditions.GreaterThan) ∷
    entry_for (codes "dbhi") (stems.Dbcc conditions.High) ∷
    entry_for (codes "dble") (stems.Dbcc conditions.LessOrEqual) ∷
    entry_for (codes "dbls") (stems.Dbcc conditions.LowOrSame) ∷
    entry_for (codes "dblt") (stems.Dbcc conditions.LessThan) ∷
    entry_for (codes "dbmi") (stems.Dbcc conditions.Minus) ∷
    entry_for (codes "dbne") (stems.Dbcc conditions.NotEqual) ∷
    entry_for (codes "dbpl") (stems.Dbcc conditions.Plus) ∷
    entry_for (codes "dbt") (stems.Dbcc conditions.True) ∷
    entry_for (codes "dbvc") (stems.Dbcc conditions.OverflowClear) ∷
    entry_for (codes "dbvs") (stems.Dbcc conditions.OverflowSet) ∷
    entry_for (codes "divs") stems.Divs ∷
    entry_for (codes "divu") stems.Divu ∷
    entry_for (codes "eor") stems.Eor ∷
    entry_for (codes "eori") (stems.Immediate tasks.Eor) ∷
    entry_for (codes "exg") stems.Exg ∷
    entry_for (codes "ext") stems.Ext ∷
    entry_for (codes "jmp") stems.Jmp ∷
    entry_for (codes "jsr") stems.Jsr ∷
    entry_for (codes "lea") stems.Lea ∷
    entry_for (codes "link") stems.Link ∷
    entry_for (codes "lsl") (stems.Shift tasks.Lsl) ∷
    entry_for (codes "lsr") (stems.Shift tasks.Lsr) ∷
    entry_for (codes "move") stems.Move ∷
    entry_for (codes "movea") stems.Movea ∷
    entry_for (codes "movem") stems.Movem ∷
    entry_for (codes "movep") stems.Movep ∷
    entry_for (codes "moveq") stems.Moveq ∷
    entry_for (codes "muls") stems.Muls ∷
    entry_for (codes "mulu") stems.Mulu ∷
    entry_for (codes "nbcd") stems.Nbcd ∷
    entry_for (codes "neg") (stems.Unary tasks.Neg) ∷
    entry_for (codes "negx") (stems.Unary tasks.Negx) ∷
    entry_for (codes "nop") stems.Nop ∷
    entry_for (codes "not") (stems.Unary tasks.Not) ∷
    entry_for (codes "or") (stems.Sum tasks.Or) ∷
    entry_for (codes "ori") (stems.Immediate tasks.Or) ∷
    entry_for (codes "pea") stems.Pea ∷
    entry_for (codes "reset") stems.Reset ∷
    entry_for (codes "rol") (stems.Shift tasks.Rol) ∷
    entry_for (codes "ror") (stems.Shift tasks.Ror) ∷
    entry_for (codes "roxl") (stems.Shift tasks.Roxl) ∷
    entry_for (codes "roxr") (stems.Shift tasks.Roxr) ∷
    entry_for (codes "rte") stems.Rte ∷
    entry_for (codes "rtr") stems.Rtr ∷
    entry_for (codes "rts") stems.Rts ∷
    entry_for (codes "sbcd") (stems.Decimal tasks.Sbcd) ∷
    entry_for (codes "scc") (stems.Scc conditions.CarryClear) ∷
    entry_for (codes "scs") (stems.Scc conditions.CarrySet) ∷
    entry_for (codes "seq") (stems.Scc conditions.Equal) ∷
    entry_for (codes "sf") (stems.Scc conditions.False) ∷
    entry_for (codes "sge") (stems.Scc conditions.GreaterOrEqual) ∷
    entry_for (codes "sgt") (stems.Scc conditions.GreaterThan) ∷
    entry_for (codes "shi") (stems.Scc conditions.High) ∷
    entry_for (codes "sle") (stems.Scc conditions.LessOrEqual) ∷
    entry_for (codes "sls") (stems.Scc conditions.LowOrSame) ∷
    entry_for (codes "slt") (stems.Scc conditions.LessThan) ∷
    entry_for (codes "smi") (stems.Scc conditions.Minus) ∷
    entry_for (codes "sne") (stems.Scc conditions.NotEqual) ∷
    entry_for (codes "spl") (stems.Scc conditions.Plus) ∷
    entry_for (codes "st") (stems.Scc conditions.True) ∷
    entry_for (codes "stop") stems.Stop ∷
    entry_for (codes "sub") (stems.Sum tasks.Sub) ∷
    entry_for (codes "suba") (stems.ToAddress tasks.Sub) ∷
    entry_for (codes "subi") (stems.Immediate tasks.Sub) ∷
    entry_for (codes "subq") (stems.Quick tasks.Sub) ∷
    entry_for (codes "subx") (stems.Extended tasks.Subx) ∷
    entry_for (codes "svc") (stems.Scc conditions.OverflowClear) ∷
    entry_for (codes "svs") (stems.Scc conditions.OverflowSet) ∷
    entry_for (codes "swap") stems.Swap ∷
    entry_for (codes "tas") stems.Tas ∷
    entry_for (codes "trap") stems.Trap ∷
    entry_for (codes "trapv") stems.Trapv ∷
    entry_for (codes "tst") stems.Tst ∷
    entry_for (codes "unlk") stems.Unlk ∷
    []

-- what a text is entered as
unfoldable pub mnemonic_in : List Entry → List ℕ → Mnemonic
mnemonic_in [] text = stems.Unknown
mnemonic_in (e ∷ es) text = if bytes_eq e.text text then e.mnemonic else mnemonic_in es text

unfoldable pub mnemonic_of : List ℕ → Mnemonic
mnemonic_of text = mnemonic_in table text

-- what an instruction that is written is taken for
unfoldable pub meant : Source → ℕ → Op
meant s at = built (mnemonic_of s.mnemonic) (written s.size) s.first s.second at
