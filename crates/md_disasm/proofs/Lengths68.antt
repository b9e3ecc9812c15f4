-- How long the texts of the 68000 are.
use Rattle.std.proofs.Common.{ℕ, zero, suc, ◌≡◌, ◌≤◌, ◌+◌, ◌*◌, Bool, true, false, List, [], ◌∷◌, ◌++◌, length, length-append, arith, codes, nat_lt, not, ◌&&◌, ◌==◌, ◌%◌, if◌then◌else◌, Option, Some, None, refl}
use Rattle.md_word.specs.declared.mode.Mode.{Mode}
use Rattle.md_word.specs.declared.mode.Mode.TheVariants as modes
use Rattle.md_word.specs.declared.size.Size.{Size}
use Rattle.md_word.specs.declared.size.Size.TheVariants.{Byte, Word, Long}
use Rattle.md_word.specs.declared.task.Task.{Task}
use Rattle.md_word.specs.declared.task.Task.TheVariants as tasks
use Rattle.m68k_decode.specs.declared.condition.Condition.{Condition}
use Rattle.m68k_decode.specs.declared.condition.Condition.TheVariants as conditions
use Rattle.m68k_decode.specs.declared.displacement.Displacement.TheVariants as displacements
use Rattle.m68k_decode.specs.declared.op.Op.{Op}
use Rattle.m68k_decode.specs.declared.op.Op.TheVariants as ops
use Rattle.md_disasm.specs.Digits.{one_digit, two_digits, four_digits, eight_digits, marked_digit, marked_byte, marked_word, marked_long}
use Rattle.md_disasm.specs.Listed68.{are_absent, listed, next}
use Rattle.md_disasm.specs.Names68.{task_name}
use Rattle.md_disasm.specs.Operands68.{condition_name, index_text, is_listed, list_text, mode_text, number_text, operand_text, register_name, registers}
use Rattle.md_disasm.proofs.Lists68.{all_listed}
use Rattle.std.specs.List.{filter, join_by}
use Rattle.md_disasm.specs.Rows68.{Row68, is_turned, row_of, size_of, target}
use Rattle.md_disasm.specs.Texts68.{led, row_text, size_text}
use Rattle.md_disasm.specs.declared.operand68.Operand68.{Operand68}
use Rattle.md_disasm.specs.declared.operand68.Operand68.TheVariants as operands

task_short : (x : Task) → length (task_name x) ≤ 4
task_short tasks.Abcd = omega arith
task_short tasks.Add = omega arith
task_short tasks.Addx = omega arith
task_short tasks.And = omega arith
task_short tasks.Asl = omega arith
task_short tasks.Asr = omega arith
task_short tasks.Bchg = omega arith
task_short tasks.Bclr = omega arith
task_short tasks.Bset = omega arith
task_short tasks.Btst = omega arith
task_short tasks.Clr = omega arith
task_short tasks.Cmp = omega arith
task_short tasks.Eor = omega arith
task_short tasks.Ext = omega arith
task_short tasks.Lsl = omega arith
task_short tasks.Lsr = omega arith
task_short tasks.Move = omega arith
task_short tasks.Muls = omega arith
task_short tasks.Mulu = omega arith
task_short tasks.Nbcd = omega arith
task_short tasks.Neg = omega arith
task_short tasks.Negx = omega arith
task_short tasks.Not = omega arith
task_short tasks.Or = omega arith
task_short tasks.Rol = omega arith
task_short tasks.Ror = omega arith
task_short tasks.Roxl = omega arith
task_short tasks.Roxr = omega arith
task_short tasks.Sbcd = omega arith
task_short tasks.Sub = omega arith
task_short tasks.Subx = omega arith
task_short tasks.Swap = omega arith
task_short tasks.Tas = omega arith

condition_short : (x : Condition) → length (condition_name x) ≤ 2
condition_short conditions.True = omega arith
condition_short conditions.False = omega arith
condition_short conditions.High = omega arith
condition_short conditions.LowOrSame = omega arith
condition_short conditions.CarryClear = omega arith
condition_short conditions.CarrySet = omega arith
condition_short conditions.NotEqual = omega arith
condition_short conditions.Equal = omega arith
condition_short conditions.OverflowClear = omega arith
condition_short conditions.OverflowSet = omega arith
condition_short conditions.Plus = omega arith
condition_short conditions.Minus = omega arith
condition_short conditions.GreaterOrEqual = omega arith
condition_short conditions.LessThan = omega arith
condition_short conditions.GreaterThan = omega arith
condition_short conditions.LessOrEqual = omega arith

size_short : (x : Option Size) → length (size_text x) ≤ 2
size_short None = omega arith
size_short (Some Byte) = omega arith
size_short (Some Word) = omega arith
size_short (Some Long) = omega arith

digit_long : (before : List ℕ) (n : ℕ) (after : List ℕ) → length (marked_digit before n after) ≡ length before + 1 + length after
unfolding one_digit marked_digit
digit_long before n after = simp length-append (omega arith)

byte_long : (before : List ℕ) (n : ℕ) (after : List ℕ) → length (marked_byte before n after) ≡ length before + 2 + length after
unfolding one_digit two_digits marked_byte
byte_long before n after = simp length-append (omega arith)

word_long : (before : List ℕ) (n : ℕ) (after : List ℕ) → length (marked_word before n after) ≡ length before + 4 + length after
unfolding one_digit two_digits four_digits marked_word
word_long before n after = simp length-append (omega arith)

long_long : (before : List ℕ) (n : ℕ) (after : List ℕ) → length (marked_long before n after) ≡ length before + 8 + length after
unfolding one_digit two_digits four_digits eight_digits marked_long
long_long before n after = simp length-append (omega arith)

register_short : (n : ℕ) → length (register_name n) ≤ 2
unfolding one_digit marked_digit register_name
register_short n = elim (nat_lt n 8) as (λ (b : Bool). length (marked_digit (if b then codes "d" else codes "a") (n % 8) []) ≤ 2) [ true ↦ omega arith | false ↦ omega arith ]

index_short : (index : ℕ) (long : Bool) → length (index_text index long) ≤ 5
unfolding index_text
index_short index true = simp length-append (omega (arith, register_short index))
index_short index false = simp length-append (omega (arith, register_short index))

number_short : (size : Size) (n : ℕ) → length (number_text size n) ≤ 10
number_short Byte n = omega (arith, byte_long (codes "#$") (n % 0x100) [])
number_short Word n = omega (arith, word_long (codes "#$") (n % 0x1_0000) [])
number_short Long n = omega (arith, long_long (codes "#$") n [])

mode_short : (size : Size) (mode : Mode) → length (mode_text size mode) ≤ 12
mode_short size (modes.Data n) = omega (arith, digit_long (codes "d") n [])
mode_short size (modes.Address n) = omega (arith, digit_long (codes "a") n [])
mode_short size (modes.Indirect n) = omega (arith, digit_long (codes "(a") n (codes ")"))
mode_short size (modes.PostInc n) = omega (arith, digit_long (codes "(a") n (codes ")+"))
mode_short size (modes.PreDec n) = omega (arith, digit_long (codes "-(a") n (codes ")"))
mode_short size (modes.Displaced n displacement) =
    simp length-append (omega (arith, word_long (codes "$") displacement (codes "(a"), digit_long [] n (codes ")")))
mode_short size (modes.Indexed n index long displacement) =
    simp length-append (omega (arith, byte_long (codes "$") displacement (codes "(a"), digit_long [] n (codes ","), index_short index long))
mode_short size (modes.AbsShort address) = omega (arith, word_long (codes "$") address (codes ".w"))
mode_short size (modes.AbsLong address) = omega (arith, long_long (codes "$") address (codes ".l"))
mode_short size (modes.PcDisplaced displacement) = omega (arith, word_long (codes "$") displacement (codes "(pc)"))
mode_short size (modes.PcIndexed index long displacement) =
    simp length-append (omega (arith, byte_long (codes "$") displacement (codes "(pc,"), index_short index long))
mode_short size (modes.Immediate n) = omega (arith, number_short size n)

-- where no register is put there is no text, and else each has its slash but the first
record IsShort (absent : Bool) (n size : ℕ) : Type 0 where
  none : absent ≡ true → size ≡ 0
  some : absent ≡ false → size + 1 ≤ 3 * n

at_most : (absent : Bool) (size : ℕ) → IsShort absent 16 size → size ≤ 47
at_most true size all = omega (arith, all.none refl)
at_most false size all = omega (arith, all.some refl)

more : (absent here : Bool) (n register : ℕ) (text : List ℕ) → IsShort absent n (length text)
    → IsShort (absent && not here) (suc n) (length (text ++ (if here then next absent register else [])))
more true true n register text before = record {
  none = λ e. cc;
  some = λ e. simp length-append (omega (arith, before.none refl, register_short register));
}
more true false n register text before = record {
  none = λ e. simp length-append (omega (arith, before.none refl));
  some = λ e. cc;
}
more false true n register text before = record {
  none = λ e. cc;
  some = λ e. simp length-append (omega (arith, before.some refl, register_short register));
}
more false false n register text before = record {
  none = λ e. cc;
  some = λ e. simp length-append (omega (arith, before.some refl));
}

listed_short : (turned : Bool) (list n : ℕ) → IsShort (are_absent turned list n) n (length (listed turned list n))
unfolding are_absent listed
listed_short turned list zero = record { none = λ e. refl; some = λ e. cc }
listed_short turned list (suc n) = more (are_absent turned list n) (is_listed turned list n) n n (listed turned list n) (listed_short turned list n)

led_short : (mark : List ℕ) (operand : Operand68) → length (led mark operand) ≤ length mark + length (operand_text operand)
led_short mark operands.Nothing = omega arith
led_short mark (operands.Place x y) = omega (arith, length-append mark (operand_text (operands.Place x y)))
led_short mark (operands.Data x) = omega (arith, length-append mark (operand_text (operands.Data x)))
led_short mark (operands.Address x) = omega (arith, length-append mark (operand_text (operands.Address x)))
led_short mark (operands.Either x) = omega (arith, length-append mark (operand_text (operands.Either x)))
led_short mark operands.Sr = omega (arith, length-append mark (operand_text operands.Sr))
led_short mark operands.Ccr = omega (arith, length-append mark (operand_text operands.Ccr))
led_short mark operands.Usp = omega (arith, length-append mark (operand_text operands.Usp))
led_short mark (operands.Digit x) = omega (arith, length-append mark (operand_text (operands.Digit x)))
led_short mark (operands.Number x y) = omega (arith, length-append mark (operand_text (operands.Number x y)))
led_short mark (operands.Target x) = omega (arith, length-append mark (operand_text (operands.Target x)))
led_short mark (operands.Opcode x) = omega (arith, length-append mark (operand_text (operands.Opcode x)))
led_short mark (operands.Registers x y) = omega (arith, length-append mark (operand_text (operands.Registers x y)))

short : (name : List ℕ) (size : Option Size) (first second : Operand68) (n a b : ℕ) → length name ≤ n → length (operand_text first) ≤ a → length (operand_text second) ≤ b → n + a + b ≤ 64
    → length (row_text (record { name = name; size = size; first = first; second = second })) ≤ 68
short name size first second n a b named before after fits =
    simp length-append (omega (arith, named, before, after, fits, size_short size, led_short (codes " ") first, led_short (codes ",") second))

place_short : (size : Size) (mode : Mode) → length (operand_text (operands.Place size mode)) ≤ 12
place_short size mode = mode_short size mode

data_short : (n : ℕ) → length (operand_text (operands.Data n)) ≤ 2
data_short n = omega (arith, digit_long (codes "d") n [])

address_short : (n : ℕ) → length (operand_text (operands.Address n)) ≤ 2
address_short n = omega (arith, digit_long (codes "a") n [])

digit_short : (n : ℕ) → length (operand_text (operands.Digit n)) ≤ 3
digit_short n = omega (arith, digit_long (codes "#$") n [])

target_short : (n : ℕ) → length (operand_text (operands.Target n)) ≤ 9
target_short n = omega (arith, long_long (codes "$") n [])

opcode_short : (n : ℕ) → length (operand_text (operands.Opcode n)) ≤ 5
opcode_short n = omega (arith, word_long (codes "$") n [])

task_ended : (task : Task) (letter : ℕ) → length (task_name task ++ (letter ∷ [])) ≤ 5
task_ended task letter = simp length-append (omega (arith, task_short task))

list_short : (turned : Bool) (list : ℕ) → length (list_text turned list) ≤ 47
unfolding list_text
list_short turned list =
    elim (list == 0) as (λ (b : Bool). length (if b then codes "none" else join_by register_name (codes "/") (filter (is_listed turned list) registers)) ≤ 47) [
      | true ↦ omega arith
      | false ↦ rw (← all_listed turned list) (at_most (are_absent turned list 16) (length (listed turned list 16)) (listed_short turned list 16))
    ]

-- the text of every instruction
row_short : (op : Op) (at : ℕ) → length (row_text (row_of op at)) ≤ 68
row_short (ops.Immediate task size n mode) at = short (task_name task ++ codes "i") (Some size) (operands.Number size n) (operands.Place size mode) 5 10 12 (task_ended task 105) (number_short size n) (place_short size mode) (omega arith)
row_short (ops.CompareImmediate size n mode) at = short (codes "cmpi") (Some size) (operands.Number size n) (operands.Place size mode) 4 10 12 (omega arith) (number_short size n) (place_short size mode) (omega arith)
row_short (ops.ImmediateToCcr task n) at = short (task_name task ++ codes "i") None (operands.Number Byte n) operands.Ccr 5 10 3 (task_ended task 105) (number_short Byte n) (omega arith) (omega arith)
row_short (ops.ImmediateToSr task n) at = short (task_name task ++ codes "i") None (operands.Number Word n) operands.Sr 5 10 3 (task_ended task 105) (number_short Word n) (omega arith) (omega arith)
row_short (ops.BitByRegister task n mode) at = short (task_name task) None (operands.Data n) (operands.Place Byte mode) 4 2 12 (task_short task) (data_short n) (place_short Byte mode) (omega arith)
row_short (ops.BitByNumber task n mode) at = short (task_name task) None (operands.Number Byte n) (operands.Place Byte mode) 4 10 12 (task_short task) (number_short Byte n) (place_short Byte mode) (omega arith)
row_short (ops.MovepToRegister size x y displacement) at = short (codes "movep") (Some size) (operands.Place size (modes.Displaced y displacement)) (operands.Data x) 5 12 2 (omega arith) (place_short size (modes.Displaced y displacement)) (data_short x) (omega arith)
row_short (ops.MovepToMemory size x y displacement) at = short (codes "movep") (Some size) (operands.Data x) (operands.Place size (modes.Displaced y displacement)) 5 2 12 (omega arith) (data_short x) (place_short size (modes.Displaced y displacement)) (omega arith)
row_short (ops.Move size source place) at = short (codes "move") (Some size) (operands.Place size source) (operands.Place size place) 4 12 12 (omega arith) (place_short size source) (place_short size place) (omega arith)
row_short (ops.Movea size n mode) at = short (codes "movea") (Some size) (operands.Place size mode) (operands.Address n) 5 12 2 (omega arith) (place_short size mode) (address_short n) (omega arith)
row_short (ops.Unary task size mode) at = short (task_name task) (Some size) (operands.Place size mode) operands.Nothing 4 12 0 (task_short task) (place_short size mode) (omega arith) (omega arith)
row_short (ops.MoveFromSr mode) at = short (codes "move") None operands.Sr (operands.Place Word mode) 4 3 12 (omega arith) (omega arith) (place_short Word mode) (omega arith)
row_short (ops.MoveToCcr mode) at = short (codes "move") None (operands.Place Word mode) operands.Ccr 4 12 3 (omega arith) (place_short Word mode) (omega arith) (omega arith)
row_short (ops.MoveToSr mode) at = short (codes "move") None (operands.Place Word mode) operands.Sr 4 12 3 (omega arith) (place_short Word mode) (omega arith) (omega arith)
row_short (ops.Nbcd mode) at = short (codes "nbcd") None (operands.Place Byte mode) operands.Nothing 4 12 0 (omega arith) (place_short Byte mode) (omega arith) (omega arith)
row_short (ops.Swap n) at = short (codes "swap") None (operands.Data n) operands.Nothing 4 2 0 (omega arith) (data_short n) (omega arith) (omega arith)
row_short (ops.Ext size n) at = short (codes "ext") (Some size) (operands.Data n) operands.Nothing 3 2 0 (omega arith) (data_short n) (omega arith) (omega arith)
row_short (ops.Pea mode) at = short (codes "pea") None (operands.Place Long mode) operands.Nothing 3 12 0 (omega arith) (place_short Long mode) (omega arith) (omega arith)
row_short (ops.MovemToMemory size list mode) at = short (codes "movem") (Some size) (operands.Registers (is_turned mode) list) (operands.Place size mode) 5 47 12 (omega arith) (list_short (is_turned mode) list) (place_short size mode) (omega arith)
row_short (ops.MovemToRegisters size list mode) at = short (codes "movem") (Some size) (operands.Place size mode) (operands.Registers false list) 5 12 47 (omega arith) (place_short size mode) (list_short false list) (omega arith)
row_short (ops.Tst size mode) at = short (codes "tst") (Some size) (operands.Place size mode) operands.Nothing 3 12 0 (omega arith) (place_short size mode) (omega arith) (omega arith)
row_short (ops.Tas mode) at = short (codes "tas") None (operands.Place Byte mode) operands.Nothing 3 12 0 (omega arith) (place_short Byte mode) (omega arith) (omega arith)
row_short (ops.Trap n) at = short (codes "trap") None (operands.Digit n) operands.Nothing 4 3 0 (omega arith) (digit_short n) (omega arith) (omega arith)
row_short (ops.Link n displacement) at = short (codes "link") None (operands.Address n) (operands.Number Word displacement) 4 2 10 (omega arith) (address_short n) (number_short Word displacement) (omega arith)
row_short (ops.Unlk n) at = short (codes "unlk") None (operands.Address n) operands.Nothing 4 2 0 (omega arith) (address_short n) (omega arith) (omega arith)
row_short (ops.MoveToUsp n) at = short (codes "move") None (operands.Address n) operands.Usp 4 2 3 (omega arith) (address_short n) (omega arith) (omega arith)
row_short (ops.MoveFromUsp n) at = short (codes "move") None operands.Usp (operands.Address n) 4 3 2 (omega arith) (omega arith) (address_short n) (omega arith)
row_short ops.Reset at = short (codes "reset") None operands.Nothing operands.Nothing 5 0 0 (omega arith) (omega arith) (omega arith) (omega arith)
row_short ops.Nop at = short (codes "nop") None operands.Nothing operands.Nothing 3 0 0 (omega arith) (omega arith) (omega arith) (omega arith)
row_short (ops.Stop n) at = short (codes "stop") None (operands.Number Word n) operands.Nothing 4 10 0 (omega arith) (number_short Word n) (omega arith) (omega arith)
row_short ops.Rte at = short (codes "rte") None operands.Nothing operands.Nothing 3 0 0 (omega arith) (omega arith) (omega arith) (omega arith)
row_short ops.Rts at = short (codes "rts") None operands.Nothing operands.Nothing 3 0 0 (omega arith) (omega arith) (omega arith) (omega arith)
row_short ops.Trapv at = short (codes "trapv") None operands.Nothing operands.Nothing 5 0 0 (omega arith) (omega arith) (omega arith) (omega arith)
row_short ops.Rtr at = short (codes "rtr") None operands.Nothing operands.Nothing 3 0 0 (omega arith) (omega arith) (omega arith) (omega arith)
row_short (ops.Jsr mode) at = short (codes "jsr") None (operands.Place Long mode) operands.Nothing 3 12 0 (omega arith) (place_short Long mode) (omega arith) (omega arith)
row_short (ops.Jmp mode) at = short (codes "jmp") None (operands.Place Long mode) operands.Nothing 3 12 0 (omega arith) (place_short Long mode) (omega arith) (omega arith)
row_short (ops.Lea n mode) at = short (codes "lea") None (operands.Place Long mode) (operands.Address n) 3 12 2 (omega arith) (place_short Long mode) (address_short n) (omega arith)
row_short (ops.Chk n mode) at = short (codes "chk") None (operands.Place Word mode) (operands.Data n) 3 12 2 (omega arith) (place_short Word mode) (data_short n) (omega arith)
row_short (ops.Quick task size n mode) at = short (task_name task ++ codes "q") (Some size) (operands.Digit n) (operands.Place size mode) 5 3 12 (task_ended task 113) (digit_short n) (place_short size mode) (omega arith)
row_short (ops.Scc condition mode) at = short (codes "s" ++ condition_name condition) None (operands.Place Byte mode) operands.Nothing 3 12 0 (omega (arith, condition_short condition)) (place_short Byte mode) (omega arith) (omega arith)
row_short (ops.Dbcc condition n displacement) at = short (codes "db" ++ condition_name condition) None (operands.Data n) (operands.Target (target at (displacements.Word displacement))) 4 2 9 (omega (arith, condition_short condition)) (data_short n) (target_short (target at (displacements.Word displacement))) (omega arith)
row_short (ops.Bra displacement) at = short (codes "bra") (Some (size_of displacement)) (operands.Target (target at displacement)) operands.Nothing 3 9 0 (omega arith) (target_short (target at displacement)) (omega arith) (omega arith)
row_short (ops.Bsr displacement) at = short (codes "bsr") (Some (size_of displacement)) (operands.Target (target at displacement)) operands.Nothing 3 9 0 (omega arith) (target_short (target at displacement)) (omega arith) (omega arith)
row_short (ops.Bcc condition displacement) at = short (codes "b" ++ condition_name condition) (Some (size_of displacement)) (operands.Target (target at displacement)) operands.Nothing 3 9 0 (omega (arith, condition_short condition)) (target_short (target at displacement)) (omega arith) (omega arith)
row_short (ops.Moveq n value) at = short (codes "moveq") None (operands.Number Byte value) (operands.Data n) 5 10 2 (omega arith) (number_short Byte value) (data_short n) (omega arith)
row_short (ops.Divu n mode) at = short (codes "divu") None (operands.Place Word mode) (operands.Data n) 4 12 2 (omega arith) (place_short Word mode) (data_short n) (omega arith)
row_short (ops.Divs n mode) at = short (codes "divs") None (operands.Place Word mode) (operands.Data n) 4 12 2 (omega arith) (place_short Word mode) (data_short n) (omega arith)
row_short (ops.Decimal task source place) at = short (task_name task) None (operands.Place Byte source) (operands.Place Byte place) 4 12 12 (task_short task) (place_short Byte source) (place_short Byte place) (omega arith)
row_short (ops.Extended task size source place) at = short (task_name task) (Some size) (operands.Place size source) (operands.Place size place) 4 12 12 (task_short task) (place_short size source) (place_short size place) (omega arith)
row_short (ops.ToRegister task size n mode) at = short (task_name task) (Some size) (operands.Place size mode) (operands.Data n) 4 12 2 (task_short task) (place_short size mode) (data_short n) (omega arith)
row_short (ops.ToMemory task size n mode) at = short (task_name task) (Some size) (operands.Data n) (operands.Place size mode) 4 2 12 (task_short task) (data_short n) (place_short size mode) (omega arith)
row_short (ops.ToAddress task size n mode) at = short (task_name task ++ codes "a") (Some size) (operands.Place size mode) (operands.Address n) 5 12 2 (task_ended task 97) (place_short size mode) (address_short n) (omega arith)
row_short (ops.Cmp size n mode) at = short (codes "cmp") (Some size) (operands.Place size mode) (operands.Data n) 3 12 2 (omega arith) (place_short size mode) (data_short n) (omega arith)
row_short (ops.Cmpa size n mode) at = short (codes "cmpa") (Some size) (operands.Place size mode) (operands.Address n) 4 12 2 (omega arith) (place_short size mode) (address_short n) (omega arith)
row_short (ops.Eor size n mode) at = short (codes "eor") (Some size) (operands.Data n) (operands.Place size mode) 3 2 12 (omega arith) (data_short n) (place_short size mode) (omega arith)
row_short (ops.Cmpm size x y) at = short (codes "cmpm") (Some size) (operands.Place size (modes.PostInc y)) (operands.Place size (modes.PostInc x)) 4 12 12 (omega arith) (place_short size (modes.PostInc y)) (place_short size (modes.PostInc x)) (omega arith)
row_short (ops.Mulu n mode) at = short (codes "mulu") None (operands.Place Word mode) (operands.Data n) 4 12 2 (omega arith) (place_short Word mode) (data_short n) (omega arith)
row_short (ops.Muls n mode) at = short (codes "muls") None (operands.Place Word mode) (operands.Data n) 4 12 2 (omega arith) (place_short Word mode) (data_short n) (omega arith)
row_short (ops.Exg x y) at = short (codes "exg") None (operands.Either x) (operands.Either y) 3 2 2 (omega arith) (register_short x) (register_short y) (omega arith)
row_short (ops.ShiftByNumber task size n r) at = short (task_name task) (Some size) (operands.Digit n) (operands.Data r) 4 3 2 (task_short task) (digit_short n) (data_short r) (omega arith)
row_short (ops.ShiftByRegister task size n r) at = short (task_name task) (Some size) (operands.Data n) (operands.Data r) 4 2 2 (task_short task) (data_short n) (data_short r) (omega arith)
row_short (ops.ShiftMemory task mode) at = short (task_name task) None (operands.Place Word mode) operands.Nothing 4 12 0 (task_short task) (place_short Word mode) (omega arith) (omega arith)
row_short (ops.Illegal word) at = short (codes "dc.w") None (operands.Opcode word) operands.Nothing 4 5 0 (omega arith) (opcode_short word) (omega arith) (omega arith)
row_short (ops.LineA word) at = short (codes "dc.w") None (operands.Opcode word) operands.Nothing 4 5 0 (omega arith) (opcode_short word) (omega arith) (omega arith)
row_short (ops.LineF word) at = short (codes "dc.w") None (operands.Opcode word) operands.Nothing 4 5 0 (omega arith) (opcode_short word) (omega arith) (omega arith)

pub text_short : (bytes : List ℕ) (row : Row68) (op : Op) (at : ℕ) → bytes ≡ row_text row → row ≡ row_of op at → length bytes ≤ 68
text_short bytes row op at text picked = rw (text, picked) (row_short op at)
