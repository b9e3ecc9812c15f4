-- How long the texts of the Z80 are.
use Rattle.std.proofs.Common.{ℕ, ◌≡◌, ◌≤◌, ◌+◌, List, length, length-append, arith, codes}
use Rattle.md_word.specs.declared.bit.Bit.{Bit}
use Rattle.md_word.specs.declared.bit.Bit.TheVariants.{Bit0, Bit1, Bit2, Bit3, Bit4, Bit5, Bit6, Bit7}
use Rattle.md_word.specs.declared.task80.Task80.{Task80}
use Rattle.md_word.specs.declared.task80.Task80.TheVariants as tasks
use Rattle.z80_decode.specs.declared.block.Block.{Block}
use Rattle.z80_decode.specs.declared.block.Block.TheVariants.{Increment, Decrement, IncrementRepeat, DecrementRepeat}
use Rattle.z80_decode.specs.declared.condition.Condition.{Condition}
use Rattle.z80_decode.specs.declared.condition.Condition.TheVariants.{NonZero, Zero, NonCarry, Carry, ParityOdd, ParityEven, Positive, Negative}
use Rattle.z80_decode.specs.declared.index.Index.{Index}
use Rattle.z80_decode.specs.declared.index.Index.TheVariants as indexes
use Rattle.z80_decode.specs.declared.interrupt_mode.InterruptMode.{InterruptMode}
use Rattle.z80_decode.specs.declared.interrupt_mode.InterruptMode.TheVariants.{Mode0, Mode1, Mode2}
use Rattle.z80_decode.specs.declared.op80.Op80.{Op80}
use Rattle.z80_decode.specs.declared.op80.Op80.TheVariants as ops
use Rattle.z80_decode.specs.declared.pair.Pair.{Pair}
use Rattle.z80_decode.specs.declared.pair.Pair.TheVariants as pairs
use Rattle.z80_decode.specs.declared.place8.Place8.{Place8}
use Rattle.z80_decode.specs.declared.place8.Place8.TheVariants as places
use Rattle.z80_decode.specs.declared.special.Special.{Special}
use Rattle.z80_decode.specs.declared.special.Special.TheVariants.{Interrupt, Refresh}
use Rattle.md_disasm.specs.Names80.{task_name, block_load, block_compare, block_input, block_output}
use Rattle.md_disasm.specs.Digits.{one_digit, two_digits, four_digits, marked_byte, marked_word}
use Rattle.md_disasm.specs.Operands80.{pair_name, special_name, condition_name, bit_name, mode_name, place_text, operand_text, register}
use Rattle.md_disasm.specs.Rows80.{Row80, none, one, two, target, row_of, arithmetic, change, load_extended, store_extended, lone_prefix}
use Rattle.md_disasm.specs.declared.operand80.Operand80.{Operand80}
use Rattle.md_disasm.specs.declared.operand80.Operand80.TheVariants as operands
use Rattle.md_disasm.specs.Texts80.{led, row_text}

task_short : (x : Task80) → length (task_name x) ≤ 4
task_short tasks.Add = omega arith
task_short tasks.Adc = omega arith
task_short tasks.Sub = omega arith
task_short tasks.Sbc = omega arith
task_short tasks.And = omega arith
task_short tasks.Xor = omega arith
task_short tasks.Or = omega arith
task_short tasks.Cp = omega arith
task_short tasks.Inc = omega arith
task_short tasks.Dec = omega arith
task_short tasks.Rlc = omega arith
task_short tasks.Rrc = omega arith
task_short tasks.Rl = omega arith
task_short tasks.Rr = omega arith
task_short tasks.Sla = omega arith
task_short tasks.Sra = omega arith
task_short tasks.Sll = omega arith
task_short tasks.Srl = omega arith
task_short (tasks.Test _) = omega arith
task_short (tasks.Res _) = omega arith
task_short (tasks.Set _) = omega arith
task_short tasks.Rlca = omega arith
task_short tasks.Rrca = omega arith
task_short tasks.Rla = omega arith
task_short tasks.Rra = omega arith
task_short tasks.Daa = omega arith
task_short tasks.Cpl = omega arith
task_short tasks.Neg = omega arith
task_short tasks.Scf = omega arith
task_short tasks.Ccf = omega arith
task_short tasks.Rld = omega arith
task_short tasks.Rrd = omega arith
task_short tasks.In = omega arith

block_load_short : (x : Block) → length (block_load x) ≤ 4
block_load_short Increment = omega arith
block_load_short Decrement = omega arith
block_load_short IncrementRepeat = omega arith
block_load_short DecrementRepeat = omega arith

block_compare_short : (x : Block) → length (block_compare x) ≤ 4
block_compare_short Increment = omega arith
block_compare_short Decrement = omega arith
block_compare_short IncrementRepeat = omega arith
block_compare_short DecrementRepeat = omega arith

block_input_short : (x : Block) → length (block_input x) ≤ 4
block_input_short Increment = omega arith
block_input_short Decrement = omega arith
block_input_short IncrementRepeat = omega arith
block_input_short DecrementRepeat = omega arith

block_output_short : (x : Block) → length (block_output x) ≤ 4
block_output_short Increment = omega arith
block_output_short Decrement = omega arith
block_output_short IncrementRepeat = omega arith
block_output_short DecrementRepeat = omega arith

place_short : (x : Place8) → length (place_text x) ≤ 8
unfolding one_digit two_digits four_digits marked_byte marked_word
place_short places.A = omega arith
place_short places.B = omega arith
place_short places.C = omega arith
place_short places.D = omega arith
place_short places.E = omega arith
place_short places.H = omega arith
place_short places.L = omega arith
place_short places.Ixh = omega arith
place_short places.Ixl = omega arith
place_short places.Iyh = omega arith
place_short places.Iyl = omega arith
place_short places.AtBc = omega arith
place_short places.AtDe = omega arith
place_short places.AtHl = omega arith
place_short (places.AtIx _) = omega arith
place_short (places.AtIy _) = omega arith
place_short (places.At _) = omega arith
place_short (places.Number _) = omega arith

pair_short : (x : Pair) → length (pair_name x) ≤ 2
pair_short pairs.Bc = omega arith
pair_short pairs.De = omega arith
pair_short pairs.Hl = omega arith
pair_short pairs.Sp = omega arith
pair_short pairs.Af = omega arith
pair_short pairs.Ix = omega arith
pair_short pairs.Iy = omega arith

special_short : (x : Special) → length (special_name x) ≤ 1
special_short Interrupt = omega arith
special_short Refresh = omega arith

condition_short : (x : Condition) → length (condition_name x) ≤ 2
condition_short NonZero = omega arith
condition_short Zero = omega arith
condition_short NonCarry = omega arith
condition_short Carry = omega arith
condition_short ParityOdd = omega arith
condition_short ParityEven = omega arith
condition_short Positive = omega arith
condition_short Negative = omega arith

bit_short : (x : Bit) → length (bit_name x) ≤ 1
bit_short Bit0 = omega arith
bit_short Bit1 = omega arith
bit_short Bit2 = omega arith
bit_short Bit3 = omega arith
bit_short Bit4 = omega arith
bit_short Bit5 = omega arith
bit_short Bit6 = omega arith
bit_short Bit7 = omega arith

mode_short : (x : InterruptMode) → length (mode_name x) ≤ 1
mode_short Mode0 = omega arith
mode_short Mode1 = omega arith
mode_short Mode2 = omega arith

byte_short : (n : ℕ) → length (operand_text (operands.Byte n)) ≤ 3
unfolding one_digit two_digits marked_byte
byte_short n = omega arith

port_short : (n : ℕ) → length (operand_text (operands.Port n)) ≤ 5
unfolding one_digit two_digits marked_byte
port_short n = omega arith

word_short : (n : ℕ) → length (operand_text (operands.Word n)) ≤ 5
unfolding one_digit two_digits four_digits marked_word
word_short n = omega arith

at_word_short : (n : ℕ) → length (operand_text (operands.AtWord n)) ≤ 7
unfolding one_digit two_digits four_digits marked_word
at_word_short n = omega arith

bytes_short : (byte word : ℕ) → length (operand_text (operands.ByteAndWord byte word)) ≤ 11
unfolding one_digit two_digits marked_byte
bytes_short byte word = omega arith

at_register_short : (x : Pair) → length (operand_text (operands.AtRegister x)) ≤ 4
at_register_short x = simp length-append (omega (arith, pair_short x))

led_short : (mark : List ℕ) (operand : Operand80) → length (led mark operand) ≤ length mark + length (operand_text operand)
led_short mark operands.Nothing = omega arith
led_short mark (operands.Place x) = omega (arith, length-append mark (operand_text (operands.Place x)))
led_short mark (operands.Register x) = omega (arith, length-append mark (operand_text (operands.Register x)))
led_short mark (operands.AtRegister x) = omega (arith, length-append mark (operand_text (operands.AtRegister x)))
led_short mark operands.OtherAf = omega (arith, length-append mark (operand_text operands.OtherAf))
led_short mark (operands.Special x) = omega (arith, length-append mark (operand_text (operands.Special x)))
led_short mark (operands.Condition x) = omega (arith, length-append mark (operand_text (operands.Condition x)))
led_short mark (operands.Bit x) = omega (arith, length-append mark (operand_text (operands.Bit x)))
led_short mark (operands.Mode x) = omega (arith, length-append mark (operand_text (operands.Mode x)))
led_short mark (operands.Byte x) = omega (arith, length-append mark (operand_text (operands.Byte x)))
led_short mark (operands.Port x) = omega (arith, length-append mark (operand_text (operands.Port x)))
led_short mark operands.PortC = omega (arith, length-append mark (operand_text operands.PortC))
led_short mark (operands.Word x) = omega (arith, length-append mark (operand_text (operands.Word x)))
led_short mark (operands.AtWord x) = omega (arith, length-append mark (operand_text (operands.AtWord x)))
led_short mark (operands.ByteAndWord x y) = omega (arith, length-append mark (operand_text (operands.ByteAndWord x y)))

two_short : (name : List ℕ) (first second : Operand80) (n a b : ℕ) → length name ≤ n → length (operand_text first) ≤ a → length (operand_text second) ≤ b → n + a + b ≤ 18
    → length (row_text (two name first second)) ≤ 20
two_short name first second n a b short before after fits =
    simp length-append (omega (arith, short, before, after, fits, led_short (codes " ") first, led_short (codes ",") second))

one_short : (name : List ℕ) (operand : Operand80) (n a : ℕ) → length name ≤ n → length (operand_text operand) ≤ a → n + a ≤ 18 → length (row_text (one name operand)) ≤ 20
one_short name operand n a short first fits = two_short name operand operands.Nothing n a 0 short first (omega arith) (omega arith)

none_short : (name : List ℕ) (n : ℕ) → length name ≤ n → n ≤ 18 → length (row_text (none name)) ≤ 20
none_short name n short fits = two_short name operands.Nothing operands.Nothing n 0 0 short (omega arith) (omega arith) (omega arith)

arithmetic_short : (task : Task80) (source : Place8) → length (row_text (arithmetic task source)) ≤ 20
arithmetic_short tasks.Add source = two_short (task_name tasks.Add) (operands.Place places.A) (operands.Place source) 3 1 8 (omega arith) (omega arith) (place_short source) (omega arith)
arithmetic_short tasks.Adc source = two_short (task_name tasks.Adc) (operands.Place places.A) (operands.Place source) 3 1 8 (omega arith) (omega arith) (place_short source) (omega arith)
arithmetic_short tasks.Sub source = one_short (task_name tasks.Sub) (operands.Place source) 4 8 (omega arith) (place_short source) (omega arith)
arithmetic_short tasks.Sbc source = two_short (task_name tasks.Sbc) (operands.Place places.A) (operands.Place source) 3 1 8 (omega arith) (omega arith) (place_short source) (omega arith)
arithmetic_short tasks.And source = one_short (task_name tasks.And) (operands.Place source) 4 8 (omega arith) (place_short source) (omega arith)
arithmetic_short tasks.Xor source = one_short (task_name tasks.Xor) (operands.Place source) 4 8 (omega arith) (place_short source) (omega arith)
arithmetic_short tasks.Or source = one_short (task_name tasks.Or) (operands.Place source) 4 8 (omega arith) (place_short source) (omega arith)
arithmetic_short tasks.Cp source = one_short (task_name tasks.Cp) (operands.Place source) 4 8 (omega arith) (place_short source) (omega arith)
arithmetic_short tasks.Inc source = one_short (task_name tasks.Inc) (operands.Place source) 4 8 (omega arith) (place_short source) (omega arith)
arithmetic_short tasks.Dec source = one_short (task_name tasks.Dec) (operands.Place source) 4 8 (omega arith) (place_short source) (omega arith)
arithmetic_short tasks.Rlc source = one_short (task_name tasks.Rlc) (operands.Place source) 4 8 (omega arith) (place_short source) (omega arith)
arithmetic_short tasks.Rrc source = one_short (task_name tasks.Rrc) (operands.Place source) 4 8 (omega arith) (place_short source) (omega arith)
arithmetic_short tasks.Rl source = one_short (task_name tasks.Rl) (operands.Place source) 4 8 (omega arith) (place_short source) (omega arith)
arithmetic_short tasks.Rr source = one_short (task_name tasks.Rr) (operands.Place source) 4 8 (omega arith) (place_short source) (omega arith)
arithmetic_short tasks.Sla source = one_short (task_name tasks.Sla) (operands.Place source) 4 8 (omega arith) (place_short source) (omega arith)
arithmetic_short tasks.Sra source = one_short (task_name tasks.Sra) (operands.Place source) 4 8 (omega arith) (place_short source) (omega arith)
arithmetic_short tasks.Sll source = one_short (task_name tasks.Sll) (operands.Place source) 4 8 (omega arith) (place_short source) (omega arith)
arithmetic_short tasks.Srl source = one_short (task_name tasks.Srl) (operands.Place source) 4 8 (omega arith) (place_short source) (omega arith)
arithmetic_short (tasks.Test bit) source = one_short (task_name (tasks.Test bit)) (operands.Place source) 4 8 (omega arith) (place_short source) (omega arith)
arithmetic_short (tasks.Res bit) source = one_short (task_name (tasks.Res bit)) (operands.Place source) 4 8 (omega arith) (place_short source) (omega arith)
arithmetic_short (tasks.Set bit) source = one_short (task_name (tasks.Set bit)) (operands.Place source) 4 8 (omega arith) (place_short source) (omega arith)
arithmetic_short tasks.Rlca source = one_short (task_name tasks.Rlca) (operands.Place source) 4 8 (omega arith) (place_short source) (omega arith)
arithmetic_short tasks.Rrca source = one_short (task_name tasks.Rrca) (operands.Place source) 4 8 (omega arith) (place_short source) (omega arith)
arithmetic_short tasks.Rla source = one_short (task_name tasks.Rla) (operands.Place source) 4 8 (omega arith) (place_short source) (omega arith)
arithmetic_short tasks.Rra source = one_short (task_name tasks.Rra) (operands.Place source) 4 8 (omega arith) (place_short source) (omega arith)
arithmetic_short tasks.Daa source = one_short (task_name tasks.Daa) (operands.Place source) 4 8 (omega arith) (place_short source) (omega arith)
arithmetic_short tasks.Cpl source = one_short (task_name tasks.Cpl) (operands.Place source) 4 8 (omega arith) (place_short source) (omega arith)
arithmetic_short tasks.Neg source = one_short (task_name tasks.Neg) (operands.Place source) 4 8 (omega arith) (place_short source) (omega arith)
arithmetic_short tasks.Scf source = one_short (task_name tasks.Scf) (operands.Place source) 4 8 (omega arith) (place_short source) (omega arith)
arithmetic_short tasks.Ccf source = one_short (task_name tasks.Ccf) (operands.Place source) 4 8 (omega arith) (place_short source) (omega arith)
arithmetic_short tasks.Rld source = one_short (task_name tasks.Rld) (operands.Place source) 4 8 (omega arith) (place_short source) (omega arith)
arithmetic_short tasks.Rrd source = one_short (task_name tasks.Rrd) (operands.Place source) 4 8 (omega arith) (place_short source) (omega arith)
arithmetic_short tasks.In source = one_short (task_name tasks.In) (operands.Place source) 4 8 (omega arith) (place_short source) (omega arith)

change_short : (task : Task80) (place : Place8) → length (row_text (change task place)) ≤ 20
change_short tasks.Add place = one_short (task_name tasks.Add) (operands.Place place) 4 8 (omega arith) (place_short place) (omega arith)
change_short tasks.Adc place = one_short (task_name tasks.Adc) (operands.Place place) 4 8 (omega arith) (place_short place) (omega arith)
change_short tasks.Sub place = one_short (task_name tasks.Sub) (operands.Place place) 4 8 (omega arith) (place_short place) (omega arith)
change_short tasks.Sbc place = one_short (task_name tasks.Sbc) (operands.Place place) 4 8 (omega arith) (place_short place) (omega arith)
change_short tasks.And place = one_short (task_name tasks.And) (operands.Place place) 4 8 (omega arith) (place_short place) (omega arith)
change_short tasks.Xor place = one_short (task_name tasks.Xor) (operands.Place place) 4 8 (omega arith) (place_short place) (omega arith)
change_short tasks.Or place = one_short (task_name tasks.Or) (operands.Place place) 4 8 (omega arith) (place_short place) (omega arith)
change_short tasks.Cp place = one_short (task_name tasks.Cp) (operands.Place place) 4 8 (omega arith) (place_short place) (omega arith)
change_short tasks.Inc place = one_short (task_name tasks.Inc) (operands.Place place) 4 8 (omega arith) (place_short place) (omega arith)
change_short tasks.Dec place = one_short (task_name tasks.Dec) (operands.Place place) 4 8 (omega arith) (place_short place) (omega arith)
change_short tasks.Rlc place = one_short (task_name tasks.Rlc) (operands.Place place) 4 8 (omega arith) (place_short place) (omega arith)
change_short tasks.Rrc place = one_short (task_name tasks.Rrc) (operands.Place place) 4 8 (omega arith) (place_short place) (omega arith)
change_short tasks.Rl place = one_short (task_name tasks.Rl) (operands.Place place) 4 8 (omega arith) (place_short place) (omega arith)
change_short tasks.Rr place = one_short (task_name tasks.Rr) (operands.Place place) 4 8 (omega arith) (place_short place) (omega arith)
change_short tasks.Sla place = one_short (task_name tasks.Sla) (operands.Place place) 4 8 (omega arith) (place_short place) (omega arith)
change_short tasks.Sra place = one_short (task_name tasks.Sra) (operands.Place place) 4 8 (omega arith) (place_short place) (omega arith)
change_short tasks.Sll place = one_short (task_name tasks.Sll) (operands.Place place) 4 8 (omega arith) (place_short place) (omega arith)
change_short tasks.Srl place = one_short (task_name tasks.Srl) (operands.Place place) 4 8 (omega arith) (place_short place) (omega arith)
change_short (tasks.Test bit) place = one_short (task_name (tasks.Test bit)) (operands.Place place) 4 8 (omega arith) (place_short place) (omega arith)
change_short (tasks.Res bit) place = two_short (codes "res") (operands.Bit bit) (operands.Place place) 3 1 8 (omega arith) (bit_short bit) (place_short place) (omega arith)
change_short (tasks.Set bit) place = two_short (codes "set") (operands.Bit bit) (operands.Place place) 3 1 8 (omega arith) (bit_short bit) (place_short place) (omega arith)
change_short tasks.Rlca place = one_short (task_name tasks.Rlca) (operands.Place place) 4 8 (omega arith) (place_short place) (omega arith)
change_short tasks.Rrca place = one_short (task_name tasks.Rrca) (operands.Place place) 4 8 (omega arith) (place_short place) (omega arith)
change_short tasks.Rla place = one_short (task_name tasks.Rla) (operands.Place place) 4 8 (omega arith) (place_short place) (omega arith)
change_short tasks.Rra place = one_short (task_name tasks.Rra) (operands.Place place) 4 8 (omega arith) (place_short place) (omega arith)
change_short tasks.Daa place = one_short (task_name tasks.Daa) (operands.Place place) 4 8 (omega arith) (place_short place) (omega arith)
change_short tasks.Cpl place = one_short (task_name tasks.Cpl) (operands.Place place) 4 8 (omega arith) (place_short place) (omega arith)
change_short tasks.Neg place = one_short (task_name tasks.Neg) (operands.Place place) 4 8 (omega arith) (place_short place) (omega arith)
change_short tasks.Scf place = one_short (task_name tasks.Scf) (operands.Place place) 4 8 (omega arith) (place_short place) (omega arith)
change_short tasks.Ccf place = one_short (task_name tasks.Ccf) (operands.Place place) 4 8 (omega arith) (place_short place) (omega arith)
change_short tasks.Rld place = one_short (task_name tasks.Rld) (operands.Place place) 4 8 (omega arith) (place_short place) (omega arith)
change_short tasks.Rrd place = one_short (task_name tasks.Rrd) (operands.Place place) 4 8 (omega arith) (place_short place) (omega arith)
change_short tasks.In place = one_short (task_name tasks.In) (operands.Place place) 4 8 (omega arith) (place_short place) (omega arith)

load_extended_short : (pair : Pair) (address : ℕ) → length (row_text (load_extended pair address)) ≤ 20
load_extended_short pairs.Bc address = two_short (codes "ld") (operands.Register pairs.Bc) (operands.AtWord address) 2 2 7 (omega arith) (pair_short pairs.Bc) (at_word_short address) (omega arith)
load_extended_short pairs.De address = two_short (codes "ld") (operands.Register pairs.De) (operands.AtWord address) 2 2 7 (omega arith) (pair_short pairs.De) (at_word_short address) (omega arith)
load_extended_short pairs.Hl address = two_short (codes "db") (operands.Byte 0xed) (operands.ByteAndWord 0x6b address) 2 3 11 (omega arith) (byte_short 0xed) (bytes_short 0x6b address) (omega arith)
load_extended_short pairs.Sp address = two_short (codes "ld") (operands.Register pairs.Sp) (operands.AtWord address) 2 2 7 (omega arith) (pair_short pairs.Sp) (at_word_short address) (omega arith)
load_extended_short pairs.Af address = two_short (codes "ld") (operands.Register pairs.Af) (operands.AtWord address) 2 2 7 (omega arith) (pair_short pairs.Af) (at_word_short address) (omega arith)
load_extended_short pairs.Ix address = two_short (codes "ld") (operands.Register pairs.Ix) (operands.AtWord address) 2 2 7 (omega arith) (pair_short pairs.Ix) (at_word_short address) (omega arith)
load_extended_short pairs.Iy address = two_short (codes "ld") (operands.Register pairs.Iy) (operands.AtWord address) 2 2 7 (omega arith) (pair_short pairs.Iy) (at_word_short address) (omega arith)

store_extended_short : (address : ℕ) (pair : Pair) → length (row_text (store_extended address pair)) ≤ 20
store_extended_short address pairs.Bc = two_short (codes "ld") (operands.AtWord address) (operands.Register pairs.Bc) 2 7 2 (omega arith) (at_word_short address) (pair_short pairs.Bc) (omega arith)
store_extended_short address pairs.De = two_short (codes "ld") (operands.AtWord address) (operands.Register pairs.De) 2 7 2 (omega arith) (at_word_short address) (pair_short pairs.De) (omega arith)
store_extended_short address pairs.Hl = two_short (codes "db") (operands.Byte 0xed) (operands.ByteAndWord 0x63 address) 2 3 11 (omega arith) (byte_short 0xed) (bytes_short 0x63 address) (omega arith)
store_extended_short address pairs.Sp = two_short (codes "ld") (operands.AtWord address) (operands.Register pairs.Sp) 2 7 2 (omega arith) (at_word_short address) (pair_short pairs.Sp) (omega arith)
store_extended_short address pairs.Af = two_short (codes "ld") (operands.AtWord address) (operands.Register pairs.Af) 2 7 2 (omega arith) (at_word_short address) (pair_short pairs.Af) (omega arith)
store_extended_short address pairs.Ix = two_short (codes "ld") (operands.AtWord address) (operands.Register pairs.Ix) 2 7 2 (omega arith) (at_word_short address) (pair_short pairs.Ix) (omega arith)
store_extended_short address pairs.Iy = two_short (codes "ld") (operands.AtWord address) (operands.Register pairs.Iy) 2 7 2 (omega arith) (at_word_short address) (pair_short pairs.Iy) (omega arith)

prefix_short : (index : Index) → length (operand_text (lone_prefix index)) ≤ 3
prefix_short indexes.Hl = omega arith
prefix_short indexes.Ix = byte_short 0xdd
prefix_short indexes.Iy = byte_short 0xfd

-- the text of every instruction
row_short : (op : Op80) (at : ℕ) → length (row_text (row_of op at)) ≤ 20
row_short (ops.Load place source) at = two_short (codes "ld") (operands.Place place) (operands.Place source) 2 8 8 (omega arith) (place_short place) (place_short source) (omega arith)
row_short (ops.LoadFromSpecial special) at = two_short (codes "ld") (operands.Place places.A) (operands.Special special) 2 8 1 (omega arith) (place_short places.A) (special_short special) (omega arith)
row_short (ops.LoadToSpecial special) at = two_short (codes "ld") (operands.Special special) (operands.Place places.A) 2 1 8 (omega arith) (special_short special) (place_short places.A) (omega arith)
row_short (ops.LoadPair pair n) at = two_short (codes "ld") (operands.Register pair) (operands.Word n) 2 2 5 (omega arith) (pair_short pair) (word_short n) (omega arith)
row_short (ops.LoadIndex index address) at = two_short (codes "ld") (operands.Register (register index)) (operands.AtWord address) 2 2 7 (omega arith) (pair_short (register index)) (at_word_short address) (omega arith)
row_short (ops.LoadPairExtended pair address) at = load_extended_short pair address
row_short (ops.StoreIndex address index) at = two_short (codes "ld") (operands.AtWord address) (operands.Register (register index)) 2 7 2 (omega arith) (at_word_short address) (pair_short (register index)) (omega arith)
row_short (ops.StorePairExtended address pair) at = store_extended_short address pair
row_short (ops.LoadStackPointer index) at = two_short (codes "ld") (operands.Register pairs.Sp) (operands.Register (register index)) 2 2 2 (omega arith) (pair_short pairs.Sp) (pair_short (register index)) (omega arith)
row_short (ops.Push pair) at = one_short (codes "push") (operands.Register pair) 4 2 (omega arith) (pair_short pair) (omega arith)
row_short (ops.Pop pair) at = one_short (codes "pop") (operands.Register pair) 3 2 (omega arith) (pair_short pair) (omega arith)
row_short ops.ExchangeDeHl at = two_short (codes "ex") (operands.Register pairs.De) (operands.Register pairs.Hl) 2 2 2 (omega arith) (pair_short pairs.De) (pair_short pairs.Hl) (omega arith)
row_short ops.ExchangeAf at = two_short (codes "ex") (operands.Register pairs.Af) operands.OtherAf 2 2 3 (omega arith) (pair_short pairs.Af) (omega arith) (omega arith)
row_short ops.ExchangeAll at = none_short (codes "exx") 3 (omega arith) (omega arith)
row_short (ops.ExchangeStack index) at = two_short (codes "ex") (operands.AtRegister pairs.Sp) (operands.Register (register index)) 2 4 2 (omega arith) (at_register_short pairs.Sp) (pair_short (register index)) (omega arith)
row_short (ops.BlockLoad steps) at = none_short (block_load steps) 4 (block_load_short steps) (omega arith)
row_short (ops.BlockCompare steps) at = none_short (block_compare steps) 4 (block_compare_short steps) (omega arith)
row_short (ops.Arithmetic task source) at = arithmetic_short task source
row_short (ops.Step task place) at = one_short (task_name task) (operands.Place place) 4 8 (task_short task) (place_short place) (omega arith)
row_short (ops.Accumulator task) at = none_short (task_name task) 4 (task_short task) (omega arith)
row_short ops.Negate at = none_short (codes "neg") 3 (omega arith) (omega arith)
row_short ops.Nop at = none_short (codes "nop") 3 (omega arith) (omega arith)
row_short ops.Halt at = none_short (codes "halt") 4 (omega arith) (omega arith)
row_short ops.DisableInterrupts at = none_short (codes "di") 2 (omega arith) (omega arith)
row_short ops.EnableInterrupts at = none_short (codes "ei") 2 (omega arith) (omega arith)
row_short (ops.SetInterruptMode mode) at = one_short (codes "im") (operands.Mode mode) 2 1 (omega arith) (mode_short mode) (omega arith)
row_short (ops.AddPair index pair) at = two_short (codes "add") (operands.Register (register index)) (operands.Register pair) 3 2 2 (omega arith) (pair_short (register index)) (pair_short pair) (omega arith)
row_short (ops.AddPairWithCarry pair) at = two_short (codes "adc") (operands.Register pairs.Hl) (operands.Register pair) 3 2 2 (omega arith) (pair_short pairs.Hl) (pair_short pair) (omega arith)
row_short (ops.SubtractPairWithCarry pair) at = two_short (codes "sbc") (operands.Register pairs.Hl) (operands.Register pair) 3 2 2 (omega arith) (pair_short pairs.Hl) (pair_short pair) (omega arith)
row_short (ops.IncrementPair pair) at = one_short (codes "inc") (operands.Register pair) 3 2 (omega arith) (pair_short pair) (omega arith)
row_short (ops.DecrementPair pair) at = one_short (codes "dec") (operands.Register pair) 3 2 (omega arith) (pair_short pair) (omega arith)
row_short (ops.Change task place) at = change_short task place
row_short (ops.TestBit bit place) at = two_short (codes "bit") (operands.Bit bit) (operands.Place place) 3 1 8 (omega arith) (bit_short bit) (place_short place) (omega arith)
row_short ops.RotateDigitsLeft at = none_short (codes "rld") 3 (omega arith) (omega arith)
row_short ops.RotateDigitsRight at = none_short (codes "rrd") 3 (omega arith) (omega arith)
row_short (ops.Jump address) at = one_short (codes "jp") (operands.Word address) 2 5 (omega arith) (word_short address) (omega arith)
row_short (ops.JumpIf condition address) at = two_short (codes "jp") (operands.Condition condition) (operands.Word address) 2 2 5 (omega arith) (condition_short condition) (word_short address) (omega arith)
row_short (ops.JumpRelative distance) at = one_short (codes "jr") (operands.Word (target at distance)) 2 5 (omega arith) (word_short (target at distance)) (omega arith)
row_short (ops.JumpRelativeIf condition distance) at = two_short (codes "jr") (operands.Condition condition) (operands.Word (target at distance)) 2 2 5 (omega arith) (condition_short condition) (word_short (target at distance)) (omega arith)
row_short (ops.JumpIndex index) at = one_short (codes "jp") (operands.AtRegister (register index)) 2 4 (omega arith) (at_register_short (register index)) (omega arith)
row_short (ops.DecrementAndJump distance) at = one_short (codes "djnz") (operands.Word (target at distance)) 4 5 (omega arith) (word_short (target at distance)) (omega arith)
row_short (ops.Call address) at = one_short (codes "call") (operands.Word address) 4 5 (omega arith) (word_short address) (omega arith)
row_short (ops.CallIf condition address) at = two_short (codes "call") (operands.Condition condition) (operands.Word address) 4 2 5 (omega arith) (condition_short condition) (word_short address) (omega arith)
row_short ops.Return at = none_short (codes "ret") 3 (omega arith) (omega arith)
row_short (ops.ReturnIf condition) at = one_short (codes "ret") (operands.Condition condition) 3 2 (omega arith) (condition_short condition) (omega arith)
row_short ops.ReturnFromInterrupt at = none_short (codes "reti") 4 (omega arith) (omega arith)
row_short ops.ReturnFromNonMaskable at = none_short (codes "retn") 4 (omega arith) (omega arith)
row_short (ops.Restart address) at = one_short (codes "rst") (operands.Byte address) 3 3 (omega arith) (byte_short address) (omega arith)
row_short (ops.InputAtNumber port) at = two_short (codes "in") (operands.Place places.A) (operands.Port port) 2 8 5 (omega arith) (place_short places.A) (port_short port) (omega arith)
row_short (ops.Input place) at = two_short (codes "in") (operands.Place place) operands.PortC 2 8 3 (omega arith) (place_short place) (omega arith) (omega arith)
row_short (ops.BlockInput steps) at = none_short (block_input steps) 4 (block_input_short steps) (omega arith)
row_short (ops.OutputAtNumber port) at = two_short (codes "out") (operands.Port port) (operands.Place places.A) 3 5 8 (omega arith) (port_short port) (place_short places.A) (omega arith)
row_short (ops.Output place) at = two_short (codes "out") operands.PortC (operands.Place place) 3 3 8 (omega arith) (omega arith) (place_short place) (omega arith)
row_short (ops.BlockOutput steps) at = none_short (block_output steps) 4 (block_output_short steps) (omega arith)
row_short (ops.LonePrefix index) at = one_short (codes "db") (lone_prefix index) 2 3 (omega arith) (prefix_short index) (omega arith)
row_short (ops.Undefined opcode) at = two_short (codes "db") (operands.Byte 0xed) (operands.Byte opcode) 2 3 3 (omega arith) (byte_short 0xed) (byte_short opcode) (omega arith)

pub text_short : (bytes : List ℕ) (row : Row80) (op : Op80) (at : ℕ) → bytes ≡ row_text row → row ≡ row_of op at → length bytes ≤ 20
text_short bytes row op at text picked = rw (text, picked) (row_short op at)
