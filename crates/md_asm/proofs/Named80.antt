-- The texts of the Z80's instructions are texts of a source's line, and begin with no directive's name.
use Rattle.std.proofs.Common.{◌≡◌, ℕ, Bool, true, false, ◌%◌, ◌/◌, List, [], ◌++◌, append-nil, refl, ap, ◌∙◌, codes}
use Rattle.std.specs.Str.{bytes_eq}
use Rattle.md_word.specs.declared.bit.Bit.{Bit}
use Rattle.md_word.specs.declared.bit.Bit.TheVariants as bits
use Rattle.md_word.specs.declared.task80.Task80.{Task80}
use Rattle.md_word.specs.declared.task80.Task80.TheVariants as tasks
use Rattle.z80_decode.specs.declared.block.Block.{Block}
use Rattle.z80_decode.specs.declared.block.Block.TheVariants as blocks
use Rattle.z80_decode.specs.declared.condition.Condition.{Condition}
use Rattle.z80_decode.specs.declared.condition.Condition.TheVariants as conditions
use Rattle.z80_decode.specs.declared.interrupt_mode.InterruptMode.{InterruptMode}
use Rattle.z80_decode.specs.declared.interrupt_mode.InterruptMode.TheVariants as interrupts
use Rattle.z80_decode.specs.declared.op80.Op80.{Op80}
use Rattle.z80_decode.specs.declared.op80.Op80.TheVariants as ops
use Rattle.z80_decode.specs.declared.pair.Pair.{Pair}
use Rattle.z80_decode.specs.declared.pair.Pair.TheVariants as pairs
use Rattle.z80_decode.specs.declared.place8.Place8.{Place8}
use Rattle.z80_decode.specs.declared.place8.Place8.TheVariants as places
use Rattle.z80_decode.specs.declared.special.Special.{Special}
use Rattle.z80_decode.specs.declared.special.Special.TheVariants as specials
use Rattle.md_disasm.specs.Digits.{two_digits, four_digits, marked_byte, marked_word}
use Rattle.md_disasm.specs.Names80.{task_name, block_load, block_compare, block_input, block_output}
use Rattle.md_disasm.specs.Operands80.{bit_name, bytes_text, condition_name, mode_name, operand_text, pair_name, place_text, special_name}
use Rattle.md_disasm.specs.Rows80.{Row80, arithmetic, change, load_extended, row_of, store_extended}
use Rattle.md_disasm.specs.Texts80.{led, row_text}
use Rattle.md_disasm.specs.declared.operand80.Operand80.{Operand80}
use Rattle.md_disasm.specs.declared.operand80.Operand80.TheVariants as operands
use Rattle.md_asm_text.specs.Tokens.{every, is_worded, split}
use Rattle.md_asm_text.specs.Bodies.{directive_of}
use Rattle.md_asm_text.specs.Lines.{line_of}
use Rattle.md_asm_text.specs.declared.body.Body.TheVariants as bodies
use Rattle.asm_z80.specs.Instruction.{is_db}
use Rattle.asm_z80.proofs.Sources.{is_none, led_by, row_opens}
use Rattle.md_asm.proofs.Line.{free, instruction_line, is_free, line_is}
use Rattle.md_asm.proofs.Solid.{IsText, four_solid, is_clean, marked, solid, solid_all, solid_more, text_more, text_solid, two_solid}

-- ---- operands

pair_solid : (pair : Pair) → solid (pair_name pair) ≡ true
pair_solid pairs.Bc = refl
pair_solid _ = refl

special_solid : (special : Special) → solid (special_name special) ≡ true
special_solid specials.Interrupt = refl
special_solid _ = refl

condition_solid : (condition : Condition) → solid (condition_name condition) ≡ true
condition_solid conditions.Zero = refl
condition_solid _ = refl

bit_solid : (bit : Bit) → solid (bit_name bit) ≡ true
bit_solid bits.Bit0 = refl
bit_solid _ = refl

interrupt_solid : (mode : InterruptMode) → solid (mode_name mode) ≡ true
interrupt_solid interrupts.Mode0 = refl
interrupt_solid _ = refl

place_solid : (place : Place8) → solid (place_text place) ≡ true
unfolding marked_byte marked_word
place_solid (places.AtIx by) = marked (codes "(ix+$") (two_digits by) (codes ")") refl (two_solid by) refl
place_solid (places.AtIy by) = marked (codes "(iy+$") (two_digits by) (codes ")") refl (two_solid by) refl
place_solid (places.At address) = marked (codes "($") (four_digits address) (codes ")") refl (four_solid address) refl
place_solid (places.Number n) = marked (codes "$") (two_digits n) [] refl (two_solid n) refl
place_solid _ = refl

at_pair_solid : (pair : Pair) → solid ((codes "(" ++ pair_name pair) ++ codes ")") ≡ true
at_pair_solid pair = marked (codes "(") (pair_name pair) (codes ")") refl (solid_all (pair_name pair) (pair_solid pair)) refl

bytes_solid : (first second third : ℕ) → solid (bytes_text first second third) ≡ true
unfolding marked_byte
bytes_solid first second third =
    solid_more (marked_byte (codes "$") first (codes ",") ++ marked_byte (codes "$") second (codes ",")) (marked_byte (codes "$") third [])
    (solid_more (marked_byte (codes "$") first (codes ",")) (marked_byte (codes "$") second (codes ","))
    (marked (codes "$") (two_digits first) (codes ",") refl (two_solid first) refl)
    (solid_all (marked_byte (codes "$") second (codes ",")) (marked (codes "$") (two_digits second) (codes ",") refl (two_solid second) refl)))
    (solid_all (marked_byte (codes "$") third []) (marked (codes "$") (two_digits third) [] refl (two_solid third) refl))

operand_solid : (o : Operand80) → is_none o ≡ false → solid (operand_text o) ≡ true
unfolding marked_byte marked_word
operand_solid operands.Nothing h = cc
operand_solid (operands.Place place) h = place_solid place
operand_solid (operands.Register pair) h = pair_solid pair
operand_solid (operands.AtRegister pair) h = at_pair_solid pair
operand_solid operands.OtherAf h = refl
operand_solid (operands.Special special) h = special_solid special
operand_solid (operands.Condition condition) h = condition_solid condition
operand_solid (operands.Bit bit) h = bit_solid bit
operand_solid (operands.Mode mode) h = interrupt_solid mode
operand_solid (operands.Byte n) h = marked (codes "$") (two_digits n) [] refl (two_solid n) refl
operand_solid (operands.Port n) h = marked (codes "($") (two_digits n) (codes ")") refl (two_solid n) refl
operand_solid operands.PortC h = refl
operand_solid (operands.Word n) h = marked (codes "$") (four_digits n) [] refl (four_solid n) refl
operand_solid (operands.AtWord address) h = marked (codes "($") (four_digits address) (codes ")") refl (four_solid address) refl
operand_solid (operands.ByteAndWord byte word) h = bytes_solid byte (word % 256) (word / 256)

-- ---- rows

led_text : (b : Bool) (xs mark : List ℕ) (o : Operand80) → is_none o ≡ b → IsText xs → every is_clean mark ≡ true → IsText (xs ++ led mark o)
led_text true xs mark o e is m = rw (led_by mark o, e, append-nil xs) is
led_text false xs mark o e is m = rw (led_by mark o, e) (text_more xs mark (operand_text o) is m (operand_solid o e))

row_is_text : (row : Row80) → solid row.name ≡ true → IsText (row_text row)
row_is_text row h =
    led_text (is_none row.second) (row.name ++ led (codes " ") row.first) (codes ",") row.second refl
    (led_text (is_none row.first) row.name (codes " ") row.first refl (text_solid row.name h) refl) refl

pub row_line : (row : Row80) → is_free row.name ≡ true → IsText (row_text row) × (line_of (row_text row) ≡ instruction_line (row_text row))
unfolding directive_of
row_line row h =
    let own = free row.name h in
    let text = row_is_text row own.solid_too in
    (text, line_is (row_text row) bodies.Instruction text (ap directive_of (row_opens row own.worded) ∙ own.body (split [] (led (codes " ") row.first ++ (led (codes ",") row.second ++ [])))))

-- ---- the names of instructions

task_free : (task : Task80) → is_free (task_name task) ≡ true
unfolding is_worded
task_free tasks.Add = refl
task_free _ = refl

arithmetic_free : (task : Task80) (source : Place8) → is_free (arithmetic task source).name ≡ true
unfolding is_worded
arithmetic_free tasks.Add source = refl
arithmetic_free tasks.Adc source = refl
arithmetic_free tasks.Sbc source = refl
arithmetic_free task source = task_free task

change_free : (task : Task80) (place : Place8) → is_free (change task place).name ≡ true
unfolding is_worded
change_free (tasks.Res bit) place = refl
change_free (tasks.Set bit) place = refl
change_free task place = task_free task

load_free : (steps : Block) → is_free (block_load steps) ≡ true
unfolding is_worded
load_free blocks.Increment = refl
load_free _ = refl

compare_free : (steps : Block) → is_free (block_compare steps) ≡ true
unfolding is_worded
compare_free blocks.Increment = refl
compare_free _ = refl

input_free : (steps : Block) → is_free (block_input steps) ≡ true
unfolding is_worded
input_free blocks.Increment = refl
input_free _ = refl

output_free : (steps : Block) → is_free (block_output steps) ≡ true
unfolding is_worded
output_free blocks.Increment = refl
output_free _ = refl

load_pair_free : (pair : Pair) (address : ℕ) → bytes_eq (load_extended pair address).name (codes "db") ≡ false → is_free (load_extended pair address).name ≡ true
unfolding is_worded
load_pair_free pairs.Hl address h = cc
load_pair_free _ address h = refl

store_pair_free : (address : ℕ) (pair : Pair) → bytes_eq (store_extended address pair).name (codes "db") ≡ false → is_free (store_extended address pair).name ≡ true
unfolding is_worded
store_pair_free address pairs.Hl h = cc
store_pair_free address _ h = refl

pub op_free : (op : Op80) (at : ℕ) → is_db op ≡ false → is_free (row_of op at).name ≡ true
unfolding is_worded
op_free (ops.LoadPairExtended pair address) at h = load_pair_free pair address h
op_free (ops.StorePairExtended address pair) at h = store_pair_free address pair h
op_free (ops.BlockLoad steps) at h = load_free steps
op_free (ops.BlockCompare steps) at h = compare_free steps
op_free (ops.BlockInput steps) at h = input_free steps
op_free (ops.BlockOutput steps) at h = output_free steps
op_free (ops.Arithmetic task source) at h = arithmetic_free task source
op_free (ops.Step task place) at h = task_free task
op_free (ops.Accumulator task) at h = task_free task
op_free (ops.Change task place) at h = change_free task place
op_free (ops.LonePrefix index) at h = cc
op_free (ops.Undefined opcode) at h = cc
op_free _ at h = refl

-- the text of each instruction of the Z80 is read as an instruction, without a label
pub op_line : (op : Op80) (at : ℕ) → is_db op ≡ false → IsText (row_text (row_of op at)) × (line_of (row_text (row_of op at)) ≡ instruction_line (row_text (row_of op at)))
op_line op at h = row_line (row_of op at) (op_free op at h)
