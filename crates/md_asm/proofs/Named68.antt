-- The texts of the 68000's instructions are texts of a source's line, and begin with no directive's name.
use Rattle.std.proofs.Common.{◌≡◌, ℕ, Bool, true, false, ◌||◌, ◌==◌, ◌%◌, List, [], ◌∷◌, ◌++◌, nat_lt, append_assoc, append-nil, refl, ap, ◌∙◌, if◌then◌else◌, codes, Option, Some, None}
use Rattle.std.specs.List.{filter, flat_map, join_by}
use Rattle.md_word.specs.declared.mode.Mode.{Mode}
use Rattle.md_word.specs.declared.mode.Mode.TheVariants as modes
use Rattle.md_word.specs.declared.size.Size.{Size}
use Rattle.md_word.specs.declared.size.Size.TheVariants.{Byte, Word, Long}
use Rattle.md_word.specs.declared.task.Task.{Task}
use Rattle.md_word.specs.declared.task.Task.TheVariants as tasks
use Rattle.m68k_decode.specs.declared.condition.Condition.{Condition}
use Rattle.m68k_decode.specs.declared.condition.Condition.TheVariants as conditions
use Rattle.m68k_decode.specs.declared.op.Op.{Op}
use Rattle.m68k_decode.specs.declared.op.Op.TheVariants as ops
use Rattle.md_disasm.specs.Digits.{one_digit, two_digits, four_digits, eight_digits, marked_digit, marked_byte, marked_word, marked_long}
use Rattle.md_disasm.specs.Names68.{task_name}
use Rattle.md_disasm.specs.Operands68.{condition_name, index_text, is_listed, list_text, mode_text, number_text, operand_text, register_name, registers}
use Rattle.md_disasm.specs.Rows68.{Row68, row_of}
use Rattle.md_disasm.specs.Texts68.{led, row_text, size_text}
use Rattle.md_disasm.specs.declared.operand68.Operand68.{Operand68}
use Rattle.md_disasm.specs.declared.operand68.Operand68.TheVariants as operands
use Rattle.md_asm_text.specs.Tokens.{every, is_worded, opened, split}
use Rattle.md_asm_text.specs.Tokens as tokens
use Rattle.md_asm_text.proofs.Splits.{every_both, is_end, name_opens}
use Rattle.md_asm_text.specs.Bodies.{directive_of}
use Rattle.md_asm_text.specs.Lines.{line_of}
use Rattle.md_asm_text.specs.declared.body.Body.TheVariants as bodies
use Rattle.md_asm.proofs.Line.{free, instruction_line, is_free, line_is}
use Rattle.md_asm.proofs.Solid.{IsText, all_clean, eight_solid, four_solid, is_solid, is_clean, marked, one_solid, solid, solid_all, solid_more, text_more, text_solid, two_solid}
use Rattle.asm_m68k.proofs.Sources.{size_end, row_shape}

-- ---- operands

register_by : (b : Bool) (n : ℕ) → nat_lt n 8 ≡ b → solid (register_name n) ≡ true
unfolding register_name marked_digit
register_by true n is = rw is (marked (codes "d") (one_digit (n % 8)) [] refl (one_solid (n % 8)) refl)
register_by false n is = rw is (marked (codes "a") (one_digit (n % 8)) [] refl (one_solid (n % 8)) refl)

register_solid : (n : ℕ) → solid (register_name n) ≡ true
register_solid n = register_by (nat_lt n 8) n refl

index_solid : (index : ℕ) (long : Bool) → solid (index_text index long) ≡ true
unfolding index_text
index_solid index true = solid_more (register_name index) (codes ".l)") (register_solid index) refl
index_solid index false = solid_more (register_name index) (codes ".w)") (register_solid index) refl

number_solid : (size : Size) (n : ℕ) → solid (number_text size n) ≡ true
unfolding marked_byte marked_word marked_long
number_solid Byte n = marked (codes "#$") (two_digits (n % 256)) [] refl (two_solid (n % 256)) refl
number_solid Word n = marked (codes "#$") (four_digits (n % 65536)) [] refl (four_solid (n % 65536)) refl
number_solid Long n = marked (codes "#$") (eight_digits n) [] refl (eight_solid n) refl

digit_all : (n : ℕ) (back : List ℕ) → every is_solid back ≡ true → every is_solid (([] ++ one_digit n) ++ back) ≡ true
digit_all n back h = every_both is_solid (one_digit n) back (one_solid n) h

mode_solid : (size : Size) (mode : Mode) → solid (mode_text size mode) ≡ true
unfolding marked_digit marked_byte marked_word marked_long
mode_solid size (modes.Data n) = marked (codes "d") (one_digit n) [] refl (one_solid n) refl
mode_solid size (modes.Address n) = marked (codes "a") (one_digit n) [] refl (one_solid n) refl
mode_solid size (modes.Indirect n) = marked (codes "(a") (one_digit n) (codes ")") refl (one_solid n) refl
mode_solid size (modes.PostInc n) = marked (codes "(a") (one_digit n) (codes ")+") refl (one_solid n) refl
mode_solid size (modes.PreDec n) = marked (codes "-(a") (one_digit n) (codes ")") refl (one_solid n) refl
mode_solid size (modes.Displaced n by) =
    solid_more (marked_word (codes "$") by (codes "(a")) (marked_digit [] n (codes ")")) (marked (codes "$") (four_digits by) (codes "(a") refl (four_solid by) refl) (digit_all n (codes ")") refl)
mode_solid size (modes.Indexed n index long by) =
    solid_more (marked_byte (codes "$") by (codes "(a") ++ marked_digit [] n (codes ",")) (index_text index long)
    (solid_more (marked_byte (codes "$") by (codes "(a")) (marked_digit [] n (codes ",")) (marked (codes "$") (two_digits by) (codes "(a") refl (two_solid by) refl) (digit_all n (codes ",") refl))
    (solid_all (index_text index long) (index_solid index long))
mode_solid size (modes.AbsShort at) = marked (codes "$") (four_digits at) (codes ".w") refl (four_solid at) refl
mode_solid size (modes.AbsLong at) = marked (codes "$") (eight_digits at) (codes ".l") refl (eight_solid at) refl
mode_solid size (modes.PcDisplaced by) = marked (codes "$") (four_digits by) (codes "(pc)") refl (four_solid by) refl
mode_solid size (modes.PcIndexed index long by) =
    solid_more (marked_byte (codes "$") by (codes "(pc,")) (index_text index long) (marked (codes "$") (two_digits by) (codes "(pc,") refl (two_solid by) refl) (solid_all (index_text index long) (index_solid index long))
mode_solid size (modes.Immediate n) = number_solid size n

joined_rest : (ns : List ℕ) → every is_solid (flat_map (λ (z : ℕ). codes "/" ++ register_name z) ns) ≡ true
joined_rest [] = refl
joined_rest (n ∷ ns) = every_both is_solid (codes "/" ++ register_name n) _ (every_both is_solid (codes "/") (register_name n) refl (solid_all (register_name n) (register_solid n))) (joined_rest ns)

joined_all : (ns : List ℕ) → every is_solid (join_by register_name (codes "/") ns) ≡ true
joined_all [] = refl
joined_all (n ∷ ns) = every_both is_solid (register_name n) _ (solid_all (register_name n) (register_solid n)) (joined_rest ns)

list_by : (b : Bool) (turned : Bool) (list : ℕ) → (list == 0) ≡ b → every is_solid (list_text turned list) ≡ true
unfolding list_text
list_by true turned list is = rw is refl
list_by false turned list is = rw is (joined_all (filter (is_listed turned list) registers))

-- an operand that is there, and no list
abbrev pub is_some : Operand68 → Bool
is_some operands.Nothing = false
is_some (operands.Registers turned list) = false
is_some o = true

operand_solid : (o : Operand68) → is_some o ≡ true → solid (operand_text o) ≡ true
unfolding marked_digit marked_word marked_long
operand_solid operands.Nothing h = cc
operand_solid (operands.Place size mode) h = mode_solid size mode
operand_solid (operands.Data n) h = marked (codes "d") (one_digit n) [] refl (one_solid n) refl
operand_solid (operands.Address n) h = marked (codes "a") (one_digit n) [] refl (one_solid n) refl
operand_solid (operands.Either n) h = register_solid n
operand_solid operands.Sr h = refl
operand_solid operands.Ccr h = refl
operand_solid operands.Usp h = refl
operand_solid (operands.Digit n) h = marked (codes "#$") (one_digit n) [] refl (one_solid n) refl
operand_solid (operands.Number size n) h = number_solid size n
operand_solid (operands.Target address) h = marked (codes "$") (eight_digits address) [] refl (eight_solid address) refl
operand_solid (operands.Opcode word) h = marked (codes "$") (four_digits word) [] refl (four_solid word) refl
operand_solid (operands.Registers turned list) h = cc

operand_all : (o : Operand68) → every is_solid (operand_text o) ≡ true
operand_all operands.Nothing = refl
operand_all (operands.Registers turned list) = list_by (list == 0) turned list refl
operand_all o = solid_all (operand_text o) (operand_solid o refl)

-- ---- rows

abbrev pub is_none : Operand68 → Bool
is_none operands.Nothing = true
is_none o = false

led_by : (mark : List ℕ) (o : Operand68) → led mark o ≡ (if is_none o then [] else mark ++ operand_text o)
led_by mark operands.Nothing = refl
led_by mark o = refl

-- a list is before another operand
abbrev pub is_shaped : Operand68 → Operand68 → Bool
is_shaped first second = if is_none second then is_none first || is_some first else true

size_all : (size : Option Size) → every is_solid (size_text size) ≡ true
size_all None = refl
size_all (Some Byte) = refl
size_all (Some Word) = refl
size_all (Some Long) = refl

led_clean : (o : Operand68) → every is_clean (led (codes " ") o) ≡ true
led_clean operands.Nothing = refl
led_clean o = every_both is_clean (codes " ") (operand_text o) refl (all_clean (operand_text o) (operand_all o))

row_by : (none other : Bool) (row : Row68) → is_none row.first ≡ none → is_none row.second ≡ other → solid row.name ≡ true → is_shaped row.first row.second ≡ true → IsText (row_text row)
row_by true true row e o h s =
    rw (led_by (codes " ") row.first, led_by (codes ",") row.second, e, o, append-nil (row.name ++ size_text row.size), append-nil (row.name ++ size_text row.size))
    (text_solid (row.name ++ size_text row.size) (solid_more row.name (size_text row.size) h (size_all row.size)))
row_by false true row e o h s =
    let some : is_some row.first ≡ true = rw (o, e) at s in
    rw (led_by (codes " ") row.first, led_by (codes ",") row.second, e, o, append-nil ((row.name ++ size_text row.size) ++ (codes " " ++ operand_text row.first)))
    (text_more (row.name ++ size_text row.size) (codes " ") (operand_text row.first)
    (text_solid (row.name ++ size_text row.size) (solid_more row.name (size_text row.size) h (size_all row.size))) refl (operand_solid row.first some))
row_by none false row e o h s =
    rw (led_by (codes ",") row.second, o, append_assoc (row.name ++ size_text row.size) (led (codes " ") row.first) (codes "," ++ operand_text row.second))
    (text_more (row.name ++ size_text row.size) (led (codes " ") row.first) (codes "," ++ operand_text row.second)
    (text_solid (row.name ++ size_text row.size) (solid_more row.name (size_text row.size) h (size_all row.size))) (led_clean row.first)
    (solid_more (codes ",") (operand_text row.second) refl (operand_all row.second)))

pub row_is_text : (row : Row68) → solid row.name ≡ true → is_shaped row.first row.second ≡ true → IsText (row_text row)
row_is_text row h s = row_by (is_none row.first) (is_none row.second) row refl refl h s

-- ---- the first word

led_end : (b : Bool) (c : ℕ) (o : Operand68) (e : List ℕ) → is_none o ≡ b → is_worded c ≡ false → is_end e ≡ true → is_end (led (c ∷ []) o ++ e) ≡ true
led_end true c o e none is ends = rw (led_by (c ∷ []) o, none) ends
led_end false c o e none is ends = rw (led_by (c ∷ []) o, none, is) refl

row_opens : (row : Row68) → every is_worded row.name ≡ true
    → tokens.tokens (row_text row) ≡ tokens.Word row.name ∷ split [] (size_text row.size ++ (led (codes " ") row.first ++ (led (codes ",") row.second ++ [])))
unfolding is_worded
row_opens row worded =
    let last = led (codes ",") row.second ++ [] in
    let end_2 : is_end last ≡ true = led_end (is_none row.second) 44 row.second [] refl refl refl in
    let end_1 : is_end (led (codes " ") row.first ++ last) ≡ true = led_end (is_none row.first) 32 row.first last refl refl end_2 in
    ap (opened []) (row_shape row.name (size_text row.size) (led (codes " ") row.first) (led (codes ",") row.second))
    ∙ name_opens row.name (size_text row.size ++ (led (codes " ") row.first ++ last)) worded (size_end row.size _ end_1)

-- a row is a line of an instruction
pub row_line : (row : Row68) → is_free row.name ≡ true → is_shaped row.first row.second ≡ true → IsText (row_text row) × (line_of (row_text row) ≡ instruction_line (row_text row))
unfolding directive_of
row_line row h s =
    let own = free row.name h in
    let text = row_is_text row own.solid_too s in
    (text, line_is (row_text row) bodies.Instruction text (ap directive_of (row_opens row own.worded) ∙ own.body (split [] (size_text row.size ++ (led (codes " ") row.first ++ (led (codes ",") row.second ++ []))))))

-- ---- the names of instructions

task_free : (task : Task) → is_free (task_name task) ≡ true
unfolding is_worded
task_free tasks.Abcd = refl
task_free _ = refl

task_i_free : (task : Task) → is_free (task_name task ++ codes "i") ≡ true
unfolding is_worded
task_i_free tasks.Abcd = refl
task_i_free _ = refl

task_q_free : (task : Task) → is_free (task_name task ++ codes "q") ≡ true
unfolding is_worded
task_q_free tasks.Abcd = refl
task_q_free _ = refl

task_a_free : (task : Task) → is_free (task_name task ++ codes "a") ≡ true
unfolding is_worded
task_a_free tasks.Abcd = refl
task_a_free _ = refl

s_free : (condition : Condition) → is_free (codes "s" ++ condition_name condition) ≡ true
unfolding is_worded
s_free conditions.True = refl
s_free _ = refl

db_free : (condition : Condition) → is_free (codes "db" ++ condition_name condition) ≡ true
unfolding is_worded
db_free conditions.True = refl
db_free _ = refl

b_free : (condition : Condition) → is_free (codes "b" ++ condition_name condition) ≡ true
unfolding is_worded
b_free conditions.True = refl
b_free _ = refl

-- what is no instruction has a directive's text
abbrev pub is_word : Op → Bool
is_word (ops.Illegal word) = true
is_word (ops.LineA word) = true
is_word (ops.LineF word) = true
is_word op = false

pub op_free : (op : Op) (at : ℕ) → is_word op ≡ false → is_free (row_of op at).name ≡ true
unfolding is_worded
op_free (ops.Immediate task size n mode) at h = task_i_free task
op_free (ops.ImmediateToCcr task n) at h = task_i_free task
op_free (ops.ImmediateToSr task n) at h = task_i_free task
op_free (ops.BitByRegister task n mode) at h = task_free task
op_free (ops.BitByNumber task n mode) at h = task_free task
op_free (ops.Unary task size mode) at h = task_free task
op_free (ops.Quick task size n mode) at h = task_q_free task
op_free (ops.Scc condition mode) at h = s_free condition
op_free (ops.Dbcc condition n displacement) at h = db_free condition
op_free (ops.Bcc condition displacement) at h = b_free condition
op_free (ops.Decimal task source place) at h = task_free task
op_free (ops.Extended task size source place) at h = task_free task
op_free (ops.ToRegister task size n mode) at h = task_free task
op_free (ops.ToMemory task size n mode) at h = task_free task
op_free (ops.ToAddress task size n mode) at h = task_a_free task
op_free (ops.ShiftByNumber task size n r) at h = task_free task
op_free (ops.ShiftByRegister task size n r) at h = task_free task
op_free (ops.ShiftMemory task mode) at h = task_free task
op_free (ops.Illegal word) at h = cc
op_free (ops.LineA word) at h = cc
op_free (ops.LineF word) at h = cc
op_free _ at h = refl

op_shaped : (op : Op) (at : ℕ) → is_shaped (row_of op at).first (row_of op at).second ≡ true
op_shaped ops.Nop at = refl
op_shaped _ at = refl

-- the text of each instruction of the 68000 is read as an instruction, without a label
pub op_line : (op : Op) (at : ℕ) → is_word op ≡ false → IsText (row_text (row_of op at)) × (line_of (row_text (row_of op at)) ≡ instruction_line (row_text (row_of op at)))
op_line op at h = row_line (row_of op at) (op_free op at h) (op_shaped op at)
