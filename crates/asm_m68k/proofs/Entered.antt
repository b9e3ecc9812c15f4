-- Every word that has a row, but ILLEGAL, has what its row needs: so has each choice of the nested cases.
use Rattle.std.proofs.Common.{◌≡◌, ℕ, ◌<◌, Bool, true, false, ◌&&◌, Option, Some, None, refl, rules, if◌then◌else◌}
use Rattle.std.proofs.lemmas.Bool.{and_parts}
use Rattle.md_word.specs.declared.task.Task.{Task}
use Rattle.md_word.specs.declared.task.Task.TheVariants as tasks
use Rattle.md_word.specs.declared.size.Size.TheVariants.{Word, Long}
use Rattle.m68k_decode.specs.Addressing.{control_or_postincrement, low_mode_number, memory_alterable}
use Rattle.m68k_decode.specs.Nested.{nested, when, group_0, by_register, by_number, to_status, immediates, group_1, group_2_or_3, group_4, with_register, with_status, unaries, tests, group_48, group_4e, controls, group_5, group_6, group_7, group_8, sums, group_b, group_c, exchanges, group_e}
use Rattle.m68k_decode.specs.Rows as rows
use Rattle.m68k_decode.specs.Rows.{Row}
use Rattle.asm_m68k.specs.Table.{IsBit, IsDecimal, IsEntered, IsEnteredWord, IsExtended, IsImmediate, IsInstruction, IsLogic, IsQuick, IsSum, IsUnary}

abbrev immediate : Task → Bool
immediate tasks.Or = true
immediate tasks.And = true
immediate tasks.Sub = true
immediate tasks.Add = true
immediate tasks.Eor = true
immediate task = false

immediate_is : (task : Task) → immediate task ≡ true → IsImmediate task
immediate_is tasks.Or h = tt
immediate_is tasks.And h = tt
immediate_is tasks.Sub h = tt
immediate_is tasks.Add h = tt
immediate_is tasks.Eor h = tt
immediate_is task h = absurd (cc)

abbrev logic : Task → Bool
logic tasks.Or = true
logic tasks.And = true
logic tasks.Eor = true
logic task = false

logic_is : (task : Task) → logic task ≡ true → IsLogic task
logic_is tasks.Or h = tt
logic_is tasks.And h = tt
logic_is tasks.Eor h = tt
logic_is task h = absurd (cc)

abbrev bit : Task → Bool
bit tasks.Btst = true
bit tasks.Bchg = true
bit tasks.Bclr = true
bit tasks.Bset = true
bit task = false

bit_is : (task : Task) → bit task ≡ true → IsBit task
bit_is tasks.Btst h = tt
bit_is tasks.Bchg h = tt
bit_is tasks.Bclr h = tt
bit_is tasks.Bset h = tt
bit_is task h = absurd (cc)

abbrev unary : Task → Bool
unary tasks.Negx = true
unary tasks.Clr = true
unary tasks.Neg = true
unary tasks.Not = true
unary task = false

unary_is : (task : Task) → unary task ≡ true → IsUnary task
unary_is tasks.Negx h = tt
unary_is tasks.Clr h = tt
unary_is tasks.Neg h = tt
unary_is tasks.Not h = tt
unary_is task h = absurd (cc)

abbrev quick : Task → Bool
quick tasks.Add = true
quick tasks.Sub = true
quick task = false

quick_is : (task : Task) → quick task ≡ true → IsQuick task
quick_is tasks.Add h = tt
quick_is tasks.Sub h = tt
quick_is task h = absurd (cc)

abbrev decimal : Task → Bool
decimal tasks.Abcd = true
decimal tasks.Sbcd = true
decimal task = false

decimal_is : (task : Task) → decimal task ≡ true → IsDecimal task
decimal_is tasks.Abcd h = tt
decimal_is tasks.Sbcd h = tt
decimal_is task h = absurd (cc)

abbrev extended : Task → Bool
extended tasks.Addx = true
extended tasks.Subx = true
extended task = false

extended_is : (task : Task) → extended task ≡ true → IsExtended task
extended_is tasks.Addx h = tt
extended_is tasks.Subx h = tt
extended_is task h = absurd (cc)

abbrev sum : Task → Bool
sum tasks.Or = true
sum tasks.Sub = true
sum tasks.And = true
sum tasks.Add = true
sum task = false

sum_is : (task : Task) → sum task ≡ true → IsSum task
sum_is tasks.Or h = tt
sum_is tasks.Sub h = tt
sum_is tasks.And h = tt
sum_is tasks.Add h = tt
sum_is task h = absurd (cc)

abbrev holds : ℕ → Row → Bool
holds w (rows.Immediate task) = immediate task
holds w (rows.ImmediateToCcr task) = logic task
holds w (rows.ImmediateToSr task) = logic task
holds w (rows.BitByRegister task) = bit task
holds w (rows.BitByNumber task) = bit task
holds w (rows.Unary task) = unary task
holds w (rows.Quick task) = quick task
holds w (rows.Decimal task) = decimal task
holds w (rows.Extended task) = extended task
holds w (rows.ToRegister task) = sum task
holds w (rows.ToMemory task) = sum task && memory_alterable (low_mode_number w)
holds w (rows.ToAddress task) = quick task
holds w rows.MovemToRegisters = control_or_postincrement (low_mode_number w)
holds w row = true

abbrev found_holds : ℕ → Option Row → Bool
found_holds w None = true
found_holds w (Some row) = holds w row

-- each choice of the nested cases has it
either : (w : ℕ) (b : Bool) (x y : Option Row) → found_holds w x ≡ true → found_holds w y ≡ true → found_holds w (if b then x else y) ≡ true
either w true x y h k = h
either w false x y h k = k

-- a row that has it, whatever its mode
allowed : (w : ℕ) (b : Bool) (row : Row) → holds w row ≡ true → found_holds w (when b row) ≡ true
allowed w true row h = h
allowed w false row h = refl

-- one that has it by its mode
to_memory : (w : ℕ) (b : Bool) (own : Task) → memory_alterable (low_mode_number w) ≡ b → sum own ≡ true → found_holds w (when b (rows.ToMemory own)) ≡ true
to_memory w true own is h = rw (is, h) refl
to_memory w false own is h = refl

list_loaded : (w : ℕ) (b : Bool) → control_or_postincrement (low_mode_number w) ≡ b → found_holds w (when b rows.MovemToRegisters) ≡ true
list_loaded w true is = is
list_loaded w false is = refl

all_0 : (w : ℕ) → found_holds w (group_0 w) ≡ true
unfolding group_0 by_register by_number to_status immediates
all_0 w = search (rules, either, allowed) depth 16

all_1 : (w : ℕ) → found_holds w (group_1 w) ≡ true
unfolding group_1
all_1 w = search (rules, allowed) depth 10

all_2 : (w : ℕ) → found_holds w (group_2_or_3 Long w) ≡ true
unfolding group_2_or_3
all_2 w = search (rules, either, allowed) depth 10

all_3 : (w : ℕ) → found_holds w (group_2_or_3 Word w) ≡ true
unfolding group_2_or_3
all_3 w = search (rules, either, allowed) depth 10

all_4 : (w : ℕ) → found_holds w (group_4 w) ≡ true
unfolding group_4 with_register with_status unaries tests group_48 group_4e controls
all_4 w = search (rules, either, allowed, list_loaded) depth 16

all_5 : (w : ℕ) → found_holds w (group_5 w) ≡ true
unfolding group_5
all_5 w = search (rules, either, allowed) depth 10

all_6 : (w : ℕ) → found_holds w (group_6 w) ≡ true
unfolding group_6
all_6 w = search (rules, either) depth 10

all_7 : (w : ℕ) → found_holds w (group_7 w) ≡ true
unfolding group_7
all_7 w = search (rules, allowed) depth 10

all_8 : (w : ℕ) → found_holds w (group_8 w) ≡ true
unfolding group_8
all_8 w = search (rules, either, allowed, to_memory) depth 10

all_9 : (w : ℕ) → found_holds w (sums tasks.Sub tasks.Subx w) ≡ true
unfolding sums
all_9 w = search (rules, either, allowed, to_memory) depth 10

all_b : (w : ℕ) → found_holds w (group_b w) ≡ true
unfolding group_b
all_b w = search (rules, either, allowed) depth 10

all_c : (w : ℕ) → found_holds w (group_c w) ≡ true
unfolding group_c exchanges
all_c w = search (rules, either, allowed, to_memory) depth 10

all_d : (w : ℕ) → found_holds w (sums tasks.Add tasks.Addx w) ≡ true
unfolding sums
all_d w = search (rules, either, allowed, to_memory) depth 10

all_e : (w : ℕ) → found_holds w (group_e w) ≡ true
unfolding group_e
all_e w = search (rules, either, allowed) depth 10

all_hold : (w : ℕ) → found_holds w (nested w) ≡ true
unfolding nested
all_hold w = search (rules, either, all_0, all_1, all_2, all_3, all_4, all_5, all_6, all_7, all_8, all_9, all_b, all_c, all_d, all_e) depth 20

row_is : (w : ℕ) (row : Row) → holds w row ≡ true → IsInstruction (Some row) → IsEntered row w
row_is w (rows.Immediate task) h i = immediate_is task h
row_is w (rows.ImmediateToCcr task) h i = logic_is task h
row_is w (rows.ImmediateToSr task) h i = logic_is task h
row_is w (rows.BitByRegister task) h i = bit_is task h
row_is w (rows.BitByNumber task) h i = bit_is task h
row_is w (rows.Unary task) h i = unary_is task h
row_is w (rows.Quick task) h i = quick_is task h
row_is w (rows.Decimal task) h i = decimal_is task h
row_is w (rows.Extended task) h i = extended_is task h
row_is w (rows.ToRegister task) h i = sum_is task h
row_is w (rows.ToMemory task) h i = let parts = and_parts (sum task) (memory_alterable (low_mode_number w)) h in (sum_is task parts.0, parts.1)
row_is w (rows.ToAddress task) h i = quick_is task h
row_is w rows.MovemToRegisters h i = h
row_is w rows.Illegal h i = i
row_is w row h i = tt

found_is : (w : ℕ) (found : Option Row) → found_holds w found ≡ true → IsInstruction found → IsEnteredWord w found
found_is w None h i = i
found_is w (Some row) h i = row_is w row h i

pub every_word : (w : ℕ) → w < 65536 → IsInstruction (nested w) → IsEnteredWord w (nested w)
every_word w below i = found_is w (nested w) (all_hold w) i
