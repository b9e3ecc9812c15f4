-- The operands and codes of what is made of tokens of the 68000 have their size.
use Rattle.std.proofs.Common.{◌≡◌, ℕ, ◌+◌, ◌-◌, ◌*◌, ◌%◌, ◌<◌, ◌≤◌, Bool, true, false, nat_lt, refl, arith, if◌then◌else◌}
use Rattle.std.proofs.lemmas.Bool.Decides.{nat_tests}
use Rattle.md_word.specs.Modes.{IsMode}
use Rattle.md_word.specs.Width.{modulus_of}
use Rattle.md_word.specs.declared.mode.Mode.{Mode}
use Rattle.md_word.specs.declared.mode.Mode.TheVariants as modes
use Rattle.md_word.specs.declared.size.Size.{Size}
use Rattle.md_word.specs.declared.size.Size.TheVariants.{Byte, Word, Long}
use Rattle.md_word.specs.declared.task.Task.{Task}
use Rattle.md_word.specs.declared.task.Task.TheVariants as tasks
use Rattle.asm_m68k.specs.Encoding.{exchange, group_of, long_code, mode_code, move_size_code, quick_code, size_code, task_code}
use Rattle.asm_m68k.specs.declared.form.Form.{Form}
use Rattle.asm_m68k.specs.declared.form.Form.TheVariants as forms
use Rattle.asm_m68k.specs.Building as building
use Rattle.asm_m68k.specs.Building.{base, either, list, list_with, offset, register, turned, written}
use Rattle.asm_m68k.proofs.Instructions.{IsRead}
use Rattle.asm_laws.proofs.Sound68.{IsSound}

-- ---- operands

pub cut : (size : Size) (n : ℕ) → n % modulus_of size < modulus_of size
cut Byte n = omega arith
cut Word n = omega arith
cut Long n = omega arith

pub cut_long : (size : Size) (n : ℕ) → n % modulus_of size < 4294967296
cut_long Byte n = omega arith
cut_long Word n = omega arith
cut_long Long n = omega arith

pub mode_read : (size : Size) (form : Form) → IsSound form → IsRead size (building.mode size form)
unfolding building.mode
mode_read size (forms.Register n) h = by (nat_lt n 8) refl
  where
    by : (b : Bool) → nat_lt n 8 ≡ b → IsRead size (if b then modes.Data n else modes.Address (n % 8))
    by true is = record { registers = (let e : n < 8 = grind (arith, nat_tests) in e); written = tt; fits = tt }
    by false is = record { registers = (let e : n % 8 < 8 = omega arith in e); written = tt; fits = tt }
mode_read size (forms.Indirect n) h = record { registers = h; written = tt; fits = tt }
mode_read size (forms.PostInc n) h = record { registers = h; written = tt; fits = tt }
mode_read size (forms.PreDec n) h = record { registers = h; written = tt; fits = tt }
mode_read size (forms.Displaced n by) h = record { registers = h; written = omega arith; fits = tt }
mode_read size (forms.Indexed n index long by) h = record { registers = h; written = omega arith; fits = tt }
mode_read size (forms.Short at) h = record { registers = tt; written = omega arith; fits = tt }
mode_read size (forms.Long at) h = record { registers = tt; written = h; fits = tt }
mode_read size (forms.PcDisplaced by) h = record { registers = tt; written = omega arith; fits = tt }
mode_read size (forms.PcIndexed index long by) h = record { registers = h; written = omega arith; fits = tt }
mode_read size (forms.Immediate n) h = record { registers = tt; written = cut_long size n; fits = cut size n }
mode_read size _ h = record { registers = (let e : 0 < 8 = omega arith in e); written = tt; fits = tt }

pub register_low : (form : Form) → register form < 8
unfolding register
register_low (forms.Register n) = omega arith
register_low _ = omega arith

pub either_low : (form : Form) → IsSound form → either form < 16
unfolding either
either_low (forms.Register n) h = h
either_low _ h = omega arith

pub base_low : (form : Form) → IsSound form → base form < 8
unfolding base
base_low (forms.Displaced n by) h = h
base_low (forms.PostInc n) h = h
base_low _ h = omega arith

pub offset_low : (form : Form) → offset form < 65536
unfolding offset
offset_low (forms.Displaced n by) = omega arith
offset_low _ = omega arith

pub list_low : (form : Form) → IsSound form → list form < 65536
unfolding list
list_low (forms.Register n) h = omega arith
list_low (forms.Registers up down) h = h.0
list_low _ h = omega arith

pub turned_low : (form : Form) → IsSound form → turned form < 65536
unfolding turned
turned_low (forms.Register n) h = omega arith
turned_low (forms.Registers up down) h = h.1
turned_low _ h = omega arith

pub listed_low : (mode : Mode) (form : Form) → IsSound form → list_with mode form < 65536
listed_low (modes.PreDec n) form h = turned_low form h
listed_low _ form h = list_low form h

-- ---- codes

pub mode_low_code : (mode : Mode) → IsMode mode → mode_code mode < 64
mode_low_code (modes.Data n) h = let e : n < 8 = h in omega arith
mode_low_code (modes.Address n) h = let e : n < 8 = h in omega arith
mode_low_code (modes.Indirect n) h = let e : n < 8 = h in omega arith
mode_low_code (modes.PostInc n) h = let e : n < 8 = h in omega arith
mode_low_code (modes.PreDec n) h = let e : n < 8 = h in omega arith
mode_low_code (modes.Displaced n by) h = let e : n < 8 = h in omega arith
mode_low_code (modes.Indexed n index long by) h = let e : n < 8 = h.0 in omega arith
mode_low_code _ h = omega arith

pub code_low : (size : Size) (form : Form) → IsSound form → mode_code (building.mode size form) < 64
code_low size form h = mode_low_code (building.mode size form) ((mode_read size form h).registers)

pub task_low : (task : Task) → task_code task < 8
task_low tasks.And = omega arith
task_low _ = omega arith

pub group_low : (task : Task) → group_of task ≤ 53248
group_low tasks.Or = omega arith
group_low _ = omega arith

pub quick_low : (task : Task) → quick_code task < 2
quick_low tasks.Sub = omega arith
quick_low _ = omega arith

pub size_below : (size : Size) → size_code size < 3
size_below Byte = omega arith
size_below Word = omega arith
size_below Long = omega arith

pub move_below : (size : Size) → move_size_code size < 4
move_below Byte = omega arith
move_below Word = omega arith
move_below Long = omega arith

pub long_below : (size : Size) → long_code size < 2
long_below Byte = omega arith
long_below Word = omega arith
long_below Long = omega arith

pub exchange_low : (x y : ℕ) → x < 16 → y < 16 → exchange x y < 65536
exchange_low x y h k = by (nat_lt y 8) (nat_lt x 8)
  where
    by : (a b : Bool) → (if a then 49472 + 512 * x + y else (if b then 49536 + 512 * x + y else 49472 + 512 * (x - 8) + y)) < 65536
    by true b = omega arith
    by false true = omega arith
    by false false = omega arith
