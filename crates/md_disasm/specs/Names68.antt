-- The names of the 68000's operations and the letters of its sizes.
-- M68000 Programmer's Reference Manual, section 4, in lower case.
use Rattle.std.specs.Prelude.{ℕ, List, codes}
use Rattle.md_word.specs.declared.size.Size.{Size}
use Rattle.md_word.specs.declared.size.Size.TheVariants.{Byte, Word, Long}
use Rattle.md_word.specs.declared.task.Task.{Task}
use Rattle.md_word.specs.declared.task.Task.TheVariants as tasks

-- the name of an operation
abbrev pub task_name : Task → List ℕ
task_name tasks.Abcd = codes "abcd"
task_name tasks.Add = codes "add"
task_name tasks.Addx = codes "addx"
task_name tasks.And = codes "and"
task_name tasks.Asl = codes "asl"
task_name tasks.Asr = codes "asr"
task_name tasks.Bchg = codes "bchg"
task_name tasks.Bclr = codes "bclr"
task_name tasks.Bset = codes "bset"
task_name tasks.Btst = codes "btst"
task_name tasks.Clr = codes "clr"
task_name tasks.Cmp = codes "cmp"
task_name tasks.Eor = codes "eor"
task_name tasks.Ext = codes "ext"
task_name tasks.Lsl = codes "lsl"
task_name tasks.Lsr = codes "lsr"
task_name tasks.Move = codes "move"
task_name tasks.Muls = codes "muls"
task_name tasks.Mulu = codes "mulu"
task_name tasks.Nbcd = codes "nbcd"
task_name tasks.Neg = codes "neg"
task_name tasks.Negx = codes "negx"
task_name tasks.Not = codes "not"
task_name tasks.Or = codes "or"
task_name tasks.Rol = codes "rol"
task_name tasks.Ror = codes "ror"
task_name tasks.Roxl = codes "roxl"
task_name tasks.Roxr = codes "roxr"
task_name tasks.Sbcd = codes "sbcd"
task_name tasks.Sub = codes "sub"
task_name tasks.Subx = codes "subx"
task_name tasks.Swap = codes "swap"
task_name tasks.Tas = codes "tas"

-- the letter of a size, with its point
abbrev pub size_name : Size → List ℕ
size_name Byte = codes ".b"
size_name Word = codes ".w"
size_name Long = codes ".l"
