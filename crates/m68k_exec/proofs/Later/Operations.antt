-- Answers beyond those that it takes change nothing of an instruction whose first digit is 5 to E.
use Rattle.std.proofs.Common.{ℕ, Bool}
use Rattle.md_word.specs.declared.mode.Mode.{Mode}
use Rattle.md_word.specs.declared.mode.Mode.TheVariants as modes
use Rattle.md_word.specs.declared.regs.Regs.{Regs}
use Rattle.md_word.specs.declared.size.Size.{Size}
use Rattle.md_word.specs.declared.size.Size.TheVariants.{Byte, Long, Word}
use Rattle.md_word.specs.declared.task.Task.{Task}
use Rattle.md_word.specs.declared.task.Task.TheVariants as tasks
use Rattle.m68k_decode.specs.declared.condition.Condition.{Condition}
use Rattle.m68k_decode.specs.declared.displacement.Displacement.{Displacement}
use Rattle.m68k_exec.specs.Rows.Arithmetic as arithmetic
use Rattle.m68k_exec.specs.Rows.Branches as branches
use Rattle.m68k_exec.specs.Rows.Comparisons as comparisons
use Rattle.m68k_access.specs.Laws.{IgnoresLaterAnswers}
use Rattle.m68k_exec.specs.Rows.Multiprecision as multiprecision
use Rattle.m68k_exec.specs.Rows.Products as products
use Rattle.m68k_exec.specs.Rows.Quotients as quotients
use Rattle.m68k_exec.specs.Rows.Setting as setting
use Rattle.m68k_access.specs.Shapes.{following}
use Rattle.m68k_access.proofs.Later.Accesses.{bind, fetch, give, load, push, put}
use Rattle.m68k_access.proofs.Later.Shapes.{change_operand, change_register}

pub quick : (operation : Task) (size : Size) (number : ℕ) (mode : Mode) (start : ℕ) (regs : Regs) → IgnoresLaterAnswers (arithmetic.quick operation size number mode start regs)
quick operation size number (modes.Address n) start regs = give _
quick operation size number mode start regs = change_operand operation size number mode (following start 2) regs

pub scc : (condition : Condition) (mode : Mode) (start : ℕ) (regs : Regs) → IgnoresLaterAnswers (setting.scc condition mode start regs)
unfolding setting.scc
scc condition mode start regs =
    bind _ _ (fetch Byte _ _) (λ old. bind _ _ (put Byte _ _ _) (λ after. give _))

pub bsr : (displacement : Displacement) (start : ℕ) (regs : Regs) → IgnoresLaterAnswers (branches.bsr displacement start regs)
unfolding branches.bsr
bsr displacement start regs = bind _ _ (push Long regs.pc regs) (λ after. give _)

quotient_by : (signed : Bool) (n : ℕ) (mode : Mode) (start : ℕ) (regs : Regs) → IgnoresLaterAnswers (quotients.quotient_by signed n mode start regs)
unfolding quotients.quotient_by
quotient_by signed n mode start regs = bind _ _ (load mode Word (following start 2) regs) (λ source. give _)

pub divu : (n : ℕ) (mode : Mode) (start : ℕ) (regs : Regs) → IgnoresLaterAnswers (quotients.divu n mode start regs)
unfolding quotients.divu
divu n mode start regs = quotient_by _ n mode start regs

pub divs : (n : ℕ) (mode : Mode) (start : ℕ) (regs : Regs) → IgnoresLaterAnswers (quotients.divs n mode start regs)
unfolding quotients.divs
divs n mode start regs = quotient_by _ n mode start regs

pub mulu : (n : ℕ) (mode : Mode) (start : ℕ) (regs : Regs) → IgnoresLaterAnswers (products.mulu n mode start regs)
unfolding products.mulu
mulu n mode start regs = bind _ _ (load mode Word (following start 2) regs) (λ source. give _)

pub muls : (n : ℕ) (mode : Mode) (start : ℕ) (regs : Regs) → IgnoresLaterAnswers (products.muls n mode start regs)
unfolding products.muls
muls n mode start regs = bind _ _ (load mode Word (following start 2) regs) (λ source. give _)

pub extended : (operation : Task) (size : Size) (source target : Mode) (start : ℕ) (regs : Regs) → IgnoresLaterAnswers (multiprecision.extended operation size source target start regs)
unfolding multiprecision.extended
extended operation size source target start regs =
    bind _ _ (load source size (following start 2) regs) (λ part.
    change_operand operation size part.value target (following start 2) part.regs)

pub decimal : (operation : Task) (source target : Mode) (start : ℕ) (regs : Regs) → IgnoresLaterAnswers (multiprecision.decimal operation source target start regs)
unfolding multiprecision.decimal
decimal operation source target start regs = extended operation Byte source target start regs

pub to_register : (operation : Task) (size : Size) (n : ℕ) (mode : Mode) (start : ℕ) (regs : Regs) → IgnoresLaterAnswers (arithmetic.to_register operation size n mode start regs)
unfolding arithmetic.to_register
to_register operation size n mode start regs = change_register operation size n mode (following start 2) regs

pub to_memory : (operation : Task) (size : Size) (n : ℕ) (mode : Mode) (start : ℕ) (regs : Regs) → IgnoresLaterAnswers (arithmetic.to_memory operation size n mode start regs)
unfolding arithmetic.to_memory
to_memory operation size n mode start regs = change_operand operation size _ mode (following start 2) regs

pub eor : (size : Size) (n : ℕ) (mode : Mode) (start : ℕ) (regs : Regs) → IgnoresLaterAnswers (arithmetic.eor size n mode start regs)
unfolding arithmetic.eor
eor size n mode start regs = to_memory tasks.Eor size n mode start regs

pub to_address : (operation : Task) (size : Size) (n : ℕ) (mode : Mode) (start : ℕ) (regs : Regs) → IgnoresLaterAnswers (arithmetic.to_address operation size n mode start regs)
unfolding arithmetic.to_address
to_address operation size n mode start regs = bind _ _ (load mode size (following start 2) regs) (λ source. give _)

pub cmp : (size : Size) (n : ℕ) (mode : Mode) (start : ℕ) (regs : Regs) → IgnoresLaterAnswers (comparisons.cmp size n mode start regs)
unfolding comparisons.cmp
cmp size n mode start regs = bind _ _ (load mode size (following start 2) regs) (λ source. give _)

pub cmpa : (size : Size) (n : ℕ) (mode : Mode) (start : ℕ) (regs : Regs) → IgnoresLaterAnswers (comparisons.cmpa size n mode start regs)
unfolding comparisons.cmpa
cmpa size n mode start regs = bind _ _ (load mode size (following start 2) regs) (λ source. give _)

pub cmpm : (size : Size) (x y start : ℕ) (regs : Regs) → IgnoresLaterAnswers (comparisons.cmpm size x y start regs)
unfolding comparisons.cmpm
cmpm size x y start regs =
    bind _ _ (load (modes.PostInc y) size (following start 2) regs) (λ source.
    bind _ _ (load (modes.PostInc x) size (following start 2) source.regs) (λ target. give _))

pub shift_memory : (operation : Task) (mode : Mode) (start : ℕ) (regs : Regs) → IgnoresLaterAnswers (arithmetic.shift_memory operation mode start regs)
unfolding arithmetic.shift_memory
shift_memory operation mode start regs = change_operand operation Word 1 mode (following start 2) regs
