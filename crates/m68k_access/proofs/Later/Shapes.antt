-- Answers beyond those that it takes change nothing: of the shapes that most instructions have.
use Rattle.std.proofs.Common.{ℕ}
use Rattle.md_word.specs.declared.mode.Mode.{Mode}
use Rattle.md_word.specs.declared.regs.Regs.{Regs}
use Rattle.md_word.specs.declared.size.Size.{Size}
use Rattle.md_word.specs.declared.task.Task.{Task}
use Rattle.m68k_access.proofs.Later.Accesses.{bind, fetch, give, load, put}
use Rattle.m68k_access.specs.Laws.{IgnoresLaterAnswers}
use Rattle.m68k_access.specs.Shapes as shapes

pub test_operand : (operation : Task) (size : Size) (number : ℕ) (mode : Mode) (pc : ℕ) (regs : Regs) → IgnoresLaterAnswers (shapes.test_operand operation size number mode pc regs)
unfolding shapes.test_operand
test_operand operation size number mode pc regs = bind _ _ (load mode size pc regs) (λ operand. give _)

pub change_operand : (operation : Task) (size : Size) (number : ℕ) (mode : Mode) (pc : ℕ) (regs : Regs) → IgnoresLaterAnswers (shapes.change_operand operation size number mode pc regs)
unfolding shapes.change_operand
change_operand operation size number mode pc regs =
    bind _ _ (fetch size _ _) (λ old. bind _ _ (put size _ _ _) (λ after. give _))

pub change_register : (operation : Task) (size : Size) (n : ℕ) (mode : Mode) (pc : ℕ) (regs : Regs) → IgnoresLaterAnswers (shapes.change_register operation size n mode pc regs)
unfolding shapes.change_register
change_register operation size n mode pc regs = bind _ _ (load mode size pc regs) (λ operand. give _)
