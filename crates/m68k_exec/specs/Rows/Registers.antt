-- Instructions on registers alone. M68000 Programmer's Reference Manual, section 4: MOVEQ, EXG.
use Rattle.std.specs.Prelude.{ℕ}
use Rattle.md_word.specs.Fields.{register_of, with_register}
use Rattle.md_word.specs.Width.{extended}
use Rattle.md_word.specs.declared.regs.Regs.{Regs}
use Rattle.md_word.specs.declared.size.Size.TheVariants.{Byte, Long}
use Rattle.md_word.specs.declared.task.Task.TheVariants as tasks
use Rattle.m68k_access.specs.Outcomes.{Outcome, plain}
use Rattle.m68k_access.specs.Shapes.{change_data}

-- MOVEQ: the byte with its sign extended
unfoldable pub moveq : ℕ → ℕ → Regs → Outcome
moveq n byte regs = change_data tasks.Move Long (extended Byte byte) n regs

-- EXG
unfoldable pub exg : ℕ → ℕ → Regs → Outcome
exg n r regs = plain (with_register (with_register regs n (register_of regs r)) r (register_of regs n))
