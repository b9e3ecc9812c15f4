-- LEA, PEA, LINK and UNLK. M68000 Programmer's Reference Manual, section 4.
use Rattle.std.specs.Prelude.{ℕ, ◌+◌, ◌-◌, ◌%◌, ◌^◌}
use Rattle.md_word.specs.Fields.{address_of, with_address}
use Rattle.md_word.specs.Width.{extended}
use Rattle.md_word.specs.declared.mode.Mode.{Mode}
use Rattle.md_word.specs.declared.regs.Regs.{Regs}
use Rattle.md_word.specs.declared.size.Size.TheVariants.{Long, Word}
use Rattle.m68k_ea.specs.Addresses.{effective_address}
use Rattle.m68k_access.specs.Actions.{Act, ◌>>=◌, give}
use Rattle.m68k_access.specs.Operands.{pull, push, stack_of}
use Rattle.m68k_access.specs.Outcomes.{Outcome, plain}
use Rattle.m68k_access.specs.Shapes.{following}

-- LEA
unfoldable pub lea : ℕ → Mode → ℕ → Regs → Outcome
lea n mode start regs =
    plain (with_address regs n (effective_address mode Long regs (following start 2)))

-- PEA
unfoldable pub pea : Mode → ℕ → Regs → Act Outcome
pea mode start regs = do
  after ← push Long (effective_address mode Long regs (following start 2)) regs
  give (plain after)

-- the stack pointer lowered for a long
abbrev pub lowered : Regs → Regs
lowered regs = with_address regs 7 ((stack_of regs + 2 ^ 32 - 4) % 2 ^ 32)

-- LINK: An is pushed, An becomes the stack pointer, and the displacement is added to that. Of A7
-- the lowered value is pushed
unfoldable pub link : ℕ → ℕ → Regs → Act Outcome
link n by regs = do
  after ← push Long (address_of (lowered regs) n) regs
  let framed = with_address after n (stack_of after)
  give (plain (with_address framed 7 ((stack_of framed + extended Word by) % 2 ^ 32)))

-- UNLK: the stack pointer becomes An, and An is pulled
unfoldable pub unlk : ℕ → Regs → Act Outcome
unlk n regs = do
  old ← pull Long (with_address regs 7 (address_of regs n))
  give (plain (with_address old.regs n old.value))
