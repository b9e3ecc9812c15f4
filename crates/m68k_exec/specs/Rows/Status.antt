-- The status register, its lower byte CCR, and the user's stack pointer.
-- M68000 Programmer's Reference Manual, sections 1.3.2, 4 and 6.
use Rattle.std.specs.Prelude.{ℕ, ◌+◌, ◌*◌, ◌/◌, ◌%◌, bit_and, true, if◌then◌else◌}
use Rattle.md_word.specs.Fields.{address_of, is_supervisor, with_address}
use Rattle.md_word.specs.declared.mode.Mode.{Mode}
use Rattle.md_word.specs.declared.regs.Regs.{Regs}
use Rattle.md_word.specs.declared.size.Size.TheVariants.{Word}
use Rattle.m68k_ea.specs.Places.{place_of}
use Rattle.m68k_ea.specs.Steps.{stepped}
use Rattle.m68k_access.specs.Actions.{Act, ◌>>=◌, give}
use Rattle.m68k_access.specs.Operands.{fetch, load, put}
use Rattle.m68k_access.specs.Outcomes.{Outcome, plain}
use Rattle.m68k_access.specs.Shapes.{following, refuse}
use Rattle.m68k_access.specs.Vectors.{privilege_violation}

-- the status register has T, S, the interrupt mask, X, N, Z, V and C; its other bits are 0
abbrev pub with_sr : ℕ → Regs → Regs
with_sr value regs = record regs { sr = bit_and value 0xa71f }

-- the lower byte has X, N, Z, V and C
abbrev pub with_ccr : ℕ → Regs → Regs
with_ccr value regs = record regs { sr = regs.sr / 0x100 * 0x100 + value % 0x20 }

-- a privileged instruction that accesses nothing: in user mode it is not carried out
abbrev pub privileged : ℕ → Regs → Outcome → Outcome
privileged start regs outcome =
    if is_supervisor regs then outcome else refuse privilege_violation start regs

-- MOVE from SR, which reads its target before it writes it, and is not privileged
unfoldable pub move_from_sr : Mode → ℕ → Regs → Act Outcome
move_from_sr mode start regs = do
  let to = place_of mode Word regs (following start 2)
  old ← fetch Word to (stepped mode Word regs)
  after ← put Word to regs.sr (stepped mode Word regs)
  give (plain after)

-- MOVE to CCR
unfoldable pub move_to_ccr : Mode → ℕ → Regs → Act Outcome
move_to_ccr mode start regs = do
  operand ← load mode Word (following start 2) regs
  give (plain (with_ccr operand.value operand.regs))

-- MOVE to SR in supervisor mode
unfoldable pub load_sr : Mode → ℕ → Regs → Act Outcome
load_sr mode start regs = do
  operand ← load mode Word (following start 2) regs
  give (plain (with_sr operand.value operand.regs))

-- MOVE to SR, which reads nothing in user mode
unfoldable pub move_to_sr : Mode → ℕ → Regs → Act Outcome
move_to_sr mode start regs memory done =
    if is_supervisor regs then load_sr mode start regs memory done
    else give (refuse privilege_violation start regs) memory done

-- MOVE An,USP
unfoldable pub move_to_usp : ℕ → ℕ → Regs → Outcome
move_to_usp n start regs = privileged start regs (plain (record regs { usp = address_of regs n }))

-- MOVE USP,An
unfoldable pub move_from_usp : ℕ → ℕ → Regs → Outcome
move_from_usp n start regs = privileged start regs (plain (with_address regs n regs.usp))

-- STOP: the old status register says whether it is privileged
unfoldable pub stop : ℕ → ℕ → Regs → Outcome
stop value start regs = privileged start regs (record (plain (with_sr value regs)) { stopped = true })

-- RESET, which nothing on this board hears
unfoldable pub reset : ℕ → Regs → Outcome
reset start regs = privileged start regs (plain regs)
