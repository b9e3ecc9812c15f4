-- Branches and loops. M68000 Programmer's Reference Manual, section 4: Bcc, BRA, BSR, DBcc.
use Rattle.std.specs.Prelude.{ℕ, ◌+◌, ◌%◌, ◌^◌, ◌==◌, true, if◌then◌else◌}
use Rattle.md_word.specs.Fields.{flags_of, register_of}
use Rattle.md_word.specs.Width.{extended}
use Rattle.md_word.specs.declared.regs.Regs.{Regs}
use Rattle.md_word.specs.declared.size.Size.TheVariants.{Byte, Word, Long}
use Rattle.m68k_decode.specs.declared.condition.Condition.{Condition}
use Rattle.m68k_decode.specs.declared.displacement.Displacement.{Displacement}
use Rattle.m68k_decode.specs.declared.displacement.Displacement.TheVariants as displacements
use Rattle.m68k_access.specs.Actions.{Act, ◌>>=◌, give}
use Rattle.m68k_access.specs.Conditions.{holds}
use Rattle.m68k_access.specs.Operands.{push, with_part}
use Rattle.m68k_access.specs.Outcomes.{Outcome, plain}
use Rattle.m68k_access.specs.Shapes.{jump_to}

-- a displacement with its sign extended
abbrev pub distance_of : Displacement → ℕ
distance_of (displacements.Byte by) = extended Byte by
distance_of (displacements.Word by) = extended Word by

-- the branch is taken: it goes so far from the address after the instruction's first word
unfoldable pub branched : ℕ → ℕ → Regs → Outcome
branched distance start regs =
    record (jump_to ((start + 2 + distance) % 2 ^ 32) regs) { taken = true }

-- BRA, which is always taken
unfoldable pub bra : Displacement → ℕ → Regs → Outcome
bra displacement start regs = branched (distance_of displacement) start regs

-- BSR: the address of the next instruction is pushed first
unfoldable pub bsr : Displacement → ℕ → Regs → Act Outcome
bsr displacement start regs = do
  after ← push Long regs.pc regs
  give (branched (distance_of displacement) start after)

-- Bcc: it is taken where the condition holds, else nothing is done
unfoldable pub bcc : Condition → Displacement → ℕ → Regs → Outcome
bcc condition displacement start regs =
    if holds condition (flags_of regs) then branched (distance_of displacement) start regs
    else plain regs

-- DBcc once its condition is false: the counter, the low word of a data register, is lowered by 1;
-- at −1 the loop has ended, else the branch is taken
unfoldable pub counted : ℕ → ℕ → ℕ → Regs → Outcome
counted n by start regs =
    let counter = (register_of regs n + 0xffff) % 0x1_0000 in
    let after = with_part Word n counter regs in
    if counter == 0xffff then record (plain after) { expired = true }
    else branched (extended Word by) start after

-- DBcc: where its condition is true, nothing is done
unfoldable pub dbcc : Condition → ℕ → ℕ → ℕ → Regs → Outcome
dbcc condition n by start regs =
    if holds condition (flags_of regs) then plain regs else counted n by start regs
