-- JP, JR and DJNZ. Zilog UM0080, "Jump Group".
use Rattle.std.specs.Prelude.{ℕ, ◌==◌, if◌then◌else◌}
use Rattle.z80_decode.specs.declared.condition.Condition.{Condition}
use Rattle.z80_decode.specs.declared.index.Index.{Index}
use Rattle.z80_exec.specs.declared.regs80.Regs80.{Regs80}
use Rattle.z80_exec.specs.Access.Conditions.{holds}
use Rattle.z80_exec.specs.Access.Outcomes.{Outcome, plain, taken}
use Rattle.z80_exec.specs.Access.Parts.{byte_down, displaced, f_of, high, pair_at, pair_of, with_high}

-- JP nn
unfoldable pub jump : ℕ → Regs80 → Regs80
jump target regs = record regs { pc = target }

-- JP cc,nn
unfoldable pub jump_if : Condition → ℕ → Regs80 → Outcome
jump_if condition target regs = if holds condition (f_of regs) then taken (jump target regs) else plain regs

-- JR e: from the next instruction
unfoldable pub jump_relative : ℕ → Regs80 → Regs80
jump_relative distance regs = record regs { pc = displaced regs.pc distance }

-- JR cc,e
unfoldable pub jump_relative_if : Condition → ℕ → Regs80 → Outcome
jump_relative_if condition distance regs =
    if holds condition (f_of regs) then taken (jump_relative distance regs) else plain regs

-- JP (HL)
unfoldable pub jump_index : Index → Regs80 → Regs80
jump_index index regs = record regs { pc = pair_of (pair_at index) regs }

-- B lowered by 1
abbrev pub counted : Regs80 → Regs80
counted regs = record regs { bc = with_high regs.bc (byte_down (high regs.bc)) }

-- DJNZ: taken where B is not 0 then
unfoldable pub decrement_and_jump : ℕ → Regs80 → Outcome
decrement_and_jump distance regs =
    if byte_down (high regs.bc) == 0 then plain (counted regs) else taken (jump_relative distance (counted regs))
