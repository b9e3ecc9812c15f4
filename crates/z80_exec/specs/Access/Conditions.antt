-- The conditions of jumps, calls and returns. Zilog UM0080, "Jump Group".
use Rattle.std.specs.Prelude.{ℕ, Bool, not}
use Rattle.z80_alu.specs.Flags.{flags_of}
use Rattle.z80_alu.specs.declared.flags80.Flags80.{Flags80}
use Rattle.z80_decode.specs.declared.condition.Condition.{Condition}
use Rattle.z80_decode.specs.declared.condition.Condition.TheVariants as conditions

-- whether a condition holds of Z, C, P/V and S
abbrev pub holds_of : Condition → Flags80 → Bool
holds_of conditions.NonZero flags = not flags.z
holds_of conditions.Zero flags = flags.z
holds_of conditions.NonCarry flags = not flags.c
holds_of conditions.Carry flags = flags.c
holds_of conditions.ParityOdd flags = not flags.pv
holds_of conditions.ParityEven flags = flags.pv
holds_of conditions.Positive flags = not flags.s
holds_of conditions.Negative flags = flags.s

-- by F
unfoldable pub holds : Condition → ℕ → Bool
holds condition f = holds_of condition (flags_of f)
