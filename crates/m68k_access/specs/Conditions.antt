-- The conditions that Bcc, DBcc and Scc test.
-- M68000 Programmer's Reference Manual, table 3-19.
use Rattle.std.specs.Prelude.{Bool, true, false, not, ◌&&◌, ◌||◌}
use Rattle.md_word.specs.declared.flags.Flags.{Flags}
use Rattle.m68k_decode.specs.declared.condition.Condition.{Condition}
use Rattle.m68k_decode.specs.declared.condition.Condition.TheVariants as conditions

-- whether a condition holds of N, Z, V and C
abbrev pub holds : Condition → Flags → Bool
holds conditions.True flags = true
holds conditions.False flags = false
holds conditions.High flags = not flags.c && not flags.z
holds conditions.LowOrSame flags = flags.c || flags.z
holds conditions.CarryClear flags = not flags.c
holds conditions.CarrySet flags = flags.c
holds conditions.NotEqual flags = not flags.z
holds conditions.Equal flags = flags.z
holds conditions.OverflowClear flags = not flags.v
holds conditions.OverflowSet flags = flags.v
holds conditions.Plus flags = not flags.n
holds conditions.Minus flags = flags.n
holds conditions.GreaterOrEqual flags = (flags.n && flags.v) || (not flags.n && not flags.v)
holds conditions.LessThan flags = (flags.n && not flags.v) || (not flags.n && flags.v)
holds conditions.GreaterThan flags = (flags.n && flags.v && not flags.z) || (not flags.n && not flags.v && not flags.z)
holds conditions.LessOrEqual flags = flags.z || (flags.n && not flags.v) || (not flags.n && flags.v)
