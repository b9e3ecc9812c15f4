-- A byte set by a condition. M68000 Programmer's Reference Manual, section 4: Scc.
use Rattle.std.specs.Prelude.{ℕ, Bool, true, false}
use Rattle.md_word.specs.Fields.{flags_of}
use Rattle.md_word.specs.declared.mode.Mode.{Mode}
use Rattle.md_word.specs.declared.regs.Regs.{Regs}
use Rattle.md_word.specs.declared.size.Size.TheVariants.{Byte}
use Rattle.m68k_decode.specs.declared.condition.Condition.{Condition}
use Rattle.m68k_ea.specs.Places.{place_of}
use Rattle.m68k_ea.specs.Steps.{stepped}
use Rattle.m68k_access.specs.Actions.{Act, ◌>>=◌, give}
use Rattle.m68k_access.specs.Conditions.{holds}
use Rattle.m68k_access.specs.Operands.{fetch, put}
use Rattle.m68k_access.specs.Outcomes.{Outcome, plain}
use Rattle.m68k_access.specs.Shapes.{following}

-- all ones, or 0
abbrev pub byte_by : Bool → ℕ
byte_by true = 0xff
byte_by false = 0

-- Scc: a byte in memory is read before it is written, and what was read is not looked at
unfoldable pub scc : Condition → Mode → ℕ → Regs → Act Outcome
scc condition mode start regs = do
  let to = place_of mode Byte regs (following start 2)
  let met = holds condition (flags_of regs)
  old ← fetch Byte to (stepped mode Byte regs)
  after ← put Byte to (byte_by met) (stepped mode Byte regs)
  give (record (plain after) { taken = met })
