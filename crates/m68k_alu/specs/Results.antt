-- Values with their condition codes.
-- M68000 Programmer's Reference Manual, section 3.2 and the condition codes of section 4.
use Rattle.std.specs.Prelude.{ℕ, Bool, false, nat_le, ◌==◌, ◌&&◌}
use Rattle.md_word.specs.Width.{half_of}
use Rattle.md_word.specs.declared.flags.Flags.{Flags}
use Rattle.md_word.specs.declared.size.Size.{Size}
use Rattle.m68k_alu.specs.declared.out.Out.{Out}

-- a value with its flags: N its sign bit, Z whether it is 0
unfoldable pub shown : Size → ℕ → Bool → Bool → Bool → Out
shown size value x v c = record {
  value = value;
  flags = record { x = x; n = nat_le (half_of size) value; z = value == 0; v = v; c = c };
}

-- N and Z by the value, V and C cleared, X as it was
unfoldable pub moved : Size → ℕ → Flags → Out
moved size value flags = shown size value flags.x false false

-- Z is cleared where this part is not 0, and else stays: so it speaks of a number of many parts
unfoldable pub zero_kept : Flags → Out → Out
zero_kept old out = record out { flags = record out.flags { z = old.z && out.flags.z } }
