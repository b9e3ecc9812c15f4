-- What each operation gives, a line each: of the accumulator a, an operand b and the flags f.
-- Zilog UM0080, "Z80 Instruction Description".
use Rattle.std.specs.Prelude.{ℕ, ◌/◌, ◌%◌, bit_and, bit_or, bit_xor, false, true}
use Rattle.md_word.specs.declared.task80.Task80.{Task80}
use Rattle.md_word.specs.declared.task80.Task80.TheVariants as tasks
use Rattle.z80_alu.specs.declared.out80.Out80.{Out80}
use Rattle.z80_alu.specs.Arithmetic.{added, compared, decremented, incremented, subtracted}
use Rattle.z80_alu.specs.Decimal.{adjusted}
use Rattle.z80_alu.specs.Flags.{flags_of, sign}
use Rattle.z80_alu.specs.Logic.{bit_reset, bit_set, bit_tested, carry_changed, carry_set, complemented, logical, read_in}
use Rattle.z80_alu.specs.Shifts.{digit_rotated, left, odd, right, shifted, turned, with_low_digit}

-- the value and F; an operation on one operand takes b, and those on the accumulator alone take a
abbrev pub computed : Task80 → ℕ → ℕ → ℕ → Out80
computed tasks.Add a b f = added a b false
computed tasks.Adc a b f = added a b (flags_of f).c
computed tasks.Sub a b f = subtracted a b false
computed tasks.Sbc a b f = subtracted a b (flags_of f).c
computed tasks.And a b f = logical (bit_and a b) true
computed tasks.Xor a b f = logical (bit_xor a b) false
computed tasks.Or a b f = logical (bit_or a b) false
computed tasks.Cp a b f = compared a b
computed tasks.Inc a b f = incremented b (flags_of f)
computed tasks.Dec a b f = decremented b (flags_of f)
computed tasks.Rlc a b f = shifted (left b (sign b)) (sign b)
computed tasks.Rrc a b f = shifted (right b (odd b)) (odd b)
computed tasks.Rl a b f = shifted (left b (flags_of f).c) (sign b)
computed tasks.Rr a b f = shifted (right b (flags_of f).c) (odd b)
computed tasks.Sla a b f = shifted (left b false) (sign b)
computed tasks.Sra a b f = shifted (right b (sign b)) (odd b)
computed tasks.Sll a b f = shifted (left b true) (sign b)
computed tasks.Srl a b f = shifted (right b false) (odd b)
computed (tasks.Test bit) a b f = bit_tested bit b (flags_of f)
computed (tasks.Res bit) a b f = bit_reset bit b f
computed (tasks.Set bit) a b f = bit_set bit b f
computed tasks.Rlca a b f = turned (left a (sign a)) (sign a) (flags_of f)
computed tasks.Rrca a b f = turned (right a (odd a)) (odd a) (flags_of f)
computed tasks.Rla a b f = turned (left a (flags_of f).c) (sign a) (flags_of f)
computed tasks.Rra a b f = turned (right a (flags_of f).c) (odd a) (flags_of f)
computed tasks.Daa a b f = adjusted a (flags_of f)
computed tasks.Cpl a b f = complemented a (flags_of f)
computed tasks.Neg a b f = subtracted 0 a false
computed tasks.Scf a b f = carry_set a (flags_of f)
computed tasks.Ccf a b f = carry_changed a (flags_of f)
computed tasks.Rld a b f = digit_rotated (with_low_digit a (b / 16)) (flags_of f)
computed tasks.Rrd a b f = digit_rotated (with_low_digit a (b % 16)) (flags_of f)
computed tasks.In a b f = read_in b (flags_of f)
