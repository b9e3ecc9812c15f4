-- The whole times of exceptions, in clocks. M68000 User's Manual, section 8; the classes by vector
-- number.
use Rattle.std.specs.Prelude.{ℕ, ◌+◌, ◌==◌, ◌&&◌, nat_le, cond}
use Rattle.md_word.specs.declared.size.Size.TheVariants.{Word}
use Rattle.m68k_decode.specs.declared.op.Op.{Op}
use Rattle.m68k_decode.specs.declared.op.Op.TheVariants as ops
use Rattle.m68k_time.specs.Addresses.{address_time}

-- the time of the operand that CHK and a division had read
abbrev pub operand_time : Op → ℕ
operand_time (ops.Chk _ mode) = address_time Word mode
operand_time (ops.Divu _ mode) = address_time Word mode
operand_time (ops.Divs _ mode) = address_time Word mode
operand_time _ = 0

-- address error 3, zero divide 5, CHK 6, interrupts 24 to 31; all others take the same
abbrev pub exception_time : ℕ → Op → ℕ
exception_time cause op =
    cond (cause == 3) 50
    (cond (cause == 5) (38 + operand_time op)
    (cond (cause == 6) (40 + operand_time op)
    (cond (nat_le 24 cause && nat_le cause 31) 44 34)))
