-- The rows of instructions with 8 for numbers.
use Rattle.std.proofs.Common.{◌≡◌, ℕ, Bool, true, false, refl}
use Rattle.md_word.specs.declared.mode.Mode.{Mode}
use Rattle.md_word.specs.declared.mode.Mode.TheVariants as modes
use Rattle.m68k_decode.specs.declared.op.Op.{Op}
use Rattle.m68k_decode.specs.declared.op.Op.TheVariants as ops
use Rattle.md_disasm.specs.Rows68.{is_turned, row_of}
use Rattle.md_asm.proofs.Kept68.{op_kept}
use Rattle.md_asm.proofs.Rows68.{mode_filled, row_kept}

-- a number in the first word, or the displacement of a branch
abbrev pub is_quick : Op → Bool
is_quick (ops.Quick own size n mode) = true
is_quick (ops.Trap n) = true
is_quick (ops.Moveq n value) = true
is_quick (ops.ShiftByNumber own size n r) = true
is_quick (ops.Dbcc condition n displacement) = true
is_quick (ops.Bra displacement) = true
is_quick (ops.Bsr displacement) = true
is_quick (ops.Bcc condition displacement) = true
is_quick (ops.Illegal word) = true
is_quick (ops.LineA word) = true
is_quick (ops.LineF word) = true
is_quick op = false

filled_turned : (mode : Mode) → is_turned (mode_filled mode) ≡ is_turned mode
filled_turned (modes.PreDec n) = refl
filled_turned _ = refl

pub filled_row : (op : Op) (at other : ℕ) → is_quick op ≡ false → row_of (op_kept false false op) other ≡ row_kept false false (row_of op at)
filled_row (ops.MovemToMemory size list mode) at other h = rw (filled_turned mode) refl
filled_row (ops.Quick own size n mode) at other h = cc
filled_row (ops.Trap n) at other h = cc
filled_row (ops.Moveq n value) at other h = cc
filled_row (ops.ShiftByNumber own size n r) at other h = cc
filled_row (ops.Dbcc condition n displacement) at other h = cc
filled_row (ops.Bra displacement) at other h = cc
filled_row (ops.Bsr displacement) at other h = cc
filled_row (ops.Bcc condition displacement) at other h = cc
filled_row (ops.Illegal word) at other h = cc
filled_row (ops.LineA word) at other h = cc
filled_row (ops.LineF word) at other h = cc
filled_row _ at other h = refl

pub first_row : (op : Op) (at other : ℕ) → is_quick op ≡ false → row_of (op_kept true false op) other ≡ row_kept true false (row_of op at)
first_row (ops.MovemToMemory size list mode) at other h = rw (filled_turned mode) refl
first_row (ops.Quick own size n mode) at other h = cc
first_row (ops.Trap n) at other h = cc
first_row (ops.Moveq n value) at other h = cc
first_row (ops.ShiftByNumber own size n r) at other h = cc
first_row (ops.Dbcc condition n displacement) at other h = cc
first_row (ops.Bra displacement) at other h = cc
first_row (ops.Bsr displacement) at other h = cc
first_row (ops.Bcc condition displacement) at other h = cc
first_row (ops.Illegal word) at other h = cc
first_row (ops.LineA word) at other h = cc
first_row (ops.LineF word) at other h = cc
first_row _ at other h = refl

pub second_row : (op : Op) (at other : ℕ) → is_quick op ≡ false → row_of (op_kept false true op) other ≡ row_kept false true (row_of op at)
second_row (ops.Quick own size n mode) at other h = cc
second_row (ops.Trap n) at other h = cc
second_row (ops.Moveq n value) at other h = cc
second_row (ops.ShiftByNumber own size n r) at other h = cc
second_row (ops.Dbcc condition n displacement) at other h = cc
second_row (ops.Bra displacement) at other h = cc
second_row (ops.Bsr displacement) at other h = cc
second_row (ops.Bcc condition displacement) at other h = cc
second_row (ops.Illegal word) at other h = cc
second_row (ops.LineA word) at other h = cc
second_row (ops.LineF word) at other h = cc
second_row _ at other h = refl
