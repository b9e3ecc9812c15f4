-- What holds of the instruction that any words decode to, and of the counts that times depend on.
use Rattle.std.specs.Prelude.{ℕ, ◌<◌, ◌≤◌}
use Rattle.m68k_decode.specs.declared.op.Op.{Op}
use Rattle.m68k_decode.specs.declared.op.Op.TheVariants as ops
use Rattle.m68k_decode.specs.Addressing.{control, control_alterable_or_predecrement, control_or_postincrement}
use Rattle.m68k_decode.specs.Operands.{ArePaired, IsOf}

-- its modes are of the classes that it allows, and its pairs are pairs
abbrev pub HasModes : Op → Type 0
HasModes (ops.Pea mode) = IsOf control mode
HasModes (ops.MovemToMemory size list mode) = IsOf control_alterable_or_predecrement mode
HasModes (ops.MovemToRegisters size list mode) = IsOf control_or_postincrement mode
HasModes (ops.Jsr mode) = IsOf control mode
HasModes (ops.Jmp mode) = IsOf control mode
HasModes (ops.Lea n mode) = IsOf control mode
HasModes (ops.Decimal operation source target) = ArePaired source target
HasModes (ops.Extended operation size source target) = ArePaired source target
HasModes op = Unit {0}

-- where the time depends on a count, it is at most 64
abbrev pub FewCounted : Op → ℕ → Type 0
FewCounted (ops.MovemToMemory size list mode) count = count ≤ 64
FewCounted (ops.MovemToRegisters size list mode) count = count ≤ 64
FewCounted (ops.Mulu n mode) count = count ≤ 64
FewCounted (ops.Muls n mode) count = count ≤ 64
FewCounted (ops.ShiftByNumber operation size number r) count = count ≤ 64
FewCounted (ops.ShiftByRegister operation size n r) count = count ≤ 64
FewCounted op count = Unit {0}

-- a list of registers has 16 bits, and a shift's number is at most 8
abbrev pub HasNumbers : Op → Type 0
HasNumbers (ops.MovemToMemory size list mode) = list < 65536
HasNumbers (ops.MovemToRegisters size list mode) = list < 65536
HasNumbers (ops.ShiftByNumber operation size number r) = number ≤ 8
HasNumbers op = Unit {0}
