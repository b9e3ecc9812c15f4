-- The most clocks that an instruction takes.
use Rattle.std.proofs.Common.{◌≡◌, ℕ, ◌+◌, ◌*◌, ◌≤◌, ◌==◌, Bool, true, false, cond, refl, arith}
use Rattle.std.specs.Prelude.{◌&&◌, nat_le}
use Rattle.md_word.specs.declared.mode.Mode.{Mode}
use Rattle.md_word.specs.declared.mode.Mode.TheVariants.{Data, Address, Indirect, PostInc, PreDec, Displaced, Indexed, AbsShort, AbsLong, PcDisplaced, PcIndexed, Immediate}
use Rattle.md_word.specs.declared.size.Size.{Size}
use Rattle.md_word.specs.declared.size.Size.TheVariants.{Byte, Word, Long}
use Rattle.md_word.specs.declared.spent.Spent.{Spent}
use Rattle.md_word.specs.declared.task.Task.{Task}
use Rattle.md_word.specs.declared.task.Task.TheVariants as tasks
use Rattle.std.proofs.lemmas.Bool.{eqb-true}
use Rattle.m68k_decode.specs.Bounds.{FewCounted}
use Rattle.m68k_decode.specs.declared.displacement.Displacement.{Displacement}
use Rattle.m68k_decode.specs.declared.displacement.Displacement.TheVariants as displacements
use Rattle.m68k_decode.specs.declared.op.Op.{Op}
use Rattle.m68k_decode.specs.declared.op.Op.TheVariants as ops
use Rattle.m68k_time.specs.Addresses.{address_time, by_size, by_source, control_times_of, placed, target_time}
use Rattle.m68k_time.specs.Clocks.{bit_time, clocks_of, passed_time, quick_time, row_time}
use Rattle.m68k_time.specs.Exceptions.{exception_time, operand_time}

sized : (size : Size) (n x y : ℕ) → x ≤ n → y ≤ n → by_size size x y ≤ n
sized Byte n x y a b = a
sized Word n x y a b = a
sized Long n x y a b = b

counted : (size : Size) (count : ℕ) → by_size size 4 8 * count ≤ 8 * count
counted Byte count = omega arith
counted Word count = omega arith
counted Long count = omega arith

read : (size : Size) (mode : Mode) → address_time size mode ≤ 16
read size (Data n) = omega arith
read size (Address n) = omega arith
read size (Indirect n) = sized size 16 4 8 (omega arith) (omega arith)
read size (PostInc n) = sized size 16 4 8 (omega arith) (omega arith)
read size (PreDec n) = sized size 16 6 10 (omega arith) (omega arith)
read size (Displaced n by) = sized size 16 8 12 (omega arith) (omega arith)
read size (Indexed n index long by) = sized size 16 10 14 (omega arith) (omega arith)
read size (AbsShort at) = sized size 16 8 12 (omega arith) (omega arith)
read size (AbsLong at) = sized size 16 12 16 (omega arith) (omega arith)
read size (PcDisplaced by) = sized size 16 8 12 (omega arith) (omega arith)
read size (PcIndexed index long by) = sized size 16 10 14 (omega arith) (omega arith)
read size (Immediate value) = sized size 16 4 8 (omega arith) (omega arith)

written : (size : Size) (mode : Mode) → target_time size mode ≤ 16
written size (PreDec n) = sized size 16 4 8 (omega arith) (omega arith)
written size (Data n) = read size (Data n)
written size (Address n) = read size (Address n)
written size (Indirect n) = read size (Indirect n)
written size (PostInc n) = read size (PostInc n)
written size (Displaced n by) = read size (Displaced n by)
written size (Indexed n index long by) = read size (Indexed n index long by)
written size (AbsShort at) = read size (AbsShort at)
written size (AbsLong at) = read size (AbsLong at)
written size (PcDisplaced by) = read size (PcDisplaced by)
written size (PcIndexed index long by) = read size (PcIndexed index long by)
written size (Immediate value) = read size (Immediate value)

at : (mode : Mode) (n a b : ℕ) → a ≤ n → b ≤ n → placed mode a b ≤ n
at (Data m) n a b x y = x
at (Address m) n a b x y = x
at _ n a b x y = y

inside : (mode : Mode) → by_source mode 8 6 ≤ 8
inside (Data n) = omega arith
inside (Address n) = omega arith
inside (Immediate value) = omega arith
inside _ = omega arith

-- in a register, or in memory with the time of the address
either : (size : Size) (mode : Mode) (a x y : ℕ) → a ≤ 180 → x ≤ 100 → y ≤ 100 → placed mode a (by_size size x y + address_time size mode) ≤ 180
either size mode a x y p q r = at mode 180 a _ p (omega (arith, sized size 100 x y q r, read size mode))

plus : (size : Size) (mode : Mode) (x y : ℕ) → x ≤ 100 → y ≤ 100 → by_size size x y + address_time size mode ≤ 180
plus size mode x y q r = omega (arith, sized size 100 x y q r, read size mode)

bits : (operation : Task) (mode : Mode) → bit_time operation mode ≤ 100
bits tasks.Btst mode = at mode 100 6 _ (omega arith) (omega (arith, read Byte mode))
bits tasks.Bclr mode = at mode 100 10 _ (omega arith) (omega (arith, read Byte mode))
bits _ mode = at mode 100 8 _ (omega arith) (omega (arith, read Byte mode))

controls : (mode : Mode) → ((control_times_of mode).lea ≤ 22) × ((control_times_of mode).pea ≤ 22) × ((control_times_of mode).jmp ≤ 22) × ((control_times_of mode).jsr ≤ 22) × ((control_times_of mode).to_memory ≤ 22) × ((control_times_of mode).to_registers ≤ 22)
controls (Data n) = (omega arith, omega arith, omega arith, omega arith, omega arith, omega arith)
controls (Address n) = (omega arith, omega arith, omega arith, omega arith, omega arith, omega arith)
controls (Indirect n) = (omega arith, omega arith, omega arith, omega arith, omega arith, omega arith)
controls (PostInc n) = (omega arith, omega arith, omega arith, omega arith, omega arith, omega arith)
controls (PreDec n) = (omega arith, omega arith, omega arith, omega arith, omega arith, omega arith)
controls (Displaced n by) = (omega arith, omega arith, omega arith, omega arith, omega arith, omega arith)
controls (Indexed n index long by) = (omega arith, omega arith, omega arith, omega arith, omega arith, omega arith)
controls (AbsShort at) = (omega arith, omega arith, omega arith, omega arith, omega arith, omega arith)
controls (AbsLong at) = (omega arith, omega arith, omega arith, omega arith, omega arith, omega arith)
controls (PcDisplaced by) = (omega arith, omega arith, omega arith, omega arith, omega arith, omega arith)
controls (PcIndexed index long by) = (omega arith, omega arith, omega arith, omega arith, omega arith, omega arith)
controls (Immediate value) = (omega arith, omega arith, omega arith, omega arith, omega arith, omega arith)

quicks : (size : Size) (mode : Mode) → quick_time size mode ≤ 180
quicks size (Address n) = omega arith
quicks size (Data n) = at (Data n) 180 _ _ (sized size 180 4 8 (omega arith) (omega arith)) (plus size (Data n) 8 12 (omega arith) (omega arith))
quicks size (Indirect n) = plus size (Indirect n) 8 12 (omega arith) (omega arith)
quicks size (PostInc n) = plus size (PostInc n) 8 12 (omega arith) (omega arith)
quicks size (PreDec n) = plus size (PreDec n) 8 12 (omega arith) (omega arith)
quicks size (Displaced n by) = plus size (Displaced n by) 8 12 (omega arith) (omega arith)
quicks size (Indexed n index long by) = plus size (Indexed n index long by) 8 12 (omega arith) (omega arith)
quicks size (AbsShort at) = plus size (AbsShort at) 8 12 (omega arith) (omega arith)
quicks size (AbsLong at) = plus size (AbsLong at) 8 12 (omega arith) (omega arith)
quicks size (PcDisplaced by) = plus size (PcDisplaced by) 8 12 (omega arith) (omega arith)
quicks size (PcIndexed index long by) = plus size (PcIndexed index long by) 8 12 (omega arith) (omega arith)
quicks size (Immediate value) = plus size (Immediate value) 8 12 (omega arith) (omega arith)

choice : (b : Bool) (x y n : ℕ) → x ≤ n → y ≤ n → cond b x y ≤ n
choice true x y n p q = p
choice false x y n p q = q

passed : (displacement : Displacement) → passed_time displacement ≤ 180
passed (displacements.Byte by) = omega arith
passed (displacements.Word by) = omega arith

sums : (size : Size) (mode : Mode) (short : ℕ) → short ≤ 100 → by_size size short (by_source mode 8 6) + address_time size mode ≤ 180
sums size mode short p = plus size mode short _ p (omega (arith, inside mode))

row_most : (op : Op) (spent : Spent) → row_time op spent ≤ 180 + 8 * spent.count
row_most (ops.Immediate operation size value mode) spent = omega (arith, either size mode (by_size size 8 16) 12 20 (sized size 180 8 16 (omega arith) (omega arith)) (omega arith) (omega arith))
row_most (ops.CompareImmediate size value mode) spent = omega (arith, either size mode (by_size size 8 14) 8 12 (sized size 180 8 14 (omega arith) (omega arith)) (omega arith) (omega arith))
row_most (ops.BitByRegister operation n mode) spent = omega (arith, bits operation mode)
row_most (ops.BitByNumber operation number mode) spent = omega (arith, bits operation mode)
row_most (ops.MovepToRegister size n r by) spent = omega (arith, sized size 24 16 24 (omega arith) (omega arith))
row_most (ops.MovepToMemory size n r by) spent = omega (arith, sized size 24 16 24 (omega arith) (omega arith))
row_most (ops.Move size source target) spent = omega (arith, read size source, written size target)
row_most (ops.Movea size n mode) spent = omega (arith, read size mode)
row_most (ops.Unary operation size mode) spent = omega (arith, either size mode (by_size size 4 6) 8 12 (sized size 180 4 6 (omega arith) (omega arith)) (omega arith) (omega arith))
row_most (ops.MoveFromSr mode) spent = omega (arith, at mode 180 6 (8 + address_time Word mode) (omega arith) (omega (arith, read Word mode)))
row_most (ops.MoveToCcr mode) spent = omega (arith, read Word mode)
row_most (ops.MoveToSr mode) spent = omega (arith, read Word mode)
row_most (ops.Nbcd mode) spent = omega (arith, at mode 180 6 (8 + address_time Byte mode) (omega arith) (omega (arith, read Byte mode)))
row_most (ops.Pea mode) spent = let c = controls mode in omega (arith, c.1)
row_most (ops.MovemToMemory size list mode) spent = let c = controls mode in omega (arith, c.4, counted size spent.count)
row_most (ops.MovemToRegisters size list mode) spent = let c = controls mode in omega (arith, c.5, counted size spent.count)
row_most (ops.Tst size mode) spent = omega (arith, read size mode)
row_most (ops.Tas mode) spent = omega (arith, at mode 180 4 (10 + address_time Byte mode) (omega arith) (omega (arith, read Byte mode)))
row_most (ops.Jsr mode) spent = let c = controls mode in omega (arith, c.3)
row_most (ops.Jmp mode) spent = let c = controls mode in omega (arith, c.2)
row_most (ops.Lea n mode) spent = let c = controls mode in omega (arith, c.0)
row_most (ops.Chk n mode) spent = omega (arith, read Word mode)
row_most (ops.Quick operation size number mode) spent = omega (arith, quicks size mode)
row_most (ops.Scc condition mode) spent = omega (arith, at mode 180 (cond spent.taken 6 4) (8 + address_time Byte mode) (choice spent.taken 6 4 180 (omega arith) (omega arith)) (omega (arith, read Byte mode)))
row_most (ops.Dbcc condition r by) spent = omega (arith, choice spent.expired 14 (cond spent.taken 10 12) 180 (omega arith) (choice spent.taken 10 12 180 (omega arith) (omega arith)))
row_most (ops.Bcc condition displacement) spent = omega (arith, choice spent.taken 10 (passed_time displacement) 180 (omega arith) (passed displacement))
row_most (ops.Divu n mode) spent = omega (arith, read Word mode)
row_most (ops.Divs n mode) spent = omega (arith, read Word mode)
row_most (ops.Decimal operation source target) spent = omega (arith, at source 180 6 18 (omega arith) (omega arith))
row_most (ops.Extended operation size source target) spent = omega (arith, at source 180 (by_size size 4 8) (by_size size 18 30) (sized size 180 4 8 (omega arith) (omega arith)) (sized size 180 18 30 (omega arith) (omega arith)))
row_most (ops.ToRegister operation size n mode) spent = omega (arith, sums size mode 4 (omega arith))
row_most (ops.ToMemory operation size n mode) spent = omega (arith, plus size mode 8 12 (omega arith) (omega arith))
row_most (ops.ToAddress operation size n mode) spent = omega (arith, sums size mode 8 (omega arith))
row_most (ops.Cmp size n mode) spent = omega (arith, plus size mode 4 6 (omega arith) (omega arith))
row_most (ops.Cmpa size n mode) spent = omega (arith, read size mode)
row_most (ops.Eor size n mode) spent = omega (arith, either size mode (by_size size 4 8) 8 12 (sized size 180 4 8 (omega arith) (omega arith)) (omega arith) (omega arith))
row_most (ops.Cmpm size n r) spent = omega (arith, sized size 20 12 20 (omega arith) (omega arith))
row_most (ops.Mulu n mode) spent = omega (arith, read Word mode)
row_most (ops.Muls n mode) spent = omega (arith, read Word mode)
row_most (ops.ShiftByNumber operation size number r) spent = omega (arith, sized size 8 6 8 (omega arith) (omega arith))
row_most (ops.ShiftByRegister operation size n r) spent = omega (arith, sized size 8 6 8 (omega arith) (omega arith))
row_most (ops.ShiftMemory operation mode) spent = omega (arith, read Word mode)
row_most _ spent = omega arith

operand_most : (op : Op) → operand_time op ≤ 16
operand_most (ops.Chk n mode) = read Word mode
operand_most (ops.Divu n mode) = read Word mode
operand_most (ops.Divs n mode) = read Word mode
operand_most _ = omega arith

exception_most : (cause : ℕ) (op : Op) → exception_time cause op ≤ 180
exception_most cause op =
    choice (cause == 3) 50 _ 180 (omega arith)
    (choice (cause == 5) (38 + operand_time op) _ 180 (omega (arith, operand_most op))
    (choice (cause == 6) (40 + operand_time op) _ 180 (omega (arith, operand_most op))
    (choice (nat_le 24 cause && nat_le cause 31) 44 34 180 (omega arith) (omega arith))))

-- by its count
pub by_count : (op : Op) (spent : Spent) → clocks_of op spent ≤ 180 + 8 * spent.count
by_count op spent =
    choice (spent.cause == 0) _ _ (180 + 8 * spent.count) (row_most op spent) (omega (arith, exception_most spent.cause op))

-- an instruction whose time does not depend on a count takes at most 180
row_few : (op : Op) (spent : Spent) → FewCounted op spent.count → row_time op spent ≤ 692
row_few (ops.MovemToMemory size list mode) spent h = omega (arith, row_most (ops.MovemToMemory size list mode) spent, h)
row_few (ops.MovemToRegisters size list mode) spent h = omega (arith, row_most (ops.MovemToRegisters size list mode) spent, h)
row_few (ops.Mulu n mode) spent h = omega (arith, row_most (ops.Mulu n mode) spent, h)
row_few (ops.Muls n mode) spent h = omega (arith, row_most (ops.Muls n mode) spent, h)
row_few (ops.ShiftByNumber operation size number r) spent h = omega (arith, row_most (ops.ShiftByNumber operation size number r) spent, h)
row_few (ops.ShiftByRegister operation size n r) spent h = omega (arith, row_most (ops.ShiftByRegister operation size n r) spent, h)
row_few op spent h = omega (arith, row_most op (record spent { count = 0 }))

few_by : (b : Bool) (op : Op) (spent : Spent) → (spent.cause == 0) ≡ b → (spent.cause ≡ 0 → FewCounted op spent.count) → cond b (row_time op spent) (exception_time spent.cause op) ≤ 692
few_by true op spent e h = row_few op spent (h (eqb-true spent.cause 0 e))
few_by false op spent e h = omega (arith, exception_most spent.cause op)

pub few : (op : Op) (spent : Spent) → (spent.cause ≡ 0 → FewCounted op spent.count) → clocks_of op spent ≤ 692
few op spent h = few_by (spent.cause == 0) op spent refl h

-- seven cycles a clock are fewer than 2^20
pub most : (op : Op) (spent : Spent) → spent.count ≤ 18702 → clocks_of op spent ≤ 149796
most op spent small = omega (arith, by_count op spent, small)
