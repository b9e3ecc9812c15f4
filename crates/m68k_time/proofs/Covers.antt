-- The time of an instruction suffices for its accesses: four clocks for each, and four more.
use Rattle.std.proofs.Common.{◌≡◌, ◌≢◌, ℕ, ◌+◌, ◌*◌, ◌≤◌, ◌==◌, Bool, true, false, cond, refl, arith}
use Rattle.std.specs.Prelude.{◌&&◌, count_ones, nat_le}
use Rattle.std.proofs.lemmas.Bool.{eqb-false, eqb-true, false≢true}
use Rattle.md_word.specs.declared.mode.Mode.{Mode}
use Rattle.md_word.specs.declared.mode.Mode.TheVariants.{Data, Address, Indirect, PostInc, PreDec, Displaced, Indexed, AbsShort, AbsLong, PcDisplaced, PcIndexed, Immediate}
use Rattle.md_word.specs.declared.size.Size.{Size}
use Rattle.md_word.specs.declared.size.Size.TheVariants.{Byte, Word, Long}
use Rattle.md_word.specs.declared.spent.Spent.{Spent}
use Rattle.md_word.specs.declared.task.Task.{Task}
use Rattle.md_word.specs.declared.task.Task.TheVariants as tasks
use Rattle.m68k_decode.specs.Addressing.{control, control_alterable_or_predecrement, control_or_postincrement}
use Rattle.m68k_decode.specs.Operands.{ArePaired, IsOf, number_of}
use Rattle.m68k_decode.specs.Bounds.{HasModes}
use Rattle.m68k_decode.specs.Ops.{Counts, IsOp, IsSpent, accesses_of, bit_touches, moves_of, touches_of}
use Rattle.m68k_decode.specs.declared.displacement.Displacement.{Displacement}
use Rattle.m68k_decode.specs.declared.displacement.Displacement.TheVariants as displacements
use Rattle.m68k_decode.specs.declared.op.Op.{Op}
use Rattle.m68k_decode.specs.declared.op.Op.TheVariants as ops
use Rattle.m68k_time.specs.Addresses.{address_time, by_size, by_source, control_times_of, placed, target_time}
use Rattle.m68k_time.specs.Clocks.{bit_time, clocks_of, passed_time, quick_time, row_time}
use Rattle.m68k_time.specs.Exceptions.{exception_time, operand_time}

-- SIZES

least : (size : Size) (n x y : ℕ) → n ≤ x → n ≤ y → n ≤ by_size size x y
least Byte n x y short long = short
least Word n x y short long = short
least Long n x y short long = long

-- so many clocks for each move
moves : (size : Size) (x y : ℕ) → 4 ≤ x → 8 ≤ y → 4 * moves_of size ≤ by_size size x y
moves Byte x y short long = omega (arith, short)
moves Word x y short long = omega (arith, short)
moves Long x y short long = omega (arith, long)

-- OPERANDS

touches-most : (size : Size) (mode : Mode) → touches_of size mode ≤ moves_of size
touches-most size (Data n) = omega arith
touches-most size (Address n) = omega arith
touches-most size (Immediate value) = omega arith
touches-most size _ = omega arith

read : (size : Size) (mode : Mode) → 4 * touches_of size mode ≤ address_time size mode
read size (Data n) = omega arith
read size (Address n) = omega arith
read size (Indirect n) = moves size 4 8 (omega arith) (omega arith)
read size (PostInc n) = moves size 4 8 (omega arith) (omega arith)
read size (PreDec n) = moves size 6 10 (omega arith) (omega arith)
read size (Displaced n by) = moves size 8 12 (omega arith) (omega arith)
read size (Indexed n index long by) = moves size 10 14 (omega arith) (omega arith)
read size (AbsShort at) = moves size 8 12 (omega arith) (omega arith)
read size (AbsLong at) = moves size 12 16 (omega arith) (omega arith)
read size (PcDisplaced by) = moves size 8 12 (omega arith) (omega arith)
read size (PcIndexed index long by) = moves size 10 14 (omega arith) (omega arith)
read size (Immediate value) = omega arith

written : (size : Size) (mode : Mode) → 4 * touches_of size mode ≤ target_time size mode
written size (PreDec n) = moves size 4 8 (omega arith) (omega arith)
written size (Data n) = read size (Data n)
written size (Address n) = read size (Address n)
written size (Indirect n) = read size (Indirect n)
written size (PostInc n) = read size (PostInc n)
written size (Displaced n by) = read size (Displaced n by)
written size (Indexed n index long by) = read size (Indexed n index long by)
written size (AbsShort at) = read size (AbsShort at)
written size (AbsLong at) = read size (AbsLong at)
written size (PcDisplaced by) = read size (PcDisplaced by)
written size (PcIndexed index long by) = read size (PcIndexed index long by)
written size (Immediate value) = read size (Immediate value)

-- a time in a register, where nothing is accessed, and one in memory
at-place : (size : Size) (mode : Mode) (n a b : ℕ) → (touches_of size mode ≡ 0 → n ≤ a) → n ≤ b → n ≤ placed mode a b
at-place size (Data m) n a b register memory = register refl
at-place size (Address m) n a b register memory = register refl
at-place size (Indirect m) n a b register memory = memory
at-place size (PostInc m) n a b register memory = memory
at-place size (PreDec m) n a b register memory = memory
at-place size (Displaced m by) n a b register memory = memory
at-place size (Indexed m index long by) n a b register memory = memory
at-place size (AbsShort at) n a b register memory = memory
at-place size (AbsLong at) n a b register memory = memory
at-place size (PcDisplaced by) n a b register memory = memory
at-place size (PcIndexed index long by) n a b register memory = memory
at-place size (Immediate value) n a b register memory = memory

-- an operand is read, and one is read and written
once : (size : Size) (mode : Mode) (x y : ℕ) → 4 ≤ x → 4 ≤ y → 4 * touches_of size mode + 4 ≤ by_size size x y + address_time size mode
once size mode x y short long = omega (arith, read size mode, least size 4 x y short long)

twice-by : (touches moved time base : ℕ) → touches ≤ moved → 4 * touches ≤ time → 4 * moved + 4 ≤ base → 4 * (2 * touches) + 4 ≤ base + time
twice-by touches moved time base few enough rest = omega (arith, few, enough, rest)

move-more : (size : Size) (x y : ℕ) → 8 ≤ x → 12 ≤ y → 4 * moves_of size + 4 ≤ by_size size x y
move-more Byte x y short long = omega (arith, short)
move-more Word x y short long = omega (arith, short)
move-more Long x y short long = omega (arith, long)

twice : (size : Size) (mode : Mode) (x y : ℕ) → 8 ≤ x → 12 ≤ y → 4 * (2 * touches_of size mode) + 4 ≤ by_size size x y + address_time size mode
twice size mode x y short long =
    twice-by (touches_of size mode) (moves_of size) (address_time size mode) (by_size size x y) (touches-most size mode) (read size mode) (move-more size x y short long)

changed : (size : Size) (mode : Mode) (a b x y : ℕ) → 4 ≤ a → 4 ≤ b → 8 ≤ x → 12 ≤ y
    → 4 * (2 * touches_of size mode) + 4 ≤ placed mode (by_size size a b) (by_size size x y + address_time size mode)
changed size mode a b x y in_register in_long short long =
    at-place size mode (4 * (2 * touches_of size mode) + 4) (by_size size a b) (by_size size x y + address_time size mode)
    (λ none. omega (arith, none, least size 4 a b in_register in_long)) (twice size mode x y short long)

tested : (size : Size) (mode : Mode) (a b x y : ℕ) → 4 ≤ a → 4 ≤ b → 4 ≤ x → 4 ≤ y
    → 4 * touches_of size mode + 4 ≤ placed mode (by_size size a b) (by_size size x y + address_time size mode)
tested size mode a b x y in_register in_long short long =
    at-place size mode (4 * touches_of size mode + 4) (by_size size a b) (by_size size x y + address_time size mode)
    (λ none. omega (arith, none, least size 4 a b in_register in_long)) (once size mode x y short long)

-- ROWS

bits : (task : Task) (mode : Mode) → 4 * (bit_touches task * touches_of Byte mode) + 4 ≤ bit_time task mode
bits tasks.Btst mode =
    at-place Byte mode (4 * (1 * touches_of Byte mode) + 4) 6 (4 + address_time Byte mode) (λ none. omega (arith, none)) (omega (arith, read Byte mode))
bits tasks.Bclr mode =
    at-place Byte mode (4 * (2 * touches_of Byte mode) + 4) 10 (8 + address_time Byte mode) (λ none. omega (arith, none)) (twice Byte mode 8 12 (omega arith) (omega arith))
bits _ mode =
    at-place Byte mode (4 * (2 * touches_of Byte mode) + 4) 8 (8 + address_time Byte mode) (λ none. omega (arith, none)) (twice Byte mode 8 12 (omega arith) (omega arith))

quicks : (size : Size) (mode : Mode) → 4 * (2 * touches_of size mode) + 4 ≤ quick_time size mode
quicks size (Address n) = omega arith
quicks size mode = changed size mode 4 8 8 12 (omega arith) (omega arith) (omega arith) (omega arith)

-- the modes of the control instructions
peas : (mode : Mode) → IsOf control mode → 12 ≤ (control_times_of mode).pea
peas (Indirect n) is = omega arith
peas (Displaced n by) is = omega arith
peas (Indexed n index long by) is = omega arith
peas (AbsShort at) is = omega arith
peas (AbsLong at) is = omega arith
peas (PcDisplaced by) is = omega arith
peas (PcIndexed index long by) is = omega arith
peas _ is = absurd (false≢true is)

jsrs : (mode : Mode) → IsOf control mode → 12 ≤ (control_times_of mode).jsr
jsrs (Indirect n) is = omega arith
jsrs (Displaced n by) is = omega arith
jsrs (Indexed n index long by) is = omega arith
jsrs (AbsShort at) is = omega arith
jsrs (AbsLong at) is = omega arith
jsrs (PcDisplaced by) is = omega arith
jsrs (PcIndexed index long by) is = omega arith
jsrs _ is = absurd (false≢true is)

jmps : (mode : Mode) → IsOf control mode → 4 ≤ (control_times_of mode).jmp
jmps (Indirect n) is = omega arith
jmps (Displaced n by) is = omega arith
jmps (Indexed n index long by) is = omega arith
jmps (AbsShort at) is = omega arith
jmps (AbsLong at) is = omega arith
jmps (PcDisplaced by) is = omega arith
jmps (PcIndexed index long by) is = omega arith
jmps _ is = absurd (false≢true is)

leas : (mode : Mode) → IsOf control mode → 4 ≤ (control_times_of mode).lea
leas (Indirect n) is = omega arith
leas (Displaced n by) is = omega arith
leas (Indexed n index long by) is = omega arith
leas (AbsShort at) is = omega arith
leas (AbsLong at) is = omega arith
leas (PcDisplaced by) is = omega arith
leas (PcIndexed index long by) is = omega arith
leas _ is = absurd (false≢true is)

stores : (mode : Mode) → IsOf control_alterable_or_predecrement mode → 4 ≤ (control_times_of mode).to_memory
stores (Indirect n) is = omega arith
stores (PreDec n) is = omega arith
stores (Displaced n by) is = omega arith
stores (Indexed n index long by) is = omega arith
stores (AbsShort at) is = omega arith
stores (AbsLong at) is = omega arith
stores _ is = absurd (false≢true is)

loads : (mode : Mode) → IsOf control_or_postincrement mode → 4 ≤ (control_times_of mode).to_registers
loads (Indirect n) is = omega arith
loads (PostInc n) is = omega arith
loads (Displaced n by) is = omega arith
loads (Indexed n index long by) is = omega arith
loads (AbsShort at) is = omega arith
loads (AbsLong at) is = omega arith
loads (PcDisplaced by) is = omega arith
loads (PcIndexed index long by) is = omega arith
loads _ is = absurd (false≢true is)

listed : (size : Size) (ones count base : ℕ) → count ≡ ones → 4 ≤ base → 4 * (ones * moves_of size) + 4 ≤ base + by_size size 4 8 * count
listed Byte ones count base same some = omega (arith, same, some)
listed Word ones count base same some = omega (arith, same, some)
listed Long ones count base same some = omega (arith, same, some)

-- two data registers, or two places below address registers
no-touches : (size : Size) (mode : Mode) → number_of mode ≡ 0 → touches_of size mode ≡ 0
no-touches size (Data n) is = refl
no-touches size _ is = absurd (omega (arith, is))

three : (size : Size) (target : Mode) → 4 * (moves_of size + 2 * touches_of size target) + 4 ≤ by_size size 18 30
three Byte target = omega (arith, touches-most Byte target)
three Word target = omega (arith, touches-most Word target)
three Long target = omega (arith, touches-most Long target)

pairs : (size : Size) (source target : Mode) (a b : ℕ) → 4 ≤ a → 4 ≤ b → ArePaired source target
    → 4 * (touches_of size source + 2 * touches_of size target) + 4 ≤ placed source (by_size size a b) (by_size size 18 30)
pairs size (Data n) target a b short long paired = omega (arith, no-touches size target paired.alike, least size 4 a b short long)
pairs size (PreDec n) target a b short long paired = three size target
pairs size _ target a b short long paired = absurd (false≢true paired.direct_or_below)

read-long : (m : Mode) → 4 ≤ by_source m 8 6
read-long (Data n) = omega arith
read-long (Address n) = omega arith
read-long (Immediate value) = omega arith
read-long _ = omega arith

to-data-registers : (size : Size) (mode : Mode) → 4 * touches_of size mode + 4 ≤ by_size size 4 (by_source mode 8 6) + address_time size mode
to-data-registers Byte mode = omega (arith, read Byte mode)
to-data-registers Word mode = omega (arith, read Word mode)
to-data-registers Long mode = omega (arith, read Long mode, read-long mode)

to-addresses : (size : Size) (mode : Mode) → 4 * touches_of size mode + 4 ≤ by_size size 8 (by_source mode 8 6) + address_time size mode
to-addresses Byte mode = omega (arith, read Byte mode)
to-addresses Word mode = omega (arith, read Word mode)
to-addresses Long mode = to-data-registers Long mode

compared : (size : Size) → 4 * (2 * moves_of size) + 4 ≤ by_size size 12 20
compared Byte = omega arith
compared Word = omega arith
compared Long = omega arith

slower : (size : Size) → by_size size 12 20 ≤ by_size size 16 24
slower Byte = omega arith
slower Word = omega arith
slower Long = omega arith

set : (b : Bool) → 4 ≤ cond b 6 4
set true = omega arith
set false = omega arith

looped : (b d : Bool) → 4 ≤ cond b 14 (cond d 10 12)
looped true d = omega arith
looped false true = omega arith
looped false false = omega arith

passed : (b : Bool) (displacement : Displacement) → 4 ≤ cond b 10 (passed_time displacement)
passed true displacement = omega arith
passed false (displacements.Byte by) = omega arith
passed false (displacements.Word by) = omega arith

row-covers-modes : (op : Op) (spent : Spent) → HasModes op → Counts op spent.count → 4 * accesses_of op + 4 ≤ row_time op spent
row-covers-modes (ops.Immediate task size value mode) spent is counted = changed size mode 8 16 12 20 (omega arith) (omega arith) (omega arith) (omega arith)
row-covers-modes (ops.CompareImmediate size value mode) spent is counted = tested size mode 8 14 8 12 (omega arith) (omega arith) (omega arith) (omega arith)
row-covers-modes (ops.BitByRegister task n mode) spent is counted = bits task mode
row-covers-modes (ops.BitByNumber task number mode) spent is counted = omega (arith, bits task mode)
row-covers-modes (ops.MovepToRegister size n r by) spent is counted = omega (arith, compared size, slower size)
row-covers-modes (ops.MovepToMemory size n r by) spent is counted = omega (arith, compared size, slower size)
row-covers-modes (ops.Move size source target) spent is counted = omega (arith, read size source, written size target)
row-covers-modes (ops.Movea size n mode) spent is counted = omega (arith, read size mode)
row-covers-modes (ops.Unary task size mode) spent is counted = changed size mode 4 6 8 12 (omega arith) (omega arith) (omega arith) (omega arith)
row-covers-modes (ops.MoveFromSr mode) spent is counted = changed Word mode 6 6 8 12 (omega arith) (omega arith) (omega arith) (omega arith)
row-covers-modes (ops.MoveToCcr mode) spent is counted = omega (arith, read Word mode)
row-covers-modes (ops.MoveToSr mode) spent is counted = omega (arith, read Word mode)
row-covers-modes (ops.Nbcd mode) spent is counted = changed Byte mode 6 6 8 12 (omega arith) (omega arith) (omega arith) (omega arith)
row-covers-modes (ops.Pea mode) spent is counted = omega (arith, peas mode is)
row-covers-modes (ops.MovemToMemory size list mode) spent is counted = listed size (count_ones list) spent.count (control_times_of mode).to_memory counted (stores mode is)
row-covers-modes (ops.MovemToRegisters size list mode) spent is counted = listed size (count_ones list) spent.count (control_times_of mode).to_registers counted (loads mode is)
row-covers-modes (ops.Tst size mode) spent is counted = omega (arith, read size mode)
row-covers-modes (ops.Tas mode) spent is counted = tested Byte mode 4 4 10 10 (omega arith) (omega arith) (omega arith) (omega arith)
row-covers-modes (ops.Jsr mode) spent is counted = omega (arith, jsrs mode is)
row-covers-modes (ops.Jmp mode) spent is counted = jmps mode is
row-covers-modes (ops.Lea n mode) spent is counted = leas mode is
row-covers-modes (ops.Chk n mode) spent is counted = omega (arith, read Word mode)
row-covers-modes (ops.Quick task size number mode) spent is counted = quicks size mode
row-covers-modes (ops.Scc condition mode) spent is counted =
    at-place Byte mode (4 * (2 * touches_of Byte mode) + 4) (cond spent.taken 6 4) (8 + address_time Byte mode)
    (λ none. omega (arith, none, set spent.taken)) (twice Byte mode 8 12 (omega arith) (omega arith))
row-covers-modes (ops.Dbcc condition r by) spent is counted = looped spent.expired spent.taken
row-covers-modes (ops.Divu n mode) spent is counted = omega (arith, read Word mode)
row-covers-modes (ops.Divs n mode) spent is counted = omega (arith, read Word mode)
row-covers-modes (ops.Decimal task source target) spent is counted = pairs Byte source target 6 6 (omega arith) (omega arith) is
row-covers-modes (ops.Extended task size source target) spent is counted = pairs size source target 4 8 (omega arith) (omega arith) is
row-covers-modes (ops.ToRegister task size n mode) spent is counted = to-data-registers size mode
row-covers-modes (ops.ToMemory task size n mode) spent is counted = twice size mode 8 12 (omega arith) (omega arith)
row-covers-modes (ops.ToAddress task size n mode) spent is counted = to-addresses size mode
row-covers-modes (ops.Cmp size n mode) spent is counted = once size mode 4 6 (omega arith) (omega arith)
row-covers-modes (ops.Cmpa size n mode) spent is counted = omega (arith, read size mode)
row-covers-modes (ops.Eor size n mode) spent is counted = changed size mode 4 8 8 12 (omega arith) (omega arith) (omega arith) (omega arith)
row-covers-modes (ops.Cmpm size n r) spent is counted = compared size
row-covers-modes (ops.Mulu n mode) spent is counted = omega (arith, read Word mode)
row-covers-modes (ops.Muls n mode) spent is counted = omega (arith, read Word mode)
row-covers-modes (ops.ShiftByNumber task size number r) spent is counted = omega (arith, least size 4 6 8 (omega arith) (omega arith))
row-covers-modes (ops.ShiftByRegister task size n r) spent is counted = omega (arith, least size 4 6 8 (omega arith) (omega arith))
row-covers-modes (ops.ShiftMemory task mode) spent is counted = twice Word mode 8 12 (omega arith) (omega arith)
row-covers-modes (ops.Bcc condition displacement) spent is counted = passed spent.taken displacement
row-covers-modes _ spent is counted = omega arith

-- THE WHOLE TIME

ended : (b3 b5 b6 bi : Bool) (a t : ℕ) → (b3 ≡ true → a ≤ 11) → (b3 ≡ false → a ≤ 7) → 4 * a + 4 ≤ cond b3 50 (cond b5 (38 + t) (cond b6 (40 + t) (cond bi 44 34)))
ended true b5 b6 bi a t odd other = omega (arith, odd refl)
ended false true b6 bi a t odd other = omega (arith, other refl)
ended false false true bi a t odd other = omega (arith, other refl)
ended false false false true a t odd other = omega (arith, other refl)
ended false false false false a t odd other = omega (arith, other refl)

covers-by : (b : Bool) (op : Op) (spent : Spent) → (spent.cause == 0) ≡ b → HasModes op → IsSpent op spent
    → 4 * spent.accesses + 4 ≤ cond b (row_time op spent) (exception_time spent.cause op)
covers-by true op spent none is rightly =
    let cause : spent.cause ≡ 0 = eqb-true spent.cause 0 none in
    omega (arith, rightly.own cause, row-covers-modes op spent is (rightly.counted cause))
covers-by false op spent ended-in is rightly =
    ended (spent.cause == 3) (spent.cause == 5) (spent.cause == 6) (nat_le 24 spent.cause && nat_le spent.cause 31) spent.accesses (operand_time op)
    (λ odd. rightly.address_error (eqb-true spent.cause 3 odd))
    (λ other. rightly.exception (eqb-false spent.cause 0 ended-in) (eqb-false spent.cause 3 other))

-- for what words decode to
pub covers-modes : (op : Op) (spent : Spent) → HasModes op → IsSpent op spent → 4 * spent.accesses + 4 ≤ clocks_of op spent
covers-modes op spent is rightly = covers-by (spent.cause == 0) op spent refl is rightly

modes-of : (op : Op) → IsOp op → HasModes op
modes-of (ops.Pea mode) is = is.1
modes-of (ops.MovemToMemory size list mode) is = is.1
modes-of (ops.MovemToRegisters size list mode) is = is.1
modes-of (ops.Jsr mode) is = is.1
modes-of (ops.Jmp mode) is = is.1
modes-of (ops.Lea n mode) is = is.2
modes-of (ops.Decimal operation source target) is = is.2
modes-of (ops.Extended operation size source target) is = is.2
modes-of op is = tt

pub covers : (op : Op) (spent : Spent) → IsOp op → IsSpent op spent → 4 * spent.accesses + 4 ≤ clocks_of op spent
covers op spent is rightly = covers-modes op spent (modes-of op is) rightly

pub row-covers : (op : Op) (spent : Spent) → IsOp op → Counts op spent.count → 4 * accesses_of op + 4 ≤ row_time op spent
row-covers op spent is counted = row-covers-modes op spent (modes-of op is) counted
