-- An address error, or a vector other than 0, comes within four answers; and no instruction takes
-- more than 32.
use Rattle.std.proofs.Common.{◌≡◌, ℕ, zero, suc, ◌+◌, ◌*◌, ◌<◌, ◌≤◌, ◌==◌, ◌%◌, ◌/◌, ◌∙◌, Bool, true, false, List, [], ◌∷◌, length, Result, Ok, Err, refl, ap, subst, arith}
use Rattle.std.specs.Prelude.{◌≢◌, if◌then◌else◌, count_ones}
use Rattle.md_word.specs.declared.mode.Mode.{Mode}
use Rattle.md_word.specs.declared.regs.Regs.{Regs}
use Rattle.md_word.specs.declared.size.Size.{Size}
use Rattle.md_word.specs.declared.size.Size.TheVariants.{Byte, Word, Long}
use Rattle.md_word.specs.declared.task.Task.{Task}
use Rattle.md_word.specs.declared.task.Task.TheVariants as tasks
use Rattle.m68k_decode.specs.Ops.{Counts, accesses_of, bit_touches, moves_of, touches_of}
use Rattle.m68k_decode.specs.declared.op.Op.{Op}
use Rattle.m68k_decode.specs.declared.op.Op.TheVariants as ops
use Rattle.m68k_ea.specs.Places.{is_misaligned, place_of}
use Rattle.m68k_ea.specs.Steps.{stepped}
use Rattle.md_word.specs.Fields.{flags_of, with_flags}
use Rattle.m68k_alu.specs.Tasks.{computed}
use Rattle.m68k_alu.specs.declared.out.Out.{Out}
use Rattle.md_word.specs.declared.mode.Mode.TheVariants as modes
use Rattle.m68k_access.proofs.Aligned.{OddBelow, both, change_first, moves_most, read_even, touches_most, write_even}
use Rattle.m68k_exec.proofs.Bounds.Takes.{Takes, load, more}
use Rattle.m68k_exec.proofs.Bounds.TakesRows.{movem_to_memory, movem_to_registers, row}
use Rattle.m68k_access.specs.Actions as actions
use Rattle.md_word.specs.Answers.{Done}
use Rattle.m68k_access.specs.Actions.{Act, go_on}
use Rattle.m68k_access.specs.Clauses.{NotOdd}
use Rattle.m68k_exec.specs.Sample.Execution as execution
use Rattle.m68k_access.specs.Memory.{Memory}
use Rattle.m68k_exec.specs.Rows.Movem as movem
use Rattle.m68k_exec.specs.Rows.Movem.{Loaded}
use Rattle.m68k_exec.specs.Rows.Multiprecision as multiprecision
use Rattle.m68k_access.specs.Operands as operands
use Rattle.m68k_access.specs.Operands.{Operand}
use Rattle.m68k_access.specs.Outcomes.{Outcome, plain}
use Rattle.m68k_access.specs.Shapes as shapes
use Rattle.m68k_exec.specs.declared.rows.movem.Order.{Order}
use Rattle.m68k_exec.specs.declared.rows.movem.Order.TheVariants.{Falling, Rising}
use Rattle.m68k_access.specs.declared.stop.Stop.{Stop}
use Rattle.m68k_access.specs.declared.stop.Stop.TheVariants.{Ask, Odd}

pub record IsEarly (act : Act Outcome) : Type 0 where
  pub odd : (memory : Memory) (before : Done) (address : ℕ) (read : Bool) (used : ℕ) → act memory before ≡ Err (Odd address read used) → before.used ≤ length memory.answers → used ≤ before.used + 4
  pub caused : (memory : Memory) (before : Done) (x : Outcome) (after : Done) → act memory before ≡ Ok (x, after) → x.vector ≢ 0 → before.used ≤ length memory.answers → after.used ≤ before.used + 4

from_few : (most : ℕ) (act : Act Outcome) → most ≤ 4 → Takes most act → IsEarly act
from_few most act few h = record {
  odd = λ memory before address read used e in_range. (let r = h.odd memory before address read used e in_range in omega (arith, r.0, few));
  caused = λ memory before x after e other in_range. (let r = h.value memory before x after e in_range in omega (arith, r.0, few));
}

-- an outcome of this kind has the vector 0
abbrev IsPlain : Result (Outcome × Done) Stop → Type 0
IsPlain (Ok x) = x.0.vector ≡ 0
IsPlain (Err stop) = Unit {0}

plain_on : {A : Type 0} (first : Result (A × Done) Stop) (f : A → Done → Result (Outcome × Done) Stop) → ((x : A) (after : Done) → IsPlain (f x after)) → IsPlain (go_on first f)
plain_on (Ok x) f h = h x.0 x.1
plain_on (Err stop) f h = tt

never_odd : (act : Act Outcome) → ((memory : Memory) (before : Done) → NotOdd (act memory before)) → ((memory : Memory) (before : Done) → IsPlain (act memory before)) → IsEarly act
never_odd act h k = record {
  odd = λ memory before address read used e in_range. absurd (subst NotOdd e (h memory before));
  caused = λ memory before x after e other in_range. absurd (other (subst IsPlain e (k memory before)));
}

-- MOVEM: an odd address is an error before any access
abbrev AtOnce : {A : Type 0} → ℕ → Result (A × Done) Stop → Type 0
AtOnce used (Ok x) = Unit {0}
AtOnce used (Err (Ask request)) = Unit {0}
AtOnce used (Err (Odd address read now)) = now ≡ used

odd_at_once : {A : Type 0} (used : ℕ) (result : Result (A × Done) Stop) → NotOdd result → AtOnce used result
odd_at_once used (Ok x) h = tt
odd_at_once used (Err (Ask request)) h = tt
odd_at_once used (Err (Odd address read now)) h = absurd h

cases : {A : Type 0} (used : ℕ) (b : Bool) (x y : Result (A × Done) Stop) → (b ≡ true → AtOnce used x) → (b ≡ false → AtOnce used y) → AtOnce used (if b then x else y)
cases used true x y h k = h refl
cases used false x y h k = k refl

aligned : (size : Size) (at : ℕ) → actions.is_odd at ≡ false → is_misaligned size at ≡ false
aligned Byte at e = refl
aligned Word at e = e
aligned Long at e = e

next_even : (order : Order) (size : Size) (at : ℕ) → actions.is_odd at ≡ false → actions.is_odd (movem.next_address order size at) ≡ false
next_even Rising Byte at e = grind arith
next_even Rising Word at e = grind arith
next_even Rising Long at e = grind arith
next_even Falling Byte at e = grind arith
next_even Falling Word at e = grind arith
next_even Falling Long at e = grind arith

place_even : (order : Order) (size : Size) (at : ℕ) → actions.is_odd at ≡ false → actions.is_odd (movem.place_at order size at) ≡ false
place_even Rising size at e = e
place_even Falling size at e = next_even Falling size at e

store_even : (order : Order) (size : Size) (places : List ℕ) (at : ℕ) (regs : Regs) → actions.is_odd at ≡ false → (memory : Memory) (done : Done) → NotOdd (movem.store_each order size places at regs memory done)
store_even order size [] at regs e memory done = tt
store_even order size (place ∷ rest) at regs e memory done =
    both (actions.write size (movem.place_at order size at) _ memory done) _ (write_even size _ _ (aligned size _ (place_even order size at e)) memory done) (λ x after. store_even order size rest _ regs (next_even order size at e) memory after)

load_even : (size : Size) (places : List ℕ) (at : ℕ) (regs : Regs) → actions.is_odd at ≡ false → (memory : Memory) (done : Done) → NotOdd (movem.load_each size places at regs memory done)
load_even size [] at regs e memory done = tt
load_even size (place ∷ rest) at regs e memory done =
    both (actions.read size at memory done) _ (read_even size at (aligned size at e) memory done) (λ x after. load_even size rest _ _ (next_even Rising size at e) memory after)

store_list : (order : Order) (size : Size) (list at : ℕ) (regs : Regs) (memory : Memory) (done : Done) → AtOnce done.used (movem.store_list order size list at regs memory done)
unfolding movem.store_list
store_list order size list at regs memory done =
    cases done.used (list == 0) _ _ (λ e. tt) (λ e. cases done.used (actions.is_odd at) _ _ (λ o. refl) (λ o. odd_at_once {A = ℕ} done.used (movem.store_each order size (movem.places_in list) at regs memory done) (store_even order size (movem.places_in list) at regs o memory done)))

load_list : (size : Size) (list at : ℕ) (regs : Regs) (memory : Memory) (done : Done) → AtOnce done.used (movem.load_list size list at regs memory done)
unfolding movem.load_list
load_list size list at regs memory done =
    cases done.used (list == 0) _ _ (λ e. tt) (λ e. cases done.used (actions.is_odd at) _ _ (λ o. refl) (λ o. odd_at_once {A = Loaded} done.used (movem.load_each size (movem.places_in list) at regs memory done) (load_even size (movem.places_in list) at regs o memory done)))

-- MOVEM's outcome
abbrev CountsList : ℕ → Result (Outcome × Done) Stop → Type 0
CountsList list (Ok x) = (x.0.vector ≡ 0) × (x.0.count ≡ count_ones list)
CountsList list (Err stop) = Unit {0}

counted_on : {A : Type 0} (list : ℕ) (first : Result (A × Done) Stop) (f : A → Regs) → CountsList list (go_on first (λ x after. Ok (movem.moved list (f x), after)))
counted_on list (Ok x) f = (refl, refl)
counted_on list (Err stop) f = tt

store_counted : (size : Size) (list : ℕ) (mode : Mode) (start : ℕ) (regs : Regs) (memory : Memory) (done : Done) → CountsList list (movem.movem_to_memory size list mode start regs memory done)
unfolding movem.movem_to_memory
store_counted size list mode start regs memory done = counted_on list (movem.store_list (movem.order_of mode) size list _ regs memory done) _

load_counted : (size : Size) (list : ℕ) (mode : Mode) (start : ℕ) (regs : Regs) (memory : Memory) (done : Done) → CountsList list (movem.movem_to_registers size list mode start regs memory done)
unfolding movem.movem_to_registers
load_counted size list mode start regs memory done = counted_on list (movem.load_list size list _ regs memory done) _

at_once_end : {A : Type 0} (used : ℕ) (first : Result (A × Done) Stop) (f : A → Outcome) → AtOnce used first → AtOnce used (go_on first (λ x after. Ok (f x, after)))
at_once_end used (Ok x) f h = tt
at_once_end used (Err (Ask request)) f h = tt
at_once_end used (Err (Odd address read now)) f h = h

store_odd : (size : Size) (list : ℕ) (mode : Mode) (start : ℕ) (regs : Regs) (memory : Memory) (done : Done) → AtOnce done.used (movem.movem_to_memory size list mode start regs memory done)
unfolding movem.movem_to_memory
store_odd size list mode start regs memory done = at_once_end done.used _ _ (store_list (movem.order_of mode) size list _ regs memory done)

load_odd : (size : Size) (list : ℕ) (mode : Mode) (start : ℕ) (regs : Regs) (memory : Memory) (done : Done) → AtOnce done.used (movem.movem_to_registers size list mode start regs memory done)
unfolding movem.movem_to_registers
load_odd size list mode start regs memory done = at_once_end done.used _ _ (load_list size list _ regs memory done)

from_once : (list : ℕ) (act : Act Outcome) → ((memory : Memory) (done : Done) → AtOnce done.used (act memory done)) → ((memory : Memory) (done : Done) → CountsList list (act memory done)) → IsEarly act
from_once list act h k = record {
  odd = λ memory before address read used e in_range. (let r : used ≡ before.used = subst (AtOnce before.used) e (h memory before) in omega (arith, r));
  caused = λ memory before x after e other in_range. absurd (other (subst (CountsList list) e (k memory before)).0);
}

-- ADDX and SUBX: the source takes two answers at most, and of the target only the read can be odd
plain_end : {A : Type 0} (first : Result (A × Done) Stop) (f : A → Regs) → IsPlain (go_on first (λ x last. Ok (plain (f x), last)))
plain_end (Ok x) f = refl
plain_end (Err stop) f = tt

plain_change : (operation : Task) (size : Size) (number : ℕ) (mode : Mode) (pc : ℕ) (regs : Regs) (memory : Memory) (done : Done) → IsPlain (shapes.change_operand operation size number mode pc regs memory done)
unfolding shapes.change_operand
plain_change operation size number mode pc regs memory done =
    let to = place_of mode size regs pc in
    let out : ℕ → Out = λ old. computed operation size number old (flags_of regs) in
    plain_on (operands.fetch size to (stepped mode size regs) memory done) (λ old mid. go_on (operands.put size to (out old).value (stepped mode size regs) memory mid) (λ x last. Ok (plain (with_flags x (out old).flags), last)))
    (λ old mid. plain_end (operands.put size to (out old).value (stepped mode size regs) memory mid) (λ x. with_flags x (out old).flags))

extended_plain : (operation : Task) (size : Size) (source target : Mode) (start : ℕ) (regs : Regs) (memory : Memory) (done : Done) → IsPlain (multiprecision.extended operation size source target start regs memory done)
unfolding multiprecision.extended
extended_plain operation size source target start regs memory done =
    plain_on (operands.load source size (shapes.following start 2) regs memory done) (λ part mid. shapes.change_operand operation size part.value target (shapes.following start 2) part.regs memory mid)
    (λ part mid. plain_change operation size part.value target (shapes.following start 2) part.regs memory mid)

second_odd : (operation : Task) (size : Size) (source target : Mode) (pc following : ℕ) (regs : Regs) (memory : Memory) (before : Done) (address : ℕ) (read : Bool) (used : ℕ) (first : Result (Operand × Done) Stop) → operands.load source size pc regs memory before ≡ first → go_on first (λ part mid. shapes.change_operand operation size part.value target following part.regs memory mid) ≡ Err (Odd address read used) → before.used ≤ length memory.answers → used ≤ before.used + 4
second_odd operation size source target pc following regs memory before address read used (Ok p) is e in_range =
    let one = (load source size pc regs).value memory before p.0 p.1 is in_range in
    let few = touches_most size source in
    let two : used < p.1.used + 1 = subst (λ r. OddBelow r (p.1.used + 1)) e (change_first operation size p.0.value target following p.0.regs memory p.1) in
    omega (arith, one.0, few, two)
second_odd operation size source target pc following regs memory before address read used (Err stop) is e in_range =
    let same : stop ≡ Odd address read used = cc in
    let one = (load source size pc regs).odd memory before address read used (is ∙ ap Err same) in_range in
    let few = touches_most size source in
    omega (arith, one.0, few)

extended_early : (operation : Task) (size : Size) (source target : Mode) (start : ℕ) (regs : Regs) → IsEarly (multiprecision.extended operation size source target start regs)
unfolding multiprecision.extended
extended_early operation size source target start regs = record {
  odd = λ memory before address read used e in_range. second_odd operation size source target _ _ regs memory before address read used (operands.load source size (shapes.following start 2) regs memory before) refl e in_range;
  caused = λ memory before x after e other in_range. absurd (other (subst IsPlain e (extended_plain operation size source target start regs memory before)));
}

-- all other instructions take four answers at most
abbrev TakesFew : Op → Type 0
TakesFew (ops.MovemToMemory size list mode) = Unit {0}
TakesFew (ops.MovemToRegisters size list mode) = Unit {0}
TakesFew (ops.Extended operation size source target) = Unit {0}
TakesFew op = accesses_of op ≤ 4

bits_most : (operation : Task) (mode : Mode) → bit_touches operation * touches_of Byte mode ≤ 4
bits_most tasks.Btst mode = let t = touches_most Byte mode in omega (arith, t)
bits_most operation mode = let t = touches_most Byte mode in omega (arith, t)

byte_most : (mode : Mode) → touches_of Byte mode ≤ 1
byte_most (modes.Data n) = omega arith
byte_most (modes.Address n) = omega arith
byte_most (modes.Immediate value) = omega arith
byte_most mode = omega arith

few : (op : Op) → TakesFew op
few (ops.Immediate _ size _ mode) = let t = touches_most size mode in omega (arith, t)
few (ops.CompareImmediate size _ mode) = let t = touches_most size mode in omega (arith, t)
few (ops.BitByRegister operation _ mode) = bits_most operation mode
few (ops.BitByNumber operation _ mode) = bits_most operation mode
few (ops.MovepToRegister size _ _ _) = let t = moves_most size in omega (arith, t)
few (ops.MovepToMemory size _ _ _) = let t = moves_most size in omega (arith, t)
few (ops.Move size source target) = let t = touches_most size source in let u = touches_most size target in omega (arith, t, u)
few (ops.Movea size _ mode) = let t = touches_most size mode in omega (arith, t)
few (ops.Unary _ size mode) = let t = touches_most size mode in omega (arith, t)
few (ops.MoveFromSr mode) = let t = touches_most Word mode in omega (arith, t)
few (ops.MoveToCcr mode) = let t = touches_most Word mode in omega (arith, t)
few (ops.MoveToSr mode) = let t = touches_most Word mode in omega (arith, t)
few (ops.Nbcd mode) = let t = touches_most Byte mode in omega (arith, t)
few (ops.MovemToMemory size list mode) = tt
few (ops.MovemToRegisters size list mode) = tt
few (ops.Tst size mode) = let t = touches_most size mode in omega (arith, t)
few (ops.Tas mode) = let t = touches_most Byte mode in omega (arith, t)
few (ops.Chk _ mode) = let t = touches_most Word mode in omega (arith, t)
few (ops.Quick _ size _ mode) = let t = touches_most size mode in omega (arith, t)
few (ops.Scc _ mode) = let t = touches_most Byte mode in omega (arith, t)
few (ops.Divu _ mode) = let t = touches_most Word mode in omega (arith, t)
few (ops.Divs _ mode) = let t = touches_most Word mode in omega (arith, t)
few (ops.Decimal _ source target) = let t = byte_most source in let u = byte_most target in omega (arith, t, u)
few (ops.Extended operation size source target) = tt
few (ops.ToRegister _ size _ mode) = let t = touches_most size mode in omega (arith, t)
few (ops.ToMemory _ size _ mode) = let t = touches_most size mode in omega (arith, t)
few (ops.ToAddress _ size _ mode) = let t = touches_most size mode in omega (arith, t)
few (ops.Cmp size _ mode) = let t = touches_most size mode in omega (arith, t)
few (ops.Cmpa size _ mode) = let t = touches_most size mode in omega (arith, t)
few (ops.Eor size _ mode) = let t = touches_most size mode in omega (arith, t)
few (ops.Cmpm size _ _) = let t = moves_most size in omega (arith, t)
few (ops.Mulu _ mode) = let t = touches_most Word mode in omega (arith, t)
few (ops.Muls _ mode) = let t = touches_most Word mode in omega (arith, t)
few (ops.ShiftMemory _ mode) = let t = touches_most Word mode in omega (arith, t)
few op = omega arith

-- an address error, or a vector other than 0, comes within four answers
pub early : (op : Op) (start : ℕ) (regs : Regs) → IsEarly (execution.row op start regs)
early (ops.MovemToMemory size list mode) start regs = from_once list _ (store_odd size list mode start regs) (store_counted size list mode start regs)
early (ops.MovemToRegisters size list mode) start regs = from_once list _ (load_odd size list mode start regs) (load_counted size list mode start regs)
early (ops.Extended operation size source target) start regs = extended_early operation size source target start regs
early op start regs = from_few (accesses_of op) (execution.row op start regs) (few op) (row op start regs)

-- MOVEM moves no more than sixteen registers
chosen_most : (b : Bool) (n : ℕ) (rest : List ℕ) (count : ℕ) → length rest ≤ count → length (if b then n ∷ rest else rest) ≤ suc count
chosen_most true n rest count h = omega (arith, h)
chosen_most false n rest count h = omega (arith, h)

sixteen : (count list n : ℕ) → length (movem.places count list n) ≤ count
sixteen zero list n = omega arith
sixteen (suc count) list n = chosen_most (list % 2 == 1) n _ count (sixteen count (list / 2) (n + 1))

lists_most : (size : Size) (list : ℕ) → length (movem.places 16 list 0) * moves_of size ≤ 32
lists_most Byte list = let n = sixteen 16 list 0 in omega (arith, n)
lists_most Word list = let n = sixteen 16 list 0 in omega (arith, n)
lists_most Long list = let n = sixteen 16 list 0 in omega (arith, n)

pub row32 : (op : Op) (start : ℕ) (regs : Regs) → Takes 32 (execution.row op start regs)
row32 (ops.MovemToMemory size list mode) start regs = movem_to_memory 32 size list mode start regs (lists_most size list)
row32 (ops.MovemToRegisters size list mode) start regs = movem_to_registers 32 size list mode start regs (lists_most size list)
row32 (ops.Extended operation size source target) start regs =
    let t = touches_most size source in
    let u = touches_most size target in
    more _ _ _ (omega (arith, t, u)) (row (ops.Extended operation size source target) start regs)
row32 op start regs = more (accesses_of op) _ _ (let few_ : accesses_of op ≤ 4 = few op in omega (arith, few_)) (row op start regs)

-- MOVEM reports how many registers its list has
pub counts_list : (op : Op) (start : ℕ) (regs : Regs) (memory : Memory) (before : Done) (x : Outcome) (after : Done) → execution.row op start regs memory before ≡ Ok (x, after) → Counts op x.count
counts_list (ops.MovemToMemory size list mode) start regs memory before x after e = (subst (CountsList list) e (store_counted size list mode start regs memory before)).1
counts_list (ops.MovemToRegisters size list mode) start regs memory before x after e = (subst (CountsList list) e (load_counted size list mode start regs memory before)).1
counts_list op start regs memory before x after e = tt
