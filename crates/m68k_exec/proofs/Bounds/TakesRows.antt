-- How many answers each row takes at most.
use Rattle.std.proofs.Common.{◌≡◌, ℕ, zero, suc, ◌+◌, ◌*◌, ◌≤◌, ◌==◌, ◌%◌, ◌/◌, Bool, true, false, List, [], ◌∷◌, length, refl, arith}
use Rattle.std.specs.Int.RustNames.{count_ones}
use Rattle.std.specs.Prelude.{if◌then◌else◌}
use Rattle.md_word.specs.Fields.{is_supervisor}
use Rattle.md_word.specs.Coding.{flag_number}
use Rattle.md_word.specs.declared.mode.Mode.{Mode}
use Rattle.md_word.specs.declared.mode.Mode.TheVariants as modes
use Rattle.md_word.specs.declared.regs.Regs.{Regs}
use Rattle.md_word.specs.declared.size.Size.{Size}
use Rattle.md_word.specs.declared.size.Size.TheVariants.{Byte, Word, Long}
use Rattle.md_word.specs.declared.task.Task.{Task}
use Rattle.md_word.specs.declared.task.Task.TheVariants as tasks
use Rattle.m68k_decode.specs.Ops.{accesses_of, bit_touches, moves_of, touches_of}
use Rattle.m68k_decode.specs.declared.op.Op.{Op}
use Rattle.m68k_decode.specs.declared.op.Op.TheVariants as ops
use Rattle.m68k_ea.specs.Places.{place_of}
use Rattle.m68k_exec.proofs.Bounds.Takes.{Takes, bind, change_operand, change_register, choice, extended, fetch, give, last, load, more, move_operand, odd, pull, push, put, quotient_by, read, read_byte, test_operand, write, write_byte}
use Rattle.m68k_access.proofs.Touches.{touched}
use Rattle.m68k_exec.proofs.Turns.{ones_turn}
use Rattle.m68k_access.specs.Actions as actions
use Rattle.m68k_exec.specs.Rows.Arithmetic as arithmetic
use Rattle.m68k_exec.specs.Rows.Bits as bits
use Rattle.m68k_exec.specs.Rows.Branches as branches
use Rattle.m68k_exec.specs.Rows.Comparisons as comparisons
use Rattle.m68k_exec.specs.Rows.Control as control
use Rattle.m68k_exec.specs.Sample.Execution as execution
use Rattle.m68k_exec.specs.Rows.Immediates as immediates
use Rattle.m68k_exec.specs.Rows.Links as links
use Rattle.m68k_exec.specs.Rows.Movem as movem
use Rattle.m68k_exec.specs.Rows.Movep as movep
use Rattle.m68k_exec.specs.Rows.Moves as moves
use Rattle.m68k_exec.specs.Rows.Multiprecision as multiprecision
use Rattle.m68k_exec.specs.Rows.Products as products
use Rattle.m68k_exec.specs.Rows.Quotients as quotients
use Rattle.m68k_exec.specs.Rows.Setting as setting
use Rattle.m68k_access.specs.Shapes as shapes
use Rattle.m68k_exec.specs.Rows.Single as single
use Rattle.m68k_exec.specs.Rows.Status as status
use Rattle.m68k_exec.specs.declared.rows.movem.Order.{Order}

-- bits
sized : (mode : Mode) → touches_of (bits.bit_size mode) mode ≡ touches_of Byte mode
sized (modes.Data n) = refl
sized _ = refl

bit_of_size : (operation : Task) (size : Size) (number : ℕ) (mode : Mode) (pc : ℕ) (regs : Regs) → Takes (bit_touches operation * touches_of size mode) (bits.bit_of_size operation size number mode pc regs)
bit_of_size tasks.Btst size number mode pc regs = more _ _ _ (omega arith) (test_operand tasks.Btst size number mode pc regs)
bit_of_size operation size number mode pc regs = change_operand operation size number mode pc regs

bit_change : (operation : Task) (number : ℕ) (mode : Mode) (pc : ℕ) (regs : Regs) → Takes (bit_touches operation * touches_of Byte mode) (bits.bit operation number mode pc regs)
unfolding bits.bit
bit_change operation number mode pc regs =
    let e = sized mode in
    rw (← e) (bit_of_size operation (bits.bit_size mode) _ mode pc regs)

bit_by_register : (operation : Task) (n : ℕ) (mode : Mode) (start : ℕ) (regs : Regs) → Takes (bit_touches operation * touches_of Byte mode) (bits.bit_by_register operation n mode start regs)
unfolding bits.bit_by_register
bit_by_register operation n mode start regs = bit_change operation _ mode _ regs

bit_by_number : (operation : Task) (number : ℕ) (mode : Mode) (start : ℕ) (regs : Regs) → Takes (bit_touches operation * touches_of Byte mode) (bits.bit_by_number operation number mode start regs)
unfolding bits.bit_by_number
bit_by_number operation number mode start regs = bit_change operation number mode _ regs

-- immediates
immediate : (operation : Task) (size : Size) (number : ℕ) (mode : Mode) (start : ℕ) (regs : Regs) → Takes (2 * touches_of size mode) (immediates.immediate operation size number mode start regs)
unfolding immediates.immediate
immediate operation size number mode start regs = change_operand operation size number mode _ regs

compare_immediate : (size : Size) (number : ℕ) (mode : Mode) (start : ℕ) (regs : Regs) → Takes (touches_of size mode) (immediates.compare_immediate size number mode start regs)
unfolding immediates.compare_immediate
compare_immediate size number mode start regs = test_operand tasks.Cmp size number mode _ regs

-- the stack
pea : (mode : Mode) (start : ℕ) (regs : Regs) → Takes 2 (links.pea mode start regs)
unfolding links.pea
pea mode start regs = last 2 _ _ (push Long _ regs) (λ after. give _)

link : (n by : ℕ) (regs : Regs) → Takes 2 (links.link n by regs)
unfolding links.link
link n by regs = last 2 _ _ (push Long _ regs) (λ after. give _)

unlk : (n : ℕ) (regs : Regs) → Takes 2 (links.unlk n regs)
unfolding links.unlk
unlk n regs = last 2 _ _ (pull Long _) (λ old. give _)

jsr : (mode : Mode) (start : ℕ) (regs : Regs) → Takes 2 (control.jsr mode start regs)
unfolding control.jsr
jsr mode start regs = last 2 _ _ (push Long _ regs) (λ after. give _)

rts : (regs : Regs) → Takes 2 (control.rts regs)
unfolding control.rts
rts regs = last 2 _ _ (pull Long regs) (λ target. give _)

rtr : (regs : Regs) → Takes 3 (control.rtr regs)
unfolding control.rtr
rtr regs = bind 1 2 _ _ (pull Word regs) (λ codes. last 2 _ _ (pull Long _) (λ target. give _))

return_from_exception : (regs : Regs) → Takes 3 (control.return_from_exception regs)
unfolding control.return_from_exception
return_from_exception regs = bind 1 2 _ _ (pull Word regs) (λ codes. last 2 _ _ (pull Long _) (λ target. give _))

rte : (start : ℕ) (regs : Regs) → Takes 3 (control.rte start regs)
unfolding control.rte
rte start regs = choice 3 (is_supervisor regs) _ _ (return_from_exception regs) (more 0 3 _ (omega arith) (give _))

bsr : (displacement : _) (start : ℕ) (regs : Regs) → Takes 2 (branches.bsr displacement start regs)
unfolding branches.bsr
bsr displacement start regs = last 2 _ _ (push Long regs.pc regs) (λ after. give _)

chk : (n : ℕ) (mode : Mode) (start : ℕ) (regs : Regs) → Takes (touches_of Word mode) (control.chk n mode start regs)
unfolding control.chk
chk n mode start regs = last _ _ _ (load mode Word _ regs) (λ bound. give _)

-- MOVEM
chosen : (b : Bool) (n : ℕ) (rest : List ℕ) (size : Size) → length (if b then n ∷ rest else rest) * moves_of size ≡ flag_number b * moves_of size + length rest * moves_of size
chosen true n rest size = omega arith
chosen false n rest size = omega arith

placed : (count list n : ℕ) (size : Size) → length (movem.places count list n) * moves_of size ≤ count_ones list * moves_of size
placed zero list n size = omega arith
placed (suc count) list n size =
    let turn = ones_turn list (moves_of size) in
    let rest = placed count (list / 2) (n + 1) size in
    let here = chosen (list % 2 == 1) n (movem.places count (list / 2) (n + 1)) size in
    omega (arith, turn, rest, here)

pub store_each : (order : Order) (size : Size) (places : List ℕ) (at : ℕ) (regs : Regs) → Takes (length places * moves_of size) (movem.store_each order size places at regs)
store_each order size [] at regs = more 0 _ _ (omega arith) (give at)
store_each order size (place ∷ rest) at regs =
    more _ _ _ (omega arith) (bind (moves_of size) (length rest * moves_of size) _ _ (write size _ _) (λ written. store_each order size rest _ regs))

store_list : (most : ℕ) (order : Order) (size : Size) (list at : ℕ) (regs : Regs) → length (movem.places 16 list 0) * moves_of size ≤ most → Takes most (movem.store_list order size list at regs)
unfolding movem.store_list
store_list most order size list at regs h =
    choice _ (list == 0) _ _ (more 0 _ _ (omega arith) (give at)) (choice _ (actions.is_odd at) _ _ (more 0 _ _ (omega arith) (odd _ _)) (more _ _ _ h (store_each order size _ at regs)))

pub load_each : (size : Size) (places : List ℕ) (at : ℕ) (regs : Regs) → Takes (length places * moves_of size) (movem.load_each size places at regs)
load_each size [] at regs = more 0 _ _ (omega arith) (give _)
load_each size (place ∷ rest) at regs =
    more _ _ _ (omega arith) (bind (moves_of size) (length rest * moves_of size) _ _ (read size at) (λ value. load_each size rest _ _))

load_list : (most : ℕ) (size : Size) (list at : ℕ) (regs : Regs) → length (movem.places 16 list 0) * moves_of size ≤ most → Takes most (movem.load_list size list at regs)
unfolding movem.load_list
load_list most size list at regs h =
    choice _ (list == 0) _ _ (more 0 _ _ (omega arith) (give _)) (choice _ (actions.is_odd at) _ _ (more 0 _ _ (omega arith) (odd _ _)) (more _ _ _ h (load_each size _ at regs)))

pub movem_to_memory : (most : ℕ) (size : Size) (list : ℕ) (mode : Mode) (start : ℕ) (regs : Regs) → length (movem.places 16 list 0) * moves_of size ≤ most → Takes most (movem.movem_to_memory size list mode start regs)
unfolding movem.movem_to_memory
movem_to_memory most size list mode start regs h = last _ _ _ (store_list most _ size list _ regs h) (λ reached. give _)

pub movem_to_registers : (most : ℕ) (size : Size) (list : ℕ) (mode : Mode) (start : ℕ) (regs : Regs) → length (movem.places 16 list 0) * moves_of size ≤ most → Takes most (movem.movem_to_registers size list mode start regs)
unfolding movem.movem_to_registers
movem_to_registers most size list mode start regs h = last _ _ _ (load_list most size list _ regs h) (λ last. give _)

-- MOVEP
spread_word : (at : ℕ) → Takes 2 (movep.spread_word at)
unfolding movep.spread_word
spread_word at = bind 1 1 _ _ (read_byte at) (λ high. last 1 _ _ (read_byte _) (λ low. give _))

spread_long : (at : ℕ) → Takes 4 (movep.spread_long at)
unfolding movep.spread_long
spread_long at = bind 2 2 _ _ (spread_word at) (λ high. last 2 _ _ (spread_word _) (λ low. give _))

read_spread : (size : Size) (at : ℕ) → Takes (2 * moves_of size) (movep.read_spread size at)
read_spread Byte at = more 1 2 _ (omega arith) (read_byte at)
read_spread Word at = spread_word at
read_spread Long at = spread_long at

write_spread_word : (at value : ℕ) → Takes 2 (movep.write_spread_word at value)
unfolding movep.write_spread_word
write_spread_word at value = bind 1 1 _ _ (write_byte at _) (λ first. write_byte _ _)

write_spread_long : (at value : ℕ) → Takes 4 (movep.write_spread_long at value)
unfolding movep.write_spread_long
write_spread_long at value = bind 2 2 _ _ (write_spread_word at _) (λ first. write_spread_word _ _)

write_spread : (size : Size) (at value : ℕ) → Takes (2 * moves_of size) (movep.write_spread size at value)
write_spread Byte at value = more 1 2 _ (omega arith) (write_byte at value)
write_spread Word at value = write_spread_word at value
write_spread Long at value = write_spread_long at value

movep_to_register : (size : Size) (x y by start : ℕ) (regs : Regs) → Takes (2 * moves_of size) (movep.movep_to_register size x y by start regs)
unfolding movep.movep_to_register
movep_to_register size x y by start regs = last _ _ _ (read_spread size _) (λ value. give _)

movep_to_memory : (size : Size) (x y by start : ℕ) (regs : Regs) → Takes (2 * moves_of size) (movep.movep_to_memory size x y by start regs)
unfolding movep.movep_to_memory
movep_to_memory size x y by start regs = last _ _ _ (write_spread size _ _) (λ written. give _)

-- one operand, and the status register
move_address : (size : Size) (n : ℕ) (mode : Mode) (start : ℕ) (regs : Regs) → Takes (touches_of size mode) (moves.move_address size n mode start regs)
unfolding moves.move_address
move_address size n mode start regs = last _ _ _ (load mode size _ regs) (λ from. give _)

unary : (operation : Task) (size : Size) (mode : Mode) (start : ℕ) (regs : Regs) → Takes (2 * touches_of size mode) (single.unary operation size mode start regs)
unfolding single.unary
unary operation size mode start regs = change_operand operation size 0 mode _ regs

nbcd : (mode : Mode) (start : ℕ) (regs : Regs) → Takes (2 * touches_of Byte mode) (single.nbcd mode start regs)
unfolding single.nbcd
nbcd mode start regs = change_operand tasks.Nbcd Byte 0 mode _ regs

tst : (size : Size) (mode : Mode) (start : ℕ) (regs : Regs) → Takes (touches_of size mode) (single.tst size mode start regs)
unfolding single.tst
tst size mode start regs = last _ _ _ (load mode size _ regs) (λ operand. give _)

tas : (mode : Mode) (start : ℕ) (regs : Regs) → Takes (touches_of Byte mode) (single.tas mode start regs)
tas (modes.Data n) start regs = more _ _ _ (omega arith) (change_operand tasks.Tas Byte 0 (modes.Data n) _ regs)
tas mode start regs = test_operand tasks.Tas Byte 0 mode _ regs

move_from_sr : (mode : Mode) (start : ℕ) (regs : Regs) → Takes (2 * touches_of Word mode) (status.move_from_sr mode start regs)
unfolding status.move_from_sr
move_from_sr mode start regs =
    let t = touched mode Word regs (shapes.following start 2) in
    more _ _ _ (omega (arith, t)) (bind _ _ _ _ (fetch Word _ _) (λ old. last _ _ _ (put Word (place_of mode Word regs (shapes.following start 2)) _ _) (λ after. give _)))

move_to_ccr : (mode : Mode) (start : ℕ) (regs : Regs) → Takes (touches_of Word mode) (status.move_to_ccr mode start regs)
unfolding status.move_to_ccr
move_to_ccr mode start regs = last _ _ _ (load mode Word _ regs) (λ operand. give _)

load_sr : (mode : Mode) (start : ℕ) (regs : Regs) → Takes (touches_of Word mode) (status.load_sr mode start regs)
unfolding status.load_sr
load_sr mode start regs = last _ _ _ (load mode Word _ regs) (λ operand. give _)

move_to_sr : (mode : Mode) (start : ℕ) (regs : Regs) → Takes (touches_of Word mode) (status.move_to_sr mode start regs)
unfolding status.move_to_sr
move_to_sr mode start regs = choice _ (is_supervisor regs) _ _ (load_sr mode start regs) (more 0 _ _ (omega arith) (give _))

-- digits 5 to E
quick : (operation : Task) (size : Size) (number : ℕ) (mode : Mode) (start : ℕ) (regs : Regs) → Takes (2 * touches_of size mode) (arithmetic.quick operation size number mode start regs)
quick operation size number (modes.Address n) start regs = more 0 _ _ (omega arith) (give _)
quick operation size number mode start regs = change_operand operation size number mode _ regs

scc : (condition : _) (mode : Mode) (start : ℕ) (regs : Regs) → Takes (2 * touches_of Byte mode) (setting.scc condition mode start regs)
unfolding setting.scc
scc condition mode start regs =
    let t = touched mode Byte regs (shapes.following start 2) in
    more _ _ _ (omega (arith, t)) (bind _ _ _ _ (fetch Byte _ _) (λ old. last _ _ _ (put Byte (place_of mode Byte regs (shapes.following start 2)) _ _) (λ after. give _)))

divu : (n : ℕ) (mode : Mode) (start : ℕ) (regs : Regs) → Takes (touches_of Word mode) (quotients.divu n mode start regs)
unfolding quotients.divu
divu n mode start regs = quotient_by _ n mode start regs

divs : (n : ℕ) (mode : Mode) (start : ℕ) (regs : Regs) → Takes (touches_of Word mode) (quotients.divs n mode start regs)
unfolding quotients.divs
divs n mode start regs = quotient_by _ n mode start regs

mulu : (n : ℕ) (mode : Mode) (start : ℕ) (regs : Regs) → Takes (touches_of Word mode) (products.mulu n mode start regs)
unfolding products.mulu
mulu n mode start regs = last _ _ _ (load mode Word _ regs) (λ source. give _)

muls : (n : ℕ) (mode : Mode) (start : ℕ) (regs : Regs) → Takes (touches_of Word mode) (products.muls n mode start regs)
unfolding products.muls
muls n mode start regs = last _ _ _ (load mode Word _ regs) (λ source. give _)

decimal : (operation : Task) (source target : Mode) (start : ℕ) (regs : Regs) → Takes (touches_of Byte source + 2 * touches_of Byte target) (multiprecision.decimal operation source target start regs)
unfolding multiprecision.decimal
decimal operation source target start regs = extended operation Byte source target start regs

to_register : (operation : Task) (size : Size) (n : ℕ) (mode : Mode) (start : ℕ) (regs : Regs) → Takes (touches_of size mode) (arithmetic.to_register operation size n mode start regs)
unfolding arithmetic.to_register
to_register operation size n mode start regs = change_register operation size n mode _ regs

to_memory : (operation : Task) (size : Size) (n : ℕ) (mode : Mode) (start : ℕ) (regs : Regs) → Takes (2 * touches_of size mode) (arithmetic.to_memory operation size n mode start regs)
unfolding arithmetic.to_memory
to_memory operation size n mode start regs = change_operand operation size _ mode _ regs

eor : (size : Size) (n : ℕ) (mode : Mode) (start : ℕ) (regs : Regs) → Takes (2 * touches_of size mode) (arithmetic.eor size n mode start regs)
unfolding arithmetic.eor
eor size n mode start regs = to_memory tasks.Eor size n mode start regs

to_address : (operation : Task) (size : Size) (n : ℕ) (mode : Mode) (start : ℕ) (regs : Regs) → Takes (touches_of size mode) (arithmetic.to_address operation size n mode start regs)
unfolding arithmetic.to_address
to_address operation size n mode start regs = last _ _ _ (load mode size _ regs) (λ source. give _)

shift_memory : (operation : Task) (mode : Mode) (start : ℕ) (regs : Regs) → Takes (2 * touches_of Word mode) (arithmetic.shift_memory operation mode start regs)
unfolding arithmetic.shift_memory
shift_memory operation mode start regs = change_operand operation Word 1 mode _ regs

cmp : (size : Size) (n : ℕ) (mode : Mode) (start : ℕ) (regs : Regs) → Takes (touches_of size mode) (comparisons.cmp size n mode start regs)
unfolding comparisons.cmp
cmp size n mode start regs = last _ _ _ (load mode size _ regs) (λ source. give _)

cmpa : (size : Size) (n : ℕ) (mode : Mode) (start : ℕ) (regs : Regs) → Takes (touches_of size mode) (comparisons.cmpa size n mode start regs)
unfolding comparisons.cmpa
cmpa size n mode start regs = last _ _ _ (load mode size _ regs) (λ source. give _)

cmpm : (size : Size) (x y : ℕ) (start : ℕ) (regs : Regs) → Takes (2 * moves_of size) (comparisons.cmpm size x y start regs)
unfolding comparisons.cmpm
cmpm size x y start regs =
    more _ _ _ (omega arith) (bind _ _ _ _ (load (modes.PostInc y) size _ regs) (λ source. last _ _ _ (load (modes.PostInc x) size _ _) (λ target. give _)))

-- each row takes at most its accesses
pub row : (op : Op) (start : ℕ) (regs : Regs) → Takes (accesses_of op) (execution.row op start regs)
row (ops.Immediate operation size number mode) start regs = immediate operation size number mode start regs
row (ops.CompareImmediate size number mode) start regs = compare_immediate size number mode start regs
row (ops.BitByRegister operation n mode) start regs = bit_by_register operation n mode start regs
row (ops.BitByNumber operation number mode) start regs = bit_by_number operation number mode start regs
row (ops.MovepToRegister size x y by) start regs = movep_to_register size x y by start regs
row (ops.MovepToMemory size x y by) start regs = movep_to_memory size x y by start regs
row (ops.Move size source target) start regs = move_operand size source target start regs
row (ops.Movea size n mode) start regs = move_address size n mode start regs
row (ops.Unary operation size mode) start regs = unary operation size mode start regs
row (ops.MoveFromSr mode) start regs = move_from_sr mode start regs
row (ops.MoveToCcr mode) start regs = move_to_ccr mode start regs
row (ops.MoveToSr mode) start regs = move_to_sr mode start regs
row (ops.Nbcd mode) start regs = nbcd mode start regs
row (ops.Pea mode) start regs = pea mode start regs
row (ops.MovemToMemory size list mode) start regs = movem_to_memory _ size list mode start regs (placed 16 list 0 size)
row (ops.MovemToRegisters size list mode) start regs = movem_to_registers _ size list mode start regs (placed 16 list 0 size)
row (ops.Tst size mode) start regs = tst size mode start regs
row (ops.Tas mode) start regs = tas mode start regs
row (ops.Link n by) start regs = link n by regs
row (ops.Unlk n) start regs = unlk n regs
row ops.Rte start regs = rte start regs
row ops.Rts start regs = rts regs
row ops.Rtr start regs = rtr regs
row (ops.Jsr mode) start regs = jsr mode start regs
row (ops.Chk n mode) start regs = chk n mode start regs
row (ops.Quick operation size number mode) start regs = quick operation size number mode start regs
row (ops.Scc condition mode) start regs = scc condition mode start regs
row (ops.Bsr displacement) start regs = bsr displacement start regs
row (ops.Divu n mode) start regs = divu n mode start regs
row (ops.Divs n mode) start regs = divs n mode start regs
row (ops.Decimal operation source target) start regs = decimal operation source target start regs
row (ops.Extended operation size source target) start regs = extended operation size source target start regs
row (ops.ToRegister operation size n mode) start regs = to_register operation size n mode start regs
row (ops.ToMemory operation size n mode) start regs = to_memory operation size n mode start regs
row (ops.ToAddress operation size n mode) start regs = to_address operation size n mode start regs
row (ops.Cmp size n mode) start regs = cmp size n mode start regs
row (ops.Cmpa size n mode) start regs = cmpa size n mode start regs
row (ops.Eor size n mode) start regs = eor size n mode start regs
row (ops.Cmpm size x y) start regs = cmpm size x y start regs
row (ops.Mulu n mode) start regs = mulu n mode start regs
row (ops.Muls n mode) start regs = muls n mode start regs
row (ops.ShiftMemory operation mode) start regs = shift_memory operation mode start regs
row _ start regs = give _
