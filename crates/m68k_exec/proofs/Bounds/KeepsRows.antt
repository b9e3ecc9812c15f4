-- What each row asks for, and that it keeps the status register's bits.
use Rattle.std.proofs.Common.{ℕ, ◌==◌, Bool, true, false, List, [], ◌∷◌}
use Rattle.std.specs.Prelude.{if◌then◌else◌, int_lt, pos}
use Rattle.md_word.specs.Fields.{flags_of, is_supervisor}
use Rattle.md_word.specs.Width.{signed_of}
use Rattle.md_word.specs.declared.mode.Mode.{Mode}
use Rattle.md_word.specs.declared.mode.Mode.TheVariants as modes
use Rattle.md_word.specs.declared.regs.Regs.{Regs}
use Rattle.md_word.specs.declared.size.Size.{Size}
use Rattle.md_word.specs.declared.size.Size.TheVariants.{Byte, Long, Word}
use Rattle.md_word.specs.declared.task.Task.{Task}
use Rattle.md_word.specs.declared.task.Task.TheVariants as tasks
use Rattle.m68k_alu.specs.declared.quotient.Quotient.{Quotient}
use Rattle.m68k_alu.specs.declared.quotient.Quotient.TheVariants.{Overflow, Value, Zero}
use Rattle.m68k_decode.specs.declared.condition.Condition.{Condition}
use Rattle.m68k_decode.specs.declared.displacement.Displacement.{Displacement}
use Rattle.m68k_decode.specs.declared.op.Op.{Op}
use Rattle.m68k_decode.specs.declared.op.Op.TheVariants as ops
use Rattle.m68k_ea.specs.Places.{place_of}
use Rattle.m68k_exec.proofs.Bounds.Keeps.{Any, HasStatus, Keeps, StatusAfter, bind, change_data, change_operand, change_register, choice, fetch, load, odd, pull, push, put, read, read_byte, store, test_operand, write, write_byte}
use Rattle.m68k_exec.proofs.Bounds.SystemByte as sr
use Rattle.md_word.proofs.Answered.{give}
use Rattle.m68k_exec.specs.Sample.Bounds.{IsStatus}
use Rattle.m68k_access.specs.Actions as actions
use Rattle.m68k_exec.specs.Rows.Arithmetic as arithmetic
use Rattle.m68k_exec.specs.Rows.Bits as bits
use Rattle.m68k_exec.specs.Rows.Branches as branches
use Rattle.m68k_exec.specs.Rows.Comparisons as comparisons
use Rattle.m68k_access.specs.Conditions.{holds}
use Rattle.m68k_exec.specs.Rows.Control as control
use Rattle.m68k_exec.specs.Sample.Execution as execution
use Rattle.m68k_exec.specs.Rows.Immediates as immediates
use Rattle.m68k_exec.specs.Rows.Links as links
use Rattle.m68k_exec.specs.Rows.Movem as movem
use Rattle.m68k_exec.specs.Rows.Movem.{Loaded}
use Rattle.m68k_exec.specs.Rows.Movep as movep
use Rattle.m68k_exec.specs.Rows.Moves as moves
use Rattle.m68k_exec.specs.Rows.Multiprecision as multiprecision
use Rattle.m68k_access.specs.Outcomes.{Outcome}
use Rattle.m68k_exec.specs.Rows.Products as products
use Rattle.m68k_exec.specs.Rows.Quotients as quotients
use Rattle.m68k_exec.specs.Rows.Registers as registers
use Rattle.m68k_exec.specs.Rows.Setting as setting
use Rattle.m68k_access.specs.Shapes as shapes
use Rattle.m68k_exec.specs.Rows.Shifts as shifts
use Rattle.m68k_exec.specs.Rows.Single as single
use Rattle.m68k_exec.specs.Rows.Status as status
use Rattle.m68k_exec.specs.declared.rows.movem.Order.{Order}

-- one of two outcomes
either : (test : Bool) (one other : Outcome) → StatusAfter one → StatusAfter other → StatusAfter (if test then one else other)
either true one other h k = h
either false one other h k = k

-- rows that access nothing
privileged : (start : ℕ) (regs : Regs) (outcome : Outcome) → HasStatus regs → StatusAfter outcome → StatusAfter (status.privileged start regs outcome)
privileged start regs outcome h k = either (is_supervisor regs) outcome _ k h

immediate_to_ccr : (operation : Task) (number : ℕ) (regs : Regs) → HasStatus regs → StatusAfter (immediates.immediate_to_ccr operation number regs)
unfolding immediates.immediate_to_ccr
immediate_to_ccr operation number regs h = sr.ccr _ regs h

immediate_to_sr : (operation : Task) (number start : ℕ) (regs : Regs) → HasStatus regs → StatusAfter (immediates.immediate_to_sr operation number start regs)
unfolding immediates.immediate_to_sr
immediate_to_sr operation number start regs h = privileged start regs _ h (sr.status _ regs)

swap : (n : ℕ) (regs : Regs) → HasStatus regs → StatusAfter (single.swap n regs)
unfolding single.swap
swap n regs h = change_data tasks.Swap Long 0 n regs h

ext : (size : Size) (n : ℕ) (regs : Regs) → HasStatus regs → StatusAfter (single.ext size n regs)
unfolding single.ext
ext size n regs h = change_data tasks.Ext size 0 n regs h

trap : (number : ℕ) (regs : Regs) → HasStatus regs → StatusAfter (control.trap number regs)
unfolding control.trap
trap number regs h = h

trapv : (regs : Regs) → HasStatus regs → StatusAfter (control.trapv regs)
unfolding control.trapv
trapv regs h = either (flags_of regs).v _ _ h h

move_to_usp : (n start : ℕ) (regs : Regs) → HasStatus regs → StatusAfter (status.move_to_usp n start regs)
unfolding status.move_to_usp
move_to_usp n start regs h = privileged start regs _ h h

move_from_usp : (n start : ℕ) (regs : Regs) → HasStatus regs → StatusAfter (status.move_from_usp n start regs)
unfolding status.move_from_usp
move_from_usp n start regs h = privileged start regs _ h (sr.address regs n _ h)

stop : (value start : ℕ) (regs : Regs) → HasStatus regs → StatusAfter (status.stop value start regs)
unfolding status.stop
stop value start regs h = privileged start regs _ h (sr.status value regs)

reset : (start : ℕ) (regs : Regs) → HasStatus regs → StatusAfter (status.reset start regs)
unfolding status.reset
reset start regs h = privileged start regs _ h h

jmp : (mode : Mode) (start : ℕ) (regs : Regs) → HasStatus regs → StatusAfter (control.jmp mode start regs)
unfolding control.jmp
jmp mode start regs h = h

lea : (n : ℕ) (mode : Mode) (start : ℕ) (regs : Regs) → HasStatus regs → StatusAfter (links.lea n mode start regs)
unfolding links.lea
lea n mode start regs h = sr.address regs n _ h

branched : (distance start : ℕ) (regs : Regs) → HasStatus regs → StatusAfter (branches.branched distance start regs)
unfolding branches.branched
branched distance start regs h = h

bra : (displacement : Displacement) (start : ℕ) (regs : Regs) → HasStatus regs → StatusAfter (branches.bra displacement start regs)
unfolding branches.bra
bra displacement start regs h = branched _ start regs h

bcc : (condition : Condition) (displacement : Displacement) (start : ℕ) (regs : Regs) → HasStatus regs → StatusAfter (branches.bcc condition displacement start regs)
unfolding branches.bcc
bcc condition displacement start regs h = either (holds condition (flags_of regs)) _ _ (branched _ start regs h) h

counted : (n by start : ℕ) (regs : Regs) → HasStatus regs → StatusAfter (branches.counted n by start regs)
unfolding branches.counted
counted n by start regs h = either _ _ _ (sr.register regs n _ h) (branched _ start _ (sr.register regs n _ h))

dbcc : (condition : Condition) (n by start : ℕ) (regs : Regs) → HasStatus regs → StatusAfter (branches.dbcc condition n by start regs)
unfolding branches.dbcc
dbcc condition n by start regs h = either (holds condition (flags_of regs)) _ _ h (counted n by start regs h)

moveq : (n byte : ℕ) (regs : Regs) → HasStatus regs → StatusAfter (registers.moveq n byte regs)
unfolding registers.moveq
moveq n byte regs h = change_data tasks.Move Long _ n regs h

exg : (n r : ℕ) (regs : Regs) → HasStatus regs → StatusAfter (registers.exg n r regs)
unfolding registers.exg
exg n r regs h = sr.register _ r _ (sr.register regs n _ h)

shift_by_number : (operation : Task) (size : Size) (count r : ℕ) (regs : Regs) → HasStatus regs → StatusAfter (shifts.shift_by_number operation size count r regs)
unfolding shifts.shift_by_number
shift_by_number operation size count r regs h = change_data operation size count r regs h

shift_by_register : (operation : Task) (size : Size) (n r : ℕ) (regs : Regs) → HasStatus regs → StatusAfter (shifts.shift_by_register operation size n r regs)
unfolding shifts.shift_by_register
shift_by_register operation size n r regs h = shift_by_number operation size _ r regs h

illegal : (start : ℕ) (regs : Regs) → HasStatus regs → StatusAfter (control.illegal start regs)
unfolding control.illegal
illegal start regs h = h

line_a : (start : ℕ) (regs : Regs) → HasStatus regs → StatusAfter (control.line_a_opcode start regs)
unfolding control.line_a_opcode
line_a start regs h = h

line_f : (start : ℕ) (regs : Regs) → HasStatus regs → StatusAfter (control.line_f_opcode start regs)
unfolding control.line_f_opcode
line_f start regs h = h

change_address : (operation : Task) (number n : ℕ) (regs : Regs) → HasStatus regs → StatusAfter (arithmetic.change_address operation number n regs)
unfolding arithmetic.change_address
change_address operation number n regs h = sr.address regs n _ h

-- bits
bit_of_size : (operation : Task) (size : Size) (number : ℕ) (mode : Mode) (pc : ℕ) (regs : Regs) → HasStatus regs → Keeps StatusAfter (bits.bit_of_size operation size number mode pc regs)
bit_of_size tasks.Btst size number mode pc regs h = test_operand tasks.Btst size number mode pc regs h
bit_of_size operation size number mode pc regs h = change_operand operation size number mode pc regs h

bit_change : (operation : Task) (number : ℕ) (mode : Mode) (pc : ℕ) (regs : Regs) → HasStatus regs → Keeps StatusAfter (bits.bit operation number mode pc regs)
unfolding bits.bit
bit_change operation number mode pc regs h = bit_of_size operation (bits.bit_size mode) _ mode pc regs h

bit_by_register : (operation : Task) (n : ℕ) (mode : Mode) (start : ℕ) (regs : Regs) → HasStatus regs → Keeps StatusAfter (bits.bit_by_register operation n mode start regs)
unfolding bits.bit_by_register
bit_by_register operation n mode start regs h = bit_change operation _ mode _ regs h

bit_by_number : (operation : Task) (number : ℕ) (mode : Mode) (start : ℕ) (regs : Regs) → HasStatus regs → Keeps StatusAfter (bits.bit_by_number operation number mode start regs)
unfolding bits.bit_by_number
bit_by_number operation number mode start regs h = bit_change operation number mode _ regs h

-- immediates
immediate : (operation : Task) (size : Size) (number : ℕ) (mode : Mode) (start : ℕ) (regs : Regs) → HasStatus regs → Keeps StatusAfter (immediates.immediate operation size number mode start regs)
unfolding immediates.immediate
immediate operation size number mode start regs h = change_operand operation size number mode _ regs h

compare_immediate : (size : Size) (number : ℕ) (mode : Mode) (start : ℕ) (regs : Regs) → HasStatus regs → Keeps StatusAfter (immediates.compare_immediate size number mode start regs)
unfolding immediates.compare_immediate
compare_immediate size number mode start regs h = test_operand tasks.Cmp size number mode _ regs h

-- the stack
pea : (mode : Mode) (start : ℕ) (regs : Regs) → HasStatus regs → Keeps StatusAfter (links.pea mode start regs)
unfolding links.pea
pea mode start regs h = bind _ _ _ _ (push Long _ regs h) (λ after a. give _ _ _ a)

link : (n by : ℕ) (regs : Regs) → HasStatus regs → Keeps StatusAfter (links.link n by regs)
unfolding links.link
link n by regs h = bind _ _ _ _ (push Long _ regs h) (λ after a. give _ _ _ (sr.address _ 7 _ (sr.address after n _ a)))

unlk : (n : ℕ) (regs : Regs) → HasStatus regs → Keeps StatusAfter (links.unlk n regs)
unfolding links.unlk
unlk n regs h = bind _ _ _ _ (pull Long _ (sr.address regs 7 _ h)) (λ old a. give _ _ _ (sr.address old.regs n _ a))

jsr : (mode : Mode) (start : ℕ) (regs : Regs) → HasStatus regs → Keeps StatusAfter (control.jsr mode start regs)
unfolding control.jsr
jsr mode start regs h = bind _ _ _ _ (push Long _ regs h) (λ after a. give _ _ _ a)

rts : (regs : Regs) → HasStatus regs → Keeps StatusAfter (control.rts regs)
unfolding control.rts
rts regs h = bind _ _ _ _ (pull Long regs h) (λ target a. give _ _ _ a)

rtr : (regs : Regs) → HasStatus regs → Keeps StatusAfter (control.rtr regs)
unfolding control.rtr
rtr regs h = bind _ _ _ _ (pull Word regs h) (λ codes a. bind _ _ _ _ (pull Long codes.regs a) (λ target b. give _ _ _ (sr.ccr codes.value target.regs b)))

return_from_exception : (regs : Regs) → HasStatus regs → Keeps StatusAfter (control.return_from_exception regs)
unfolding control.return_from_exception
return_from_exception regs h = bind _ _ _ _ (pull Word regs h) (λ value a. bind _ _ _ _ (pull Long value.regs a) (λ target b. give _ _ _ (sr.status value.value target.regs)))

rte : (start : ℕ) (regs : Regs) → HasStatus regs → Keeps StatusAfter (control.rte start regs)
unfolding control.rte
rte start regs h = choice _ (is_supervisor regs) _ _ (λ e. return_from_exception regs h) (λ e. give _ _ _ h)

bsr : (displacement : Displacement) (start : ℕ) (regs : Regs) → HasStatus regs → Keeps StatusAfter (branches.bsr displacement start regs)
unfolding branches.bsr
bsr displacement start regs h = bind _ _ _ _ (push Long regs.pc regs h) (λ after a. give _ _ _ (branched _ start after a))

caught : (negative : Bool) (regs : Regs) → HasStatus regs → StatusAfter (control.caught negative regs)
unfolding control.caught
caught negative regs h = sr.flags regs _ h

checked : (value bound : ℕ) (regs : Regs) → HasStatus regs → StatusAfter (control.checked value bound regs)
unfolding control.checked
checked value bound regs h =
    either (int_lt (signed_of Word value) (pos 0)) _ _ (caught true regs h) (either (int_lt (signed_of Word bound) (signed_of Word value)) _ _ (caught false regs h) h)

chk : (n : ℕ) (mode : Mode) (start : ℕ) (regs : Regs) → HasStatus regs → Keeps StatusAfter (control.chk n mode start regs)
unfolding control.chk
chk n mode start regs h = bind _ _ _ _ (load mode Word _ regs h) (λ bound a. give _ _ _ (checked _ bound.value bound.regs a))

-- MOVEM
abbrev StatusLoaded : Loaded → Type 0
StatusLoaded loaded = IsStatus loaded.regs.sr

store_each : (order : Order) (size : Size) (places : List ℕ) (at : ℕ) (regs : Regs) → Keeps Any (movem.store_each order size places at regs)
store_each order size [] at regs = give _ _ _ tt
store_each order size (place ∷ rest) at regs = bind _ _ _ _ (write size _ _) (λ written a. store_each order size rest _ regs)

store_list : (order : Order) (size : Size) (list at : ℕ) (regs : Regs) → Keeps Any (movem.store_list order size list at regs)
unfolding movem.store_list
store_list order size list at regs = choice _ (list == 0) _ _ (λ e. give _ _ _ tt) (λ e. choice _ (actions.is_odd at) _ _ (λ o. odd _ _ _) (λ o. store_each order size _ at regs))

load_each : (size : Size) (places : List ℕ) (at : ℕ) (regs : Regs) → HasStatus regs → Keeps StatusLoaded (movem.load_each size places at regs)
load_each size [] at regs h = give _ _ _ h
load_each size (place ∷ rest) at regs h = bind _ _ _ _ (read size at) (λ value a. load_each size rest _ _ (sr.register regs place _ h))

load_list : (size : Size) (list at : ℕ) (regs : Regs) → HasStatus regs → Keeps StatusLoaded (movem.load_list size list at regs)
unfolding movem.load_list
load_list size list at regs h = choice _ (list == 0) _ _ (λ e. give _ _ _ h) (λ e. choice _ (actions.is_odd at) _ _ (λ o. odd _ _ _) (λ o. load_each size _ at regs h))

left_at : (mode : Mode) (at : ℕ) (regs : Regs) → HasStatus regs → HasStatus (movem.left_at mode at regs)
left_at (modes.PostInc n) at regs h = sr.address regs n at h
left_at (modes.PreDec n) at regs h = sr.address regs n at h
left_at _ at regs h = h

movem_to_memory : (size : Size) (list : ℕ) (mode : Mode) (start : ℕ) (regs : Regs) → HasStatus regs → Keeps StatusAfter (movem.movem_to_memory size list mode start regs)
unfolding movem.movem_to_memory
movem_to_memory size list mode start regs h = bind _ _ _ _ (store_list _ size list _ regs) (λ reached a. give _ _ _ (left_at mode reached regs h))

movem_to_registers : (size : Size) (list : ℕ) (mode : Mode) (start : ℕ) (regs : Regs) → HasStatus regs → Keeps StatusAfter (movem.movem_to_registers size list mode start regs)
unfolding movem.movem_to_registers
movem_to_registers size list mode start regs h = bind _ _ _ _ (load_list size list _ regs h) (λ last a. give _ _ _ (left_at mode last.address last.regs a))

-- MOVEP
spread_word : (at : ℕ) → Keeps Any (movep.spread_word at)
unfolding movep.spread_word
spread_word at = bind _ _ _ _ (read_byte at) (λ high a. bind _ _ _ _ (read_byte _) (λ low b. give _ _ _ tt))

spread_long : (at : ℕ) → Keeps Any (movep.spread_long at)
unfolding movep.spread_long
spread_long at = bind _ _ _ _ (spread_word at) (λ high a. bind _ _ _ _ (spread_word _) (λ low b. give _ _ _ tt))

read_spread : (size : Size) (at : ℕ) → Keeps Any (movep.read_spread size at)
read_spread Byte at = read_byte at
read_spread Word at = spread_word at
read_spread Long at = spread_long at

write_spread_word : (at value : ℕ) → Keeps Any (movep.write_spread_word at value)
unfolding movep.write_spread_word
write_spread_word at value = bind _ _ _ _ (write_byte at _) (λ first a. write_byte _ _)

write_spread_long : (at value : ℕ) → Keeps Any (movep.write_spread_long at value)
unfolding movep.write_spread_long
write_spread_long at value = bind _ _ _ _ (write_spread_word at _) (λ first a. write_spread_word _ _)

write_spread : (size : Size) (at value : ℕ) → Keeps Any (movep.write_spread size at value)
write_spread Byte at value = write_byte at value
write_spread Word at value = write_spread_word at value
write_spread Long at value = write_spread_long at value

movep_to_register : (size : Size) (x y by start : ℕ) (regs : Regs) → HasStatus regs → Keeps StatusAfter (movep.movep_to_register size x y by start regs)
unfolding movep.movep_to_register
movep_to_register size x y by start regs h = bind _ _ _ _ (read_spread size _) (λ value a. give _ _ _ (sr.register regs x _ h))

movep_to_memory : (size : Size) (x y by start : ℕ) (regs : Regs) → HasStatus regs → Keeps StatusAfter (movep.movep_to_memory size x y by start regs)
unfolding movep.movep_to_memory
movep_to_memory size x y by start regs h = bind _ _ _ _ (write_spread size _ _) (λ written a. give _ _ _ h)

-- moves, one operand, and the status register
move_operand : (size : Size) (source target : Mode) (start : ℕ) (regs : Regs) → HasStatus regs → Keeps StatusAfter (moves.move_operand size source target start regs)
unfolding moves.move_operand
move_operand size source target start regs h =
    bind _ _ _ _ (load source size _ regs h) (λ from a. bind _ _ _ _ (store target size _ _ from.regs a) (λ after b. give _ _ _ (sr.flags after _ b)))

move_address : (size : Size) (n : ℕ) (mode : Mode) (start : ℕ) (regs : Regs) → HasStatus regs → Keeps StatusAfter (moves.move_address size n mode start regs)
unfolding moves.move_address
move_address size n mode start regs h = bind _ _ _ _ (load mode size _ regs h) (λ from a. give _ _ _ (sr.address from.regs n _ a))

unary : (operation : Task) (size : Size) (mode : Mode) (start : ℕ) (regs : Regs) → HasStatus regs → Keeps StatusAfter (single.unary operation size mode start regs)
unfolding single.unary
unary operation size mode start regs h = change_operand operation size 0 mode _ regs h

nbcd : (mode : Mode) (start : ℕ) (regs : Regs) → HasStatus regs → Keeps StatusAfter (single.nbcd mode start regs)
unfolding single.nbcd
nbcd mode start regs h = change_operand tasks.Nbcd Byte 0 mode _ regs h

tst : (size : Size) (mode : Mode) (start : ℕ) (regs : Regs) → HasStatus regs → Keeps StatusAfter (single.tst size mode start regs)
unfolding single.tst
tst size mode start regs h = bind _ _ _ _ (load mode size _ regs h) (λ operand a. give _ _ _ (sr.flags operand.regs _ a))

tas : (mode : Mode) (start : ℕ) (regs : Regs) → HasStatus regs → Keeps StatusAfter (single.tas mode start regs)
tas (modes.Data n) start regs h = change_operand tasks.Tas Byte 0 (modes.Data n) _ regs h
tas mode start regs h = test_operand tasks.Tas Byte 0 mode _ regs h

move_from_sr : (mode : Mode) (start : ℕ) (regs : Regs) → HasStatus regs → Keeps StatusAfter (status.move_from_sr mode start regs)
unfolding status.move_from_sr
move_from_sr mode start regs h =
    bind _ _ _ _ (fetch Word _ _) (λ old a. bind _ _ _ _ (put Word (place_of mode Word regs (shapes.following start 2)) _ _ (sr.steps mode Word regs h)) (λ after b. give _ _ _ b))

move_to_ccr : (mode : Mode) (start : ℕ) (regs : Regs) → HasStatus regs → Keeps StatusAfter (status.move_to_ccr mode start regs)
unfolding status.move_to_ccr
move_to_ccr mode start regs h = bind _ _ _ _ (load mode Word _ regs h) (λ operand a. give _ _ _ (sr.ccr operand.value operand.regs a))

load_sr : (mode : Mode) (start : ℕ) (regs : Regs) → HasStatus regs → Keeps StatusAfter (status.load_sr mode start regs)
unfolding status.load_sr
load_sr mode start regs h = bind _ _ _ _ (load mode Word _ regs h) (λ operand a. give _ _ _ (sr.status operand.value operand.regs))

move_to_sr : (mode : Mode) (start : ℕ) (regs : Regs) → HasStatus regs → Keeps StatusAfter (status.move_to_sr mode start regs)
unfolding status.move_to_sr
move_to_sr mode start regs h = choice _ (is_supervisor regs) _ _ (λ e. load_sr mode start regs h) (λ e. give _ _ _ h)

-- digits 5 to E
quick : (operation : Task) (size : Size) (number : ℕ) (mode : Mode) (start : ℕ) (regs : Regs) → HasStatus regs → Keeps StatusAfter (arithmetic.quick operation size number mode start regs)
quick operation size number (modes.Address n) start regs h = give _ _ _ (change_address operation number n regs h)
quick operation size number mode start regs h = change_operand operation size number mode _ regs h

scc : (condition : Condition) (mode : Mode) (start : ℕ) (regs : Regs) → HasStatus regs → Keeps StatusAfter (setting.scc condition mode start regs)
unfolding setting.scc
scc condition mode start regs h =
    bind _ _ _ _ (fetch Byte _ _) (λ old a. bind _ _ _ _ (put Byte (place_of mode Byte regs (shapes.following start 2)) _ _ (sr.steps mode Byte regs h)) (λ after b. give _ _ _ b))

quotient_ended : (quotient : Quotient) (n : ℕ) (regs : Regs) → HasStatus regs → StatusAfter (quotients.ended_by quotient n regs)
quotient_ended Zero n regs h = h
quotient_ended Overflow n regs h = h
quotient_ended (Value value) n regs h = sr.register regs n value h

quotient_finished : (quotient : Quotient) (n : ℕ) (regs : Regs) → HasStatus regs → StatusAfter (quotients.finished quotient n regs)
unfolding quotients.finished
quotient_finished quotient n regs h = quotient_ended quotient n _ (sr.flags regs _ h)

quotient_by : (signed : Bool) (n : ℕ) (mode : Mode) (start : ℕ) (regs : Regs) → HasStatus regs → Keeps StatusAfter (quotients.quotient_by signed n mode start regs)
unfolding quotients.quotient_by
quotient_by signed n mode start regs h = bind _ _ _ _ (load mode Word _ regs h) (λ source a. give _ _ _ (quotient_finished _ n source.regs a))

divu : (n : ℕ) (mode : Mode) (start : ℕ) (regs : Regs) → HasStatus regs → Keeps StatusAfter (quotients.divu n mode start regs)
unfolding quotients.divu
divu n mode start regs h = quotient_by false n mode start regs h

divs : (n : ℕ) (mode : Mode) (start : ℕ) (regs : Regs) → HasStatus regs → Keeps StatusAfter (quotients.divs n mode start regs)
unfolding quotients.divs
divs n mode start regs h = quotient_by true n mode start regs h

mulu : (n : ℕ) (mode : Mode) (start : ℕ) (regs : Regs) → HasStatus regs → Keeps StatusAfter (products.mulu n mode start regs)
unfolding products.mulu
mulu n mode start regs h = bind _ _ _ _ (load mode Word _ regs h) (λ source a. give _ _ _ (change_data tasks.Mulu Long source.value n source.regs a))

muls : (n : ℕ) (mode : Mode) (start : ℕ) (regs : Regs) → HasStatus regs → Keeps StatusAfter (products.muls n mode start regs)
unfolding products.muls
muls n mode start regs h = bind _ _ _ _ (load mode Word _ regs h) (λ source a. give _ _ _ (change_data tasks.Muls Long source.value n source.regs a))

extended : (operation : Task) (size : Size) (source target : Mode) (start : ℕ) (regs : Regs) → HasStatus regs → Keeps StatusAfter (multiprecision.extended operation size source target start regs)
unfolding multiprecision.extended
extended operation size source target start regs h = bind _ _ _ _ (load source size _ regs h) (λ part a. change_operand operation size part.value target _ part.regs a)

decimal : (operation : Task) (source target : Mode) (start : ℕ) (regs : Regs) → HasStatus regs → Keeps StatusAfter (multiprecision.decimal operation source target start regs)
unfolding multiprecision.decimal
decimal operation source target start regs h = extended operation Byte source target start regs h

to_register : (operation : Task) (size : Size) (n : ℕ) (mode : Mode) (start : ℕ) (regs : Regs) → HasStatus regs → Keeps StatusAfter (arithmetic.to_register operation size n mode start regs)
unfolding arithmetic.to_register
to_register operation size n mode start regs h = change_register operation size n mode _ regs h

to_memory : (operation : Task) (size : Size) (n : ℕ) (mode : Mode) (start : ℕ) (regs : Regs) → HasStatus regs → Keeps StatusAfter (arithmetic.to_memory operation size n mode start regs)
unfolding arithmetic.to_memory
to_memory operation size n mode start regs h = change_operand operation size _ mode _ regs h

eor : (size : Size) (n : ℕ) (mode : Mode) (start : ℕ) (regs : Regs) → HasStatus regs → Keeps StatusAfter (arithmetic.eor size n mode start regs)
unfolding arithmetic.eor
eor size n mode start regs h = to_memory tasks.Eor size n mode start regs h

to_address : (operation : Task) (size : Size) (n : ℕ) (mode : Mode) (start : ℕ) (regs : Regs) → HasStatus regs → Keeps StatusAfter (arithmetic.to_address operation size n mode start regs)
unfolding arithmetic.to_address
to_address operation size n mode start regs h = bind _ _ _ _ (load mode size _ regs h) (λ source a. give _ _ _ (change_address operation _ n source.regs a))

shift_memory : (operation : Task) (mode : Mode) (start : ℕ) (regs : Regs) → HasStatus regs → Keeps StatusAfter (arithmetic.shift_memory operation mode start regs)
unfolding arithmetic.shift_memory
shift_memory operation mode start regs h = change_operand operation Word 1 mode _ regs h

compared : (size : Size) (source target : ℕ) (regs : Regs) → HasStatus regs → StatusAfter (comparisons.compared size source target regs)
unfolding comparisons.compared
compared size source target regs h = sr.flags regs _ h

cmp : (size : Size) (n : ℕ) (mode : Mode) (start : ℕ) (regs : Regs) → HasStatus regs → Keeps StatusAfter (comparisons.cmp size n mode start regs)
unfolding comparisons.cmp
cmp size n mode start regs h = bind _ _ _ _ (load mode size _ regs h) (λ source a. give _ _ _ (compared size source.value _ source.regs a))

cmpa : (size : Size) (n : ℕ) (mode : Mode) (start : ℕ) (regs : Regs) → HasStatus regs → Keeps StatusAfter (comparisons.cmpa size n mode start regs)
unfolding comparisons.cmpa
cmpa size n mode start regs h = bind _ _ _ _ (load mode size _ regs h) (λ source a. give _ _ _ (compared Long _ _ source.regs a))

cmpm : (size : Size) (x y : ℕ) (start : ℕ) (regs : Regs) → HasStatus regs → Keeps StatusAfter (comparisons.cmpm size x y start regs)
unfolding comparisons.cmpm
cmpm size x y start regs h =
    bind _ _ _ _ (load (modes.PostInc y) size _ regs h) (λ source a. bind _ _ _ _ (load (modes.PostInc x) size _ source.regs a) (λ target b. give _ _ _ (compared size source.value target.value target.regs b)))

-- each row waits only for such accesses, and keeps the bits of the status register
pub row : (op : Op) (start : ℕ) (regs : Regs) → HasStatus regs → Keeps StatusAfter (execution.row op start regs)
row (ops.Immediate operation size number mode) start regs h = immediate operation size number mode start regs h
row (ops.CompareImmediate size number mode) start regs h = compare_immediate size number mode start regs h
row (ops.ImmediateToCcr operation number) start regs h = give _ _ _ (immediate_to_ccr operation number regs h)
row (ops.ImmediateToSr operation number) start regs h = give _ _ _ (immediate_to_sr operation number start regs h)
row (ops.BitByRegister operation n mode) start regs h = bit_by_register operation n mode start regs h
row (ops.BitByNumber operation number mode) start regs h = bit_by_number operation number mode start regs h
row (ops.MovepToRegister size x y by) start regs h = movep_to_register size x y by start regs h
row (ops.MovepToMemory size x y by) start regs h = movep_to_memory size x y by start regs h
row (ops.Move size source target) start regs h = move_operand size source target start regs h
row (ops.Movea size n mode) start regs h = move_address size n mode start regs h
row (ops.Unary operation size mode) start regs h = unary operation size mode start regs h
row (ops.MoveFromSr mode) start regs h = move_from_sr mode start regs h
row (ops.MoveToCcr mode) start regs h = move_to_ccr mode start regs h
row (ops.MoveToSr mode) start regs h = move_to_sr mode start regs h
row (ops.Nbcd mode) start regs h = nbcd mode start regs h
row (ops.Swap n) start regs h = give _ _ _ (swap n regs h)
row (ops.Ext size n) start regs h = give _ _ _ (ext size n regs h)
row (ops.Pea mode) start regs h = pea mode start regs h
row (ops.MovemToMemory size list mode) start regs h = movem_to_memory size list mode start regs h
row (ops.MovemToRegisters size list mode) start regs h = movem_to_registers size list mode start regs h
row (ops.Tst size mode) start regs h = tst size mode start regs h
row (ops.Tas mode) start regs h = tas mode start regs h
row (ops.Trap number) start regs h = give _ _ _ (trap number regs h)
row (ops.Link n by) start regs h = link n by regs h
row (ops.Unlk n) start regs h = unlk n regs h
row (ops.MoveToUsp n) start regs h = give _ _ _ (move_to_usp n start regs h)
row (ops.MoveFromUsp n) start regs h = give _ _ _ (move_from_usp n start regs h)
row ops.Reset start regs h = give _ _ _ (reset start regs h)
row ops.Nop start regs h = give _ _ _ h
row (ops.Stop value) start regs h = give _ _ _ (stop value start regs h)
row ops.Rte start regs h = rte start regs h
row ops.Rts start regs h = rts regs h
row ops.Trapv start regs h = give _ _ _ (trapv regs h)
row ops.Rtr start regs h = rtr regs h
row (ops.Jsr mode) start regs h = jsr mode start regs h
row (ops.Jmp mode) start regs h = give _ _ _ (jmp mode start regs h)
row (ops.Lea n mode) start regs h = give _ _ _ (lea n mode start regs h)
row (ops.Chk n mode) start regs h = chk n mode start regs h
row (ops.Quick operation size number mode) start regs h = quick operation size number mode start regs h
row (ops.Scc condition mode) start regs h = scc condition mode start regs h
row (ops.Dbcc condition n by) start regs h = give _ _ _ (dbcc condition n by start regs h)
row (ops.Bra displacement) start regs h = give _ _ _ (bra displacement start regs h)
row (ops.Bsr displacement) start regs h = bsr displacement start regs h
row (ops.Bcc condition displacement) start regs h = give _ _ _ (bcc condition displacement start regs h)
row (ops.Moveq n byte) start regs h = give _ _ _ (moveq n byte regs h)
row (ops.Divu n mode) start regs h = divu n mode start regs h
row (ops.Divs n mode) start regs h = divs n mode start regs h
row (ops.Decimal operation source target) start regs h = decimal operation source target start regs h
row (ops.Extended operation size source target) start regs h = extended operation size source target start regs h
row (ops.ToRegister operation size n mode) start regs h = to_register operation size n mode start regs h
row (ops.ToMemory operation size n mode) start regs h = to_memory operation size n mode start regs h
row (ops.ToAddress operation size n mode) start regs h = to_address operation size n mode start regs h
row (ops.Cmp size n mode) start regs h = cmp size n mode start regs h
row (ops.Cmpa size n mode) start regs h = cmpa size n mode start regs h
row (ops.Eor size n mode) start regs h = eor size n mode start regs h
row (ops.Cmpm size x y) start regs h = cmpm size x y start regs h
row (ops.Mulu n mode) start regs h = mulu n mode start regs h
row (ops.Muls n mode) start regs h = muls n mode start regs h
row (ops.Exg n r) start regs h = give _ _ _ (exg n r regs h)
row (ops.ShiftByNumber operation size number r) start regs h = give _ _ _ (shift_by_number operation size number r regs h)
row (ops.ShiftByRegister operation size n r) start regs h = give _ _ _ (shift_by_register operation size n r regs h)
row (ops.ShiftMemory operation mode) start regs h = shift_memory operation mode start regs h
row (ops.Illegal opcode) start regs h = give _ _ _ (illegal start regs h)
row (ops.LineA opcode) start regs h = give _ _ _ (line_a start regs h)
row (ops.LineF opcode) start regs h = give _ _ _ (line_f start regs h)
