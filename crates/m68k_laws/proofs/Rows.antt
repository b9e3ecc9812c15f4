-- Each instruction follows its footprint.
use Rattle.std.proofs.Common.{◌≡◌, ℕ, Bool, true, false, List, [], ◌++◌, refl, ap, arith}
use Rattle.std.specs.Prelude.{if◌then◌else◌}
use Rattle.md_word.specs.Fields.{address_of, is_supervisor, with_address}
use Rattle.md_word.specs.declared.mode.Mode.{Mode}
use Rattle.md_word.specs.declared.mode.Mode.TheVariants as modes
use Rattle.md_word.specs.declared.regs.Regs.{Regs}
use Rattle.md_word.specs.declared.size.Size.{Size}
use Rattle.md_word.specs.declared.size.Size.TheVariants.{Byte, Word, Long}
use Rattle.md_word.specs.declared.task.Task.{Task}
use Rattle.md_word.specs.declared.task.Task.TheVariants as tasks
use Rattle.m68k_decode.specs.declared.op.Op.{Op}
use Rattle.m68k_decode.specs.declared.op.Op.TheVariants as ops
use Rattle.m68k_access.proofs.Stack.{stack_set}
use Rattle.m68k_access.specs.Actions.{Act}
use Rattle.m68k_access.specs.Operands as operands
use Rattle.m68k_access.specs.Operands.{stack_of}
use Rattle.m68k_exec.specs.Rows.Arithmetic as arithmetic
use Rattle.m68k_exec.specs.Rows.Bits as bits
use Rattle.m68k_exec.specs.Rows.Branches as branches
use Rattle.m68k_exec.specs.Rows.Comparisons as comparisons
use Rattle.m68k_exec.specs.Rows.Control as control
use Rattle.m68k_exec.specs.Rows.Immediates as immediates
use Rattle.m68k_exec.specs.Rows.Links as links
use Rattle.m68k_exec.specs.Rows.Movep as movep
use Rattle.m68k_exec.specs.Rows.Moves as moves
use Rattle.m68k_exec.specs.Rows.Multiprecision as multiprecision
use Rattle.m68k_exec.specs.Rows.Products as products
use Rattle.m68k_exec.specs.Rows.Quotients as quotients
use Rattle.m68k_exec.specs.Rows.Setting as setting
use Rattle.m68k_exec.specs.Rows.Single as single
use Rattle.m68k_exec.specs.Rows.Status as status
use Rattle.m68k_exec.specs.Sample.Execution as execution
use Rattle.m68k_laws.proofs.Follows.{Follows, bind, give, last, same}
use Rattle.m68k_laws.proofs.Lists.{movem_to_memory, movem_to_registers}
use Rattle.m68k_laws.proofs.Operands.{after_load, after_pull, change_operand, change_register, fetch, load, pull, push, put, store, test_operand}
use Rattle.m68k_laws.proofs.Single.{read_byte, write_byte}
use Rattle.m68k_laws.specs.Accesses.{Access, Kind, Read, Write, one}
use Rattle.m68k_laws.specs.Footprints as footprints
use Rattle.m68k_laws.specs.Footprints.{MovesWords, above, alternate, changes, footprint, operand, pulls, reads, writes}

-- bits: in memory one of a byte
sized : (kind : Kind) (mode : Mode) (pc : ℕ) (regs : Regs) → operand kind (bits.bit_size mode) mode pc regs ≡ operand kind Byte mode pc regs
sized kind (modes.Data n) pc regs = refl
sized kind mode pc regs = refl

sized_change : (mode : Mode) (pc : ℕ) (regs : Regs) → changes (bits.bit_size mode) mode pc regs ≡ changes Byte mode pc regs
sized_change (modes.Data n) pc regs = refl
sized_change mode pc regs = refl

bit_of_size : (operation : Task) (number : ℕ) (mode : Mode) (pc : ℕ) (regs : Regs) → Follows (footprints.bit operation mode pc regs) (bits.bit_of_size operation (bits.bit_size mode) number mode pc regs)
bit_of_size tasks.Btst number mode pc regs = same _ _ _ (sized Read mode pc regs) (test_operand tasks.Btst (bits.bit_size mode) number mode pc regs)
bit_of_size operation number mode pc regs = same _ _ _ (sized_change mode pc regs) (change_operand operation (bits.bit_size mode) number mode pc regs)

bit : (operation : Task) (number : ℕ) (mode : Mode) (pc : ℕ) (regs : Regs) → Follows (footprints.bit operation mode pc regs) (bits.bit operation number mode pc regs)
unfolding bits.bit
bit operation number mode pc regs = bit_of_size operation _ mode pc regs

-- MOVEP
six_above : (at : ℕ) → above (above at 4) 2 ≡ above at 6
six_above at = grind arith

spread_word : (at : ℕ) → Follows (one Read Byte at ++ one Read Byte (above at 2)) (movep.spread_word at)
unfolding movep.spread_word
spread_word at = bind (one Read Byte at) (one Read Byte (above at 2)) _ _ (read_byte at) (λ high. last _ _ _ (read_byte _) (λ low. give _))

spread_long : (at : ℕ) → Follows (alternate Read Long at) (movep.spread_long at)
unfolding movep.spread_long
spread_long at =
    same _ _ _ (ap (λ far. one Read Byte at ++ one Read Byte (above at 2) ++ one Read Byte (above at 4) ++ one Read Byte far) (six_above at))
    (bind (one Read Byte at ++ one Read Byte (above at 2)) (one Read Byte (above at 4) ++ one Read Byte (above (above at 4) 2)) _ _ (spread_word at) (λ high.
    last _ _ _ (spread_word _) (λ low. give _)))

read_spread : (size : Size) (at : ℕ) → Follows (alternate Read size at) (movep.read_spread size at)
read_spread Byte at = read_byte at
read_spread Word at = spread_word at
read_spread Long at = spread_long at

write_spread_word : (at value : ℕ) → Follows (one Write Byte at ++ one Write Byte (above at 2)) (movep.write_spread_word at value)
unfolding movep.write_spread_word
write_spread_word at value = bind (one Write Byte at) (one Write Byte (above at 2)) _ _ (write_byte at _) (λ first. write_byte _ _)

write_spread_long : (at value : ℕ) → Follows (alternate Write Long at) (movep.write_spread_long at value)
unfolding movep.write_spread_long
write_spread_long at value =
    same _ _ _ (ap (λ far. one Write Byte at ++ one Write Byte (above at 2) ++ one Write Byte (above at 4) ++ one Write Byte far) (six_above at))
    (bind (one Write Byte at ++ one Write Byte (above at 2)) (one Write Byte (above at 4) ++ one Write Byte (above (above at 4) 2)) _ _ (write_spread_word at _) (λ first. write_spread_word _ _))

write_spread : (size : Size) (at value : ℕ) → Follows (alternate Write size at) (movep.write_spread size at value)
write_spread Byte at value = write_byte at value
write_spread Word at value = write_spread_word at value
write_spread Long at value = write_spread_long at value

-- one operand
tas : (mode : Mode) (start : ℕ) (regs : Regs) → Follows (reads Byte mode (above start 2) regs) (single.tas mode start regs)
tas (modes.Data n) start regs = change_operand tasks.Tas Byte 0 (modes.Data n) _ regs
tas mode start regs = test_operand tasks.Tas Byte 0 mode _ regs

-- the status register
supervised : {A : Type 0} (list : List Access) (test : Bool) (one other : Act A) → Follows list one → Follows [] other → Follows (if test then list else []) (λ memory done. if test then one memory done else other memory done)
supervised list true one other h k = h
supervised list false one other h k = k

load_sr : (mode : Mode) (start : ℕ) (regs : Regs) → Follows (reads Word mode (above start 2) regs) (status.load_sr mode start regs)
unfolding status.load_sr
load_sr mode start regs = last _ _ _ (load mode Word _ regs) (λ operand. give _)

-- the long that is pulled after a word
pull_second : (regs : Regs) → Follows (one Read Long (above (stack_of regs) 2)) (operands.pull Long (with_address regs 7 (above (stack_of regs) 2)))
pull_second regs =
    same _ _ _ (ap (λ at. one Read Long at) (stack_set regs (above (stack_of regs) 2))) (pull Long (with_address regs 7 (above (stack_of regs) 2)))

return_from_exception : (regs : Regs) → Follows (pulls regs) (control.return_from_exception regs)
unfolding control.return_from_exception
return_from_exception regs =
    after_pull (one Read Long (above (stack_of regs) 2)) Word regs _ (λ value.
    last _ _ _ (pull_second regs) (λ target. give _))

-- operations of two operands
quick : (operation : Task) (size : Size) (number : ℕ) (mode : Mode) (start : ℕ) (regs : Regs) → Follows (changes size mode (above start 2) regs) (arithmetic.quick operation size number mode start regs)
quick operation size number (modes.Address n) start regs = give _
quick operation size number mode start regs = change_operand operation size number mode _ regs

quotient_by : (signed : Bool) (n : ℕ) (mode : Mode) (start : ℕ) (regs : Regs) → Follows (reads Word mode (above start 2) regs) (quotients.quotient_by signed n mode start regs)
unfolding quotients.quotient_by
quotient_by signed n mode start regs = last _ _ _ (load mode Word _ regs) (λ source. give _)

extended : (operation : Task) (size : Size) (source target : Mode) (start : ℕ) (regs : Regs) → Follows (footprint (ops.Extended operation size source target) start regs) (multiprecision.extended operation size source target start regs)
unfolding multiprecision.extended
extended operation size source target start regs =
    after_load _ source size _ regs _ (λ value. change_operand operation size value target _ _)

to_memory : (operation : Task) (size : Size) (n : ℕ) (mode : Mode) (start : ℕ) (regs : Regs) → Follows (changes size mode (above start 2) regs) (arithmetic.to_memory operation size n mode start regs)
unfolding arithmetic.to_memory
to_memory operation size n mode start regs = change_operand operation size _ mode _ regs

-- every instruction
pub row : (op : Op) (start : ℕ) (regs : Regs) → MovesWords op → Follows (footprint op start regs) (execution.row op start regs)
unfolding immediates.immediate immediates.compare_immediate bits.bit_by_register bits.bit_by_number movep.movep_to_register movep.movep_to_memory moves.move_operand moves.move_address single.unary status.move_from_sr status.move_to_ccr status.move_to_sr single.nbcd links.pea single.tst links.link links.unlk control.rte control.rts control.rtr control.jsr control.chk setting.scc branches.bsr quotients.divu quotients.divs multiprecision.decimal arithmetic.to_register arithmetic.to_address comparisons.cmp comparisons.cmpa arithmetic.eor comparisons.cmpm products.mulu products.muls arithmetic.shift_memory
row (ops.Immediate operation size number mode) start regs h = change_operand operation size number mode _ regs
row (ops.CompareImmediate size number mode) start regs h = test_operand tasks.Cmp size number mode _ regs
row (ops.BitByRegister operation n mode) start regs h = bit operation _ mode _ regs
row (ops.BitByNumber operation number mode) start regs h = bit operation number mode _ regs
row (ops.MovepToRegister size x y by) start regs h = last _ _ _ (read_spread size _) (λ value. give _)
row (ops.MovepToMemory size x y by) start regs h = last _ _ _ (write_spread size _ _) (λ written. give _)
row (ops.Move size source target) start regs h = after_load _ source size _ regs _ (λ value. last _ _ _ (store target size _ _ _) (λ after. give _))
row (ops.Movea size n mode) start regs h = last _ _ _ (load mode size _ regs) (λ from. give _)
row (ops.Unary operation size mode) start regs h = change_operand operation size 0 mode _ regs
row (ops.MoveFromSr mode) start regs h = bind (reads Word mode (above start 2) regs) (writes Word mode (above start 2) regs) _ _ (fetch Word mode _ regs _) (λ old. last _ _ _ (put Word mode _ _ regs _) (λ after. give _))
row (ops.MoveToCcr mode) start regs h = last _ _ _ (load mode Word _ regs) (λ operand. give _)
row (ops.MoveToSr mode) start regs h = supervised _ (is_supervisor regs) _ _ (load_sr mode start regs) (give _)
row (ops.Nbcd mode) start regs h = change_operand tasks.Nbcd Byte 0 mode _ regs
row (ops.Pea mode) start regs h = last _ _ _ (push Long _ regs) (λ after. give _)
row (ops.MovemToMemory size list mode) start regs h = movem_to_memory size list mode start regs h.0 h.1
row (ops.MovemToRegisters size list mode) start regs h = movem_to_registers size list mode start regs h.0 h.1
row (ops.Tst size mode) start regs h = last _ _ _ (load mode size _ regs) (λ operand. give _)
row (ops.Tas mode) start regs h = tas mode start regs
row (ops.Link n by) start regs h = last _ _ _ (push Long _ regs) (λ after. give _)
row (ops.Unlk n) start regs h = last _ _ _ (same _ _ _ (ap (λ at. one Read Long at) (stack_set regs (address_of regs n))) (pull Long (with_address regs 7 (address_of regs n)))) (λ old. give _)
row ops.Rte start regs h = supervised _ (is_supervisor regs) _ _ (return_from_exception regs) (give _)
row ops.Rts start regs h = last _ _ _ (pull Long regs) (λ target. give _)
row ops.Rtr start regs h = after_pull (one Read Long (above (stack_of regs) 2)) Word regs _ (λ value. last _ _ _ (pull_second regs) (λ target. give _))
row (ops.Jsr mode) start regs h = last _ _ _ (push Long _ regs) (λ after. give _)
row (ops.Chk n mode) start regs h = last _ _ _ (load mode Word _ regs) (λ bound. give _)
row (ops.Quick operation size number mode) start regs h = quick operation size number mode start regs
row (ops.Scc condition mode) start regs h = bind (reads Byte mode (above start 2) regs) (writes Byte mode (above start 2) regs) _ _ (fetch Byte mode _ regs _) (λ old. last _ _ _ (put Byte mode _ _ regs _) (λ after. give _))
row (ops.Bsr displacement) start regs h = last _ _ _ (push Long regs.pc regs) (λ after. give _)
row (ops.Divu n mode) start regs h = quotient_by _ n mode start regs
row (ops.Divs n mode) start regs h = quotient_by _ n mode start regs
row (ops.Decimal operation source target) start regs h = extended operation Byte source target start regs
row (ops.Extended operation size source target) start regs h = extended operation size source target start regs
row (ops.ToRegister operation size n mode) start regs h = change_register operation size n mode _ regs
row (ops.ToMemory operation size n mode) start regs h = to_memory operation size n mode start regs
row (ops.ToAddress operation size n mode) start regs h = last _ _ _ (load mode size _ regs) (λ source. give _)
row (ops.Cmp size n mode) start regs h = last _ _ _ (load mode size _ regs) (λ source. give _)
row (ops.Cmpa size n mode) start regs h = last _ _ _ (load mode size _ regs) (λ source. give _)
row (ops.Eor size n mode) start regs h = to_memory tasks.Eor size n mode start regs
row (ops.Cmpm size x y) start regs h = after_load _ (modes.PostInc y) size _ regs _ (λ value. last _ _ _ (load (modes.PostInc x) size _ _) (λ target. give _))
row (ops.Mulu n mode) start regs h = last _ _ _ (load mode Word _ regs) (λ source. give _)
row (ops.Muls n mode) start regs h = last _ _ _ (load mode Word _ regs) (λ source. give _)
row (ops.ShiftMemory operation mode) start regs h = change_operand operation Word 1 mode _ regs
row _ start regs h = give _
