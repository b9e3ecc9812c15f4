-- Answers beyond those that it takes change nothing: of the instructions whose first digit is 0
-- to 4.
use Rattle.std.proofs.Common.{ℕ, ◌==◌, List, [], ◌∷◌}
use Rattle.md_word.specs.Fields.{is_supervisor}
use Rattle.md_word.specs.declared.mode.Mode.{Mode}
use Rattle.md_word.specs.declared.mode.Mode.TheVariants.{Data}
use Rattle.md_word.specs.declared.regs.Regs.{Regs}
use Rattle.md_word.specs.declared.size.Size.{Size}
use Rattle.md_word.specs.declared.size.Size.TheVariants.{Byte, Word, Long}
use Rattle.md_word.specs.declared.task.Task.{Task}
use Rattle.md_word.specs.declared.task.Task.TheVariants as tasks
use Rattle.m68k_access.proofs.Later.Accesses.{bind, choice, fetch, give, load, odd, pull, push, put, read, read_byte, store, write, write_byte}
use Rattle.m68k_access.proofs.Later.Shapes.{change_operand, test_operand}
use Rattle.m68k_access.specs.Actions as actions
use Rattle.m68k_exec.specs.Rows.Bits as bits
use Rattle.m68k_exec.specs.Rows.Control as control
use Rattle.m68k_exec.specs.Rows.Immediates as immediates
use Rattle.m68k_access.specs.Laws.{IgnoresLaterAnswers}
use Rattle.m68k_exec.specs.Rows.Links as links
use Rattle.m68k_exec.specs.Rows.Movem as movem
use Rattle.m68k_exec.specs.Rows.Movep as movep
use Rattle.m68k_exec.specs.Rows.Moves as moves
use Rattle.m68k_exec.specs.Rows.Single as single
use Rattle.m68k_exec.specs.Rows.Status as status
use Rattle.m68k_exec.specs.declared.rows.movem.Order.{Order}

-- immediates and bits
pub immediate : (operation : Task) (size : Size) (number : ℕ) (mode : Mode) (start : ℕ) (regs : Regs) → IgnoresLaterAnswers (immediates.immediate operation size number mode start regs)
unfolding immediates.immediate
immediate operation size number mode start regs = change_operand operation size number mode _ regs

pub compare_immediate : (size : Size) (number : ℕ) (mode : Mode) (start : ℕ) (regs : Regs) → IgnoresLaterAnswers (immediates.compare_immediate size number mode start regs)
unfolding immediates.compare_immediate
compare_immediate size number mode start regs = test_operand tasks.Cmp size number mode _ regs

bit_of_size : (operation : Task) (size : Size) (number : ℕ) (mode : Mode) (pc : ℕ) (regs : Regs) → IgnoresLaterAnswers (bits.bit_of_size operation size number mode pc regs)
bit_of_size tasks.Btst size number mode pc regs = test_operand tasks.Btst size number mode pc regs
bit_of_size operation size number mode pc regs = change_operand operation size number mode pc regs

bit : (operation : Task) (number : ℕ) (mode : Mode) (pc : ℕ) (regs : Regs) → IgnoresLaterAnswers (bits.bit operation number mode pc regs)
unfolding bits.bit
bit operation number mode pc regs = bit_of_size operation _ _ mode pc regs

pub bit_by_register : (operation : Task) (n : ℕ) (mode : Mode) (start : ℕ) (regs : Regs) → IgnoresLaterAnswers (bits.bit_by_register operation n mode start regs)
unfolding bits.bit_by_register
bit_by_register operation n mode start regs = bit operation _ mode _ regs

pub bit_by_number : (operation : Task) (number : ℕ) (mode : Mode) (start : ℕ) (regs : Regs) → IgnoresLaterAnswers (bits.bit_by_number operation number mode start regs)
unfolding bits.bit_by_number
bit_by_number operation number mode start regs = bit operation number mode _ regs

-- MOVEP
spread_word : (at : ℕ) → IgnoresLaterAnswers (movep.spread_word at)
unfolding movep.spread_word
spread_word at = bind _ _ (read_byte at) (λ high. bind _ _ (read_byte _) (λ low. give _))

spread_long : (at : ℕ) → IgnoresLaterAnswers (movep.spread_long at)
unfolding movep.spread_long
spread_long at = bind _ _ (spread_word at) (λ high. bind _ _ (spread_word _) (λ low. give _))

read_spread : (size : Size) (at : ℕ) → IgnoresLaterAnswers (movep.read_spread size at)
read_spread Byte at = read_byte at
read_spread Word at = spread_word at
read_spread Long at = spread_long at

write_spread_word : (at value : ℕ) → IgnoresLaterAnswers (movep.write_spread_word at value)
unfolding movep.write_spread_word
write_spread_word at value = bind _ _ (write_byte at _) (λ first. write_byte _ _)

write_spread_long : (at value : ℕ) → IgnoresLaterAnswers (movep.write_spread_long at value)
unfolding movep.write_spread_long
write_spread_long at value = bind _ _ (write_spread_word at _) (λ first. write_spread_word _ _)

write_spread : (size : Size) (at value : ℕ) → IgnoresLaterAnswers (movep.write_spread size at value)
write_spread Byte at value = write_byte at value
write_spread Word at value = write_spread_word at value
write_spread Long at value = write_spread_long at value

pub movep_to_register : (size : Size) (x y by start : ℕ) (regs : Regs) → IgnoresLaterAnswers (movep.movep_to_register size x y by start regs)
unfolding movep.movep_to_register
movep_to_register size x y by start regs = bind _ _ (read_spread size _) (λ value. give _)

pub movep_to_memory : (size : Size) (x y by start : ℕ) (regs : Regs) → IgnoresLaterAnswers (movep.movep_to_memory size x y by start regs)
unfolding movep.movep_to_memory
movep_to_memory size x y by start regs = bind _ _ (write_spread size _ _) (λ written. give _)

-- MOVE
pub move_operand : (size : Size) (source target : Mode) (start : ℕ) (regs : Regs) → IgnoresLaterAnswers (moves.move_operand size source target start regs)
unfolding moves.move_operand
move_operand size source target start regs =
    bind _ _ (load source size _ regs) (λ from. bind _ _ (store target size _ _ _) (λ after. give _))

pub move_address : (size : Size) (n : ℕ) (mode : Mode) (start : ℕ) (regs : Regs) → IgnoresLaterAnswers (moves.move_address size n mode start regs)
unfolding moves.move_address
move_address size n mode start regs = bind _ _ (load mode size _ regs) (λ from. give _)

-- one operand
pub unary : (operation : Task) (size : Size) (mode : Mode) (start : ℕ) (regs : Regs) → IgnoresLaterAnswers (single.unary operation size mode start regs)
unfolding single.unary
unary operation size mode start regs = change_operand operation size 0 mode _ regs

pub nbcd : (mode : Mode) (start : ℕ) (regs : Regs) → IgnoresLaterAnswers (single.nbcd mode start regs)
unfolding single.nbcd
nbcd mode start regs = change_operand tasks.Nbcd Byte 0 mode _ regs

pub tst : (size : Size) (mode : Mode) (start : ℕ) (regs : Regs) → IgnoresLaterAnswers (single.tst size mode start regs)
unfolding single.tst
tst size mode start regs = bind _ _ (load mode size _ regs) (λ operand. give _)

pub tas : (mode : Mode) (start : ℕ) (regs : Regs) → IgnoresLaterAnswers (single.tas mode start regs)
tas (Data n) start regs = change_operand tasks.Tas Byte 0 (Data n) _ regs
tas mode start regs = test_operand tasks.Tas Byte 0 mode _ regs

-- the status register
pub move_from_sr : (mode : Mode) (start : ℕ) (regs : Regs) → IgnoresLaterAnswers (status.move_from_sr mode start regs)
unfolding status.move_from_sr
move_from_sr mode start regs =
    bind _ _ (fetch Word _ _) (λ old. bind _ _ (put Word _ _ _) (λ after. give _))

pub move_to_ccr : (mode : Mode) (start : ℕ) (regs : Regs) → IgnoresLaterAnswers (status.move_to_ccr mode start regs)
unfolding status.move_to_ccr
move_to_ccr mode start regs = bind _ _ (load mode Word _ regs) (λ operand. give _)

load_sr : (mode : Mode) (start : ℕ) (regs : Regs) → IgnoresLaterAnswers (status.load_sr mode start regs)
unfolding status.load_sr
load_sr mode start regs = bind _ _ (load mode Word _ regs) (λ operand. give _)

pub move_to_sr : (mode : Mode) (start : ℕ) (regs : Regs) → IgnoresLaterAnswers (status.move_to_sr mode start regs)
unfolding status.move_to_sr
move_to_sr mode start regs = choice (is_supervisor regs) _ _ (load_sr mode start regs) (give _)

-- links, jumps, returns, CHK
pub pea : (mode : Mode) (start : ℕ) (regs : Regs) → IgnoresLaterAnswers (links.pea mode start regs)
unfolding links.pea
pea mode start regs = bind _ _ (push Long _ regs) (λ after. give _)

pub link : (n by : ℕ) (regs : Regs) → IgnoresLaterAnswers (links.link n by regs)
unfolding links.link
link n by regs = bind _ _ (push Long _ regs) (λ after. give _)

pub unlk : (n : ℕ) (regs : Regs) → IgnoresLaterAnswers (links.unlk n regs)
unfolding links.unlk
unlk n regs = bind _ _ (pull Long _) (λ old. give _)

pub jsr : (mode : Mode) (start : ℕ) (regs : Regs) → IgnoresLaterAnswers (control.jsr mode start regs)
unfolding control.jsr
jsr mode start regs = bind _ _ (push Long _ regs) (λ after. give _)

pub rts : (regs : Regs) → IgnoresLaterAnswers (control.rts regs)
unfolding control.rts
rts regs = bind _ _ (pull Long regs) (λ target. give _)

pub rtr : (regs : Regs) → IgnoresLaterAnswers (control.rtr regs)
unfolding control.rtr
rtr regs = bind _ _ (pull Word regs) (λ codes. bind _ _ (pull Long _) (λ target. give _))

return_from_exception : (regs : Regs) → IgnoresLaterAnswers (control.return_from_exception regs)
unfolding control.return_from_exception
return_from_exception regs = bind _ _ (pull Word regs) (λ codes. bind _ _ (pull Long _) (λ target. give _))

pub rte : (start : ℕ) (regs : Regs) → IgnoresLaterAnswers (control.rte start regs)
unfolding control.rte
rte start regs = choice (is_supervisor regs) _ _ (return_from_exception regs) (give _)

pub chk : (n : ℕ) (mode : Mode) (start : ℕ) (regs : Regs) → IgnoresLaterAnswers (control.chk n mode start regs)
unfolding control.chk
chk n mode start regs = bind _ _ (load mode Word _ regs) (λ bound. give _)

-- MOVEM
store_each : (order : Order) (size : Size) (places : List ℕ) (at : ℕ) (regs : Regs) → IgnoresLaterAnswers (movem.store_each order size places at regs)
store_each order size [] at regs = give at
store_each order size (place ∷ rest) at regs =
    bind _ _ (write size _ _) (λ written. store_each order size rest _ regs)

store_list : (order : Order) (size : Size) (list at : ℕ) (regs : Regs) → IgnoresLaterAnswers (movem.store_list order size list at regs)
unfolding movem.store_list
store_list order size list at regs =
    choice (list == 0) _ _ (give at) (choice (actions.is_odd at) _ _ (odd _ _) (store_each order size _ at regs))

load_each : (size : Size) (places : List ℕ) (at : ℕ) (regs : Regs) → IgnoresLaterAnswers (movem.load_each size places at regs)
load_each size [] at regs = give _
load_each size (place ∷ rest) at regs =
    bind _ _ (read size at) (λ value. load_each size rest _ _)

load_list : (size : Size) (list at : ℕ) (regs : Regs) → IgnoresLaterAnswers (movem.load_list size list at regs)
unfolding movem.load_list
load_list size list at regs =
    choice (list == 0) _ _ (give _) (choice (actions.is_odd at) _ _ (odd _ _) (load_each size _ at regs))

pub movem_to_memory : (size : Size) (list : ℕ) (mode : Mode) (start : ℕ) (regs : Regs) → IgnoresLaterAnswers (movem.movem_to_memory size list mode start regs)
unfolding movem.movem_to_memory
movem_to_memory size list mode start regs = bind _ _ (store_list _ size list _ regs) (λ reached. give _)

pub movem_to_registers : (size : Size) (list : ℕ) (mode : Mode) (start : ℕ) (regs : Regs) → IgnoresLaterAnswers (movem.movem_to_registers size list mode start regs)
unfolding movem.movem_to_registers
movem_to_registers size list mode start regs = bind _ _ (load_list size list _ regs) (λ last. give _)
