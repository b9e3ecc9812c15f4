-- Where an instruction ends in an exception, the stack pointers are as its operand moved them.
use Rattle.std.proofs.Common.{◌≡◌, ◌≢◌, ℕ, Bool, true, false, Result, Ok, Err, refl}
use Rattle.std.specs.Prelude.{if◌then◌else◌, int_lt, pos}
use Rattle.md_word.specs.Fields.{flags_of, is_supervisor, with_flags}
use Rattle.md_word.specs.Width.{signed_of}
use Rattle.md_word.specs.declared.mode.Mode.{Mode}
use Rattle.md_word.specs.declared.mode.Mode.TheVariants as modes
use Rattle.md_word.specs.declared.regs.Regs.{Regs}
use Rattle.md_word.specs.declared.size.Size.{Size}
use Rattle.md_word.specs.declared.size.Size.TheVariants.{Byte, Long, Word}
use Rattle.md_word.specs.declared.task.Task.{Task}
use Rattle.md_word.specs.declared.task.Task.TheVariants as tasks
use Rattle.m68k_alu.specs.declared.quotient.Quotient.{Quotient}
use Rattle.m68k_alu.specs.declared.quotient.Quotient.TheVariants.{Overflow, Value, Zero}
use Rattle.m68k_decode.specs.declared.op.Op.{Op}
use Rattle.m68k_decode.specs.declared.op.Op.TheVariants as ops
use Rattle.m68k_ea.specs.Places.{place_of}
use Rattle.m68k_ea.specs.Steps.{stepped}
use Rattle.m68k_access.specs.Actions as actions
use Rattle.md_word.specs.Answers.{Done}
use Rattle.m68k_access.specs.Actions.{Act, ◌>>=◌, go_on}
use Rattle.m68k_access.specs.Conditions.{holds}
use Rattle.m68k_access.specs.Memory.{Memory}
use Rattle.m68k_access.specs.Operands as operands
use Rattle.m68k_access.specs.Operands.{Operand}
use Rattle.m68k_access.specs.Outcomes.{Outcome}
use Rattle.m68k_access.specs.Shapes as shapes
use Rattle.m68k_exec.specs.Rows.Arithmetic as arithmetic
use Rattle.m68k_exec.specs.Rows.Bits as bits
use Rattle.m68k_exec.specs.Rows.Branches as branches
use Rattle.m68k_exec.specs.Rows.Comparisons as comparisons
use Rattle.m68k_exec.specs.Rows.Control as control
use Rattle.m68k_exec.specs.Rows.Immediates as immediates
use Rattle.m68k_exec.specs.Rows.Links as links
use Rattle.m68k_exec.specs.Rows.Movem as movem
use Rattle.m68k_exec.specs.Rows.Movep as movep
use Rattle.m68k_exec.specs.Rows.Moves as moves
use Rattle.m68k_exec.specs.Rows.Multiprecision as multiprecision
use Rattle.m68k_exec.specs.Rows.Products as products
use Rattle.m68k_exec.specs.Rows.Quotients as quotients
use Rattle.m68k_exec.specs.Rows.Registers as registers
use Rattle.m68k_exec.specs.Rows.Setting as setting
use Rattle.m68k_exec.specs.Rows.Shifts as shifts
use Rattle.m68k_exec.specs.Rows.Single as single
use Rattle.m68k_exec.specs.Rows.Status as status
use Rattle.m68k_exec.specs.Sample.Execution as execution
use Rattle.m68k_access.specs.declared.stop.Stop.{Stop}
use Rattle.m68k_laws.specs.Frames.{left_by}

-- an outcome that is no exception, or leaves this stack pointer
abbrev pub Leaves : ℕ → Outcome → Type 0
Leaves stack outcome = outcome.vector ≢ 0 → outcome.regs.ssp ≡ stack

abbrev pub LeavesAt : ℕ → Result (Outcome × Done) Stop → Type 0
LeavesAt stack (Ok x) = Leaves stack x.0
LeavesAt stack (Err stop) = Unit {0}

pub record Yields (stack : ℕ) (act : Act Outcome) : Type 0 where
  pub at : (memory : Memory) (before : Done) → LeavesAt stack (act memory before)

-- no exception
abbrev Plain : Outcome → Type 0
Plain outcome = outcome.vector ≡ 0

give : (stack : ℕ) (outcome : Outcome) → Leaves stack outcome → Yields stack (actions.give outcome)
give stack outcome h = record { at = λ memory before. h }

yields_plain : (stack : ℕ) (outcome : Outcome) → Plain outcome → Yields stack (actions.give outcome)
yields_plain stack outcome h = give stack outcome (λ some. absurd (some h))

then_at : {A : Type 0} (stack : ℕ) (memory : Memory) (first : Result (A × Done) Stop) (next : A → Act Outcome) → ((x : A) → Yields stack (next x)) → LeavesAt stack (go_on first (λ x middle. next x memory middle))
then_at stack memory (Ok x) next k = (k x.0).at memory x.1
then_at stack memory (Err stop) next k = tt

after : {A : Type 0} (stack : ℕ) (act : Act A) (next : A → Act Outcome) → ((x : A) → Yields stack (next x)) → Yields stack (act >>= next)
after stack act next k = record { at = λ memory before. then_at stack memory (act memory before) next k }

-- an operand that was read, with the registers after it
loaded_at : (stack : ℕ) (memory : Memory) (first : Result (ℕ × Done) Stop) (f : ℕ → Operand) (next : Operand → Act Outcome) → ((value : ℕ) → Yields stack (next (f value))) → LeavesAt stack (go_on (go_on first (λ value middle. Ok (f value, middle))) (λ operand middle. next operand memory middle))
loaded_at stack memory (Ok x) f next k = (k x.0).at memory x.1
loaded_at stack memory (Err stop) f next k = tt

after_load : (stack : ℕ) (mode : Mode) (size : Size) (pc : ℕ) (regs : Regs) (next : Operand → Act Outcome) → ((value : ℕ) → Yields stack (next (record { value = value; regs = stepped mode size regs }))) → Yields stack (operands.load mode size pc regs >>= next)
unfolding operands.load
after_load stack mode size pc regs next k = record {
  at = λ memory before. loaded_at stack memory (operands.fetch size (place_of mode size regs pc) regs memory before) (λ value. record { value = value; regs = stepped mode size regs }) next k;
}

choice : (stack : ℕ) (test : Bool) (one other : Act Outcome) → Yields stack one → Yields stack other → Yields stack (λ memory done. if test then one memory done else other memory done)
choice stack true one other h k = h
choice stack false one other h k = k

either : (P : Outcome → Type 0) (test : Bool) (one other : Outcome) → P one → P other → P (if test then one else other)
either P true one other h k = h
either P false one other h k = k

-- the shapes
test_operand : (stack : ℕ) (operation : Task) (size : Size) (number : ℕ) (mode : Mode) (pc : ℕ) (regs : Regs) → Yields stack (shapes.test_operand operation size number mode pc regs)
unfolding shapes.test_operand
test_operand stack operation size number mode pc regs = after stack _ _ (λ first. yields_plain stack _ refl)

change_operand : (stack : ℕ) (operation : Task) (size : Size) (number : ℕ) (mode : Mode) (pc : ℕ) (regs : Regs) → Yields stack (shapes.change_operand operation size number mode pc regs)
unfolding shapes.change_operand
change_operand stack operation size number mode pc regs = after stack (operands.fetch size (place_of mode size regs pc) (stepped mode size regs)) _ (λ first. after stack (operands.put size (place_of mode size regs pc) _ (stepped mode size regs)) _ (λ second. yields_plain stack _ refl))

change_register : (stack : ℕ) (operation : Task) (size : Size) (n : ℕ) (mode : Mode) (pc : ℕ) (regs : Regs) → Yields stack (shapes.change_register operation size n mode pc regs)
unfolding shapes.change_register
change_register stack operation size n mode pc regs = after stack _ _ (λ first. yields_plain stack _ refl)

-- rows that access memory
bit_of_size : (stack : ℕ) (operation : Task) (size : Size) (number : ℕ) (mode : Mode) (pc : ℕ) (regs : Regs) → Yields stack (bits.bit_of_size operation size number mode pc regs)
bit_of_size stack tasks.Btst size number mode pc regs = test_operand stack tasks.Btst size number mode pc regs
bit_of_size stack operation size number mode pc regs = change_operand stack operation size number mode pc regs

bit : (stack : ℕ) (operation : Task) (number : ℕ) (mode : Mode) (pc : ℕ) (regs : Regs) → Yields stack (bits.bit operation number mode pc regs)
unfolding bits.bit
bit stack operation number mode pc regs = bit_of_size stack operation _ _ mode pc regs

tas : (stack : ℕ) (mode : Mode) (start : ℕ) (regs : Regs) → Yields stack (single.tas mode start regs)
tas stack (modes.Data n) start regs = change_operand stack tasks.Tas Byte 0 (modes.Data n) _ regs
tas stack mode start regs = test_operand stack tasks.Tas Byte 0 mode _ regs

load_sr : (stack : ℕ) (mode : Mode) (start : ℕ) (regs : Regs) → Yields stack (status.load_sr mode start regs)
unfolding status.load_sr
load_sr stack mode start regs = after stack _ _ (λ first. yields_plain stack _ refl)

return_from_exception : (stack : ℕ) (regs : Regs) → Yields stack (control.return_from_exception regs)
unfolding control.return_from_exception
return_from_exception stack regs = after stack (operands.pull Word regs) _ (λ first. after stack (operands.pull Long first.regs) _ (λ second. yields_plain stack _ refl))

quick : (stack : ℕ) (operation : Task) (size : Size) (number : ℕ) (mode : Mode) (start : ℕ) (regs : Regs) → Yields stack (arithmetic.quick operation size number mode start regs)
unfolding arithmetic.change_address
quick stack operation size number (modes.Address n) start regs = yields_plain stack _ refl
quick stack operation size number mode start regs = change_operand stack operation size number mode _ regs

extended : (stack : ℕ) (operation : Task) (size : Size) (source : Mode) (target : Mode) (start : ℕ) (regs : Regs) → Yields stack (multiprecision.extended operation size source target start regs)
unfolding multiprecision.extended
extended stack operation size source target start regs = after stack _ _ (λ part. change_operand stack operation size part.value target _ part.regs)

to_memory : (stack : ℕ) (operation : Task) (size : Size) (n : ℕ) (mode : Mode) (start : ℕ) (regs : Regs) → Yields stack (arithmetic.to_memory operation size n mode start regs)
unfolding arithmetic.to_memory
to_memory stack operation size n mode start regs = change_operand stack operation size _ mode _ regs

-- rows that access nothing and end in no exception
branched : (distance : ℕ) (start : ℕ) (regs : Regs) → Plain (branches.branched distance start regs)
unfolding branches.branched
branched distance start regs = refl

counted : (n : ℕ) (by : ℕ) (start : ℕ) (regs : Regs) → Plain (branches.counted n by start regs)
unfolding branches.counted
counted n by start regs = either Plain _ _ _ refl (branched _ start _)

shift_by_number : (operation : Task) (size : Size) (count : ℕ) (r : ℕ) (regs : Regs) → Plain (shifts.shift_by_number operation size count r regs)
unfolding shifts.shift_by_number shapes.change_data
shift_by_number operation size count r regs = refl

-- rows that can end in an exception
privileged : (start : ℕ) (regs : Regs) (outcome : Outcome) → Plain outcome → Leaves regs.ssp (status.privileged start regs outcome)
privileged start regs outcome h = either (Leaves regs.ssp) (is_supervisor regs) outcome _ (λ some. absurd (some h)) (λ some. refl)

stop : (value : ℕ) (start : ℕ) (regs : Regs) → Leaves regs.ssp (status.stop value start regs)
unfolding status.stop
stop value start regs = privileged start regs _ refl

caught : (negative : Bool) (regs : Regs) → Leaves regs.ssp (control.caught negative regs)
unfolding control.caught with_flags
caught negative regs = λ some. refl

checked : (value bound : ℕ) (regs : Regs) → Leaves regs.ssp (control.checked value bound regs)
unfolding control.checked
checked value bound regs =
    either (Leaves regs.ssp) (int_lt (signed_of Word value) (pos 0)) _ _ (caught true regs)
    (either (Leaves regs.ssp) (int_lt (signed_of Word bound) (signed_of Word value)) _ _ (caught false regs) (λ some. refl))

ended_by : (quotient : Quotient) (n : ℕ) (regs : Regs) → Leaves regs.ssp (quotients.ended_by quotient n regs)
ended_by Zero n regs = λ some. refl
ended_by Overflow n regs = λ some. refl
ended_by (Value value) n regs = λ some. absurd (some refl)

finished : (quotient : Quotient) (n : ℕ) (regs : Regs) → Leaves regs.ssp (quotients.finished quotient n regs)
unfolding quotients.finished with_flags
finished quotient n regs = ended_by quotient n _

quotient_by : (signed : Bool) (n : ℕ) (mode : Mode) (start : ℕ) (regs : Regs) → Yields (stepped mode Word regs).ssp (quotients.quotient_by signed n mode start regs)
unfolding quotients.quotient_by
quotient_by signed n mode start regs = after_load _ mode Word _ regs _ (λ value. give _ _ (finished _ n (stepped mode Word regs)))

-- every instruction
pub row : (op : Op) (start : ℕ) (regs : Regs) → Yields (left_by op regs).ssp (execution.row op start regs)
unfolding immediates.immediate immediates.compare_immediate immediates.immediate_to_ccr immediates.immediate_to_sr bits.bit_by_register bits.bit_by_number movep.movep_to_register movep.movep_to_memory moves.move_operand moves.move_address single.unary status.move_from_sr status.move_to_ccr status.move_to_sr single.nbcd single.swap single.ext links.pea movem.movem_to_memory movem.movem_to_registers single.tst control.trap links.link links.unlk status.move_to_usp status.move_from_usp status.reset control.rte control.rts control.trapv control.rtr control.jsr control.jmp links.lea control.chk setting.scc branches.dbcc branches.bra branches.bsr branches.branched branches.bcc registers.moveq quotients.divu quotients.divs multiprecision.decimal arithmetic.to_register arithmetic.to_address arithmetic.change_address comparisons.cmp comparisons.compared comparisons.cmpa arithmetic.eor comparisons.cmpm products.mulu shapes.change_data products.muls registers.exg shifts.shift_by_register arithmetic.shift_memory control.illegal control.line_a_opcode control.line_f_opcode
row (ops.Immediate operation size number mode) start regs = change_operand _ operation size number mode _ regs
row (ops.CompareImmediate size number mode) start regs = test_operand _ tasks.Cmp size number mode _ regs
row (ops.ImmediateToCcr operation number) start regs = yields_plain _ _ refl
row (ops.ImmediateToSr operation number) start regs = give _ _ (privileged start regs _ refl)
row (ops.BitByRegister operation n mode) start regs = bit _ operation _ mode _ regs
row (ops.BitByNumber operation number mode) start regs = bit _ operation number mode _ regs
row (ops.MovepToRegister size x y by) start regs = after _ _ _ (λ first. yields_plain _ _ refl)
row (ops.MovepToMemory size x y by) start regs = after _ _ _ (λ first. yields_plain _ _ refl)
row (ops.Move size source target) start regs = after _ (operands.load source size _ regs) _ (λ first. after _ (operands.store target size _ _ first.regs) _ (λ second. yields_plain _ _ refl))
row (ops.Movea size n mode) start regs = after _ _ _ (λ first. yields_plain _ _ refl)
row (ops.Unary operation size mode) start regs = change_operand _ operation size 0 mode _ regs
row (ops.MoveFromSr mode) start regs = after _ (operands.fetch Word _ _) _ (λ first. after _ (operands.put Word _ _ _) _ (λ second. yields_plain _ _ refl))
row (ops.MoveToCcr mode) start regs = after _ _ _ (λ first. yields_plain _ _ refl)
row (ops.MoveToSr mode) start regs = choice regs.ssp (is_supervisor regs) _ _ (load_sr regs.ssp mode start regs) (give regs.ssp _ (λ some. refl))
row (ops.Nbcd mode) start regs = change_operand _ tasks.Nbcd Byte 0 mode _ regs
row (ops.Swap n) start regs = yields_plain _ _ refl
row (ops.Ext size n) start regs = yields_plain _ _ refl
row (ops.Pea mode) start regs = after _ _ _ (λ first. yields_plain _ _ refl)
row (ops.MovemToMemory size list mode) start regs = after _ _ _ (λ first. yields_plain _ _ refl)
row (ops.MovemToRegisters size list mode) start regs = after _ _ _ (λ first. yields_plain _ _ refl)
row (ops.Tst size mode) start regs = after _ _ _ (λ first. yields_plain _ _ refl)
row (ops.Tas mode) start regs = tas _ mode start regs
row (ops.Trap number) start regs = give _ _ (λ some. refl)
row (ops.Link n by) start regs = after _ _ _ (λ first. yields_plain _ _ refl)
row (ops.Unlk n) start regs = after _ _ _ (λ first. yields_plain _ _ refl)
row (ops.MoveToUsp n) start regs = give _ _ (privileged start regs _ refl)
row (ops.MoveFromUsp n) start regs = give _ _ (privileged start regs _ refl)
row ops.Reset start regs = give _ _ (privileged start regs _ refl)
row ops.Nop start regs = yields_plain _ _ refl
row (ops.Stop value) start regs = give _ _ (stop value start regs)
row ops.Rte start regs = choice regs.ssp (is_supervisor regs) _ _ (return_from_exception regs.ssp regs) (give regs.ssp _ (λ some. refl))
row ops.Rts start regs = after _ _ _ (λ first. yields_plain _ _ refl)
row ops.Trapv start regs = give _ _ (either (Leaves regs.ssp) (flags_of regs).v _ _ (λ some. refl) (λ some. refl))
row ops.Rtr start regs = after _ (operands.pull Word regs) _ (λ first. after _ (operands.pull Long first.regs) _ (λ second. yields_plain _ _ refl))
row (ops.Jsr mode) start regs = after _ _ _ (λ first. yields_plain _ _ refl)
row (ops.Jmp mode) start regs = yields_plain _ _ refl
row (ops.Lea n mode) start regs = yields_plain _ _ refl
row (ops.Chk n mode) start regs = after_load _ mode Word _ regs _ (λ value. give _ _ (checked _ value (stepped mode Word regs)))
row (ops.Quick operation size number mode) start regs = quick _ operation size number mode start regs
row (ops.Scc condition mode) start regs = after _ (operands.fetch Byte _ _) _ (λ first. after _ (operands.put Byte _ _ _) _ (λ second. yields_plain _ _ refl))
row (ops.Dbcc condition n by) start regs = yields_plain _ _ (either Plain (holds condition (flags_of regs)) _ _ refl (counted n by start regs))
row (ops.Bra displacement) start regs = yields_plain _ _ refl
row (ops.Bsr displacement) start regs = after _ _ _ (λ first. yields_plain _ _ refl)
row (ops.Bcc condition displacement) start regs = yields_plain _ _ (either Plain (holds condition (flags_of regs)) _ _ refl refl)
row (ops.Moveq n byte) start regs = yields_plain _ _ refl
row (ops.Divu n mode) start regs = quotient_by false n mode start regs
row (ops.Divs n mode) start regs = quotient_by true n mode start regs
row (ops.Decimal operation source target) start regs = extended _ operation Byte source target start regs
row (ops.Extended operation size source target) start regs = extended _ operation size source target start regs
row (ops.ToRegister operation size n mode) start regs = change_register _ operation size n mode _ regs
row (ops.ToMemory operation size n mode) start regs = to_memory _ operation size n mode start regs
row (ops.ToAddress operation size n mode) start regs = after _ _ _ (λ first. yields_plain _ _ refl)
row (ops.Cmp size n mode) start regs = after _ _ _ (λ first. yields_plain _ _ refl)
row (ops.Cmpa size n mode) start regs = after _ _ _ (λ first. yields_plain _ _ refl)
row (ops.Eor size n mode) start regs = to_memory _ tasks.Eor size n mode start regs
row (ops.Cmpm size x y) start regs = after _ (operands.load (modes.PostInc y) size _ regs) _ (λ first. after _ (operands.load (modes.PostInc x) size _ first.regs) _ (λ second. yields_plain _ _ refl))
row (ops.Mulu n mode) start regs = after _ _ _ (λ first. yields_plain _ _ refl)
row (ops.Muls n mode) start regs = after _ _ _ (λ first. yields_plain _ _ refl)
row (ops.Exg n r) start regs = yields_plain _ _ refl
row (ops.ShiftByNumber operation size number r) start regs = yields_plain _ _ (shift_by_number operation size number r regs)
row (ops.ShiftByRegister operation size n r) start regs = yields_plain _ _ (shift_by_number operation size _ r regs)
row (ops.ShiftMemory operation mode) start regs = change_operand _ operation Word 1 mode _ regs
row (ops.Illegal opcode) start regs = give _ _ (λ some. refl)
row (ops.LineA opcode) start regs = give _ _ (λ some. refl)
row (ops.LineF opcode) start regs = give _ _ (λ some. refl)
