-- Instructions that make no shared access and end in no exception.
use Rattle.std.proofs.Common.{◌≡◌, ℕ, ◌+◌, ◌*◌, ◌%◌, ◌^◌, ◌==◌, ◌∙◌, Bool, true, false, List, [], length, Option, Some, None, Ok, Err, cond, refl, sym, ap, subst, arith}
use Rattle.std.specs.Prelude.{if◌then◌else◌}
use Rattle.md_word.specs.Answers.{Done}
use Rattle.md_word.specs.Fields.{flags_of, register_of}
use Rattle.md_word.specs.Width.{extended}
use Rattle.md_word.specs.declared.main_bus.Request68.{Request68}
use Rattle.md_word.specs.declared.mode.Mode.{Mode}
use Rattle.md_word.specs.declared.regs.Regs.{Regs}
use Rattle.md_word.specs.declared.size.Size.{Size}
use Rattle.md_word.specs.declared.size.Size.TheVariants.{Long, Word}
use Rattle.md_word.specs.declared.task.Task.{Task}
use Rattle.m68k_decode.specs.declared.condition.Condition.{Condition}
use Rattle.m68k_decode.specs.declared.decoded.Decoded.{Decoded}
use Rattle.m68k_decode.specs.declared.displacement.Displacement.{Displacement}
use Rattle.m68k_decode.specs.declared.op.Op.{Op}
use Rattle.m68k_decode.specs.declared.op.Op.TheVariants as ops
use Rattle.m68k_ea.specs.Addresses.{effective_address}
use Rattle.m68k_time.specs.Clocks.{clocks_of, passed_time}
use Rattle.m68k_access.specs.Actions.{Act, is_odd}
use Rattle.m68k_access.specs.Conditions.{holds}
use Rattle.m68k_access.specs.Memory.{Memory}
use Rattle.m68k_access.specs.Operands.{pull, push, with_part}
use Rattle.m68k_access.specs.Outcomes.{Outcome, plain}
use Rattle.m68k_access.specs.declared.stop.Stop.TheVariants.{Ask}
use Rattle.m68k_access.specs.Shapes.{change_data, following, jump_to}
use Rattle.m68k_exec.specs.Rows.Branches as branches
use Rattle.m68k_exec.specs.Rows.Control as control
use Rattle.m68k_exec.specs.Rows.Moves.{move_operand}
use Rattle.m68k_exec.specs.Rows.Shifts as shifts
use Rattle.m68k_exec.specs.Sample.Caches.{IsInstructionAt, unspent}
use Rattle.m68k_exec.specs.Sample.Execution.{row}
use Rattle.m68k_exec.specs.Sample.Prediction.{FinishesPredicted, Predicts}
use Rattle.m68k_exec.specs.Sample.Private.{CarriesOut, Changes, EndsPrivately, IsPrivate, Reads, RunsPrivately, Stores, WaitsPrivately, took}
use Rattle.m68k_exec.specs.Sample.Samples as samples
use Rattle.m68k_exec.specs.Sample.Samples.{Ended, finished, leaves_trace, nothing}
use Rattle.m68k_exec.specs.declared.sample.cache.CachedInstruction.{CachedInstruction}
use Rattle.m68k_exec.specs.declared.sample.step.Predicted.{Predicted}
use Rattle.m68k_exec.specs.declared.sample.step.PrivateStep.{PrivateStep}
use Rattle.m68k_exec.specs.declared.sample.step.PrivateStep.TheVariants as privates
use Rattle.m68k_exec.specs.declared.sample.step.Step.TheVariants as steps
use Rattle.m68k_exec.proofs.Bounds.Early.{row32}
use Rattle.m68k_exec.proofs.Prediction.{instruction-predicts, sample-predicts}

-- an outcome with neither an exception nor a stop
pub record IsQuiet (outcome : Outcome) : Type 0 where
  pub vector : outcome.vector ≡ 0
  pub stopped : outcome.stopped ≡ false

-- a row that gives an outcome and does nothing
pub given : (op : Op) (act : Act Outcome) (outcome reported : Outcome) (clocks : ℕ) (memory : Memory) → act memory nothing ≡ Ok (outcome, nothing) → reported ≡ outcome → IsQuiet outcome
    → clocks ≡ clocks_of op (finished op reported.regs reported nothing).spent → IsPrivate op act clocks reported.regs memory nothing
given op act outcome reported clocks memory gives same quiet takes = record {
  outcome = reported;
  gives = gives ∙ ap (λ (o : Outcome). Ok (o, nothing)) (sym same);
  leaves = refl;
  vector = ap (λ (o : Outcome). o.vector) same ∙ quiet.vector;
  stopped = ap (λ (o : Outcome). o.stopped) same ∙ quiet.stopped;
  takes = takes;
}

-- a row that was carried out with nothing to report but its registers
pub changes : (done : Bool) (op : Op) (act : Act Outcome) (clocks : ℕ) (old new : Regs) (memory : Memory) → Changes done act old new memory → clocks ≡ clocks_of op unspent → CarriesOut (took clocks done) op act old new memory nothing
changes true op act clocks old new memory gives takes = record { outcome = plain new; gives = gives; leaves = refl; vector = refl; stopped = refl; takes = takes }
changes false op act clocks old new memory stays takes = stays

-- an instruction takes no answer where there is none
none-taken : (op : Op) (start : ℕ) (regs : Regs) (memory : Memory) (outcome : Outcome) (done : Done) → memory.answers ≡ [] → row op start regs memory nothing ≡ Ok (outcome, done) → done.used ≡ 0
none-taken op start regs memory outcome done none e =
    let taken = (row32 op start regs).value memory nothing outcome done e (omega arith) in
    omega (arith, taken.1, ap length none)

-- a row that was carried out with nothing to report but its registers and what it wrote
pub stores-takes : (carried : Bool) (op : Op) (start clocks : ℕ) (old new : Regs) (memory : Memory) (done : Done) → memory.answers ≡ [] → Stores carried (row op start old) old new memory done → clocks ≡ clocks_of op unspent
    → CarriesOut (took clocks carried) op (row op start old) old new memory done
stores-takes true op start clocks old new memory done none gives takes = record {
  outcome = plain new;
  gives = gives;
  leaves = refl;
  vector = refl;
  stopped = refl;
  takes = takes ∙ ap (λ (n : ℕ). clocks_of op (record unspent { accesses = n })) (sym (none-taken op start old memory (plain new) done none gives));
}
stores-takes false op start clocks old new memory done none stays takes = stays

-- ---- branches

branched-quiet : (distance start : ℕ) (regs : Regs) → IsQuiet (branches.branched distance start regs)
unfolding branches.branched
branched-quiet distance start regs = record { vector = refl; stopped = refl }

chosen-quiet : (b : Bool) (one other : Outcome) → IsQuiet one → IsQuiet other → IsQuiet (if b then one else other)
chosen-quiet true one other p q = p
chosen-quiet false one other p q = q

plain-quiet : (regs : Regs) → IsQuiet (plain regs)
plain-quiet regs = record { vector = refl; stopped = refl }

pub bra-quiet : (displacement : Displacement) (start : ℕ) (regs : Regs) → IsQuiet (branches.bra displacement start regs)
unfolding branches.bra
bra-quiet displacement start regs = branched-quiet (branches.distance_of displacement) start regs

pub bcc-quiet : (condition : Condition) (displacement : Displacement) (start : ℕ) (regs : Regs) → IsQuiet (branches.bcc condition displacement start regs)
unfolding branches.bcc
bcc-quiet condition displacement start regs =
    chosen-quiet (holds condition (flags_of regs)) (branches.branched (branches.distance_of displacement) start regs) (plain regs) (branched-quiet (branches.distance_of displacement) start regs) (plain-quiet regs)

counted-quiet : (n by start : ℕ) (regs : Regs) → IsQuiet (branches.counted n by start regs)
unfolding branches.counted
counted-quiet n by start regs =
    let counter = (register_of regs n + 0xffff) % 0x1_0000 in
    let after : Regs = with_part Word n counter regs in
    chosen-quiet (counter == 0xffff) (record (plain after) { expired = true }) (branches.branched (extended Word by) start after) (record { vector = refl; stopped = refl }) (branched-quiet (extended Word by) start after)

pub dbcc-quiet : (condition : Condition) (n by start : ℕ) (regs : Regs) → IsQuiet (branches.dbcc condition n by start regs)
unfolding branches.dbcc
dbcc-quiet condition n by start regs =
    chosen-quiet (holds condition (flags_of regs)) (plain regs) (branches.counted n by start regs) (plain-quiet regs) (counted-quiet n by start regs)

pub jmp-quiet : (mode : Mode) (start : ℕ) (regs : Regs) → IsQuiet (control.jmp mode start regs)
unfolding control.jmp
jmp-quiet mode start regs = record { vector = refl; stopped = refl }

pub nop-ends : (start clocks : ℕ) (old : Regs) → clocks ≡ clocks_of ops.Nop unspent → (memory : Memory) → IsPrivate ops.Nop (row ops.Nop start old) clocks old memory nothing
nop-ends start clocks old takes memory = given ops.Nop (row ops.Nop start old) (plain old) (plain old) clocks memory refl refl (plain-quiet old) takes

pub jmp-ends : (mode : Mode) (start clocks : ℕ) (old : Regs) (reported : Outcome) → reported ≡ control.jmp mode start old → clocks ≡ clocks_of (ops.Jmp mode) unspent
    → (memory : Memory) → IsPrivate (ops.Jmp mode) (row (ops.Jmp mode) start old) clocks reported.regs memory nothing
jmp-ends mode start clocks old reported same takes memory =
    given (ops.Jmp mode) (row (ops.Jmp mode) start old) (control.jmp mode start old) reported clocks memory refl same (jmp-quiet mode start old) takes

pub bra-ends : (displacement : Displacement) (start clocks : ℕ) (old : Regs) (reported : Outcome) → reported ≡ branches.bra displacement start old → clocks ≡ clocks_of (ops.Bra displacement) unspent
    → (memory : Memory) → IsPrivate (ops.Bra displacement) (row (ops.Bra displacement) start old) clocks reported.regs memory nothing
bra-ends displacement start clocks old reported same takes memory =
    given (ops.Bra displacement) (row (ops.Bra displacement) start old) (branches.bra displacement start old) reported clocks memory refl same (bra-quiet displacement start old) takes

-- a branch that may be taken
pub bcc-ends : (condition : Condition) (displacement : Displacement) (start clocks : ℕ) (old : Regs) (reported : Outcome) → reported ≡ branches.bcc condition displacement start old → clocks ≡ cond reported.taken 10 (passed_time displacement)
    → (memory : Memory) → IsPrivate (ops.Bcc condition displacement) (row (ops.Bcc condition displacement) start old) clocks reported.regs memory nothing
bcc-ends condition displacement start clocks old reported same takes memory =
    given (ops.Bcc condition displacement) (row (ops.Bcc condition displacement) start old) (branches.bcc condition displacement start old) reported clocks memory refl same (bcc-quiet condition displacement start old) takes

pub dbcc-ends : (condition : Condition) (n by start clocks : ℕ) (old : Regs) (reported : Outcome) → reported ≡ branches.dbcc condition n by start old → clocks ≡ cond reported.expired 14 (cond reported.taken 10 12)
    → (memory : Memory) → IsPrivate (ops.Dbcc condition n by) (row (ops.Dbcc condition n by) start old) clocks reported.regs memory nothing
dbcc-ends condition n by start clocks old reported same takes memory =
    given (ops.Dbcc condition n by) (row (ops.Dbcc condition n by) start old) (branches.dbcc condition n by start old) reported clocks memory refl same (dbcc-quiet condition n by start old) takes

-- ---- calls

pub bsr-ends : (displacement : Displacement) (start clocks : ℕ) (old mid : Regs) (reported : Outcome) (memory : Memory) (done : Done) → push Long old.pc old memory nothing ≡ Ok (mid, done) → reported ≡ branches.bra displacement start mid
    → clocks ≡ clocks_of (ops.Bsr displacement) unspent → IsPrivate (ops.Bsr displacement) (row (ops.Bsr displacement) start old) clocks reported.regs memory done
unfolding branches.bsr branches.bra
bsr-ends displacement start clocks old mid reported memory done pushes same takes = record {
  outcome = reported;
  gives = rw pushes (ap (λ (o : Outcome). Ok (o, done)) (sym same));
  leaves = refl;
  vector = ap (λ (o : Outcome). o.vector) same ∙ (bra-quiet displacement start mid).vector;
  stopped = ap (λ (o : Outcome). o.stopped) same ∙ (bra-quiet displacement start mid).stopped;
  takes = takes;
}

pub jsr-ends : (mode : Mode) (start clocks target : ℕ) (old mid : Regs) (memory : Memory) (done : Done) → push Long old.pc old memory nothing ≡ Ok (mid, done) → target ≡ effective_address mode Long old (following start 2)
    → clocks ≡ clocks_of (ops.Jsr mode) unspent → IsPrivate (ops.Jsr mode) (row (ops.Jsr mode) start old) clocks (record mid { pc = target }) memory done
unfolding control.jsr
jsr-ends mode start clocks target old mid memory done pushes is takes = record {
  outcome = jump_to target mid;
  gives = rw pushes (rw is refl);
  leaves = refl;
  vector = refl;
  stopped = refl;
  takes = takes;
}

pub rts-ends : (start clocks target : ℕ) (old mid : Regs) (memory : Memory) → Reads (pull Long old) (record { value = target; regs = mid }) memory → clocks ≡ clocks_of ops.Rts unspent
    → IsPrivate ops.Rts (row ops.Rts start old) clocks (record mid { pc = target }) memory nothing
unfolding control.rts
rts-ends start clocks target old mid memory pulls takes = record {
  outcome = jump_to target mid;
  gives = rw pulls refl;
  leaves = refl;
  vector = refl;
  stopped = refl;
  takes = takes;
}

-- ---- shifts

number-quiet : (operation : Task) (size : Size) (count n : ℕ) (regs : Regs) → IsQuiet (shifts.shift_by_number operation size count n regs)
unfolding shifts.shift_by_number change_data
number-quiet operation size count n regs = record { vector = refl; stopped = refl }

pub number-ends : (operation : Task) (size : Size) (count n start clocks places : ℕ) (old : Regs) (reported : Outcome) → reported ≡ shifts.shift_by_number operation size count n old → places ≡ reported.count
    → clocks ≡ clocks_of (ops.ShiftByNumber operation size count n) unspent
    → (memory : Memory) → IsPrivate (ops.ShiftByNumber operation size count n) (row (ops.ShiftByNumber operation size count n) start old) (clocks + 2 * places) reported.regs memory nothing
number-ends operation size count n start clocks places old reported same counted takes memory =
    given (ops.ShiftByNumber operation size count n) (row (ops.ShiftByNumber operation size count n) start old) (shifts.shift_by_number operation size count n old) reported (clocks + 2 * places) memory refl same
    (number-quiet operation size count n old) (omega (arith, counted, takes))

register-quiet : (operation : Task) (size : Size) (n r : ℕ) (regs : Regs) → IsQuiet (shifts.shift_by_register operation size n r regs)
unfolding shifts.shift_by_register
register-quiet operation size n r regs = number-quiet operation size (register_of regs n % 64) r regs

pub register-ends : (operation : Task) (size : Size) (n r start clocks places : ℕ) (old : Regs) (reported : Outcome) → reported ≡ shifts.shift_by_register operation size n r old → places ≡ reported.count
    → clocks ≡ clocks_of (ops.ShiftByRegister operation size n r) unspent
    → (memory : Memory) → IsPrivate (ops.ShiftByRegister operation size n r) (row (ops.ShiftByRegister operation size n r) start old) (clocks + 2 * places) reported.regs memory nothing
register-ends operation size n r start clocks places old reported same counted takes memory =
    given (ops.ShiftByRegister operation size n r) (row (ops.ShiftByRegister operation size n r) start old) (shifts.shift_by_register operation size n r old) reported (clocks + 2 * places) memory refl same
    (register-quiet operation size n r old) (omega (arith, counted, takes))

-- ---- the sample

-- an instruction at an even address that was carried out
pub instruction-ends : (found : Decoded) (first clocks : ℕ) (old new : Regs) (memory : Memory) (done : Done) → is_odd old.pc ≡ false → leaves_trace old 0 ≡ false
    → IsPrivate found.op (row found.op old.pc (record old { pc = (old.pc + found.length) % 2 ^ 32 })) clocks new memory done
    → EndsPrivately (samples.instruction found first old) clocks new done.writes memory
unfolding samples.instruction samples.ended_by
instruction-ends found first clocks old new memory done even untraced carried = record {
  ended = finished found.op old carried.outcome done;
  ends = rw even (rw carried.gives (rw carried.vector refl));
  leaves = carried.leaves;
  writes = refl;
  stopped = carried.stopped;
  halted = refl;
  trace = untraced;
  takes = carried.takes;
}

-- a MOVE that was carried out
pub move-ends : (found : Decoded) (first clocks pc : ℕ) (size : Size) (source target : Mode) (old new : Regs) (memory : Memory) (done : Done) → found.op ≡ ops.Move size source target → is_odd old.pc ≡ false → leaves_trace old 0 ≡ false → memory.answers ≡ []
    → pc ≡ (old.pc + found.length) % 2 ^ 32 → move_operand size source target old.pc (record old { pc = pc }) memory nothing ≡ Ok (plain new, done) → clocks ≡ clocks_of found.op unspent
    → EndsPrivately (samples.instruction found first old) clocks new done.writes memory
move-ends found first clocks pc size source target old new memory done is even untraced none after moves takes =
    instruction-ends found first clocks old new memory done even untraced
    (stores-takes true found.op old.pc clocks (record old { pc = (old.pc + found.length) % 2 ^ 32 }) new memory done none (rw is (rw (sym after) moves)) takes)

-- a MOVE that waits for its write
pub move-waits : (found : Decoded) (first pc : ℕ) (size : Size) (source target : Mode) (old : Regs) (memory : Memory) (predicted new : Predicted) (request : Request68) → found.op ≡ ops.Move size source target → is_odd old.pc ≡ false
    → pc ≡ (old.pc + found.length) % 2 ^ 32 → move_operand size source target old.pc (record old { pc = pc }) memory nothing ≡ Err (Ask request)
    → Predicts {A = Unit {0}} (Err (Ask request)) predicted (move_operand size source target old.pc (record old { pc = pc })) memory nothing
    → new.known ≡ predicted.known → new.regs ≡ predicted.regs → (predicted.known ≡ true → FinishesPredicted new found.op old memory)
    → WaitsPrivately (samples.instruction found first old) request new memory
unfolding samples.instruction
move-waits found first pc size source target old memory predicted new request is even after asks predicts same kept finishes =
    let begins : row found.op old.pc (record old { pc = (old.pc + found.length) % 2 ^ 32 }) memory nothing ≡ Err (Ask request) = rw is (rw (sym after) asks) in
    record {
      asks = rw even (rw begins refl);
      ends = instruction-predicts (Unit {0}) found first old memory predicted new (Ask request) request pc nothing even refl after refl
          (subst (λ (op : Op). Predicts {A = Unit {0}} (Err (Ask request)) predicted (row op old.pc (record old { pc = pc })) memory nothing) (sym is) predicts) same kept finishes;
    }

-- the instruction at the program counter
pub sample-runs : (result : Option PrivateStep) (predicted : Predicted) (found : CachedInstruction) (old new : Regs) (written : List (ℕ × ℕ)) (memory : Memory) → IsInstructionAt old.pc memory found
    → RunsPrivately result predicted (samples.instruction found.decoded found.first old) old new written memory → RunsPrivately result predicted (samples.sampled 0 old) old new written memory
unfolding samples.sampled
sample-runs (Some (privates.Done clocks)) predicted found old new written memory right runs = record {
  ended = runs.ended;
  ends = rw (sym right.decoded, sym right.first) runs.ends;
  leaves = runs.leaves;
  writes = runs.writes;
  stopped = runs.stopped;
  halted = runs.halted;
  trace = runs.trace;
  takes = runs.takes;
}
sample-runs (Some (privates.Need request)) predicted found old new written memory right runs = (
  record {
    asks = rw (sym right.decoded, sym right.first) (runs.0.asks);
    ends = sample-predicts (steps.Need request) predicted 0 old memory found.decoded found.first right.decoded right.first (runs.0.ends);
  },
  runs.1,
)
sample-runs None predicted found old new written memory right runs = runs
