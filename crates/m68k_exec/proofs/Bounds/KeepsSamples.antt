-- What a sample asks for, and that it keeps the status register's bits.
use Rattle.std.proofs.Common.{◌≡◌, ℕ, zero, suc, ◌+◌, ◌%◌, ◌^◌, ◌<◌, ◌==◌, Bool, true, false, nat_lt, List, [], length, Option, Some, None, Result, Ok, Err, refl, subst, arith}
use Rattle.std.specs.Prelude.{if◌then◌else◌}
use Rattle.std.proofs.lemmas.Bool.Decides.{nat_tests}
use Rattle.md_word.specs.declared.main_bus.Request68.{Request68}
use Rattle.md_word.specs.declared.main_bus.Request68.TheVariants.{Ack}
use Rattle.md_word.specs.declared.regs.Regs.{Regs}
use Rattle.m68k_decode.specs.declared.decoded.Decoded.{Decoded}
use Rattle.m68k_decode.specs.declared.op.Op.{Op}
use Rattle.m68k_exec.proofs.Bounds.Keeps.{Any, Fine, HasStatus, Keeps, StatusAfter, bind, write_word}
use Rattle.m68k_exec.proofs.Bounds.KeepsRows.{row}
use Rattle.m68k_exec.proofs.Bounds.SystemByte as sr
use Rattle.md_word.proofs.Answered.{give}
use Rattle.m68k_exec.proofs.Bounds.SystemByte.{HasLevel}
use Rattle.m68k_exec.specs.Sample.Bounds.{IsAccess, IsStatus, MayAsk}
use Rattle.m68k_access.specs.Actions as actions
use Rattle.md_word.specs.Answers.{Done}
use Rattle.m68k_access.specs.Actions.{is_odd}
use Rattle.m68k_exec.specs.Sample.Entries as entries
use Rattle.m68k_exec.specs.Sample.Entries.{frame_for, number_of, vector_at}
use Rattle.m68k_exec.specs.Sample.Execution as execution
use Rattle.m68k_access.specs.Memory.{Memory}
use Rattle.m68k_access.specs.Outcomes.{Outcome}
use Rattle.m68k_exec.specs.Sample.Samples as samples
use Rattle.m68k_exec.specs.Sample.Samples.{Ended, begun_by, leaves_trace, nothing}
use Rattle.m68k_exec.specs.declared.sample.exception.Exception.{Exception}
use Rattle.m68k_exec.specs.declared.sample.exception.Exception.TheVariants.{AddressError, Interrupt, Numbered}
use Rattle.m68k_access.specs.declared.stop.Stop.{Stop}
use Rattle.m68k_access.specs.declared.stop.Stop.TheVariants.{Ask, Odd}

-- an exception
abbrev StatusIf : Option Regs → Type 0
StatusIf (Some regs) = IsStatus regs.sr
StatusIf None = Unit {0}

pushed : (left k : ℕ) (words : List ℕ) (stack : ℕ) → Keeps Any (entries.pushed left k words stack)
pushed zero k words stack = give _ _ _ tt
pushed (suc left) k words stack = bind _ _ _ _ (write_word _ _) (λ written a. pushed left (k + 1) words stack)

enter_with : (exception : Exception) (vector : ℕ) (words : List ℕ) (regs : Regs) → HasLevel exception → HasStatus regs → Keeps StatusIf (entries.enter_with exception vector words regs)
unfolding entries.enter_with
enter_with exception vector words regs l h = bind _ _ _ _ (pushed (length words) 0 words regs.ssp) (λ finished a. give _ _ _ (sr.entry exception regs.sr l h))

enter_by : (exception : Exception) (vector : ℕ) (words : Option (List ℕ)) (regs : Regs) → HasLevel exception → HasStatus regs → Keeps StatusIf (entries.enter_by exception vector words regs)
enter_by exception vector (Some words) regs l h = enter_with exception vector words regs l h
enter_by exception vector None regs l h = give _ _ _ tt

pub enter : (exception : Exception) (regs : Regs) → HasLevel exception → HasStatus regs → Keeps StatusIf (entries.enter exception regs)
unfolding entries.enter
enter exception regs l h = record {
  at = λ memory before. (enter_by exception (vector_at (number_of exception) memory) (frame_for exception (vector_at (number_of exception) memory) regs) regs l h).at memory before;
}

-- where it ends, the status register has its bits alone; where it waits, it asks as its cause does
abbrev pub EndsRightly : ℕ → Result Ended Stop → Type 0
EndsRightly cause (Ok ended) = IsStatus ended.regs.sr
EndsRightly cause (Err (Ask request)) = MayAsk cause request
EndsRightly cause (Err (Odd address read used)) = Unit {0}

asks_of : (cause : ℕ) (request : Request68) → IsAccess request → MayAsk cause request
asks_of cause (Ack level) h = absurd h
asks_of cause _ h = h

begun_status : (op : Op) (number : ℕ) (trace : Bool) (found : Regs) (entry : Option Regs) (done : Done) → HasStatus found → StatusIf entry → IsStatus (samples.begun op number trace found entry done).regs.sr
begun_status op number trace found (Some regs) done h k = k
begun_status op number trace found None done h k = h

begun_rightly : (cause : ℕ) (op : Op) (number : ℕ) (trace : Bool) (found : Regs) (first : Result (Option Regs × Done) Stop) → HasStatus found → Fine StatusIf first → EndsRightly cause (begun_by op number trace found first)
begun_rightly cause op number trace found (Ok x) h k = begun_status op number trace found x.0 x.1 h k
begun_rightly cause op number trace found (Err (Ask request)) h k = asks_of cause request k
begun_rightly cause op number trace found (Err (Odd address read used)) h k = tt

take_exception : (cause : ℕ) (op : Op) (exception : Exception) (trace : Bool) (found regs : Regs) (memory : Memory) (before : Done) → HasLevel exception → HasStatus found → HasStatus regs → EndsRightly cause (samples.take_exception op exception trace found regs memory before)
unfolding samples.take_exception
take_exception cause op exception trace found regs memory before l h k =
    begun_rightly cause op (number_of exception) trace found (entries.enter exception regs memory before) h ((enter exception regs l k).at memory before)

choice : (cause : ℕ) (b : Bool) (x y : Result Ended Stop) → (b ≡ true → EndsRightly cause x) → (b ≡ false → EndsRightly cause y) → EndsRightly cause (if b then x else y)
choice cause true x y h k = h refl
choice cause false x y h k = k refl

-- an instruction
ended_by : (cause : ℕ) (op : Op) (found : Regs) (x : Outcome) (memory : Memory) (after : Done) → HasStatus found → StatusAfter x → EndsRightly cause (samples.ended_by op found x memory after)
unfolding samples.ended_by
ended_by cause op found x memory after h k =
    choice cause (x.vector == 0) _ _ (λ c. k)
    (λ c. take_exception cause op (Numbered x.vector) (leaves_trace found x.vector) found x.regs memory after tt h k)

answered : (cause : ℕ) (op : Op) (first : ℕ) (found : Regs) (memory : Memory) (result : Result (Outcome × Done) Stop) → HasStatus found → Fine StatusAfter result → EndsRightly cause (samples.answered_by op first found memory result)
answered cause op first found memory (Ok x) h k = ended_by cause op found x.0 memory x.1 h k
answered cause op first found memory (Err (Ask request)) h k = asks_of cause request k
answered cause op first found memory (Err (Odd address read used)) h k =
    take_exception cause op (AddressError first address read) false found found memory (record { used = used; writes = [] }) tt h h

instruction : (cause : ℕ) (word : Decoded) (first : ℕ) (regs : Regs) (memory : Memory) → HasStatus regs → EndsRightly cause (samples.instruction word first regs memory)
unfolding samples.instruction
instruction cause word first regs memory h =
    choice cause (is_odd regs.pc) _ _
    (λ c. take_exception cause word.op (AddressError first regs.pc true) false regs regs memory nothing tt h h)
    (λ c. (let moved = record regs { pc = (regs.pc + word.length) % 2 ^ 32 } in
    answered cause word.op first regs memory (execution.row word.op regs.pc moved memory nothing) h ((row word.op regs.pc moved h).at memory nothing)))

-- an interrupt, and a trace
waits_for : ℕ → Result (ℕ × Done) Stop → Type 0
waits_for level (Ok x) = Unit {0}
waits_for level (Err (Ask request)) = MayAsk level request
waits_for level (Err (Odd address read used)) = Unit {0}

asked_cases : (level : ℕ) (test : Bool) (x : ℕ × Done) → waits_for level (if test then Ok x else Err (Ask (Ack level)))
unfolding waits_for
asked_cases level true x = tt
asked_cases level false x = refl

acknowledge : (level : ℕ) (memory : Memory) (before : Done) → waits_for level (actions.asked (Ack level) memory before)
unfolding actions.asked
acknowledge level memory before = asked_cases level (nat_lt before.used (length memory.answers)) _

acknowledged : (level : ℕ) (op : Op) (regs : Regs) (memory : Memory) (result : Result (ℕ × Done) Stop) → level < 8 → HasStatus regs → waits_for level result → EndsRightly level (samples.acknowledged level op regs memory result)
unfolding waits_for
acknowledged level op regs memory (Ok x) l h k = take_exception level op (Interrupt level) false regs regs memory x.1 l h h
acknowledged level op regs memory (Err (Ask request)) l h k = k
acknowledged level op regs memory (Err (Odd address read used)) l h k = tt

interrupt : (level : ℕ) (op : Op) (regs : Regs) (memory : Memory) → level < 8 → HasStatus regs → EndsRightly level (samples.interrupt level op regs memory)
unfolding samples.interrupt
interrupt level op regs memory l h = acknowledged level op regs memory (actions.asked (Ack level) memory nothing) l h (acknowledge level memory nothing)

trace : (cause : ℕ) (op : Op) (regs : Regs) (memory : Memory) → HasStatus regs → EndsRightly cause (samples.trace op regs memory)
unfolding samples.trace
trace cause op regs memory h = take_exception cause op (Numbered 9) false regs regs memory nothing tt h h

below_8 : (cause : ℕ) → nat_lt cause 8 ≡ true → cause < 8
below_8 cause e = grind (arith, nat_tests)

pub rightly : (cause : ℕ) (regs : Regs) (memory : Memory) → IsStatus regs.sr → EndsRightly cause (samples.sampled cause regs memory)
unfolding samples.sampled
rightly cause regs memory h =
    choice cause (cause == 0) _ _ (λ c. instruction cause _ _ regs memory h)
    (λ c. choice cause (nat_lt cause 8) _ _ (λ d. interrupt cause _ regs memory (below_8 cause d) h) (λ d. trace cause _ regs memory h))

-- the same, clause by clause
pub status_kept : (cause : ℕ) (regs : Regs) (memory : Memory) (ended : Ended) → IsStatus regs.sr → samples.sampled cause regs memory ≡ Ok ended → IsStatus ended.regs.sr
status_kept cause regs memory ended h e = subst (EndsRightly cause) e (rightly cause regs memory h)

pub asks : (cause : ℕ) (regs : Regs) (memory : Memory) (request : Request68) → IsStatus regs.sr → samples.sampled cause regs memory ≡ Err (Ask request) → MayAsk cause request
asks cause regs memory request h e = subst (EndsRightly cause) e (rightly cause regs memory h)
