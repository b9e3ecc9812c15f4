-- An exception with which a sample begins or ends follows its frame.
use Rattle.std.proofs.Common.{◌≡◌, ◌≢◌, ℕ, ◌+◌, ◌%◌, ◌<◌, ◌≤◌, ◌==◌, ◌∙◌, Bool, true, false, nat_lt, List, length, Option, Some, None, Result, Ok, Err, refl, sym, subst, arith}
use Rattle.std.specs.Prelude.{IsFalse}
use Rattle.std.proofs.lemmas.Bool.Decides.{nat_tests}
use Rattle.md_word.specs.declared.main_bus.Request68.{Request68}
use Rattle.md_word.specs.declared.main_bus.Request68.TheVariants.{Ack}
use Rattle.md_word.specs.declared.regs.Regs.{Regs}
use Rattle.m68k_decode.specs.Fields.{opcode}
use Rattle.m68k_decode.specs.declared.op.Op.{Op}
use Rattle.m68k_access.proofs.Taken.{answered, unanswered}
use Rattle.m68k_access.specs.Actions as actions
use Rattle.md_word.specs.Answers.{Done}
use Rattle.m68k_access.specs.Memory.{Memory, instruction_words}
use Rattle.m68k_exec.specs.Sample.Entries as entries
use Rattle.m68k_exec.specs.Sample.Entries.{number_of}
use Rattle.m68k_exec.specs.Sample.Samples as samples
use Rattle.m68k_exec.specs.Sample.Samples.{Ended, begun_by, named, nothing}
use Rattle.m68k_access.specs.declared.stop.Stop.{Stop}
use Rattle.m68k_access.specs.declared.stop.Stop.TheVariants.{Ask, Odd}
use Rattle.m68k_exec.specs.declared.sample.exception.Exception.{Exception}
use Rattle.m68k_exec.specs.declared.sample.exception.Exception.TheVariants.{AddressError, Interrupt, Numbered}
use Rattle.m68k_laws.proofs.Follows.{AsksAlong, EndsAlong, FaultsAlong, GoesAlong}
use Rattle.m68k_laws.proofs.Frames.{entered}
use Rattle.m68k_laws.proofs.Instructions.{completed, waited}
use Rattle.m68k_laws.specs.Accesses.{Access, words}
use Rattle.m68k_laws.specs.Frames.{frame}
use Rattle.m68k_laws.specs.Laws.{IsComplete, WaitsAt}
use Rattle.m68k_laws.specs.Samples.{ExceptionsFollowFrames}

-- the outcome of a sample, with so many answers taken before these words
abbrev pub Reaches : List Access → ℕ → ℕ → Result Ended Stop → Type 0
Reaches list count start (Ok ended) = EndsAlong list count start ended.spent.accesses
Reaches list count start (Err (Ask request)) = AsksAlong list count start request
Reaches list count start (Err (Odd address read after)) = FaultsAlong list count start after address read

begun : (op : Op) (number : ℕ) (trace : Bool) (found : Regs) (list : List Access) (count start : ℕ) (result : Result (Option Regs × Done) Stop) → GoesAlong list count start result → Reaches list count start (begun_by op number trace found result)
begun op number trace found list count start (Ok (Some regs, done)) h = h
begun op number trace found list count start (Ok (None, done)) h = h
begun op number trace found list count start (Err (Ask request)) h = h
begun op number trace found list count start (Err (Odd address read after)) h = h

pub exception : (op : Op) (kind : Exception) (trace : Bool) (found regs : Regs) (memory : Memory) (before : Done) → before.used ≤ length memory.answers → Reaches (words (frame (number_of kind) regs memory)) (length memory.answers) before.used (samples.take_exception op kind trace found regs memory before)
unfolding samples.take_exception
exception op kind trace found regs memory before within =
    begun op (number_of kind) trace found _ _ _ (entries.enter kind regs memory before) (entered kind regs memory before within)

-- its cause is its number, or the processor halts
abbrev pub Caused : ℕ → Result Ended Stop → Type 0
Caused number (Ok ended) = IsFalse ended.halted → ended.spent.cause ≡ number
Caused number (Err stop) = Unit {0}

begun_caused : (op : Op) (number : ℕ) (trace : Bool) (found : Regs) (result : Result (Option Regs × Done) Stop) → Caused number (begun_by op number trace found result)
begun_caused op number trace found (Ok (Some regs, done)) = λ halted. refl
begun_caused op number trace found (Ok (None, done)) = λ halted. absurd (cc)
begun_caused op number trace found (Err stop) = tt

pub exception_caused : (op : Op) (kind : Exception) (trace : Bool) (found regs : Regs) (memory : Memory) (before : Done) → Caused (number_of kind) (samples.take_exception op kind trace found regs memory before)
unfolding samples.take_exception
exception_caused op kind trace found regs memory before = begun_caused op (number_of kind) trace found (entries.enter kind regs memory before)

-- and in no case 0
abbrev pub Other : Result Ended Stop → Type 0
Other (Ok ended) = ended.spent.cause ≢ 0
Other (Err stop) = Unit {0}

begun_other : (op : Op) (number : ℕ) (trace : Bool) (found : Regs) (result : Result (Option Regs × Done) Stop) → number ≢ 0 → Other (begun_by op number trace found result)
begun_other op number trace found (Ok (Some regs, done)) some = some
begun_other op number trace found (Ok (None, done)) some = omega arith
begun_other op number trace found (Err stop) some = tt

pub exception_other : (op : Op) (kind : Exception) (trace : Bool) (found regs : Regs) (memory : Memory) (before : Done) → number_of kind ≢ 0 → Other (samples.take_exception op kind trace found regs memory before)
unfolding samples.take_exception
exception_other op kind trace found regs memory before some = begun_other op (number_of kind) trace found (entries.enter kind regs memory before) some

-- nothing was taken before
waits_first : (list : List Access) (count : ℕ) (sample : Result Ended Stop) (request : Request68) → Reaches list count 0 sample → sample ≡ Err (Ask request) → WaitsAt list count request
waits_first list count sample request h e =
    let asks : AsksAlong list count 0 request = subst (λ sample. Reaches list count 0 sample) e h in waited list count request asks

completes_first : (list : List Access) (count : ℕ) (sample : Result Ended Stop) (ended : Ended) → Reaches list count 0 sample → sample ≡ Ok ended → IsComplete list ended.spent.accesses
completes_first list count sample ended h e =
    let ends : EndsAlong list count 0 ended.spent.accesses = subst (λ sample. Reaches list count 0 sample) e h in completed list count ended.spent.accesses ends

traced : (cause : ℕ) (regs : Regs) (memory : Memory) → (cause == 0) ≡ false → nat_lt cause 8 ≡ false → Reaches (words (frame 9 regs memory)) (length memory.answers) 0 (samples.sampled cause regs memory)
unfolding samples.sampled samples.trace
traced cause regs memory some high = rw (some, high) (exception (named regs memory) (Numbered 9) false regs regs memory nothing (omega arith))

trace : (cause : ℕ) (regs : Regs) (memory : Memory) → 8 ≤ cause → Reaches (words (frame 9 regs memory)) (length memory.answers) 0 (samples.sampled cause regs memory)
trace cause regs memory h = traced cause regs memory (grind (arith, nat_tests)) (grind (arith, nat_tests))

odd_start : (at : ℕ) → at % 2 ≡ 1 → actions.is_odd at ≡ true
odd_start at h = rw h refl

misplaced : (regs : Regs) (memory : Memory) → actions.is_odd regs.pc ≡ true → Reaches (words (frame 3 regs memory)) (length memory.answers) 0 (samples.sampled 0 regs memory)
unfolding samples.sampled samples.instruction
misplaced regs memory odd =
    rw odd (exception (named regs memory) (AddressError (opcode (instruction_words regs.pc memory)) regs.pc true) false regs regs memory nothing (omega arith))

-- an interrupt is what follows from its acknowledge
interrupt_is : (level : ℕ) (regs : Regs) (memory : Memory) → (level == 0) ≡ false → nat_lt level 8 ≡ true → samples.sampled level regs memory ≡ samples.acknowledged level (named regs memory) regs memory (actions.asked (Ack level) memory nothing)
unfolding samples.sampled samples.interrupt
interrupt_is level regs memory some low = rw (some, low) refl

interrupt : (level : ℕ) (regs : Regs) (memory : Memory) → 0 < level → level < 8 → samples.sampled level regs memory ≡ samples.acknowledged level (named regs memory) regs memory (actions.asked (Ack level) memory nothing)
interrupt level regs memory some low = interrupt_is level regs memory (grind (arith, nat_tests)) (grind (arith, nat_tests))

unheard : (level : ℕ) (regs : Regs) (memory : Memory) → length memory.answers ≡ 0 → samples.acknowledged level (named regs memory) regs memory (actions.asked (Ack level) memory nothing) ≡ Err (Ask (Ack level))
unheard level regs memory none = rw (unanswered (Ack level) memory nothing (grind (arith, nat_tests))) refl

heard : (level : ℕ) (regs : Regs) (memory : Memory) → 0 < length memory.answers → Reaches (words (frame (24 + level) regs memory)) (length memory.answers) 1 (samples.acknowledged level (named regs memory) regs memory (actions.asked (Ack level) memory nothing))
heard level regs memory some =
    rw (answered (Ack level) memory nothing (grind (arith, nat_tests))) (exception (named regs memory) (Interrupt level) false regs regs memory (record nothing { used = 1 }) (omega (arith, some)))

interrupt_waits : (level : ℕ) (regs : Regs) (memory : Memory) (pushed : ℕ) (request : Request68) → 0 < level → level < 8 → length memory.answers ≡ 1 + pushed → samples.sampled level regs memory ≡ Err (Ask request) → WaitsAt (words (frame (24 + level) regs memory)) pushed request
interrupt_waits level regs memory pushed request some low count e =
    let list = words (frame (24 + level) regs memory) in
    let asks : AsksAlong list (length memory.answers) 1 request = subst (λ sample. Reaches list (length memory.answers) 1 sample) (sym (interrupt level regs memory some low) ∙ e) (heard level regs memory (omega (arith, count))) in
    let same : asks.taken ≡ pushed = omega (arith, asks.used, count) in
    subst (λ taken. WaitsAt list taken request) same asks.waits

interrupt_ends : (level : ℕ) (regs : Regs) (memory : Memory) (ended : Ended) (test : Bool) → nat_lt 0 (length memory.answers) ≡ test → 0 < level → level < 8 → samples.sampled level regs memory ≡ Ok ended → (pushed : ℕ) × (ended.spent.accesses ≡ 1 + pushed) × IsComplete (words (frame (24 + level) regs memory)) pushed
interrupt_ends level regs memory ended true is some low e =
    let list = words (frame (24 + level) regs memory) in
    let ends : EndsAlong list (length memory.answers) 1 ended.spent.accesses = subst (λ sample. Reaches list (length memory.answers) 1 sample) (sym (interrupt level regs memory some low) ∙ e) (heard level regs memory (grind (arith, nat_tests))) in
    (ends.taken, ends.used, ends.completes)
interrupt_ends level regs memory ended false is some low e =
    let waits = unheard level regs memory (grind (arith, nat_tests)) in
    let both : Err (Ask (Ack level)) ≡ Ok ended = sym waits ∙ (sym (interrupt level regs memory some low) ∙ e) in
    absurd (cc)

pub exceptions : ExceptionsFollowFrames
exceptions = record {
  acknowledged = λ level regs memory some low none. interrupt level regs memory some low ∙ unheard level regs memory none;
  interrupt_waits = interrupt_waits;
  interrupt_completes = λ level regs memory ended some low e. interrupt_ends level regs memory ended (nat_lt 0 (length memory.answers)) refl some low e;
  trace_waits = λ cause regs memory request high e. waits_first _ _ _ request (trace cause regs memory high) e;
  trace_completes = λ cause regs memory ended high e. completes_first _ (length memory.answers) _ ended (trace cause regs memory high) e;
  odd_waits = λ regs memory request odd e. waits_first _ _ _ request (misplaced regs memory (odd_start regs.pc odd)) e;
  odd_completes = λ regs memory ended odd e. completes_first _ (length memory.answers) _ ended (misplaced regs memory (odd_start regs.pc odd)) e;
}
