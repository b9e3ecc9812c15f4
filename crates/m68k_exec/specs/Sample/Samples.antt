-- What the 68000 does at a sample: an instruction, a trace or an interrupt, for the answers of its
-- shared accesses so far. M68000 User's Manual, section 6; the halt: this project's profile.
use Rattle.std.specs.Prelude.{◌≡◌, ℕ, ◌+◌, ◌%◌, ◌^◌, ◌<◌, Bool, true, false, not, ◌&&◌, ◌||◌, ◌==◌, nat_lt, if◌then◌else◌, List, [], Option, Some, None, Result, Ok, Err}
use Rattle.md_word.specs.Fields.{bit_of}
use Rattle.md_word.specs.declared.main_bus.Request68.TheVariants.{Ack}
use Rattle.md_word.specs.declared.regs.Regs.{Regs}
use Rattle.md_word.specs.declared.spent.Spent.{Spent}
use Rattle.m68k_decode.specs.Fields.{opcode}
use Rattle.m68k_decode.specs.Instructions.{instruction_of}
use Rattle.m68k_decode.specs.Ops.{IsOp, IsSpent}
use Rattle.m68k_decode.specs.declared.decoded.Decoded.{Decoded}
use Rattle.m68k_decode.specs.declared.op.Op.{Op}
use Rattle.md_word.specs.Answers.{Done}
use Rattle.m68k_access.specs.Actions.{asked, is_odd}
use Rattle.m68k_exec.specs.Sample.Entries.{enter, number_of}
use Rattle.m68k_exec.specs.Sample.Execution.{row}
use Rattle.m68k_access.specs.Memory.{Memory, instruction_words}
use Rattle.m68k_exec.specs.declared.sample.exception.Exception.{Exception}
use Rattle.m68k_exec.specs.declared.sample.exception.Exception.TheVariants.{AddressError, Interrupt, Numbered}
use Rattle.m68k_access.specs.Outcomes.{Outcome}
use Rattle.m68k_exec.specs.declared.sample.step.Step.{Step}
use Rattle.m68k_exec.specs.declared.sample.step.Step.TheVariants as steps
use Rattle.m68k_access.specs.declared.stop.Stop.{Stop}
use Rattle.m68k_access.specs.declared.stop.Stop.TheVariants.{Ask, Odd}

-- its outcome: the instruction at the program counter, the registers after it, the bytes
-- written into work RAM, what its time depends on, and whether it stopped the processor, halted it,
-- or left a trace pending
pub record Ended : Type 0 where
  pub op : Op
  pub regs : Regs
  pub writes : List (ℕ × ℕ)
  pub spent : Spent
  pub stopped : Bool
  pub halted : Bool
  pub trace : Bool

-- nothing done yet
abbrev pub nothing : Done
nothing = record { used = 0; writes = [] }

-- T of the status register
abbrev pub is_tracing : Regs → Bool
is_tracing regs = bit_of regs.sr 0x8000

-- a trace is pending after an instruction that began under T, unless it ended in an address error,
-- or was not carried out: illegal, privileged, line A or line F
abbrev pub leaves_trace : Regs → ℕ → Bool
leaves_trace regs vector =
    is_tracing regs && not (vector == 3 || vector == 4 || vector == 8 || vector == 10 || vector == 11)

-- what the time of an exception depends on
abbrev pub spent_in : ℕ → ℕ → Spent
spent_in vector accesses =
    record { taken = false; expired = false; count = 0; cause = vector; accesses = accesses }

-- the exception has begun. Where the processor halts, all registers are as they were found, nothing
-- private is written, and the accesses that were made stay
abbrev pub begun : Op → ℕ → Bool → Regs → Option Regs → Done → Ended
begun op number trace found (Some regs) done = record {
  op = op;
  regs = regs;
  writes = done.writes;
  spent = spent_in number done.used;
  stopped = false;
  halted = false;
  trace = trace;
}
begun op number trace found None done = record {
  op = op;
  regs = found;
  writes = [];
  spent = spent_in 3 done.used;
  stopped = false;
  halted = true;
  trace = false;
}

-- the same where its pushes ended; else the stop
abbrev pub begun_by : Op → ℕ → Bool → Regs → Result (Option Regs × Done) Stop → Result Ended Stop
begun_by op number trace found (Ok x) = Ok (begun op number trace found x.0 x.1)
begun_by op number trace found (Err stop) = Err stop

-- an exception, from registers with the program counter that it saves
unfoldable pub take_exception : Op → Exception → Bool → Regs → Regs → Memory → Done → Result Ended Stop
take_exception op exception trace found regs memory done =
    begun_by op (number_of exception) trace found (enter exception regs memory done)

-- an instruction that ended in no exception
abbrev pub finished : Op → Regs → Outcome → Done → Ended
finished op found outcome done = record {
  op = op;
  regs = outcome.regs;
  writes = done.writes;
  spent = record { taken = outcome.taken; expired = outcome.expired; count = outcome.count; cause = 0; accesses = done.used };
  stopped = outcome.stopped;
  halted = false;
  trace = leaves_trace found 0;
}

-- an instruction that ended, perhaps in an exception
unfoldable pub ended_by : Op → Regs → Outcome → Memory → Done → Result Ended Stop
ended_by op found outcome memory done =
    if outcome.vector == 0 then Ok (finished op found outcome done)
    else take_exception op (Numbered outcome.vector) (leaves_trace found outcome.vector) found outcome.regs memory done

-- at an address error the registers are as they were found, and nothing private is written; the
-- accesses before it stay
abbrev pub answered_by : Op → ℕ → Regs → Memory → Result (Outcome × Done) Stop → Result Ended Stop
answered_by op first found memory (Ok x) = ended_by op found x.0 memory x.1
answered_by op first found memory (Err (Ask request)) = Err (Ask request)
answered_by op first found memory (Err (Odd address read used)) =
    take_exception op (AddressError first address read) false found found memory (record { used = used; writes = [] })

-- the instruction with this first word; at an odd address it is an address error
unfoldable pub instruction : Decoded → ℕ → Regs → Memory → Result Ended Stop
instruction decoded first regs memory =
    if is_odd regs.pc
    then take_exception decoded.op (AddressError first regs.pc true) false regs regs memory nothing
    else answered_by decoded.op first regs memory
    (row decoded.op regs.pc (record regs { pc = (regs.pc + decoded.length) % 2 ^ 32 }) memory nothing)

-- an interrupt of a level once its acknowledge is answered; else the stop
abbrev pub acknowledged : ℕ → Op → Regs → Memory → Result (ℕ × Done) Stop → Result Ended Stop
acknowledged level op regs memory (Ok x) = take_exception op (Interrupt level) false regs regs memory x.1
acknowledged level op regs memory (Err stop) = Err stop

-- an interrupt of a level: it is acknowledged first
unfoldable pub interrupt : ℕ → Op → Regs → Memory → Result Ended Stop
interrupt level op regs memory = acknowledged level op regs memory (asked (Ack level) memory nothing)

-- a trace
unfoldable pub trace : Op → Regs → Memory → Result Ended Stop
trace op regs memory = take_exception op (Numbered 9) false regs regs memory nothing

-- the outcome of a sample where this instruction, with this first word, is at the program counter.
-- The cause is 0 for the instruction, 1 to 7 for an interrupt of that level, and more for a trace
abbrev pub sample_of : ℕ → Decoded → ℕ → Regs → Memory → Result Ended Stop
sample_of cause found first regs memory =
    if cause == 0 then instruction found first regs memory
    else (if nat_lt cause 8 then interrupt cause found.op regs memory
    else trace found.op regs memory)

-- the instruction at the program counter
abbrev pub named : Regs → Memory → Op
named regs memory = (instruction_of (instruction_words regs.pc memory)).op

-- the outcome of a sample, or the request that waits for its answer
unfoldable pub sampled : ℕ → Regs → Memory → Result Ended Stop
sampled cause regs memory =
    let words = instruction_words regs.pc memory in
    sample_of cause (instruction_of words) (opcode words) regs memory

-- what a step tells, with the registers and what was done then
abbrev pub reported_by : Step → Regs → Done → Result Ended Stop
reported_by (steps.Need request) regs done = Err (Ask request)
reported_by (steps.Done finish) regs done = Ok (record {
  op = finish.op;
  regs = regs;
  writes = done.writes;
  spent = finish.spent;
  stopped = finish.stopped;
  halted = finish.halted;
  trace = finish.trace;
})

-- where it waits the registers stay
abbrev pub Keeps : Step → Regs → Regs → Type 0
Keeps (steps.Need request) old new = new ≡ old
Keeps (steps.Done finish) old new = Unit {0}

-- it waits only where there are fewer answers
abbrev pub WaitsBelow : Step → ℕ → ℕ → Type 0
WaitsBelow (steps.Need request) answers limit = answers < limit
WaitsBelow (steps.Done finish) answers limit = Unit {0}

-- what was spent is what its instruction can spend
abbrev pub SpendsRightly : Step → Type 0
SpendsRightly (steps.Need request) = Unit {0}
SpendsRightly (steps.Done finish) = IsSpent finish.op finish.spent

-- its instruction is one that the decoder gives
abbrev pub NamesInstruction : Step → Type 0
NamesInstruction (steps.Need request) = Unit {0}
NamesInstruction (steps.Done finish) = IsOp finish.op
