-- What a sample results in: the instruction at the program counter, or an interrupt.
-- Zilog UM0080, "Instruction Op Code Fetch", "Interrupt Response"; the rises of R, this project's
-- profile.
use Rattle.std.specs.Prelude.{ℕ, ◌≡◌, ◌+◌, ◌*◌, ◌/◌, ◌%◌, ◌<◌, ◌≤◌, Bool, true, false, ◌==◌, ◌||◌, if◌then◌else◌, List, [], slice_index, Result, Ok, Err}
use Rattle.md_word.specs.Answers.{Done}
use Rattle.md_word.specs.declared.sub_bus.Request80.{Request80}
use Rattle.z80_decode.specs.Instructions.{instruction_of}
use Rattle.z80_decode.specs.declared.decoded80.Decoded80.{Decoded80}
use Rattle.z80_decode.specs.declared.op80.Op80.{Op80}
use Rattle.z80_decode.specs.declared.op80.Op80.TheVariants as ops
use Rattle.z80_exec.specs.declared.regs80.Regs80.{Regs80}
use Rattle.z80_exec.specs.declared.sample.step.Step80.{Step80}
use Rattle.z80_exec.specs.declared.sample.step.Step80.TheVariants as steps
use Rattle.z80_exec.specs.Access.Clauses.{request_of}
use Rattle.z80_exec.specs.Access.Memory.{Memory, instruction_bytes}
use Rattle.z80_exec.specs.Access.Outcomes.{Outcome}
use Rattle.z80_exec.specs.Sample.Bounds.{IsAccess}
use Rattle.z80_exec.specs.Sample.Entries.{enter}
use Rattle.z80_exec.specs.Sample.Execution.{row}
use Rattle.z80_exec.specs.Sample.Times.{interrupt_time, time_of}

-- the end of a sample: the registers, how many shared accesses it made, the private writes, the
-- clocks, whether the processor is halted, and whether the instruction was EI
pub record Ended : Type 0 where
  pub regs : Regs80
  pub used : ℕ
  pub writes : List (ℕ × ℕ)
  pub t : ℕ
  pub halted : Bool
  pub after_ei : Bool

-- nothing is done yet
abbrev pub nothing : Done
nothing = record { used = 0; writes = [] }

-- the bytes that begin an instruction of more than one opcode
abbrev pub is_prefix : ℕ → Bool
is_prefix byte = byte == 0xcb || byte == 0xdd || byte == 0xed || byte == 0xfd

-- how much R rises: by 1, with a prefix by 2, and by 1 for a prefix alone
abbrev pub rise_of : Op80 → ℕ → ℕ
rise_of (ops.LonePrefix index) first = 1
rise_of op first = if is_prefix first then 2 else 1

-- R rises in its low seven bits
abbrev pub risen : ℕ → ℕ → ℕ
risen r by = r / 0x80 * 0x80 + (r + by) % 0x80

-- the registers once the instruction is fetched: the program counter is after it
unfoldable pub fetched : Decoded80 → ℕ → Regs80 → Regs80
fetched found first regs =
    record regs { pc = (regs.pc + found.length) % 0x1_0000; r = risen regs.r (rise_of found.op first) }

-- HALT
abbrev pub halts : Op80 → Bool
halts ops.Halt = true
halts op = false

-- EI, after which no interrupt is taken
abbrev pub is_ei : Op80 → Bool
is_ei ops.EnableInterrupts = true
is_ei op = false

-- the end of an instruction that came to this outcome
abbrev pub finished : Op80 → Outcome → Done → Ended
finished op outcome done = record {
  regs = outcome.regs;
  used = done.used;
  writes = done.writes;
  t = time_of op outcome.taken;
  halted = halts op;
  after_ei = is_ei op;
}

-- the same, or the request that waits
abbrev pub finished_by : Op80 → Result (Outcome × Done) Request80 → Result Ended Request80
finished_by op (Ok x) = Ok (finished op x.0 x.1)
finished_by op (Err request) = Err request

-- an instruction, whose first byte is this
unfoldable pub instruction : Decoded80 → ℕ → Regs80 → Memory → Result Ended Request80
instruction found first regs memory = finished_by found.op (row found.op (fetched found first regs) memory nothing)

-- the end of an interrupt that took so many clocks, or the request that waits
abbrev pub entered : ℕ → Result (Regs80 × Done) Request80 → Result Ended Request80
entered time (Ok x) = Ok (record { regs = x.0; used = x.1.used; writes = x.1.writes; t = time; halted = false; after_ei = false })
entered time (Err request) = Err request

-- an interrupt, which ends a halt and raises no R
unfoldable pub interrupt : Regs80 → Memory → Result Ended Request80
interrupt regs memory = entered (interrupt_time regs.mode) (enter regs memory nothing)

-- what a sample results in, or the request that waits for its answer. The cause is 0 for the
-- instruction at the program counter, and more for an interrupt
unfoldable pub sampled : ℕ → Regs80 → Memory → Result Ended Request80
sampled cause regs memory =
    if cause == 0
    then (let bytes = instruction_bytes regs.pc memory in instruction (instruction_of bytes) (slice_index bytes 0) regs memory)
    else interrupt regs memory

-- what a step reports, with the registers and what was done then
abbrev pub reported_by : Step80 → Regs80 → Done → Result Ended Request80
reported_by (steps.Need waiting) regs done = Err (request_of waiting)
reported_by (steps.Done finish) regs done = Ok (record {
  regs = regs;
  used = done.used;
  writes = done.writes;
  t = finish.t;
  halted = finish.halted;
  after_ei = finish.after_ei;
})

-- where it waits the registers stay
abbrev pub Keeps : Step80 → Regs80 → Regs80 → Type 0
Keeps (steps.Need waiting) old new = new ≡ old
Keeps (steps.Done finish) old new = Unit {0}

-- it waits only where there are fewer answers
abbrev pub WaitsBelow : Step80 → ℕ → ℕ → Type 0
WaitsBelow (steps.Need waiting) answers limit = answers < limit
WaitsBelow (steps.Done finish) answers limit = Unit {0}

-- it waits for a shared read or write alone
abbrev pub WaitsRightly : Step80 → Type 0
WaitsRightly (steps.Need waiting) = IsAccess (request_of waiting)
WaitsRightly (steps.Done finish) = Unit {0}

-- its clocks cover its accesses: four for the fetch, and three for each
abbrev pub CoversAccesses : Step80 → ℕ → Type 0
CoversAccesses (steps.Need waiting) used = Unit {0}
CoversAccesses (steps.Done finish) used = (4 + 3 * used ≤ finish.t) × (finish.t ≤ 23)
