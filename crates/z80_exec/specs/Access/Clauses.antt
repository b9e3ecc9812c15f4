-- What the contracts say of a call: it gave what the action means.
use Rattle.std.specs.Prelude.{ℕ, ◌≡◌, Bool, Result, Ok, Err}
use Rattle.md_word.specs.Answers.{Done}
use Rattle.md_word.specs.declared.sub_bus.Request80.{Request80}
use Rattle.md_word.specs.declared.sub_bus.Request80.TheVariants as requests
use Rattle.z80_exec.specs.declared.access.view.Context.{Context}
use Rattle.z80_exec.specs.declared.access.view.Progress80.{Progress80}
use Rattle.z80_exec.specs.declared.access.waiting.Waiting.{Waiting}
use Rattle.z80_exec.specs.declared.access.waiting.Waiting.TheVariants as waitings
use Rattle.z80_exec.specs.declared.regs80.Regs80.{Regs80}
use Rattle.z80_exec.specs.Access.Memory.{Memory}
use Rattle.z80_exec.specs.Access.Operands.{Popped}
use Rattle.z80_exec.specs.Access.Outcomes.{Outcome, outcome_of}

-- the memory that a call is given: the image, RAM and bank before the instruction, the answers
abbrev pub memory_of : Context → Memory
memory_of context = record { rom = context.rom.now; ram = context.ram.now; bank = context.bank; answers = context.answers.now }

-- what a call has done so far: the answers taken, and the private writes
abbrev pub done_of : Progress80 → Done
done_of progress = record { used = progress.used; writes = progress.writes.items }

-- a shared access, as a request on the bus
abbrev pub request_of : Waiting → Request80
request_of (waitings.Read at) = requests.Read at
request_of (waitings.Write at value) = requests.Write at value

-- a call gave what the action means: the value with what was done then, or the access that waits
abbrev pub Meets : {A : Type 0} → Result A Waiting → Done → Result (A × Done) Request80 → Type 0
Meets (Ok x) after meaning = meaning ≡ Ok (x, after)
Meets (Err waiting) after meaning = meaning ≡ Err (request_of waiting)

-- the same of calls that change the registers in place: what they left counts where they end well
abbrev pub Leaves : Result (Unit {0}) Waiting → Regs80 → Done → Result (Regs80 × Done) Request80 → Type 0
Leaves (Ok x) regs after meaning = meaning ≡ Ok (regs, after)
Leaves (Err waiting) regs after meaning = meaning ≡ Err (request_of waiting)

-- the same of a pop, which gives the word, and leaves the registers
abbrev pub Pops : Result ℕ Waiting → Regs80 → Done → Result (Popped × Done) Request80 → Type 0
Pops (Ok x) regs after meaning = meaning ≡ Ok (record { value = x; regs = regs }, after)
Pops (Err waiting) regs after meaning = meaning ≡ Err (request_of waiting)

-- the same of a whole instruction, which gives whether it took the longer of two times
abbrev pub Ends : Result Bool Waiting → Regs80 → Done → Result (Outcome × Done) Request80 → Type 0
Ends (Ok taken) regs after meaning = meaning ≡ Ok (outcome_of taken regs, after)
Ends (Err waiting) regs after meaning = meaning ≡ Err (request_of waiting)
