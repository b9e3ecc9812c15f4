-- What holds of each sample: how many answers it takes at most, what it waits for, that its clocks
-- cover its accesses, and that later answers change nothing.
use Rattle.std.proofs.Common.{◌≡◌, ℕ, ◌+◌, ◌*◌, ◌<◌, ◌≤◌, ◌==◌, Bool, true, false, length, Result, Ok, Err, refl, ap, subst, arith}
use Rattle.std.specs.Prelude.{if◌then◌else◌}
use Rattle.md_word.specs.Answers.{Done}
use Rattle.md_word.proofs.Answered.{lower}
use Rattle.md_word.proofs.Choices.{split}
use Rattle.md_word.specs.declared.sub_bus.Request80.{Request80}
use Rattle.z80_decode.specs.declared.decoded80.Decoded80.{Decoded80}
use Rattle.z80_decode.specs.declared.interrupt_mode.InterruptMode.TheVariants.{Mode0}
use Rattle.z80_decode.specs.declared.interrupt_mode.InterruptMode.{InterruptMode}
use Rattle.z80_decode.specs.declared.op80.Op80.{Op80}
use Rattle.z80_exec.proofs.Bounds.Accesses.{Sound, more}
use Rattle.z80_exec.proofs.Bounds.Cover as cover
use Rattle.z80_exec.proofs.Bounds.Rows as rows
use Rattle.z80_exec.specs.Access.Memory.{Memory, answers_of, instruction_bytes, instruction_byte, private_of}
use Rattle.z80_exec.specs.Access.Outcomes.{Outcome}
use Rattle.z80_exec.specs.Laws.{IgnoresLaterAnswers, SameBelow}
use Rattle.z80_exec.specs.Sample.Bounds.{IsAccess}
use Rattle.z80_exec.specs.Sample.Entries as entries
use Rattle.z80_exec.specs.Sample.Execution as execution
use Rattle.z80_exec.specs.Sample.Samples as samples
use Rattle.z80_exec.specs.Sample.Samples.{Ended, entered, fetched, finished_by, nothing}
use Rattle.z80_exec.specs.Sample.Times.{interrupt_time}
use Rattle.z80_exec.specs.declared.regs80.Regs80.{Regs80}

-- what holds of a sample's end
abbrev pub IsBounded : Memory → Result Ended Request80 → Type 0
IsBounded memory (Ok ended) = (4 + 3 * ended.used ≤ ended.t) × (ended.t ≤ 23)
IsBounded memory (Err request) = (length memory.answers < 4) × IsAccess request

-- an instruction
pub four : (op : Op80) (regs : Regs80) → Sound 4 (execution.row op regs)
four op regs = more (rows.accesses_of op) 4 (execution.row op regs) (rows.few op) (rows.row op regs)

finished_bounded : (op : Op80) (regs : Regs80) (memory : Memory) (first : Result (Outcome × Done) Request80) → execution.row op regs memory nothing ≡ first → IsBounded memory (finished_by op first)
finished_bounded op regs memory (Ok x) e =
    let covers = (cover.row op regs).value memory nothing x.0 x.1 e (omega arith) in
    (omega (arith, covers), cover.at_most op x.0.taken)
finished_bounded op regs memory (Err request) e =
    let r = (four op regs).asks memory nothing request e (omega arith) in
    (omega (arith, r.0), r.1)

instruction_bounded : (found : Decoded80) (first : ℕ) (regs : Regs80) (memory : Memory) → IsBounded memory (samples.instruction found first regs memory)
unfolding samples.instruction
instruction_bounded found first regs memory =
    finished_bounded found.op (fetched found first regs) memory (execution.row found.op (fetched found first regs) memory nothing) refl

-- an interrupt
covered : (mode : InterruptMode) → 10 + 3 * rows.reads_of mode ≤ interrupt_time mode
covered Mode0 = omega arith
covered mode = omega arith

brief : (mode : InterruptMode) → interrupt_time mode ≤ 23
brief Mode0 = omega arith
brief mode = omega arith

few : (mode : InterruptMode) → rows.reads_of mode ≤ 2
few Mode0 = omega arith
few mode = omega arith

entered_bounded : (regs : Regs80) (memory : Memory) (first : Result (Regs80 × Done) Request80) → entries.enter regs memory nothing ≡ first → IsBounded memory (entered (interrupt_time regs.mode) first)
entered_bounded regs memory (Ok x) e =
    let r = (rows.enter regs).value memory nothing x.0 x.1 e (omega arith) in
    let time = covered regs.mode in
    (omega (arith, r.0, time), brief regs.mode)
entered_bounded regs memory (Err request) e =
    let r = (rows.enter regs).asks memory nothing request e (omega arith) in
    let reads = few regs.mode in
    (omega (arith, r.0, reads), r.1)

interrupt_bounded : (regs : Regs80) (memory : Memory) → IsBounded memory (samples.interrupt regs memory)
unfolding samples.interrupt
interrupt_bounded regs memory = entered_bounded regs memory (entries.enter regs memory nothing) refl

choose : (memory : Memory) (test : Bool) (one other : Result Ended Request80) → IsBounded memory one → IsBounded memory other → IsBounded memory (if test then one else other)
choose memory true one other h k = h
choose memory false one other h k = k

pub bounded : (cause : ℕ) (regs : Regs80) (memory : Memory) → IsBounded memory (samples.sampled cause regs memory)
unfolding samples.sampled
bounded cause regs memory =
    choose memory (cause == 0) _ _ (instruction_bounded _ _ regs memory) (interrupt_bounded regs memory)

-- the same, clause by clause
pub covers : (cause : ℕ) (regs : Regs80) (memory : Memory) (ended : Ended) → samples.sampled cause regs memory ≡ Ok ended → 4 + 3 * ended.used ≤ ended.t
covers cause regs memory ended e = (subst (IsBounded memory) e (bounded cause regs memory)).0

pub most : (cause : ℕ) (regs : Regs80) (memory : Memory) (ended : Ended) → samples.sampled cause regs memory ≡ Ok ended → ended.t ≤ 23
most cause regs memory ended e = (subst (IsBounded memory) e (bounded cause regs memory)).1

pub waits : (cause : ℕ) (regs : Regs80) (memory : Memory) (request : Request80) → samples.sampled cause regs memory ≡ Err request → length memory.answers < 4
waits cause regs memory request e = (subst (IsBounded memory) e (bounded cause regs memory)).0

pub asks : (cause : ℕ) (regs : Regs80) (memory : Memory) (request : Request80) → samples.sampled cause regs memory ≡ Err request → IsAccess request
asks cause regs memory request e = (subst (IsBounded memory) e (bounded cause regs memory)).1

-- later answers
accesses : Result Ended Request80 → ℕ
accesses (Ok ended) = ended.used
accesses (Err request) = 0

finished_same : (op : Op80) (regs : Regs80) (one other : Memory) (ended : Ended) (first : Result (Outcome × Done) Request80) → execution.row op regs one nothing ≡ first → finished_by op first ≡ Ok ended → SameBelow ended.used one other → finished_by op (execution.row op regs other nothing) ≡ Ok ended
unfolding accesses
finished_same op regs one other ended (Ok x) is e same =
    let count : x.1.used ≡ ended.used = ap accesses e in
    let known = (rows.row op regs).later.value one other nothing x.0 x.1 is (lower private_of answers_of _ _ one other (omega (arith, count)) same) in
    rw known e
finished_same op regs one other ended (Err request) is e same = absurd (cc)

instruction_same : (found : Decoded80) (first : ℕ) (regs : Regs80) (one other : Memory) (ended : Ended) → samples.instruction found first regs one ≡ Ok ended → SameBelow ended.used one other → samples.instruction found first regs other ≡ Ok ended
unfolding samples.instruction
instruction_same found first regs one other ended e same =
    finished_same found.op (fetched found first regs) one other ended (execution.row found.op (fetched found first regs) one nothing) refl e same

entered_same : (time : ℕ) (regs : Regs80) (one other : Memory) (ended : Ended) (first : Result (Regs80 × Done) Request80) → entries.enter regs one nothing ≡ first → entered time first ≡ Ok ended → SameBelow ended.used one other → entered time (entries.enter regs other nothing) ≡ Ok ended
unfolding accesses
entered_same time regs one other ended (Ok x) is e same =
    let count : x.1.used ≡ ended.used = ap accesses e in
    let known = (rows.enter regs).later.value one other nothing x.0 x.1 is (lower private_of answers_of _ _ one other (omega (arith, count)) same) in
    rw known e
entered_same time regs one other ended (Err request) is e same = absurd (cc)

interrupt_same : (regs : Regs80) (one other : Memory) (ended : Ended) → samples.interrupt regs one ≡ Ok ended → SameBelow ended.used one other → samples.interrupt regs other ≡ Ok ended
unfolding samples.interrupt
interrupt_same regs one other ended e same = entered_same _ regs one other ended (entries.enter regs one nothing) refl e same

same_bytes : (at count : ℕ) (one other : Memory) → SameBelow count one other → instruction_bytes at other ≡ instruction_bytes at one
unfolding instruction_bytes instruction_byte
same_bytes at count one other same = ap (λ (m : Memory). instruction_bytes at m) same.same

pub same_sample : (cause : ℕ) (regs : Regs80) (one other : Memory) (ended : Ended) → samples.sampled cause regs one ≡ Ok ended → SameBelow ended.used one other → samples.sampled cause regs other ≡ Ok ended
unfolding samples.sampled
same_sample cause regs one other ended e same =
    rw (same_bytes regs.pc ended.used one other same)
    (split _ (cause == 0) _ _ _ e
    (λ test w. rw test (instruction_same _ _ regs one other ended w same))
    (λ test w. rw test (interrupt_same regs one other ended w same)))

pub later : (op : Op80) (regs : Regs80) → IgnoresLaterAnswers (execution.row op regs)
later op regs = (rows.row op regs).later
