-- What follows a write that waits for its answer.
use Rattle.std.proofs.Common.{◌≡◌, ℕ, ◌+◌, ◌%◌, ◌/◌, ◌^◌, ◌<◌, ◌≤◌, ◌∙◌, Bool, true, false, nat_lt, [], length, Result, Ok, Err, refl, sym, ap, subst, arith}
use Rattle.std.proofs.lemmas.Bool.Decides.{nat_tests}
use Rattle.md_word.specs.Fields.{flags_of, with_flags}
use Rattle.md_word.specs.declared.main_bus.Request68.{Request68}
use Rattle.md_word.specs.declared.main_bus.Request68.TheVariants.{Write8, Write16}
use Rattle.md_word.specs.declared.mode.Mode.{Mode}
use Rattle.md_word.specs.declared.regs.Regs.{Regs}
use Rattle.md_word.specs.declared.size.Size.{Size}
use Rattle.md_word.specs.declared.size.Size.TheVariants.{Byte, Word, Long}
use Rattle.md_word.specs.declared.task.Task.TheVariants as tasks
use Rattle.md_word.specs.Map.{is_shared}
use Rattle.md_word.proofs.Choices.{split}
use Rattle.m68k_alu.specs.Tasks.{computed}
use Rattle.m68k_decode.specs.Fields.{opcode}
use Rattle.m68k_decode.specs.Instructions.{instruction_of}
use Rattle.m68k_decode.specs.Ops.{moves_of}
use Rattle.m68k_decode.specs.declared.decoded.Decoded.{Decoded}
use Rattle.m68k_decode.specs.declared.op.Op.{Op}
use Rattle.m68k_ea.specs.Steps.{stepped}
use Rattle.m68k_access.specs.Actions as actions
use Rattle.md_word.specs.Answers.{Done}
use Rattle.m68k_access.specs.Actions.{Act, is_odd}
use Rattle.m68k_access.specs.Memory.{Memory, bus_address, instruction_word, instruction_words}
use Rattle.m68k_access.specs.Operands as operands
use Rattle.m68k_access.specs.Operands.{Operand}
use Rattle.m68k_access.specs.Outcomes.{Outcome, plain}
use Rattle.m68k_access.specs.Shapes.{following}
use Rattle.m68k_access.specs.Laws.{answers_of, private_of}
use Rattle.md_word.proofs.Answered.{answered-same, as-last, one-longer}
use Rattle.m68k_exec.specs.Rows.Moves as moves
use Rattle.m68k_exec.specs.Rows.Moves.{after_source}
use Rattle.m68k_exec.specs.Sample.Execution.{row}
use Rattle.m68k_exec.specs.Sample.Prediction.{EndsPredicted, FinishesPredicted, Predicts, TakesClocks, WaitsForLast, all_answered, answered_with}
use Rattle.m68k_exec.specs.Sample.Samples as samples
use Rattle.m68k_exec.specs.Sample.Samples.{nothing, reported_by}
use Rattle.m68k_access.specs.declared.stop.Stop.{Stop}
use Rattle.m68k_access.specs.declared.stop.Stop.TheVariants.{Ask, Odd}
use Rattle.m68k_exec.specs.declared.sample.step.Predicted.{Predicted}
use Rattle.m68k_exec.specs.declared.sample.step.Step.{Step}
use Rattle.m68k_exec.specs.declared.sample.step.Step.TheVariants as steps
use Rattle.m68k_access.proofs.Later.Accesses as later
use Rattle.m68k_access.proofs.Taken.{answered, with_word-used}

-- where nothing is known nothing is predicted
pub nothing_predicted : {A : Type 0} (result : Result A Stop) (predicted : Predicted) (act : Act Outcome) (memory : Memory) (done : Done) → predicted.known ≡ false → Predicts result predicted act memory done
nothing_predicted (Ok x) predicted act memory done none = none
nothing_predicted (Err (Ask request)) predicted act memory done none = λ known. absurd (let no_way = sym none ∙ known in cc)
nothing_predicted (Err (Odd address read used)) predicted act memory done none = none

pub nothing_waits : {A B : Type 0} (result : Result A Stop) (predicted : Predicted) (regs : Regs) (act : Act B) (given : B) (memory : Memory) (done : Done) → predicted.known ≡ false → WaitsForLast result predicted regs act given memory done
nothing_waits (Ok x) predicted regs act given memory done none = none
nothing_waits (Err (Ask request)) predicted regs act given memory done none = λ known. absurd (let no_way = sym none ∙ known in cc)
nothing_waits (Err (Odd address read used)) predicted regs act given memory done none = none

-- ---- a write that waits

reported-following : (request : Request68) (memory : Memory) (done : Done) (value : ℕ) → done.used ≡ length memory.answers → actions.reported request (answered_with value memory) done ≡ Ok (tt, record done { used = length memory.answers + 1 })
unfolding actions.reported
reported-following request memory done value last =
    let e = one-longer value memory.answers in
    let more : nat_lt done.used (length (answered_with value memory).answers) ≡ true = grind (arith, nat_tests, e, last) in
    rw (answered request (answered_with value memory) done more) (rw last refl)

word-following : (address written : ℕ) (memory : Memory) (done : Done) (request : Request68) (value : ℕ) → actions.write_word address written memory done ≡ Err (Ask request) → done.used ≡ length memory.answers
    → actions.write_word address written (answered_with value memory) done ≡ Ok (tt, record done { used = length memory.answers + 1 })
unfolding actions.write_word actions.write_aligned
word-following address written memory done request value e last =
    split _ (is_odd address) _ _ _ e
    (λ test w. absurd (cc))
    (λ test w. rw test (split _ (is_shared (bus_address address)) _ _ _ w
    (λ shared v. rw shared (reported-following (Write16 (bus_address address) written) memory done value last))
    (λ shared v. absurd (cc))))

byte-following : (address written : ℕ) (memory : Memory) (done : Done) (request : Request68) (value : ℕ) → actions.write_byte address written memory done ≡ Err (Ask request) → done.used ≡ length memory.answers
    → actions.write_byte address written (answered_with value memory) done ≡ Ok (tt, record done { used = length memory.answers + 1 })
unfolding actions.write_byte
byte-following address written memory done request value e last =
    split _ (is_shared (bus_address address)) _ _ _ e
    (λ shared v. rw shared (reported-following (Write8 (bus_address address) written) memory done value last))
    (λ shared v. absurd (cc))

-- a word that waits has no answer left
reported-late : (request waiting : Request68) (memory : Memory) (done : Done) (test : Bool) → nat_lt done.used (length memory.answers) ≡ test → actions.reported request memory done ≡ Err (Ask waiting) → length memory.answers ≤ done.used
unfolding actions.reported
reported-late request waiting memory done true t e = let first = answered request memory done t in absurd (cc)
reported-late request waiting memory done false t e = grind (arith, nat_tests, t)

word-late : (address written : ℕ) (memory : Memory) (done : Done) (request : Request68) → actions.write_word address written memory done ≡ Err (Ask request) → length memory.answers ≤ done.used
unfolding actions.write_word actions.write_aligned
word-late address written memory done request e =
    split _ (is_odd address) _ _ _ e
    (λ test w. absurd (cc))
    (λ test w. split _ (is_shared (bus_address address)) _ _ _ w
    (λ shared v. reported-late (Write16 (bus_address address) written) request memory done (nat_lt done.used (length memory.answers)) refl v)
    (λ shared v. absurd (cc)))

-- one that is written has taken an answer, or none
reported-taken : (request : Request68) (memory : Memory) (done : Done) (x : (Unit {0}) × Done) → done.used < length memory.answers → actions.reported request memory done ≡ Ok x → x.1 ≡ record done { used = done.used + 1 }
unfolding actions.reported
reported-taken request memory done x few e =
    let more : nat_lt done.used (length memory.answers) ≡ true = grind (arith, nat_tests, few) in
    let first = answered request memory done more in
    cc

pub data IsTaken (before after : Done) : Type 0 where
  one : after ≡ record before { used = before.used + 1 } → IsTaken before after
  none : after.used ≡ before.used → IsTaken before after

word-taken : (address written : ℕ) (memory : Memory) (done : Done) (x : (Unit {0}) × Done) → done.used < length memory.answers → actions.write_word address written memory done ≡ Ok x → IsTaken done x.1
unfolding actions.write_word actions.write_aligned
word-taken address written memory done x few e =
    split _ (is_odd address) _ _ _ e
    (λ test w. absurd (cc))
    (λ test w. split _ (is_shared (bus_address address)) _ _ _ w
    (λ shared v. one (reported-taken (Write16 (bus_address address) written) memory done x few v))
    (λ shared v. none (let is : x ≡ (tt, actions.with_word (bus_address address) written done) = cc in ap (λ (y : (Unit {0}) × Done). y.1.used) is ∙ with_word-used (bus_address address) written done)))

long-by : (address written : ℕ) (memory : Memory) (done : Done) (request : Request68) (value : ℕ) (first : Result ((Unit {0}) × Done) Stop) → actions.write_word address (written / 0x1_0000) memory done ≡ first
    → actions.go_on first (λ x mid. actions.write_word ((address + 2) % 2 ^ 32) (written % 0x1_0000) memory mid) ≡ Err (Ask request) → done.used + 2 ≡ length memory.answers + 1
    → actions.go_on (actions.write_word address (written / 0x1_0000) (answered_with value memory) done) (λ x mid. actions.write_word ((address + 2) % 2 ^ 32) (written % 0x1_0000) (answered_with value memory) mid)
    ≡ Ok (tt, record done { used = length memory.answers + 1 })
long-by address written memory done request value (Err stop) e g last =
    let late = word-late address (written / 0x1_0000) memory done request (e ∙ g) in
    absurd (omega (arith, late, last))
long-by address written memory done request value (Ok x) e g last =
    let late = word-late ((address + 2) % 2 ^ 32) (written % 0x1_0000) memory x.1 request g in
    let few : done.used < length memory.answers = omega (arith, last) in
    elim (word-taken address (written / 0x1_0000) memory done x few e) [
      | one is ↦
          let used : x.1.used ≡ done.used + 1 = ap (λ (d : Done). d.used) is in
          let all : x.1.used ≡ length memory.answers = omega (arith, used, last) in
          let again = (later.write_word address (written / 0x1_0000)).value memory (answered_with value memory) done x.0 x.1 e (answered-same private_of answers_of x.1.used value memory (answered_with value memory) refl refl (omega (arith, all))) in
          let following = word-following ((address + 2) % 2 ^ 32) (written % 0x1_0000) memory x.1 request value g all in
          rw again (rw following (ap (λ (d : Done). Ok (tt, record d { used = length memory.answers + 1 })) is))
      | none same ↦ absurd (omega (arith, same, late, last))
    ]

pub write-following : (size : Size) (address written : ℕ) (memory : Memory) (done : Done) (request : Request68) → actions.write size address written memory done ≡ Err (Ask request) → done.used + moves_of size ≡ length memory.answers + 1 → done.writes ≡ []
    → (value : ℕ) → actions.write size address written (answered_with value memory) done ≡ Ok (tt, all_answered memory)
unfolding actions.write actions.write_long
write-following Byte address written memory done request e last empty value =
    byte-following address written memory done request value e (omega (arith, last)) ∙ ap (λ (d : Done). Ok (tt, d)) (as-last (length memory.answers + 1) done empty)
write-following Word address written memory done request e last empty value =
    word-following address written memory done request value e (omega (arith, last)) ∙ ap (λ (d : Done). Ok (tt, d)) (as-last (length memory.answers + 1) done empty)
write-following Long address written memory done request e last empty value =
    long-by address written memory done request value (actions.write_word address (written / 0x1_0000) memory done) refl e last ∙ ap (λ (d : Done). Ok (tt, d)) (as-last (length memory.answers + 1) done empty)

pub few-taken : (size : Size) (used count : ℕ) → used + moves_of size ≡ count + 1 → used ≤ count
few-taken Byte used count e = omega (arith, e)
few-taken Word used count e = omega (arith, e)
few-taken Long used count e = omega (arith, e)

-- ---- MOVE

pub move-following : (size : Size) (source target : Mode) (start : ℕ) (regs : Regs) (memory : Memory) (done : Done) (from : Operand) (mid : Done) (value : ℕ)
    → operands.load source size (following start 2) regs memory done ≡ Ok (from, mid) → mid.used ≤ length memory.answers
    → operands.store target size (computed tasks.Move size from.value from.value (flags_of regs)).value (after_source size source start) from.regs (answered_with value memory) mid ≡ Ok (stepped target size from.regs, all_answered memory)
    → moves.move_operand size source target start regs (answered_with value memory) done
    ≡ Ok (plain (with_flags (stepped target size from.regs) (computed tasks.Move size from.value from.value (flags_of regs)).flags), all_answered memory)
unfolding moves.move_operand
move-following size source target start regs memory done from mid value loaded few stored =
    let again = (later.load source size (following start 2) regs).value memory (answered_with value memory) done from mid loaded (answered-same private_of answers_of mid.used value memory (answered_with value memory) refl refl few) in
    rw again (rw stored refl)

-- ---- the sample

finish-following : (op : Op) (found : Regs) (memory : Memory) (predicted : Predicted) (value : ℕ) → FinishesPredicted predicted op found memory
    → samples.ended_by op found (plain predicted.regs) (answered_with value memory) (all_answered memory) ≡ reported_by (steps.Done predicted.finish) predicted.regs nothing
unfolding samples.ended_by
finish-following op found memory predicted value finish = sym (finish.1)

pub instruction-following : (decoded : Decoded) (first : ℕ) (regs : Regs) (memory : Memory) (predicted : Predicted) (value : ℕ) → is_odd regs.pc ≡ false
    → row decoded.op regs.pc (record regs { pc = (regs.pc + decoded.length) % 2 ^ 32 }) (answered_with value memory) nothing ≡ Ok (plain predicted.regs, all_answered memory)
    → FinishesPredicted predicted decoded.op regs memory → samples.instruction decoded first regs (answered_with value memory) ≡ reported_by (steps.Done predicted.finish) predicted.regs nothing
unfolding samples.instruction
instruction-following decoded first regs memory predicted value even ends finish =
    rw even (rw ends (finish-following decoded.op regs memory predicted value finish))

pub predicts-move : {A : Type 0} (result : Result A Stop) (stop : Stop) → result ≡ Err stop → (predicted : Predicted) (size : Size) (source target : Mode) (start : ℕ) (regs : Regs) (memory : Memory) (done : Done) (from : Operand) (mid : Done)
    → operands.load source size (following start 2) regs memory done ≡ Ok (from, mid)
    → WaitsForLast {A = Unit {0}} {B = Regs} (Err stop) predicted (with_flags (stepped target size from.regs) (computed tasks.Move size from.value from.value (flags_of regs)).flags)
    (operands.store target size (computed tasks.Move size from.value from.value (flags_of regs)).value (after_source size source start) from.regs) (stepped target size from.regs) memory mid
    → Predicts result predicted (moves.move_operand size source target start regs) memory done
predicts-move {A} result stop is predicted size source target start regs memory done from mid loaded waits =
    subst (λ (r : Result A Stop). Predicts r predicted (moves.move_operand size source target start regs) memory done) (sym is) (by stop waits)
  where
    by : (stop : Stop)
        → WaitsForLast {A = Unit {0}} {B = Regs} (Err stop) predicted (with_flags (stepped target size from.regs) (computed tasks.Move size from.value from.value (flags_of regs)).flags)
        (operands.store target size (computed tasks.Move size from.value from.value (flags_of regs)).value (after_source size source start) from.regs) (stepped target size from.regs) memory mid
        → Predicts {A = A} (Err stop) predicted (moves.move_operand size source target start regs) memory done
    by (Ask request) waits = λ known value.
        let w = waits known in
        move-following size source target start regs memory done from mid value loaded w.1 (w.2 value) ∙ ap (λ (r : Regs). Ok (plain r, all_answered memory)) (sym w.0)
    by (Odd address read used) waits = waits

pub instruction-predicts : (A : Type 0) (word : Decoded) (first : ℕ) (regs : Regs) (memory : Memory) (predicted new : Predicted) (stop : Stop) (request : Request68) (pc : ℕ) (done : Done)
    → is_odd regs.pc ≡ false → stop ≡ Ask request → pc ≡ (regs.pc + word.length) % 2 ^ 32 → done ≡ nothing
    → Predicts {A = A} (Err stop) predicted (row word.op regs.pc (record regs { pc = pc })) memory done
    → new.known ≡ predicted.known → new.regs ≡ predicted.regs → (predicted.known ≡ true → FinishesPredicted new word.op regs memory)
    → new.known ≡ true → TakesClocks new × ((value : ℕ) → samples.instruction word first regs (answered_with value memory) ≡ reported_by (steps.Done new.finish) new.regs nothing)
instruction-predicts A word first regs memory predicted new stop request pc done even waits after fresh predicts same kept finishes known =
    ((finishes (sym same ∙ known)).0, following)
  where
    following : (value : ℕ) → samples.instruction word first regs (answered_with value memory) ≡ reported_by (steps.Done new.finish) new.regs nothing
    following value =
        let was : predicted.known ≡ true = sym same ∙ known in
        let asking = subst (λ (s : Stop). Predicts {A = A} (Err s) predicted (row word.op regs.pc (record regs { pc = pc })) memory done) waits predicts in
        let there = subst (λ (d : Done). row word.op regs.pc (record regs { pc = pc }) (answered_with value memory) d ≡ Ok (plain predicted.regs, all_answered memory)) fresh (asking was value) in
        let ends = subst (λ (n : ℕ). row word.op regs.pc (record regs { pc = n }) (answered_with value memory) nothing ≡ Ok (plain predicted.regs, all_answered memory)) after there in
        instruction-following word first regs memory new value even (ends ∙ ap (λ (r : Regs). Ok (plain r, all_answered memory)) (sym kept)) (finishes was)

words-answered : (address value : ℕ) (memory : Memory) → instruction_words address (answered_with value memory) ≡ instruction_words address memory
unfolding instruction_words instruction_word
words-answered address value memory = refl

pub sample-predicts : (step : Step) (predicted : Predicted) (cause : ℕ) (regs : Regs) (memory : Memory) (found : Decoded) (first : ℕ) → found ≡ instruction_of (instruction_words regs.pc memory) → first ≡ opcode (instruction_words regs.pc memory)
    → EndsPredicted step predicted (samples.sample_of cause found first regs) memory → EndsPredicted step predicted (samples.sampled cause regs) memory
unfolding samples.sampled
sample-predicts (steps.Need request) predicted cause regs memory found first names begins ends = λ known. (
  (ends known).0,
  λ value. rw (words-answered regs.pc value memory) (rw (sym names, sym begins) ((ends known).1 value)),
)
sample-predicts (steps.Done finish) predicted cause regs memory found first names begins ends = tt
