-- Answers beyond those that it takes change nothing: of an exception, and of a sample that results in
-- its end.
use Rattle.std.proofs.Common.{◌≡◌, ℕ, zero, suc, ◌+◌, ◌%◌, ◌^◌, ◌≤◌, ◌==◌, Bool, true, false, nat_lt, List, [], length, Option, Some, None, Result, Ok, Err, refl, ap, sym, ◌∙◌, arith, if◌then◌else◌}
use Rattle.md_word.proofs.Choices.{split}
use Rattle.md_word.specs.declared.main_bus.Request68.TheVariants.{Ack}
use Rattle.md_word.specs.declared.regs.Regs.{Regs}
use Rattle.m68k_decode.specs.declared.decoded.Decoded.{Decoded}
use Rattle.m68k_decode.specs.declared.op.Op.{Op}
use Rattle.m68k_access.proofs.Later.Accesses.{asked, bind, give, same-ram, same-rom, write_word}
use Rattle.m68k_exec.proofs.Later.Rows.{row}
use Rattle.m68k_access.specs.Actions as actions
use Rattle.md_word.specs.Answers.{Done}
use Rattle.m68k_access.specs.Actions.{Act, is_odd}
use Rattle.m68k_exec.specs.Sample.Entries as entries
use Rattle.m68k_exec.specs.Sample.Entries.{frame_for, number_of, vector_at}
use Rattle.m68k_exec.specs.Sample.Execution as execution
use Rattle.m68k_access.specs.Laws.{IgnoresLaterAnswers, SameBelow, answers_of, private_of}
use Rattle.md_word.proofs.Answered.{lower}
use Rattle.m68k_access.specs.Memory.{Memory, instruction_word, instruction_words}
use Rattle.m68k_exec.specs.Sample.Samples as samples
use Rattle.m68k_exec.specs.Sample.Samples.{Ended, begun, begun_by, nothing}
use Rattle.m68k_exec.specs.declared.sample.exception.Exception.{Exception}
use Rattle.m68k_exec.specs.declared.sample.exception.Exception.TheVariants.{AddressError, Interrupt, Numbered}
use Rattle.m68k_access.specs.Outcomes.{Outcome}
use Rattle.m68k_access.specs.declared.stop.Stop.{Stop}
use Rattle.m68k_access.specs.declared.stop.Stop.TheVariants.{Ask, Odd}

-- what looks at the cartridge and at work RAM first
look : {V A : Type 0} (v : Memory → V) (f : V → Act A) → ((count : ℕ) (one other : Memory) → SameBelow count one other → v other ≡ v one) → ((x : V) → IgnoresLaterAnswers (f x)) → IgnoresLaterAnswers (λ memory done. f (v memory) memory done)
look v f s h = record {
  value = λ one other before y after e same. rw (s after.used one other same) ((h (v one)).value one other before y after e same);
  odd = λ one other before address read used e same. rw (s used one other same) ((h (v one)).odd one other before address read used e same);
  taken = λ memory before y after e. (h (v memory)).taken memory before y after e;
  taken_odd = λ memory before address read used e. (h (v memory)).taken_odd memory before address read used e;
}

-- an exception
pushed : (left k : ℕ) (words : List ℕ) (stack : ℕ) → IgnoresLaterAnswers (entries.pushed left k words stack)
pushed zero k words stack = give _
pushed (suc left) k words stack = bind _ _ (write_word _ _) (λ written. pushed left (k + 1) words stack)

enter_with : (exception : Exception) (vector : ℕ) (words : List ℕ) (regs : Regs) → IgnoresLaterAnswers (entries.enter_with exception vector words regs)
unfolding entries.enter_with
enter_with exception vector words regs = bind _ _ (pushed (length words) 0 words regs.ssp) (λ finished. give _)

enter_by : (exception : Exception) (vector : ℕ) (words : Option (List ℕ)) (regs : Regs) → IgnoresLaterAnswers (entries.enter_by exception vector words regs)
enter_by exception vector (Some words) regs = enter_with exception vector words regs
enter_by exception vector None regs = give _

same_vector : (number count : ℕ) (one other : Memory) → SameBelow count one other → vector_at number other ≡ vector_at number one
unfolding vector_at
same_vector number count one other same = rw (same-rom count one other same, same-ram count one other same) refl

pub enter : (exception : Exception) (regs : Regs) → IgnoresLaterAnswers (entries.enter exception regs)
unfolding entries.enter
enter exception regs =
    look (vector_at (number_of exception)) (λ vector. entries.enter_by exception vector (frame_for exception vector regs) regs) (same_vector (number_of exception)) (λ vector. enter_by exception vector (frame_for exception vector regs) regs)

-- the accesses of what was begun
accesses : Result Ended Stop → ℕ
accesses (Ok ended) = ended.spent.accesses
accesses (Err stop) = 0

begun-accesses : (op : Op) (number : ℕ) (trace : Bool) (found : Regs) (entry : Option Regs) (done : Done) → (begun op number trace found entry done).spent.accesses ≡ done.used
begun-accesses op number trace found (Some regs) done = refl
begun-accesses op number trace found None done = refl

entered-accesses : (op : Op) (number : ℕ) (trace : Bool) (found : Regs) (x : Option Regs × Done) (ended : Ended) → begun_by op number trace found (Ok x) ≡ Ok ended → x.1.used ≡ ended.spent.accesses
unfolding accesses
entered-accesses op number trace found x ended e =
    sym (begun-accesses op number trace found x.0 x.1) ∙ ap accesses e

begun-same : (op : Op) (exception : Exception) (trace : Bool) (found regs : Regs) (one other : Memory) (before : Done) (ended : Ended) (first : Result (Option Regs × Done) Stop) → entries.enter exception regs one before ≡ first → begun_by op (number_of exception) trace found first ≡ Ok ended → SameBelow ended.spent.accesses one other → begun_by op (number_of exception) trace found (entries.enter exception regs other before) ≡ Ok ended
begun-same op exception trace found regs one other before ended (Ok x) is e same =
    let count = entered-accesses op (number_of exception) trace found x ended e in
    let known = (enter exception regs).value one other before x.0 x.1 is (lower private_of answers_of _ _ one other (omega (arith, count)) same) in
    rw known e
begun-same op exception trace found regs one other before ended (Err stop) is e same = absurd (cc)

begun-taken : (op : Op) (exception : Exception) (trace : Bool) (found regs : Regs) (one : Memory) (before : Done) (ended : Ended) (first : Result (Option Regs × Done) Stop) → entries.enter exception regs one before ≡ first → begun_by op (number_of exception) trace found first ≡ Ok ended → before.used ≤ ended.spent.accesses
begun-taken op exception trace found regs one before ended (Ok x) is e =
    let count = entered-accesses op (number_of exception) trace found x ended e in
    let taken = (enter exception regs).taken one before x.0 x.1 is in
    omega (arith, count, taken)
begun-taken op exception trace found regs one before ended (Err stop) is e = absurd (cc)

take_exception : (op : Op) (exception : Exception) (trace : Bool) (found regs : Regs) (one other : Memory) (before : Done) (ended : Ended) → samples.take_exception op exception trace found regs one before ≡ Ok ended → SameBelow ended.spent.accesses one other → samples.take_exception op exception trace found regs other before ≡ Ok ended
unfolding samples.take_exception
take_exception op exception trace found regs one other before ended e same =
    begun-same op exception trace found regs one other before ended (entries.enter exception regs one before) refl e same

exception-taken : (op : Op) (exception : Exception) (trace : Bool) (found regs : Regs) (one : Memory) (before : Done) (ended : Ended) → samples.take_exception op exception trace found regs one before ≡ Ok ended → before.used ≤ ended.spent.accesses
unfolding samples.take_exception
exception-taken op exception trace found regs one before ended e =
    begun-taken op exception trace found regs one before ended (entries.enter exception regs one before) refl e

-- an instruction that ended
choose : {A : Type 0} (test : Bool) (x y z : A) → (test ≡ true → x ≡ z) → (test ≡ false → y ≡ z) → (if test then x else y) ≡ z
choose true x y z h k = h refl
choose false x y z h k = k refl

ended_by : (op : Op) (found : Regs) (outcome : Outcome) (one other : Memory) (before : Done) (ended : Ended) → samples.ended_by op found outcome one before ≡ Ok ended → SameBelow ended.spent.accesses one other → samples.ended_by op found outcome other before ≡ Ok ended
unfolding samples.ended_by
ended_by op found outcome one other before ended e same =
    split _ (outcome.vector == 0) _ _ _ e
    (λ test w. rw test w)
    (λ test w. rw test (take_exception op (Numbered outcome.vector) (samples.leaves_trace found outcome.vector) found outcome.regs one other before ended w same))

ended-taken : (op : Op) (found : Regs) (outcome : Outcome) (one : Memory) (before : Done) (ended : Ended) → samples.ended_by op found outcome one before ≡ Ok ended → before.used ≤ ended.spent.accesses
unfolding samples.ended_by accesses
ended-taken op found outcome one before ended e =
    split _ (outcome.vector == 0) _ _ _ e
    (λ test w. (let count : before.used ≡ ended.spent.accesses = ap accesses w in omega (arith, count)))
    (λ test w. exception-taken op (Numbered outcome.vector) (samples.leaves_trace found outcome.vector) found outcome.regs one before ended w)

answered : (op : Op) (start first : ℕ) (found regs : Regs) (one other : Memory) (ended : Ended) (result : Result (Outcome × Done) Stop) → execution.row op start regs one nothing ≡ result → samples.answered_by op first found one result ≡ Ok ended → SameBelow ended.spent.accesses one other → samples.answered_by op first found other (execution.row op start regs other nothing) ≡ Ok ended
answered op start first found regs one other ended (Ok x) is e same =
    let taken = ended-taken op found x.0 one x.1 ended e in
    let known = (row op start regs).value one other nothing x.0 x.1 is (lower private_of answers_of _ _ one other taken same) in
    rw known (ended_by op found x.0 one other x.1 ended e same)
answered op start first found regs one other ended (Err (Ask request)) is e same = absurd (cc)
answered op start first found regs one other ended (Err (Odd address read used)) is e same =
    let taken = exception-taken op (AddressError first address read) false found found one (record { used = used; writes = [] }) ended e in
    let known = (row op start regs).odd one other nothing address read used is (lower private_of answers_of _ _ one other taken same) in
    rw known (take_exception op (AddressError first address read) false found found one other (record { used = used; writes = [] }) ended e same)

instruction : (word : Decoded) (first : ℕ) (regs : Regs) (one other : Memory) (ended : Ended) → samples.instruction word first regs one ≡ Ok ended → SameBelow ended.spent.accesses one other → samples.instruction word first regs other ≡ Ok ended
unfolding samples.instruction
instruction word first regs one other ended e same =
    split _ (is_odd regs.pc) _ _ _ e
    (λ test w. rw test (take_exception word.op (AddressError first regs.pc true) false regs regs one other nothing ended w same))
    (λ test w. rw test (answered word.op regs.pc first regs (record regs { pc = (regs.pc + word.length) % 2 ^ 32 }) one other ended (execution.row word.op regs.pc (record regs { pc = (regs.pc + word.length) % 2 ^ 32 }) one nothing) refl w same))

acknowledged : (level : ℕ) (op : Op) (regs : Regs) (one other : Memory) (ended : Ended) (result : Result (ℕ × Done) Stop) → actions.asked (Ack level) one nothing ≡ result → samples.acknowledged level op regs one result ≡ Ok ended → SameBelow ended.spent.accesses one other → samples.acknowledged level op regs other (actions.asked (Ack level) other nothing) ≡ Ok ended
acknowledged level op regs one other ended (Ok x) is e same =
    let taken = exception-taken op (Interrupt level) false regs regs one x.1 ended e in
    let known = (asked (Ack level)).value one other nothing x.0 x.1 is (lower private_of answers_of _ _ one other taken same) in
    rw known (take_exception op (Interrupt level) false regs regs one other x.1 ended e same)
acknowledged level op regs one other ended (Err stop) is e same = absurd (cc)

interrupt : (level : ℕ) (op : Op) (regs : Regs) (one other : Memory) (ended : Ended) → samples.interrupt level op regs one ≡ Ok ended → SameBelow ended.spent.accesses one other → samples.interrupt level op regs other ≡ Ok ended
unfolding samples.interrupt
interrupt level op regs one other ended e same =
    acknowledged level op regs one other ended (actions.asked (Ack level) one nothing) refl e same

trace : (op : Op) (regs : Regs) (one other : Memory) (ended : Ended) → samples.trace op regs one ≡ Ok ended → SameBelow ended.spent.accesses one other → samples.trace op regs other ≡ Ok ended
unfolding samples.trace
trace op regs one other ended e same =
    take_exception op (Numbered 9) false regs regs one other nothing ended e same

-- the words of the instruction
same_words : (address count : ℕ) (one other : Memory) → SameBelow count one other → instruction_words address other ≡ instruction_words address one
unfolding instruction_words instruction_word
same_words address count one other same = rw (same-rom count one other same, same-ram count one other same) refl

pub sampled : (cause : ℕ) (regs : Regs) (one other : Memory) (ended : Ended) → samples.sampled cause regs one ≡ Ok ended → SameBelow ended.spent.accesses one other → samples.sampled cause regs other ≡ Ok ended
unfolding samples.sampled
sampled cause regs one other ended e same =
    rw (same_words regs.pc ended.spent.accesses one other same)
    (split _ (cause == 0) _ _ _ e
    (λ test w. rw test (instruction _ _ regs one other ended w same))
    (λ test w. rw test (split _ (nat_lt cause 8) _ _ _ w
    (λ below v. rw below (interrupt cause _ regs one other ended v same))
    (λ below v. rw below (trace _ regs one other ended v same)))))
