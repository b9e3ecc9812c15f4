-- What a sample spends, where it waits, and that no address error is left over: laws on the
-- definition.
use Rattle.std.proofs.Common.{◌≡◌, ℕ, zero, suc, ◌+◌, ◌-◌, ◌%◌, ◌^◌, ◌<◌, ◌≤◌, ◌==◌, Bool, true, false, nat_lt, List, [], length, Option, Some, None, Result, Ok, Err, refl, sym, subst, arith}
use Rattle.std.specs.Prelude.{◌≢◌, ◌||◌, if◌then◌else◌, slice_index}
use Rattle.std.proofs.lemmas.Bool.{eqb-false}
use Rattle.std.proofs.lemmas.Bool.Decides.{nat_tests}
use Rattle.md_word.specs.declared.main_bus.Request68.{Request68}
use Rattle.md_word.specs.declared.main_bus.Request68.TheVariants.{Ack}
use Rattle.md_word.specs.declared.regs.Regs.{Regs}
use Rattle.m68k_decode.specs.Ops.{IsSpent}
use Rattle.m68k_decode.specs.Fields.{opcode}
use Rattle.m68k_decode.specs.declared.decoded.Decoded.{Decoded}
use Rattle.m68k_decode.specs.declared.op.Op.{Op}
use Rattle.m68k_except.specs.Frames.{is_address_error}
use Rattle.m68k_access.proofs.Aligned.{asked_even, both, write_word_even}
use Rattle.m68k_exec.proofs.Bounds.Early.{counts_list, early, row32}
use Rattle.m68k_exec.proofs.Bounds.Takes.{asked}
use Rattle.m68k_exec.proofs.Bounds.TakesEntry.{enter}
use Rattle.m68k_exec.proofs.Bounds.TakesRows.{row}
use Rattle.m68k_access.specs.Actions as actions
use Rattle.md_word.specs.Answers.{Done}
use Rattle.m68k_access.specs.Actions.{is_odd}
use Rattle.m68k_access.specs.Clauses.{NotOdd}
use Rattle.m68k_exec.specs.Sample.Entries as entries
use Rattle.m68k_exec.specs.Sample.Entries.{number_of, pushes_of}
use Rattle.m68k_exec.specs.Sample.Execution as execution
use Rattle.m68k_access.specs.Memory.{Memory}
use Rattle.m68k_access.specs.Outcomes.{Outcome}
use Rattle.m68k_exec.specs.Sample.Samples as samples
use Rattle.m68k_exec.specs.Sample.Samples.{named, Ended, begun_by, finished, leaves_trace, nothing}
use Rattle.m68k_exec.specs.declared.sample.exception.Exception.{Exception}
use Rattle.m68k_exec.specs.declared.sample.exception.Exception.TheVariants.{AddressError, Interrupt, Numbered}
use Rattle.m68k_access.specs.declared.stop.Stop.{Stop}
use Rattle.m68k_access.specs.declared.stop.Stop.TheVariants.{Ask, Odd}

-- the count of an instruction is what its row reported
pub record FromRow (op : Op) (memory : Memory) (count : ℕ) : Type 0 where
  pub start : ℕ
  pub regs : Regs
  pub outcome : Outcome
  pub after : Done
  pub is : execution.row op start regs memory nothing ≡ Ok (outcome, after)
  pub same : count ≡ outcome.count

-- where it ends, it names this instruction, what was spent is what that can spend, and its count is
-- its row's; where it waits, there are fewer than 32 answers; and it is no address error
abbrev pub IsBounded : Op → Memory → Result Ended Stop → Type 0
IsBounded op memory (Ok ended) = (ended.op ≡ op) × IsSpent ended.op ended.spent × (ended.spent.cause ≡ 0 → FromRow op memory ended.spent.count)
IsBounded op memory (Err (Ask request)) = length memory.answers < 32
IsBounded op memory (Err (Odd address read used)) = ⊥

-- an exception pushes words at even addresses
place_even : (k : ℕ) → (slice_index entries.places k % 2 ≡ 0) × (slice_index entries.places k ≤ 14)
place_even zero = (refl, omega arith)
place_even (suc zero) = (refl, omega arith)
place_even (suc (suc zero)) = (refl, omega arith)
place_even (suc (suc (suc zero))) = (refl, omega arith)
place_even (suc (suc (suc (suc zero)))) = (refl, omega arith)
place_even (suc (suc (suc (suc (suc zero))))) = (refl, omega arith)
place_even (suc (suc (suc (suc (suc (suc zero)))))) = (refl, omega arith)
place_even (suc (suc (suc (suc (suc (suc (suc k))))))) = (refl, omega arith)

even_below : (stack place : ℕ) → is_odd stack ≡ false → place % 2 ≡ 0 → place ≤ 14 → is_odd ((stack + 2 ^ 32 - place) % 2 ^ 32) ≡ false
even_below stack place e f g = grind arith

places_even : (stack k : ℕ) → is_odd stack ≡ false → is_odd ((stack + 2 ^ 32 - slice_index entries.places k) % 2 ^ 32) ≡ false
places_even stack k e = even_below stack _ e (place_even k).0 (place_even k).1

pushed_even : (left k : ℕ) (words : List ℕ) (stack : ℕ) → is_odd stack ≡ false → (memory : Memory) (done : Done) → NotOdd (entries.pushed left k words stack memory done)
pushed_even zero k words stack e memory done = tt
pushed_even (suc left) k words stack e memory done =
    both (actions.write_word ((stack + 2 ^ 32 - slice_index entries.places k) % 2 ^ 32) (slice_index words k) memory done) _ (write_word_even _ _ (places_even stack k e) memory done) (λ x after. pushed_even left (k + 1) words stack e memory after)

enter_with_even : (exception : Exception) (vector : ℕ) (words : List ℕ) (regs : Regs) → is_odd regs.ssp ≡ false → (memory : Memory) (done : Done) → NotOdd (entries.enter_with exception vector words regs memory done)
unfolding entries.enter_with
enter_with_even exception vector words regs e memory done =
    both (entries.pushed (length words) 0 words regs.ssp memory done) _ (pushed_even (length words) 0 words regs.ssp e memory done) (λ x after. tt)

enter_by_even : (exception : Exception) (vector : ℕ) (odd other : Bool) (words : List ℕ) (regs : Regs) (memory : Memory) (done : Done) → is_odd regs.ssp ≡ odd → NotOdd (entries.enter_by exception vector (if odd || other then None else Some words) regs memory done)
enter_by_even exception vector true other words regs memory done e = tt
enter_by_even exception vector false true words regs memory done e = tt
enter_by_even exception vector false false words regs memory done e = enter_with_even exception vector words regs e memory done

enter_even : (exception : Exception) (regs : Regs) (memory : Memory) (done : Done) → NotOdd (entries.enter exception regs memory done)
unfolding entries.enter
enter_even (AddressError opcode address read) regs memory done = enter_by_even _ _ (is_odd regs.ssp) _ _ regs memory done refl
enter_even (Interrupt level) regs memory done = enter_by_even _ _ (is_odd regs.ssp) _ _ regs memory done refl
enter_even (Numbered number) regs memory done = enter_by_even _ _ (is_odd regs.ssp) _ _ regs memory done refl

-- an exception that begins after four answers at most
choice_most : (b : Bool) → (if b then 7 else 3) ≤ 7
choice_most true = omega arith
choice_most false = omega arith

pushes_most : (exception : Exception) → pushes_of exception ≤ 7
pushes_most exception = choice_most (is_address_error (number_of exception))

three_of : (number : ℕ) (test : Bool) → (number == 3) ≡ test → number ≢ 3 → (if test then 7 else 3) ≤ 3
three_of number true e other = absurd (other (grind (arith, nat_tests)))
three_of number false e other = omega arith

pushes_three : (exception : Exception) → number_of exception ≢ 3 → pushes_of exception ≤ 3
pushes_three exception other = three_of (number_of exception) (is_address_error (number_of exception)) refl other

begun_spent : (op : Op) (exception : Exception) (trace : Bool) (found : Regs) (entry : Option Regs) (done : Done) (used : ℕ) → used ≤ 4 → number_of exception ≢ 0 → done.used ≤ used + pushes_of exception → IsSpent op (samples.begun op (number_of exception) trace found entry done).spent
begun_spent op exception trace found (Some regs) done used few other most =
    let p = pushes_most exception in record {
      most = omega (arith, p, most, few);
      own = λ c. absurd (other c);
      counted = λ c. absurd (other c);
      address_error = λ c. omega (arith, p, most, few);
      exception = λ c d. (let q = pushes_three exception d in omega (arith, q, most, few));
    }
begun_spent op exception trace found None done used few other most =
    let p = pushes_most exception in record {
      most = omega (arith, p, most, few);
      own = λ c. absurd (cc);
      counted = λ c. absurd (cc);
      address_error = λ c. omega (arith, p, most, few);
      exception = λ c d. absurd (d refl);
    }

op_of : (op : Op) (number : ℕ) (trace : Bool) (found : Regs) (entry : Option Regs) (done : Done) → (samples.begun op number trace found entry done).op ≡ op
op_of op number trace found (Some regs) done = refl
op_of op number trace found None done = refl

not_begun : (op : Op) (exception : Exception) (trace : Bool) (found : Regs) (entry : Option Regs) (done : Done) → number_of exception ≢ 0 → (samples.begun op (number_of exception) trace found entry done).spent.cause ≢ 0
not_begun op exception trace found (Some regs) done other c = other c
not_begun op exception trace found None done other c = cc

begun_bounded : (op : Op) (exception : Exception) (trace : Bool) (found regs : Regs) (memory : Memory) (before : Done) (first : Result (Option Regs × Done) Stop) → entries.enter exception regs memory before ≡ first → before.used ≤ 4 → before.used ≤ length memory.answers → number_of exception ≢ 0 → IsBounded op memory (begun_by op (number_of exception) trace found first)
begun_bounded op exception trace found regs memory before (Ok x) is few in_range other =
    let r = (enter exception regs).value memory before x.0 x.1 is in_range in
    let spent = begun_spent op exception trace found x.0 x.1 before.used few other r.0 in
    let same = op_of op (number_of exception) trace found x.0 x.1 in
    (same, subst (λ o. IsSpent o (samples.begun op (number_of exception) trace found x.0 x.1).spent) (sym same) spent, λ c. absurd (not_begun op exception trace found x.0 x.1 other c))
begun_bounded op exception trace found regs memory before (Err (Ask request)) is few in_range other =
    let r = (enter exception regs).asks memory before request is in_range in
    let p = pushes_most exception in
    omega (arith, r, p, few)
begun_bounded op exception trace found regs memory before (Err (Odd address read used)) is few in_range other =
    absurd (subst NotOdd is (enter_even exception regs memory before))

take_exception : (op : Op) (exception : Exception) (trace : Bool) (found regs : Regs) (memory : Memory) (before : Done) → before.used ≤ 4 → before.used ≤ length memory.answers → number_of exception ≢ 0 → IsBounded op memory (samples.take_exception op exception trace found regs memory before)
unfolding samples.take_exception
take_exception op exception trace found regs memory before few in_range other =
    begun_bounded op exception trace found regs memory before (entries.enter exception regs memory before) refl few in_range other

choice : (op : Op) (memory : Memory) (b : Bool) (x y : Result Ended Stop) → (b ≡ true → IsBounded op memory x) → (b ≡ false → IsBounded op memory y) → IsBounded op memory (if b then x else y)
choice op memory true x y h k = h refl
choice op memory false x y h k = k refl

-- an instruction
finished_spent : (op : Op) (start : ℕ) (found regs : Regs) (memory : Memory) (x : Outcome) (after : Done) → execution.row op start regs memory nothing ≡ Ok (x, after) → IsSpent op (finished op found x after).spent
finished_spent op start found regs memory x after is =
    let own = (row op start regs).value memory nothing x after is (omega arith) in
    let most = (row32 op start regs).value memory nothing x after is (omega arith) in record {
      most = omega (arith, most.0);
      own = λ c. omega (arith, own.0);
      counted = λ c. counts_list op start regs memory nothing x after is;
      address_error = λ c. absurd (cc);
      exception = λ c d. absurd (c refl);
    }

ended_by : (op : Op) (start : ℕ) (found regs : Regs) (memory : Memory) (x : Outcome) (after : Done) → execution.row op start regs memory nothing ≡ Ok (x, after) → IsBounded op memory (samples.ended_by op found x memory after)
unfolding samples.ended_by
ended_by op start found regs memory x after is =
    choice op memory (x.vector == 0) _ _ (λ c. (refl, finished_spent op start found regs memory x after is, λ none. record { start = start; regs = regs; outcome = x; after = after; is = is; same = refl }))
    (λ c. (let other = eqb-false x.vector 0 c in
    let few = (early op start regs).caused memory nothing x after is other (omega arith) in
    let there = (row op start regs).value memory nothing x after is (omega arith) in
    take_exception op (Numbered x.vector) (leaves_trace found x.vector) found x.regs memory after (omega (arith, few)) there.1 other))

answered : (op : Op) (start first : ℕ) (found regs : Regs) (memory : Memory) (result : Result (Outcome × Done) Stop) → execution.row op start regs memory nothing ≡ result → IsBounded op memory (samples.answered_by op first found memory result)
answered op start first found regs memory (Ok x) is = ended_by op start found regs memory x.0 x.1 is
answered op start first found regs memory (Err (Ask request)) is =
    let r = (row32 op start regs).asks memory nothing request is (omega arith) in omega (arith, r)
answered op start first found regs memory (Err (Odd address read used)) is =
    let few = (early op start regs).odd memory nothing address read used is (omega arith) in
    let there = (row op start regs).odd memory nothing address read used is (omega arith) in
    take_exception op (AddressError first address read) false found found memory (record { used = used; writes = [] }) (omega (arith, few)) there.1 (λ z. absurd (cc))

instruction : (word : Decoded) (first : ℕ) (regs : Regs) (memory : Memory) → IsBounded word.op memory (samples.instruction word first regs memory)
unfolding samples.instruction
instruction word first regs memory =
    choice word.op memory (is_odd regs.pc) _ _
    (λ c. take_exception word.op (AddressError first regs.pc true) false regs regs memory nothing (omega arith) (omega arith) (λ z. absurd (cc)))
    (λ c. answered word.op regs.pc first regs _ memory _ refl)

acknowledged : (level : ℕ) (op : Op) (regs : Regs) (memory : Memory) (result : Result (ℕ × Done) Stop) → actions.asked (Ack level) memory nothing ≡ result → IsBounded op memory (samples.acknowledged level op regs memory result)
acknowledged level op regs memory (Ok x) is =
    let r = (asked (Ack level)).value memory nothing x.0 x.1 is (omega arith) in
    take_exception op (Interrupt level) false regs regs memory x.1 (omega (arith, r.0)) r.1 (λ z. omega (arith, z))
acknowledged level op regs memory (Err (Ask request)) is =
    let r = (asked (Ack level)).asks memory nothing request is (omega arith) in omega (arith, r)
acknowledged level op regs memory (Err (Odd address read used)) is =
    absurd (subst NotOdd is (asked_even (Ack level) memory nothing))

interrupt : (level : ℕ) (op : Op) (regs : Regs) (memory : Memory) → IsBounded op memory (samples.interrupt level op regs memory)
unfolding samples.interrupt
interrupt level op regs memory = acknowledged level op regs memory (actions.asked (Ack level) memory nothing) refl

trace : (op : Op) (regs : Regs) (memory : Memory) → IsBounded op memory (samples.trace op regs memory)
unfolding samples.trace
trace op regs memory = take_exception op (Numbered 9) false regs regs memory nothing (omega arith) (omega arith) (λ z. absurd (cc))

pub bounded : (cause : ℕ) (regs : Regs) (memory : Memory) → IsBounded (named regs memory) memory (samples.sampled cause regs memory)
unfolding samples.sampled
bounded cause regs memory =
    choice _ memory (cause == 0) _ _ (λ c. instruction _ _ regs memory)
    (λ c. choice _ memory (nat_lt cause 8) _ _ (λ d. interrupt cause _ regs memory) (λ d. trace _ regs memory))

-- the same, clause by clause
pub names : (cause : ℕ) (regs : Regs) (memory : Memory) (ended : Ended) → samples.sampled cause regs memory ≡ Ok ended → ended.op ≡ named regs memory
names cause regs memory ended e = (subst (IsBounded (named regs memory) memory) e (bounded cause regs memory)).0

pub spends : (cause : ℕ) (regs : Regs) (memory : Memory) (ended : Ended) → samples.sampled cause regs memory ≡ Ok ended → IsSpent ended.op ended.spent
spends cause regs memory ended e = (subst (IsBounded (named regs memory) memory) e (bounded cause regs memory)).1

pub sampled_from_row : (cause : ℕ) (regs : Regs) (memory : Memory) (ended : Ended) → samples.sampled cause regs memory ≡ Ok ended → ended.spent.cause ≡ 0 → FromRow (named regs memory) memory ended.spent.count
sampled_from_row cause regs memory ended e = (subst (IsBounded (named regs memory) memory) e (bounded cause regs memory)).2

pub waits : (cause : ℕ) (regs : Regs) (memory : Memory) (request : Request68) → samples.sampled cause regs memory ≡ Err (Ask request) → length memory.answers < 32
waits cause regs memory request e = subst (IsBounded (named regs memory) memory) e (bounded cause regs memory)

pub never_odd : (cause : ℕ) (regs : Regs) (memory : Memory) (address : ℕ) (read : Bool) (used : ℕ) → samples.sampled cause regs memory ≡ Err (Odd address read used) → ⊥
never_odd cause regs memory address read used e = subst (IsBounded (named regs memory) memory) e (bounded cause regs memory)
