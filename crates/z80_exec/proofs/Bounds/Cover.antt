-- The clocks of an instruction cover its accesses: four for the fetch, and three for each.
use Rattle.std.proofs.Common.{◌≡◌, ℕ, ◌+◌, ◌*◌, ◌≤◌, Bool, true, false, length, Result, Ok, Err, refl, ap, sym, subst, arith}
use Rattle.std.specs.Prelude.{if◌then◌else◌}
use Rattle.md_word.specs.Answers.{Done}
use Rattle.md_word.specs.declared.sub_bus.Request80.{Request80}
use Rattle.z80_decode.specs.declared.condition.Condition.{Condition}
use Rattle.z80_decode.specs.declared.index.Index.TheVariants as indexes
use Rattle.z80_decode.specs.declared.index.Index.{Index}
use Rattle.z80_decode.specs.declared.op80.Op80.TheVariants as ops
use Rattle.z80_decode.specs.declared.op80.Op80.{Op80}
use Rattle.z80_decode.specs.declared.pair.Pair.TheVariants as pairs
use Rattle.z80_decode.specs.declared.pair.Pair.{Pair}
use Rattle.z80_exec.proofs.Bounds.Accesses.{Sound}
use Rattle.z80_exec.proofs.Bounds.Rows as rows
use Rattle.z80_exec.proofs.Bounds.Rows.{accesses_of, touches, touches_few}
use Rattle.z80_exec.specs.Access.Actions as actions
use Rattle.z80_exec.specs.Access.Actions.{Act, ◌>>=◌, go_on}
use Rattle.z80_exec.specs.Access.Conditions.{holds}
use Rattle.z80_exec.specs.Access.Memory.{Memory}
use Rattle.z80_exec.specs.Access.Operands.{pop, push}
use Rattle.z80_exec.specs.Access.Outcomes.{Outcome}
use Rattle.z80_exec.specs.Access.Parts.{f_of}
use Rattle.z80_exec.specs.Rows.Calls as calls
use Rattle.z80_exec.specs.Sample.Execution as execution
use Rattle.z80_exec.specs.Sample.Times as times
use Rattle.z80_exec.specs.Sample.Times.{either, kind_of, time_of}
use Rattle.z80_exec.specs.declared.regs80.Regs80.{Regs80}
use Rattle.z80_exec.specs.declared.sample.times.Kind.TheVariants.{Register, Half, Indirect, Displaced, Absolute, Immediate}
use Rattle.z80_exec.specs.declared.sample.times.Kind.{Kind}

-- its clocks cover the answers that it takes
pub record IsCovered (op : Op80) (act : Act Outcome) : Type 0 where
  pub value : (memory : Memory) (before : Done) (x : Outcome) (after : Done) → act memory before ≡ Ok (x, after) → before.used ≤ length memory.answers → 4 + 3 * after.used ≤ time_of op x.taken + 3 * before.used

-- where they do, whichever of two times it takes
timed : (op : Op80) (most : ℕ) (act : Act Outcome) → Sound most act → ((taken : Bool) → 4 + 3 * most ≤ time_of op taken) → IsCovered op act
timed op most act h k = record {
  value = λ memory before x after e in_range. (let r = h.value memory before x after e in_range in let time = k x.taken in omega (arith, r.0, time));
}

-- a time is at least the lesser of two, and at most the greater
least : (taken : Bool) (n longer shorter : ℕ) → n ≤ longer → n ≤ shorter → n ≤ either taken longer shorter
least true n longer shorter h k = h
least false n longer shorter h k = k

most : (taken : Bool) (n longer shorter : ℕ) → longer ≤ n → shorter ≤ n → either taken longer shorter ≤ n
most true n longer shorter h k = h
most false n longer shorter h k = k

-- by the kinds of places
load_least : (target source : Kind) → 4 + 3 * (touches source + touches target) ≤ times.load_time target source
unfolding times.load_time
load_least Register Register = omega arith
load_least Register Immediate = omega arith
load_least Register Indirect = omega arith
load_least Indirect Register = omega arith
load_least Indirect Immediate = omega arith
load_least Register Absolute = omega arith
load_least Absolute Register = omega arith
load_least Half Immediate = omega arith
load_least Displaced Register = omega arith
load_least target source = let few = touches_few source in omega (arith, few)

load_most : (target source : Kind) → times.load_time target source ≤ 23
unfolding times.load_time
load_most Register Register = omega arith
load_most Register Immediate = omega arith
load_most Register Indirect = omega arith
load_most Indirect Register = omega arith
load_most Indirect Immediate = omega arith
load_most Register Absolute = omega arith
load_most Absolute Register = omega arith
load_most Half Immediate = omega arith
load_most Displaced Register = omega arith
load_most target source = omega arith

arithmetic_least : (place : Kind) → 4 + 3 * touches place ≤ times.arithmetic_time place
arithmetic_least Register = omega arith
arithmetic_least place = omega arith

step_least : (place : Kind) → 4 + 3 * (touches place + touches place) ≤ times.step_time place
step_least Register = omega arith
step_least place = omega arith

change_least : (place : Kind) → 4 + 3 * (touches place + touches place) ≤ times.change_time place
change_least Register = omega arith
change_least place = omega arith

test_least : (place : Kind) → 4 + 3 * touches place ≤ times.test_time place
test_least Register = omega arith
test_least place = omega arith

input_least : (place : Kind) → 4 + 3 * touches place ≤ 12
input_least Register = omega arith
input_least place = omega arith

arithmetic_most : (place : Kind) → times.arithmetic_time place ≤ 23
arithmetic_most Register = omega arith
arithmetic_most place = omega arith

step_most : (place : Kind) → times.step_time place ≤ 23
step_most Register = omega arith
step_most place = omega arith

change_most : (place : Kind) → times.change_time place ≤ 23
change_most Register = omega arith
change_most place = omega arith

test_most : (place : Kind) → times.test_time place ≤ 23
test_most Register = omega arith
test_most place = omega arith

-- what the prefixes add
index_most : (index : Index) → times.index_time index ≤ 4
index_most indexes.Hl = omega arith
index_most index = omega arith

pair_most : (pair : Pair) → times.pair_time pair ≤ 4
pair_most pairs.Ix = omega arith
pair_most pair = omega arith

-- what an end reports
outcome_in : Outcome → Result (Outcome × Done) Request80 → Outcome
outcome_in none (Ok x) = x.0
outcome_in none (Err request) = none

used_in : Result (Outcome × Done) Request80 → ℕ
used_in (Ok x) = x.1.used
used_in (Err request) = 0

-- a call and a return are taken
ends_taken : {A : Type 0} (act : Act A) (f : A → Outcome) → ((a : A) → (f a).taken ≡ true) → (memory : Memory) (x : Outcome) (after : Done) (first : Result (A × Done) Request80) → go_on first (λ a mid. actions.give (f a) memory mid) ≡ Ok (x, after) → x.taken ≡ true
unfolding outcome_in
ends_taken act f h memory x after (Ok p) e = let is : f p.0 ≡ x = ap (outcome_in x) e in subst (λ (o : Outcome). o.taken ≡ true) is (h p.0)
ends_taken act f h memory x after (Err stop) e = absurd (cc)

call_taken : (target : ℕ) (regs : Regs80) (memory : Memory) (before : Done) (x : Outcome) (after : Done) → calls.call target regs memory before ≡ Ok (x, after) → x.taken ≡ true
unfolding calls.call
call_taken target regs memory before x after e = ends_taken (push regs.pc regs) _ (λ a. refl) memory x after (push regs.pc regs memory before) e

return_taken : (regs : Regs80) (memory : Memory) (before : Done) (x : Outcome) (after : Done) → calls.return_from regs memory before ≡ Ok (x, after) → x.taken ≡ true
unfolding calls.return_from
return_taken regs memory before x after e = ends_taken (pop regs) _ (λ a. refl) memory x after (pop regs memory before) e

-- where a condition holds the longer time covers two accesses, and else none is made
chosen : (op : Op80) (test : Bool) (act : Act Outcome) (other : Outcome) → Sound 2 act → ((memory : Memory) (before : Done) (x : Outcome) (after : Done) → act memory before ≡ Ok (x, after) → x.taken ≡ true) → 10 ≤ time_of op true → 4 ≤ time_of op other.taken → IsCovered op (λ memory done. if test then act memory done else actions.give other memory done)
unfolding outcome_in used_in
chosen op true act other h taken longer shorter = record {
  value = λ memory before x after e in_range. (let r = h.value memory before x after e in_range in
      let is = taken memory before x after e in
      let time : 10 ≤ time_of op x.taken = subst (λ (t : Bool). 10 ≤ time_of op t) (sym is) longer in
      omega (arith, r.0, time));
}
chosen op false act other h taken longer shorter = record {
  value = λ memory before x after e in_range. (let is : other ≡ x = ap (outcome_in x) e in
      let time : 4 ≤ time_of op x.taken = subst (λ (o : Outcome). 4 ≤ time_of op o.taken) is shorter in
      let used : before.used ≡ after.used = ap used_in e in
      omega (arith, time, used));
}

call_if : (condition : Condition) (target : ℕ) (regs : Regs80) → IsCovered (ops.CallIf condition target) (calls.call_if condition target regs)
unfolding calls.call_if
call_if condition target regs =
    chosen (ops.CallIf condition target) (holds condition (f_of regs)) _ _ (rows.call target regs) (call_taken target regs) (omega arith) (omega arith)

return_if : (condition : Condition) (regs : Regs80) → IsCovered (ops.ReturnIf condition) (calls.return_if condition regs)
unfolding calls.return_if
return_if condition regs =
    chosen (ops.ReturnIf condition) (holds condition (f_of regs)) _ _ (rows.return_from regs) (return_taken regs) (omega arith) (omega arith)

-- of the other instructions both times cover the accesses
pub record IsUsual (op : Op80) : Type 0 where
  pub least : (taken : Bool) → 4 + 3 * accesses_of op ≤ time_of op taken

usual : (op : Op80) → IsUsual op → (regs : Regs80) → IsCovered op (execution.row op regs)
usual op h regs = timed op (accesses_of op) (execution.row op regs) (rows.row op regs) h.least

pub row : (op : Op80) (regs : Regs80) → IsCovered op (execution.row op regs)
row (ops.Load target source) regs = usual (ops.Load target source) (record { least = λ taken. load_least (kind_of target) (kind_of source) }) regs
row (ops.BlockLoad block) regs = usual (ops.BlockLoad block) (record { least = λ taken. least taken _ _ _ (omega arith) (omega arith) }) regs
row (ops.BlockCompare block) regs = usual (ops.BlockCompare block) (record { least = λ taken. least taken _ _ _ (omega arith) (omega arith) }) regs
row (ops.BlockInput block) regs = usual (ops.BlockInput block) (record { least = λ taken. least taken _ _ _ (omega arith) (omega arith) }) regs
row (ops.BlockOutput block) regs = usual (ops.BlockOutput block) (record { least = λ taken. least taken _ _ _ (omega arith) (omega arith) }) regs
row (ops.Arithmetic task place) regs = usual (ops.Arithmetic task place) (record { least = λ taken. arithmetic_least (kind_of place) }) regs
row (ops.Step task place) regs = usual (ops.Step task place) (record { least = λ taken. step_least (kind_of place) }) regs
row (ops.Change task place) regs = usual (ops.Change task place) (record { least = λ taken. change_least (kind_of place) }) regs
row (ops.TestBit bit place) regs = usual (ops.TestBit bit place) (record { least = λ taken. test_least (kind_of place) }) regs
row (ops.Input place) regs = usual (ops.Input place) (record { least = λ taken. input_least (kind_of place) }) regs
row (ops.JumpRelativeIf condition distance) regs = usual (ops.JumpRelativeIf condition distance) (record { least = λ taken. least taken _ _ _ (omega arith) (omega arith) }) regs
row (ops.DecrementAndJump distance) regs = usual (ops.DecrementAndJump distance) (record { least = λ taken. least taken _ _ _ (omega arith) (omega arith) }) regs
row (ops.CallIf condition target) regs = call_if condition target regs
row (ops.ReturnIf condition) regs = return_if condition regs
row op regs = usual op (record { least = λ taken. omega arith }) regs

pub at_most : (op : Op80) (taken : Bool) → time_of op taken ≤ 23
at_most (ops.Load target source) taken = load_most (kind_of target) (kind_of source)
at_most (ops.LoadPair pair value) taken = let more = pair_most pair in omega (arith, more)
at_most (ops.LoadIndex index at) taken = let more = index_most index in omega (arith, more)
at_most (ops.StoreIndex at index) taken = let more = index_most index in omega (arith, more)
at_most (ops.LoadStackPointer index) taken = let more = index_most index in omega (arith, more)
at_most (ops.Push pair) taken = let more = pair_most pair in omega (arith, more)
at_most (ops.Pop pair) taken = let more = pair_most pair in omega (arith, more)
at_most (ops.ExchangeStack index) taken = let more = index_most index in omega (arith, more)
at_most (ops.BlockLoad block) taken = most taken _ _ _ (omega arith) (omega arith)
at_most (ops.BlockCompare block) taken = most taken _ _ _ (omega arith) (omega arith)
at_most (ops.BlockInput block) taken = most taken _ _ _ (omega arith) (omega arith)
at_most (ops.BlockOutput block) taken = most taken _ _ _ (omega arith) (omega arith)
at_most (ops.Arithmetic task place) taken = arithmetic_most (kind_of place)
at_most (ops.Step task place) taken = step_most (kind_of place)
at_most (ops.Change task place) taken = change_most (kind_of place)
at_most (ops.TestBit bit place) taken = test_most (kind_of place)
at_most (ops.AddPair index pair) taken = let more = index_most index in omega (arith, more)
at_most (ops.IncrementPair pair) taken = let more = pair_most pair in omega (arith, more)
at_most (ops.DecrementPair pair) taken = let more = pair_most pair in omega (arith, more)
at_most (ops.JumpRelativeIf condition distance) taken = most taken _ _ _ (omega arith) (omega arith)
at_most (ops.JumpIndex index) taken = let more = index_most index in omega (arith, more)
at_most (ops.DecrementAndJump distance) taken = most taken _ _ _ (omega arith) (omega arith)
at_most (ops.CallIf condition target) taken = most taken _ _ _ (omega arith) (omega arith)
at_most (ops.ReturnIf condition) taken = most taken _ _ _ (omega arith) (omega arith)
at_most op taken = omega arith
