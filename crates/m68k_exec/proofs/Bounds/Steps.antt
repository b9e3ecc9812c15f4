-- The bounds of rows and samples, as the code meets them.
use Rattle.std.proofs.Common.{◌≡◌, ℕ, ◌≤◌, Bool, length, Ok, Err, ap, subst, sym, arith}
use Rattle.std.specs.Prelude.{◌≢◌}
use Rattle.md_word.specs.declared.regs.Regs.{Regs}
use Rattle.m68k_decode.specs.Ops.{IsOp}
use Rattle.m68k_decode.specs.declared.op.Op.{Op}
use Rattle.md_word.specs.Answers.{Done}
use Rattle.m68k_access.specs.Memory.{Memory}
use Rattle.m68k_access.specs.Outcomes.{Outcome}
use Rattle.m68k_exec.specs.Sample.Execution.{row}
use Rattle.m68k_exec.specs.Sample.Samples.{NamesInstruction, SpendsRightly, WaitsBelow, named, nothing, sampled, reported_by}
use Rattle.m68k_access.specs.declared.stop.Stop.TheVariants.{Odd}
use Rattle.m68k_exec.specs.declared.sample.step.Step.{Step}
use Rattle.m68k_exec.specs.declared.sample.step.Step.TheVariants as steps
use Rattle.m68k_exec.proofs.Bounds.Early.{early, row32}
use Rattle.m68k_exec.proofs.Bounds.Spends.{names, spends, waits}

-- an instruction that has not begun has taken no answer
none_taken : (memory : Memory) (before : Done) → before ≡ nothing → before.used ≤ length memory.answers
none_taken memory before fresh = let none : before.used ≡ 0 = ap (λ (d : Done). d.used) fresh in omega (arith, none)

pub most : (op : Op) (start : ℕ) (regs : Regs) (memory : Memory) (before : Done) → before ≡ nothing → (x : Outcome) (after : Done) → row op start regs memory before ≡ Ok (x, after) → after.used ≤ 32
most op start regs memory before fresh x after e =
    let none : before.used ≡ 0 = ap (λ (d : Done). d.used) fresh in
    let taken = (row32 op start regs).value memory before x after e (none_taken memory before fresh) in
    omega (arith, none, taken.0)

pub ended_within : (op : Op) (start : ℕ) (regs : Regs) (memory : Memory) (before : Done) → before ≡ nothing → (x : Outcome) (after : Done) → row op start regs memory before ≡ Ok (x, after) → x.vector ≢ 0 → after.used ≤ 4
ended_within op start regs memory before fresh x after e other =
    let none : before.used ≡ 0 = ap (λ (d : Done). d.used) fresh in
    let taken = (early op start regs).caused memory before x after e other (none_taken memory before fresh) in
    omega (arith, none, taken)

pub odd : (op : Op) (start : ℕ) (regs : Regs) (memory : Memory) (before : Done) → before ≡ nothing → (address : ℕ) (read : Bool) (used : ℕ) → row op start regs memory before ≡ Err (Odd address read used) → used ≤ 4
odd op start regs memory before fresh address read used e =
    let none : before.used ≡ 0 = ap (λ (d : Done). d.used) fresh in
    let taken = (early op start regs).odd memory before address read used e (none_taken memory before fresh) in
    omega (arith, none, taken)

-- what a step that reports a sample has
pub step_waits_below : (step : Step) (after : Regs) (done : Done) (cause : ℕ) (regs : Regs) (memory : Memory) → reported_by step after done ≡ sampled cause regs memory → WaitsBelow step (length memory.answers) 32
step_waits_below (steps.Need request) after done cause regs memory e = waits cause regs memory request (sym e)
step_waits_below (steps.Done finish) after done cause regs memory e = tt

pub step_spends_rightly : (step : Step) (after : Regs) (done : Done) (cause : ℕ) (regs : Regs) (memory : Memory) → reported_by step after done ≡ sampled cause regs memory → SpendsRightly step
step_spends_rightly (steps.Need request) after done cause regs memory e = tt
step_spends_rightly (steps.Done finish) after done cause regs memory e = spends cause regs memory _ (sym e)

pub step_names_instruction : (step : Step) (after : Regs) (done : Done) (cause : ℕ) (regs : Regs) (memory : Memory) → reported_by step after done ≡ sampled cause regs memory → IsOp (named regs memory) → NamesInstruction step
step_names_instruction (steps.Need request) after done cause regs memory e is = tt
step_names_instruction (steps.Done finish) after done cause regs memory e is = subst IsOp (sym (names cause regs memory _ (sym e))) is
