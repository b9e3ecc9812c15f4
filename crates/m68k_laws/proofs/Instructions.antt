-- An instruction that has done nothing yet follows its footprint.
use Rattle.std.proofs.Common.{◌≡◌, ℕ, Bool, List, length, Result, Ok, Err, subst, arith}
use Rattle.md_word.specs.declared.main_bus.Request68.{Request68}
use Rattle.md_word.specs.declared.regs.Regs.{Regs}
use Rattle.m68k_decode.specs.declared.op.Op.{Op}
use Rattle.md_word.specs.Answers.{Done}
use Rattle.m68k_access.specs.Memory.{Memory}
use Rattle.m68k_access.specs.Outcomes.{Outcome}
use Rattle.m68k_exec.specs.Sample.Execution as execution
use Rattle.m68k_exec.specs.Sample.Samples.{nothing}
use Rattle.m68k_access.specs.declared.stop.Stop.{Stop}
use Rattle.m68k_access.specs.declared.stop.Stop.TheVariants.{Ask, Odd}
use Rattle.m68k_laws.proofs.Decoding.{decoded_words}
use Rattle.m68k_laws.proofs.Follows.{AsksAlong, EndsAlong, FaultsAlong, GoesAlong}
use Rattle.m68k_laws.proofs.Rows.{row}
use Rattle.m68k_laws.specs.Accesses.{Access, words}
use Rattle.m68k_laws.specs.Footprints.{MovesWords, footprint}
use Rattle.m68k_laws.specs.Laws.{FaultsAt, InstructionsFollowFootprints, IsComplete, WaitsAt}

-- counted from the start
pub waited : (list : List Access) (count : ℕ) (request : Request68) → AsksAlong list count 0 request → WaitsAt list count request
waited list count request h =
    let whole : h.taken ≡ count = omega (arith, h.used) in subst (λ taken. WaitsAt list taken request) whole h.waits

pub completed : (list : List Access) (count after : ℕ) → EndsAlong list count 0 after → IsComplete list after
completed list count after h =
    let whole : h.taken ≡ after = omega (arith, h.used) in subst (λ taken. IsComplete list taken) whole h.completes

pub faulted : (list : List Access) (count after address : ℕ) (read : Bool) → FaultsAlong list count 0 after address read → FaultsAt list after address read
faulted list count after address read h =
    let whole : h.taken ≡ after = omega (arith, h.used) in subst (λ taken. FaultsAt list taken address read) whole h.faults

-- the result of a row
pub row_along : (op : Op) (start : ℕ) (regs : Regs) (memory : Memory) → MovesWords op → GoesAlong (words (footprint op start regs)) (length memory.answers) 0 (execution.row op start regs memory nothing)
row_along op start regs memory moves = (row op start regs moves).along memory nothing (omega arith)

found : (op : Op) (start : ℕ) (regs : Regs) (memory : Memory) (result : Result (Outcome × Done) Stop) → MovesWords op → execution.row op start regs memory nothing ≡ result → GoesAlong (words (footprint op start regs)) (length memory.answers) 0 result
found op start regs memory result moves e =
    subst (λ result. GoesAlong (words (footprint op start regs)) (length memory.answers) 0 result) e (row_along op start regs memory moves)

pub instructions : InstructionsFollowFootprints
instructions = record {
  decodes = decoded_words;
  waits = λ op start regs memory request moves e. waited _ _ request (found op start regs memory (Err (Ask request)) moves e);
  completes = λ op start regs memory outcome after moves e. completed _ (length memory.answers) _ (found op start regs memory (Ok (outcome, after)) moves e);
  faults = λ op start regs memory address read used moves e. faulted _ (length memory.answers) _ address read (found op start regs memory (Err (Odd address read used)) moves e);
}
