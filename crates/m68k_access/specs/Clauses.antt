-- What the contracts of actions say.
use Rattle.std.specs.Prelude.{◌≡◌, ◌+◌, ◌≤◌, ℕ, Result, Ok, Err}
use Rattle.arrayvec.specs.ArrayVec.{array_vec_len}
use Rattle.m68k_access.specs.declared.stop.Stop.{Stop}
use Rattle.m68k_access.specs.declared.stop.Stop.TheVariants.{Ask, Odd}
use Rattle.m68k_access.specs.declared.view.Context.{Context}
use Rattle.m68k_access.specs.declared.view.Progress.{Progress}
use Rattle.md_word.specs.Answers.{Done}
use Rattle.m68k_access.specs.Memory.{Memory}
use Rattle.md_word.specs.declared.regs.Regs.{Regs}
use Rattle.m68k_access.specs.Operands.{Operand}
use Rattle.m68k_access.specs.Outcomes.{Outcome, outcome_of}
use Rattle.m68k_access.specs.declared.outcome.Outcome as reported

-- the memory that a call is given: the image, work RAM before the instruction, the answers
abbrev pub memory_of : Context → Memory
memory_of context = record { rom = context.rom.now; ram = context.ram.now; answers = context.answers.now }

-- what a call has done so far: the answers taken, and the bytes written
abbrev pub done_of : Progress → Done
done_of progress = record { used = progress.used; writes = progress.writes.items }

-- a call gave what the action means: the value with what was done then, or the stop
abbrev pub Meets : {A : Type 0} → Result A Stop → Done → Result (A × Done) Stop → Type 0
Meets (Ok x) after meaning = meaning ≡ Ok (x, after)
Meets (Err stop) after meaning = meaning ≡ Err stop

-- the same of calls that change the registers in place: what they left counts where they end well
abbrev pub Leaves : Result (Unit {0}) Stop → Regs → Done → Result (Regs × Done) Stop → Type 0
Leaves (Ok x) regs after meaning = meaning ≡ Ok (regs, after)
Leaves (Err stop) regs after meaning = meaning ≡ Err stop

-- the same of calls that give an operand, and leave the registers as its mode steps them
abbrev pub Loads : Result ℕ Stop → Regs → Done → Result (Operand × Done) Stop → Type 0
Loads (Ok x) regs after meaning = meaning ≡ Ok (record { value = x; regs = regs }, after)
Loads (Err stop) regs after meaning = meaning ≡ Err stop

-- the same of a whole instruction, which gives what there is to report beside the registers
abbrev pub Ends : Result reported.Outcome Stop → Regs → Done → Result (Outcome × Done) Stop → Type 0
Ends (Ok x) regs after meaning = meaning ≡ Ok (outcome_of x regs, after)
Ends (Err stop) regs after meaning = meaning ≡ Err stop

-- at most so many answers are taken, and at most so many bytes written
pub record SpendsAtMost (old new : Progress) (answers bytes : ℕ) : Type 0 where
  pub used : new.used ≤ old.used + answers
  pub written : array_vec_len new.writes ≤ array_vec_len old.writes + bytes

-- there is no address error
abbrev pub NotOdd : {A : Type 0} → Result A Stop → Type 0
NotOdd (Ok x) = Unit {0}
NotOdd (Err (Ask request)) = Unit {0}
NotOdd (Err (Odd address read used)) = ⊥
