-- What a step of the processor reports to the chip.
use Rattle.std.specs.Prelude.{◌≡◌, ℕ, false, List, [], Option, Some, None, Result, Ok, Err}
use Rattle.md_word.specs.declared.main_bus.Request68.{Request68}
use Rattle.md_word.specs.declared.regs.Regs.{Regs}
use Rattle.m68k_exec.specs.Sample.Samples.{Ended}
use Rattle.m68k_access.specs.declared.stop.Stop.{Stop}
use Rattle.m68k_access.specs.declared.stop.Stop.TheVariants.{Ask, Odd}
use Rattle.m68k_exec.specs.declared.sample.step.Finish.{Finish}
use Rattle.m68k_exec.specs.declared.sample.step.Predicted.{Predicted}
use Rattle.m68k_chip.specs.Held.{PredictsEnd}
use Rattle.m68k_chip.specs.States.{State68}

-- what a finish reports, with the registers and the bytes written then
abbrev pub ended_by : Finish → Regs → List (ℕ × ℕ) → Ended
ended_by finish regs writes = record {
  op = finish.op;
  regs = regs;
  writes = writes;
  spent = finish.spent;
  stopped = finish.stopped;
  halted = finish.halted;
  trace = finish.trace;
}

-- after an instruction that neither stopped nor halted the processor, nor left a trace pending
abbrev pub running : State68 → State68
running state = record state { stopped = false; trace = false; halted = None; cause = 0; answers = [] }

-- the request that waits, where one does
abbrev pub IsReported : Result Ended Stop → Option Request68 → Type 0
IsReported (Ok ended) request = Unit {0}
IsReported (Err (Ask asked)) request = request ≡ Some asked
IsReported (Err (Odd address read used)) request = Unit {0}

-- what is predicted, where a request waits
abbrev pub IsPredictedEnd : Result Ended Stop → Predicted → List ℕ → State68 → ℕ → List ℕ → Type 0
IsPredictedEnd (Ok ended) predicted cart state cause answers = Unit {0}
IsPredictedEnd (Err (Ask asked)) predicted cart state cause answers = PredictsEnd predicted cart state cause answers
IsPredictedEnd (Err (Odd address read used)) predicted cart state cause answers = Unit {0}
