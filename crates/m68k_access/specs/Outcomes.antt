-- The outcome of an instruction.
use Rattle.std.specs.Prelude.{ℕ, Bool, false}
use Rattle.md_word.specs.declared.regs.Regs.{Regs}
use Rattle.m68k_access.specs.declared.outcome.Outcome as reported

-- the registers after it, and what else there is to report; of one that ends in an exception the
-- registers with the program counter that it saves
pub record Outcome : Type 0 where
  pub regs : Regs
  pub taken : Bool
  pub expired : Bool
  pub count : ℕ
  pub vector : ℕ
  pub stopped : Bool

-- what a call reported, with the registers that it left
abbrev pub outcome_of : reported.Outcome → Regs → Outcome
outcome_of reported regs = record { regs = regs; taken = reported.taken; expired = reported.expired; count = reported.count; vector = reported.vector; stopped = reported.stopped }

-- nothing to report: no branch taken, no loop ended, none moved, no exception, no stop
abbrev pub reported_nothing : reported.Outcome
reported_nothing = record { taken = false; expired = false; count = 0; vector = 0; stopped = false }

-- an instruction that ends in the exception of this vector
abbrev pub ended_in : ℕ → reported.Outcome
ended_in vector = record reported_nothing { vector = vector }

-- the registers, and nothing else to report
abbrev pub plain : Regs → Outcome
plain regs =
    record { regs = regs; taken = false; expired = false; count = 0; vector = 0; stopped = false }
