-- What an instruction results in.
use Rattle.std.specs.Prelude.{Bool, true, false}
use Rattle.z80_exec.specs.declared.regs80.Regs80.{Regs80}

-- the registers after it, and whether it took the longer of two times: a jump, a call or a return was
-- taken, or a block instruction continues
pub record Outcome : Type 0 where
  pub regs : Regs80
  pub taken : Bool

-- what a call answered, with the registers that it left
abbrev pub outcome_of : Bool → Regs80 → Outcome
outcome_of taken regs = record { regs = regs; taken = taken }

-- an instruction of one time, or the shorter of two
abbrev pub plain : Regs80 → Outcome
plain regs = outcome_of false regs

-- the longer of two times
abbrev pub taken : Regs80 → Outcome
taken regs = outcome_of true regs
