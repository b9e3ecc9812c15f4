-- The plan by which a store or a stream in memory fails.
use Rattle.std.specs.Prelude.{ℕ, ◌+◌, ◌-◌, ◌^◌, min, List, Contains}
use Rattle.md_outer.specs.declared.calls.Calls.{Calls}

-- the calls with these numbers, counted from 0, are to fail, and so many have been made
pub record CallPlan : Type 0 where
  pub bad : List ℕ
  pub made : ℕ

-- the plan of the calls of one kind
abbrev pub calls_of : Calls → CallPlan
calls_of calls = record { bad = calls.bad.items; made = calls.made }

-- the next call is to fail
abbrev pub IsBad : CallPlan → Type 0
IsBad plan = Contains plan.bad plan.made

-- the plan after one more call; the count stops at its end
abbrev pub one_more : CallPlan → CallPlan
one_more plan = record plan { made = min (plan.made + 1) (2 ^ 64 - 1) }
