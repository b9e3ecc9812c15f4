-- A depot in memory: what is observable of it, and its plan.
use Rattle.std.specs.Prelude.{◌≡◌, ℕ, List, Some, IsSome, slice_get}
use Rattle.md_outer.specs.Begun.{begun_names, files_of}
use Rattle.md_outer.specs.Calls.{CallPlan, calls_of}
use Rattle.md_outer.specs.Listed.{listed_files}
use Rattle.md_outer.specs.Numbers.{over}
use Rattle.md_outer.specs.Outside.{DepotState}
use Rattle.md_outer.specs.declared.mem_depot.MemDepot.{MemDepot}

-- a begun file hides a given one of its name
abbrev pub depot_state_of : MemDepot → DepotState
depot_state_of depot = record {
  files = over (files_of depot.begun) (listed_files depot.given.items);
  begun = λ number. slice_get (begun_names depot.begun) number;
  read_faults = depot.read_faults;
  write_faults = depot.write_faults;
}

-- each begun file holds at most so many bytes; these fetches fail, and these begins and appends
pub record DepotPlan : Type 0 where
  pub room : ℕ
  pub reads : CallPlan
  pub writes : CallPlan

-- the plan of a depot
abbrev pub depot_plan_of : MemDepot → DepotPlan
depot_plan_of depot = record { room = depot.begun.room; reads = calls_of depot.reads; writes = calls_of depot.writes }

-- eight files are begun, and none of this name
pub record IsNinth (depot : DepotState) (name : List ℕ) : Type 0 where
  pub full : IsSome (depot.begun 7)
  pub new : (number : ℕ) → depot.begun number ≡ Some name → ⊥
