-- Instructions that make no shared access, or one write: what they result in depends on the registers and on RAM
-- alone.
-- Zilog UM0080, "CPU Timing".
use Rattle.std.specs.Prelude.{ℕ, ◌≡◌, Bool, true, false, List, [], Option, Some, None, Result, Ok, Err}
use Rattle.md_word.specs.Answers.{Done}
use Rattle.md_word.specs.declared.sub_bus.Request80.{Request80}
use Rattle.z80_decode.specs.declared.place8.Place8.{Place8}
use Rattle.z80_parcel.specs.Parcels.{Store, written}
use Rattle.z80_exec.specs.Access.Actions.{Act}
use Rattle.z80_exec.specs.Access.Clauses.{request_of}
use Rattle.z80_exec.specs.Access.Memory.{Memory, is_shared_write}
use Rattle.z80_exec.specs.Access.Operands.{Popped, address_of}
use Rattle.z80_exec.specs.Access.Outcomes.{Outcome, outcome_of, plain}
use Rattle.z80_exec.specs.Sample.Prediction.{EndsPredicted, all_answered, answered_with}
use Rattle.z80_exec.specs.Sample.Samples.{Ended, nothing, reported_by}
use Rattle.z80_exec.specs.declared.regs80.Regs80.{Regs80}
use Rattle.z80_exec.specs.declared.access.waiting.Waiting.{Waiting}
use Rattle.z80_exec.specs.declared.sample.step.Finish80.{Finish80}
use Rattle.z80_exec.specs.declared.sample.step.Predicted80.{Predicted80}
use Rattle.z80_exec.specs.declared.sample.step.Step80.{Step80}
use Rattle.z80_exec.specs.declared.sample.step.Step80.TheVariants as steps

-- no answer is taken, and these bytes are written
abbrev pub wrote : List (ℕ × ℕ) → Done
wrote writes = record { used = 0; writes = writes }

-- in each memory of this RAM an action gives this, and its writes leave RAM and bank register so
pub record IsPrivate {A : Type 0} (act : Act A) (value : A) (before after : Store) : Type 0 where
  pub writes : List (ℕ × ℕ)
  pub gives : (memory : Memory) → memory.ram ≡ before.ram → act memory nothing ≡ Ok (value, wrote writes)
  pub left : after ≡ written writes before

-- in each memory of this RAM an action gives this, and does nothing
abbrev pub Reads : {A : Type 0} → Act A → A → Store → Type 0
Reads act value store = (memory : Memory) → memory.ram ≡ store.ram → act memory nothing ≡ Ok (value, nothing)

-- an operand that is found is what the action reads
abbrev pub Finds : {A : Type 0} → Option A → Act A → Store → Type 0
Finds (Some value) act store = Reads act value store
Finds None act store = Unit {0}

-- a word that is popped; else the registers stay
abbrev pub FindsPopped : Option ℕ → Act Popped → Regs80 → Regs80 → Store → Type 0
FindsPopped (Some value) act old new store = Reads act (record { value = value; regs = new }) store
FindsPopped None act old new store = new ≡ old

-- a byte that is written; else RAM and bank register stay
abbrev pub Writes : Bool → Act (Unit {0}) → Store → Store → Type 0
Writes true act before after = IsPrivate act tt before after
Writes false act before after = after ≡ before

-- a byte or a word that is put in its place; else all stays
abbrev pub Puts : Bool → Act Regs80 → Regs80 → Regs80 → Store → Store → Type 0
Puts true act old new before after = IsPrivate act new before after
Puts false act old new before after = (new ≡ old) × (after ≡ before)

-- an instruction that was carried out on the registers alone; else they stay
abbrev pub ChangesRegisters : Option Bool → Act Outcome → Regs80 → Regs80 → Type 0
ChangesRegisters (Some taken) act old new = (memory : Memory) (done : Done) → act memory done ≡ Ok (outcome_of taken new, done)
ChangesRegisters None act old new = new ≡ old

-- an instruction that was carried out; else all stays
abbrev pub CarriesOut : Option Bool → Act Outcome → Regs80 → Regs80 → Store → Store → Type 0
CarriesOut (Some taken) act old new before after = IsPrivate act (outcome_of taken new) before after
CarriesOut None act old new before after = (new ≡ old) × (after ≡ before)

-- in each memory of this RAM a sample ends so, and its writes leave RAM and bank register so
pub record EndsPrivately (sample : Memory → Result Ended Request80) (finish : Finish80) (regs : Regs80) (before after : Store) : Type 0 where
  pub writes : List (ℕ × ℕ)
  pub ends : (memory : Memory) → memory.ram ≡ before.ram → sample memory ≡ reported_by (steps.Done finish) regs (wrote writes)
  pub left : after ≡ written writes before

-- a shared write goes to this address
abbrev pub IsSharedAt : Place8 → ℕ → Regs80 → Type 0
IsSharedAt place at regs = (address_of place regs ≡ Some at) × (is_shared_write at ≡ true)

-- in each memory of this RAM an instruction waits for this access alone, and ends with these registers whatever
-- it is answered
pub record AsksOnce (act : Act Outcome) (waiting : Waiting) (regs : Regs80) (store : Store) : Type 0 where
  pub asks : (memory : Memory) → memory.ram ≡ store.ram → memory.answers ≡ [] → act memory nothing ≡ Err (request_of waiting)
  pub ends : (memory : Memory) → memory.ram ≡ store.ram → memory.answers ≡ [] → (value : ℕ) → act (answered_with value memory) nothing ≡ Ok (plain regs, all_answered memory)

-- in each memory of this RAM a sample waits for this access alone, and results in what is predicted
pub record WaitsPrivately (sample : Memory → Result Ended Request80) (waiting : Waiting) (predicted : Predicted80) (store : Store) : Type 0 where
  pub asks : (memory : Memory) → memory.ram ≡ store.ram → memory.answers ≡ [] → sample memory ≡ Err (request_of waiting)
  pub ends : (memory : Memory) → memory.ram ≡ store.ram → memory.answers ≡ [] → EndsPredicted (steps.Need waiting) predicted sample memory

-- a sample that ended, or waits for its one access; else nothing is said of it. Where it did not end all stays
abbrev pub RunsPrivately : Option Step80 → Predicted80 → (Memory → Result Ended Request80) → Regs80 → Regs80 → Store → Store → Type 0
RunsPrivately (Some (steps.Done finish)) predicted sample old new before after = EndsPrivately sample finish new before after
RunsPrivately (Some (steps.Need waiting)) predicted sample old new before after = WaitsPrivately sample waiting predicted before × (new ≡ old) × (after ≡ before)
RunsPrivately None predicted sample old new before after = (new ≡ old) × (after ≡ before)
