-- An iteration: from a read, by instructions that write nothing and make no other access, back to the same read with the
-- same registers. This project's own; no manual speaks of it.
use Rattle.std.specs.Prelude.{◌≡◌, ℕ, ◌+◌, ◌<◌, ◌≤◌, true, false, List, [], Option, None}
use Rattle.md_word.specs.declared.main_bus.Request68.{Request68}
use Rattle.md_word.specs.declared.regs.Regs.{Regs}
use Rattle.m68k_exec.specs.declared.sample.step.Predicted.{Predicted}
use Rattle.m68k_chip.specs.Events.{WentAhead, answered, begun_after, step}
use Rattle.m68k_chip.specs.Held.{IsPredicted, WaitsFor}
use Rattle.m68k_chip.specs.States.{State68, next_of, none_left}
use Rattle.m68k_chip.specs.declared.iteration.Iteration.{Iteration}
use Rattle.m68k_chip.specs.declared.iteration.Place.{Place}
use Rattle.m68k_chip.specs.declared.watched.Watched.{Watched}
use Rattle.m68k_chip.specs.declared.iteration.Place.TheVariants as places
use Rattle.m68k_chip.specs.declared.stage.Stage.TheVariants.{Sample, Access}

-- at the first access of an instruction that began at a cycle
abbrev pub reading : List ℕ → Regs → ℕ → State68
reading ram regs start = record {
  next = start + step;
  stage = Access;
  start = start;
  regs = regs;
  stopped = false;
  trace = false;
  halted = None;
  cause = 0;
  answers = [];
  transfer = none_left;
  ram = ram;
}

-- at a sample at a cycle
abbrev pub sampling : List ℕ → Regs → ℕ → State68
sampling ram regs cycle = record {
  next = cycle;
  stage = Sample;
  start = cycle;
  regs = regs;
  stopped = false;
  trace = false;
  halted = None;
  cause = 0;
  answers = [];
  transfer = none_left;
  ram = ram;
}

-- the cycle of the sample after the answer, when the iteration was gone through
abbrev pub following : Iteration → ℕ
following iteration = iteration.start + iteration.first

-- the answer to the read leads to a sample with these registers
abbrev pub IsAnswered : Iteration → List ℕ → List ℕ → Type 0
IsAnswered iteration cart ram = answered cart (reading ram iteration.from iteration.start) iteration.answer ≡ sampling ram iteration.after (following iteration)

-- so many samples lead from there back to the read; each but the first lies no later than this
pub record IsIteration (iteration : Iteration) (cart ram : List ℕ) : Type 0 where
  pub answered : IsAnswered iteration cart ram
  pub some : 1 ≤ iteration.samples
  pub sample : (k : ℕ) → 1 ≤ k → k < iteration.samples → (next_of (begun_after k cart (sampling ram iteration.after (following iteration)) iteration.level)).sample ≡ true
  pub below : (k : ℕ) → 1 ≤ k → k < iteration.samples → (begun_after k cart (sampling ram iteration.after (following iteration)) iteration.level).next ≤ following iteration + iteration.last
  pub back : begun_after iteration.samples cart (sampling ram iteration.after (following iteration)) iteration.level ≡ reading ram iteration.from (following iteration + iteration.rest)

-- what was seen of samples that led from one state to the other
pub record HasWatched (watched : Watched) (end : ℕ) (cart : List ℕ) (level : ℕ) (before after : State68) : Type 0 where
  pub led : WentAhead watched.samples end cart level before after
  pub latest : (k : ℕ) → 1 ≤ k → k < watched.samples → (begun_after k cart before level).next ≤ watched.latest
  pub quiet : watched.quiet ≡ true → after.ram ≡ before.ram

-- what is known at each place of an iteration
abbrev pub IsOn : Place → Iteration → List ℕ → State68 → Option Request68 → Predicted → Type 0
IsOn places.Away iteration cart state request predicted = Unit {0}
IsOn places.Opened iteration cart state request predicted = IsAnswered iteration cart state.ram × (state ≡ sampling state.ram iteration.after (following iteration))
IsOn places.Learned iteration cart state request predicted = IsIteration iteration cart state.ram
IsOn places.AtRead iteration cart state request predicted =
    IsIteration iteration cart state.ram × (state ≡ reading state.ram iteration.from state.start) × (iteration.start ≤ state.start)
IsOn places.PastRead iteration cart state request predicted =
    IsIteration iteration cart state.ram × (state ≡ sampling state.ram iteration.after state.start) × (following iteration ≤ state.start)
    × WaitsFor Access cart (reading state.ram iteration.from state.start) request × IsPredicted Access cart (reading state.ram iteration.from state.start) predicted

-- an iteration that was put aside is still known
abbrev pub IsAside : Iteration → List ℕ → List ℕ → Type 0
IsAside iteration cart ram = iteration.place ≡ places.Learned → IsIteration iteration cart ram
