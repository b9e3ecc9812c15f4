-- A repetition: from a sample, by instructions that write nothing and make no access, back to the same registers. This
-- project's own; no manual speaks of it.
use Rattle.std.specs.Prelude.{◌≡◌, ℕ, ◌<◌, true, List}
use Rattle.m68k_chip.specs.Events.{SampledOn}
use Rattle.m68k_chip.specs.Iterations.{sampling}
use Rattle.m68k_chip.specs.States.{State68}
use Rattle.m68k_chip.specs.declared.repetition.Mark.{Mark}

-- the samples from a mark on led to this state, with nothing written
abbrev pub IsMarked : Mark → List ℕ → ℕ → State68 → Type 0
IsMarked mark cart level state = mark.kept ≡ true → SampledOn mark.samples state.next cart level (sampling state.ram mark.regs mark.cycle) state
