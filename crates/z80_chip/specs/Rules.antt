-- What holds of every Z80 from power-on on, and of every saved one, beside what holds of each chip. It
-- holds at a cycle that lies above all that has happened. This project's profile.
use Rattle.std.specs.Prelude.{◌≡◌, ℕ, ◌+◌, ◌<◌, ◌≤◌, true, false, List, length, slice_index, is_some}
use Rattle.z80_chip.specs.Saved.{is_answer, need_after}
use Rattle.z80_chip.specs.States.{State80}
use Rattle.z80_chip.specs.declared.stage.Stage.{Stage}
use Rattle.z80_chip.specs.declared.stage.Stage.TheVariants.{Sample, Access, Yield, Take}

-- what is carried out at an access began below the cycle
abbrev pub BeganBelow : Stage → ℕ → ℕ → Type 0
BeganBelow Sample at start = Unit {0}
BeganBelow Access at start = start < at
BeganBelow Yield at start = Unit {0}
BeganBelow Take at start = Unit {0}

-- the next event comes at most 2^20 cycles from `at` on, and what began lies below `at`
pub record IsRecent (at : ℕ) (state : State80) : Type 0 where
  pub soon : state.next ≤ at + 0x10_0000
  pub begun : BeganBelow state.stage at state.start

-- at an access and a yield the Z80 has its RAM, at a take it has none
abbrev pub FitsHolder : Stage → State80 → Type 0
FitsHolder Sample state = Unit {0}
FitsHolder Access state = is_some state.store ≡ true
FitsHolder Yield state = is_some state.store ≡ true
FitsHolder Take state = is_some state.store ≡ false

-- each answer so far is one to the access that waited for it
abbrev pub AreFit : List ℕ → State80 → Type 0
AreFit cart state = (k : ℕ) → k < length state.answers → is_answer (need_after cart state k) (slice_index state.answers k) ≡ true

-- all of these
pub record HasRules (cart : List ℕ) (at : ℕ) (state : State80) : Type 0 where
  pub recent : IsRecent at state
  pub cause : state.cause ≤ 1
  pub holder : FitsHolder state.stage state
  pub fit : AreFit cart state
