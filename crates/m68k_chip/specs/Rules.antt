-- What holds of every 68000 from power-on on, and of every saved one, beside what holds of each chip. It
-- holds at a cycle that lies above all that has happened. This project's profile.
use Rattle.std.specs.Prelude.{ℕ, ◌+◌, ◌<◌, ◌≤◌, IfSome}
use Rattle.md_fields.specs.Places.{IsBytes}
use Rattle.m68k_chip.specs.States.{State68}
use Rattle.m68k_chip.specs.declared.stage.Stage.{Stage}
use Rattle.m68k_chip.specs.declared.stage.Stage.TheVariants.{Sample, Access, Word}

-- what is carried out at an access began below the cycle
abbrev pub BeganBelow : Stage → ℕ → ℕ → Type 0
BeganBelow Sample at start = Unit {0}
BeganBelow Access at start = start < at
BeganBelow Word at start = Unit {0}

-- the next event comes at most 2^20 cycles from `at` on, and what began or halted it lies below `at`
pub record IsRecent (at : ℕ) (state : State68) : Type 0 where
  pub soon : state.next ≤ at + 0x10_0000
  pub begun : BeganBelow state.stage at state.start
  pub since : IfSome state.halted (λ since. since < at)

-- so it is, and work RAM is bytes
pub record HasRules (at : ℕ) (state : State68) : Type 0 where
  pub ram : IsBytes state.ram
  pub recent : IsRecent at state
