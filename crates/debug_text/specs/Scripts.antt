-- Scripts: lines that are obeyed one after another, up to the first that is refused. This project's profile.
use Rattle.std.specs.Prelude.{◌≡◌, ℕ, ◌+◌, List, [], ◌∷◌, ◌++◌, length, Option, Some, None}
use Rattle.debug_text.specs.declared.outcome.ScriptOutcome.{ScriptOutcome}
use Rattle.debug_text.specs.declared.outcome.ScriptOutcome.TheVariants.{OutOfMemory, Refused}

-- by what obeying a line makes of a state
module _ {State : Type 0} (obeys : List ℕ → State → State → Type 0) where
  -- all lines were obeyed, one after another
  unfoldable pub ObeysAll : List (List ℕ) → State → State → Type 0
  ObeysAll [] old new = new ≡ old
  ObeysAll (line ∷ lines) old new = (mid : State) × obeys line old mid × ObeysAll lines mid new

  -- the first lines were obeyed
  pub record ObeysFirst (lines before after : List (List ℕ)) (old new : State) : Type 0 where
    pub parts : lines ≡ before ++ after
    pub obeyed : ObeysAll before old new

  -- some of the first lines were obeyed
  abbrev pub ObeysSome : List (List ℕ) → State → State → Type 0
  ObeysSome lines old new = (before : List (List ℕ)) × (after : List (List ℕ)) × ObeysFirst lines before after old new

  -- the line of a number, from 1 on, is the first that is refused, and those before it were obeyed
  abbrev pub RefusesLine : (State → List ℕ → Type 0) → List (List ℕ) → State → State → ℕ → Type 0
  RefusesLine refuses lines old new number =
      (before : List (List ℕ)) × (line : List ℕ) × (after : List (List ℕ)) × ObeysFirst lines before (line ∷ after) old new
      × (number ≡ length before + 1) × refuses new line

-- the outcome of a script at a line that is not obeyed: it is refused with a fault, or memory ran out
abbrev pub script_outcome_at : {Fault : Type 0} → ℕ → Option Fault → ScriptOutcome Fault
script_outcome_at number (Some fault) = Refused number fault
script_outcome_at number None = OutOfMemory
