-- Reading several items of one state: what is kept, and the least offset at which something fails.
use Rattle.std.specs.Prelude.{◌≡◌, ◌≢◌, ℕ, ◌≤◌, Bool, true, false, List, min, ◌⊎◌, Result, Ok, Err, IfOk}
use Rattle.md_word.specs.declared.unspell.Unspell.{Unspell}
use Rattle.md_word.specs.declared.unspell.Unspell.TheVariants.{Rule, NoMemory}
use Rattle.save_state.specs.declared.layout.Part.{Part}
use Rattle.save_state.specs.Layout.{place_of}

-- the least offset at which something fails
pub record IsLeast (Fails : ℕ → Type 0) (place : ℕ) : Type 0 where
  pub fails : Fails place
  pub least : (p : ℕ) → Fails p → place ≤ p

-- the answer of a reader: the value that is kept, or the least offset at which something fails, or that
-- memory ran out
pub record Reads {T : Type 0} (Keeps : T → Type 0) (Fails : ℕ → Type 0) (answer : Result T Unspell) : Type 0 where
  pub found : IfOk answer Keeps
  pub only : (x : T) → Keeps x → answer ≢ Err NoMemory → answer ≡ Ok x
  pub none : IfOk answer (λ x. (p : ℕ) → Fails p → ⊥)
  pub least : (p : ℕ) → answer ≡ Err (Rule p) → IsLeast Fails p

-- what fails in an item whose bytes are in these parts
abbrev pub FailsIn : List Part → (ℕ → Type 0) → ℕ → Type 0
FailsIn parts Fails place = (p : ℕ) × (place ≡ place_of parts p) × Fails p

-- the answer of an item's reader, with its offsets in the state
abbrev pub placed : {T : Type 0} → List Part → Result T Unspell → Result T Unspell
placed parts (Ok x) = Ok x
placed parts (Err (Rule p)) = Err (Rule (place_of parts p))
placed parts (Err NoMemory) = Err NoMemory

-- the lesser of two offsets, unless memory ran out
abbrev pub lesser : Unspell → Unspell → Unspell
lesser (Rule p) (Rule q) = Rule (min p q)
lesser (Rule p) NoMemory = NoMemory
lesser NoMemory fault = NoMemory

-- two values are kept
abbrev pub KeepsBoth : {A B : Type 0} → (A → Type 0) → (B → Type 0) → A × B → Type 0
KeepsBoth KeepsA KeepsB x = KeepsA x.0 × KeepsB x.1

-- something of two fails
abbrev pub Either : (ℕ → Type 0) → (ℕ → Type 0) → ℕ → Type 0
Either F G p = F p ⊎ G p

-- both values, or the lesser fault
abbrev pub both : {A B : Type 0} → Result A Unspell → Result B Unspell → Result (A × B) Unspell
both (Ok a) (Ok b) = Ok (a, b)
both (Ok a) (Err fault) = Err fault
both (Err fault) (Ok b) = Err fault
both (Err fault) (Err other) = Err (lesser fault other)

-- the answer where a rule holds; else the fault at the lesser offset, unless memory ran out
abbrev pub with_rule : {T : Type 0} → Result T Unspell → Bool → ℕ → Result T Unspell
with_rule answer true place = answer
with_rule (Ok x) false place = Err (Rule place)
with_rule (Err fault) false place = Err (lesser fault (Rule place))
