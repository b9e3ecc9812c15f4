-- A run begins from one start alone.
use Rattle.std.proofs.Common.{◌≡◌, ℕ, ◌≤◌, List, length, Option, Some, None, sym, ◌∙◌, subst}
use Rattle.std.specs.Prelude.{IsSomeAnd}
use Rattle.md_outer.specs.Outside.{Files}
use Rattle.md_pads.specs.Recording.{Recorded, Spells}
use Rattle.md_chips.specs.Starts.{Start}
use Rattle.save_state.specs.Versions.{IsState}
use Rattle.state_laws.specs.Verdicts.{Keeps}
use Rattle.md_args.specs.Words.{Run}
use Rattle.md_top.specs.Inputs.{AreInputs, Records, recording_limit}
use Rattle.md_top.specs.Loads.{Begins, BeginsWith, IsFoundIn}
use Rattle.run_command.specs.declared.inputs.Inputs.{Inputs}

-- no bytes spell two recordings
abbrev SpellOne : Type 0
SpellOne = (bytes : List ℕ) (a b : Recorded) → Spells bytes a → Spells bytes b → a ≡ b

-- and none keep two machines
abbrev KeepOne : Type 0
KeepOne = (cart bytes : List ℕ) (a b : Start) → IsState cart bytes a → IsState cart bytes b → a.console.shared.recording ≡ b.console.shared.recording → a ≡ b

spelled-once : (file : Option (List ℕ)) (a b : Recorded) → SpellOne → IsSomeAnd file (λ bytes. (length bytes ≤ recording_limit) × Spells bytes a)
    → IsSomeAnd file (λ bytes. (length bytes ≤ recording_limit) × Spells bytes b) → a ≡ b
spelled-once None a b spell first second = absurd first
spelled-once (Some bytes) a b spell first second = spell bytes a b first.1 second.1

recorded-once : (name : Option (List ℕ)) (files : Files) (a b : Recorded) → SpellOne → Records name files a → Records name files b → a ≡ b
recorded-once None files a b spell first second = first ∙ sym second
recorded-once (Some name) files a b spell first second = spelled-once (files name) a b spell first second

one_input : (run : Run) (files : Files) (a b : Inputs) → SpellOne → AreInputs run files a → AreInputs run files b → a ≡ b
one_input run files a b spell first second = λ i. record {
  cart = (first.cart ∙ sym second.cart) i;
  recording = recorded-once run.recording files a.recording b.recording spell first.recording second.recording i;
  pal = (first.pal ∙ sym second.pal) i;
}

found-once : (file : Option (List ℕ)) (inputs : Inputs) (a b : Start) → KeepOne → IsFoundIn file inputs (Keeps a) → IsFoundIn file inputs (Keeps b) → a ≡ b
found-once None inputs a b keep first second = absurd first
found-once (Some bytes) inputs a b keep first second = keep inputs.cart bytes a b first.1.0 second.1.0 (first.1.1 ∙ sym second.1.1)

begun-once : (load : Option (List ℕ)) (files : Files) (inputs : Inputs) (a b : Start) → KeepOne → BeginsWith load files inputs a → BeginsWith load files inputs b → a ≡ b
begun-once None files inputs a b keep first second = first ∙ sym second
begun-once (Some name) files inputs a b keep first second = found-once (files name) inputs a b keep first second

pub one_start : SpellOne → KeepOne → (run : Run) (files : Files) (a b : Start) → Begins run files a → Begins run files b → a ≡ b
one_start spell keep run files a b first second =
    let same : second.inputs ≡ first.inputs = one_input run files second.inputs first.inputs spell second.are first.are in
    begun-once run.load files first.inputs a b keep first.with (subst (λ (inputs : Inputs). BeginsWith run.load files inputs b) same second.with)
