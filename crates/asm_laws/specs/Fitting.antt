-- The numbers of a source that is assembled.
use Rattle.std.specs.Prelude.{◌≡◌, ℕ, true, List, [], ◌∷◌}
use Rattle.md_asm_text.specs.Tokens.{Number, tokens}
use Rattle.text_lines.specs.Lines.{lines_of}
use Rattle.md_asm.specs.Numbers.{Names, resolved}
use Rattle.md_asm.specs.Assembly.{is_instruction}
use Rattle.md_asm.specs.Rounds.{Read, Round, Slot, round_one, start}
use Rattle.md_asm.specs.Forms.{StandsIn}
use Rattle.md_asm.specs.Ranges.{IsInRange}

-- each number of a line that is an instruction, with the value of each name, is in the range of its place
abbrev pub IsFitting : Names → Slot → Type 0
IsFitting names slot =
    is_instruction slot.body ≡ true → (place n : ℕ) → StandsIn (resolved names (tokens slot.text)) place (Number n)
    → IsInRange slot.sub (resolved names (tokens slot.text)) place n

abbrev pub AreFitting : Names → List Slot → Type 0
AreFitting names [] = Unit {0}
AreFitting names (slot ∷ more) = IsFitting names slot × AreFitting names more

-- so it is for each line that has bytes
pub record FitsLines (source : List ℕ) : Type 0 where
  pub round : Round
  pub read : round_one start 1 (lines_of source) ≡ Read round
  pub fitting : AreFitting round.names round.slots
