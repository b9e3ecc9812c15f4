-- What is read of an instruction's tokens. It takes every text for one of the forms that its kinds of
-- tokens allow; what is made of it is compared with the text afterwards.
use Rattle.std.specs.Prelude.{ℕ, false, List, [], ◌∷◌}
use Rattle.md_asm_text.specs.Operands.{operands_of}
use Rattle.md_asm_text.specs.Tokens as tokens
use Rattle.md_asm_text.specs.Tokens.{Token}
use Rattle.asm_z80.specs.Forms.{Form, Nothing, Worded, AtWord, Displaced, Bare, AtNumber}

-- after a word in brackets
abbrev pub based : List ℕ → List Token → Form
based word (p ∷ tokens.Number n ∷ ps) = Displaced word n
based word ps = AtWord word

-- after a bracket
abbrev pub bracketed : List Token → Form
bracketed (tokens.Number n ∷ ps) = AtNumber n
bracketed (tokens.Word word ∷ ps) = based word ps
bracketed ps = Nothing

-- the form of an operand
abbrev pub operand_form : List Token → Form
operand_form [] = Nothing
operand_form (tokens.Word word ∷ ps) = Worded word
operand_form (tokens.Number n ∷ ps) = Bare n
operand_form (p ∷ ps) = bracketed ps

-- an instruction as it is written
pub record Source : Type 0 where
  pub mnemonic : List ℕ
  pub first : Form
  pub second : Form

abbrev pub with_operands : List ℕ → List Token → Source
with_operands mnemonic [] = record { mnemonic = mnemonic; first = Nothing; second = Nothing }
with_operands mnemonic (p ∷ ps) = record { mnemonic = mnemonic; first = operand_form (operands_of false ps).0; second = operand_form (operands_of false ps).1 }

unfoldable pub read_source : List Token → Source
read_source (tokens.Word mnemonic ∷ ps) = with_operands mnemonic ps
read_source _ = with_operands [] []
