-- The words that are tried for an instruction that is written.
use Rattle.std.specs.Prelude.{ℕ, List, [], ◌∷◌}
use Rattle.asm_m68k.specs.Encoding.{encoded}
use Rattle.md_asm_text.specs.Tokens.{Token}
use Rattle.asm_m68k.specs.Building.{meant}
use Rattle.asm_m68k.specs.Reading.{read_source}

-- the words of the instruction that is read of tokens
abbrev pub tried : List Token → ℕ → List ℕ
tried line_tokens at = encoded (meant (read_source line_tokens) at)

-- one to five words, with words of 0 after them up to five
abbrev pub padded : List ℕ → List ℕ
padded [] = 0 ∷ 0 ∷ 0 ∷ 0 ∷ 0 ∷ []
padded (a ∷ []) = a ∷ 0 ∷ 0 ∷ 0 ∷ 0 ∷ []
padded (a ∷ b ∷ []) = a ∷ b ∷ 0 ∷ 0 ∷ 0 ∷ []
padded (a ∷ b ∷ c ∷ []) = a ∷ b ∷ c ∷ 0 ∷ 0 ∷ []
padded (a ∷ b ∷ c ∷ d ∷ []) = a ∷ b ∷ c ∷ d ∷ 0 ∷ []
padded (a ∷ b ∷ c ∷ d ∷ e ∷ rest) = a ∷ b ∷ c ∷ d ∷ e ∷ []
