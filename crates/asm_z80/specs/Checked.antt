-- The bytes that are tried for an instruction that is written.
use Rattle.std.specs.Prelude.{ℕ, List, [], ◌∷◌}
use Rattle.md_asm_text.specs.Tokens.{Token}
use Rattle.asm_z80.specs.Encoding80.{encoded}
use Rattle.asm_z80.specs.Building.{meant}
use Rattle.asm_z80.specs.Reading.{read_source}

-- the bytes of the instruction that is read of tokens
abbrev pub tried : List Token → ℕ → List ℕ
tried line_tokens at = encoded (meant (read_source line_tokens) at)

-- one to four bytes, with bytes of 0 after them up to four
abbrev pub padded : List ℕ → List ℕ
padded [] = 0 ∷ 0 ∷ 0 ∷ 0 ∷ []
padded (a ∷ []) = a ∷ 0 ∷ 0 ∷ 0 ∷ []
padded (a ∷ b ∷ []) = a ∷ b ∷ 0 ∷ 0 ∷ []
padded (a ∷ b ∷ c ∷ []) = a ∷ b ∷ c ∷ 0 ∷ []
padded (a ∷ b ∷ c ∷ d ∷ rest) = a ∷ b ∷ c ∷ d ∷ []
