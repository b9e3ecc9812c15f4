-- An instruction that is assembled: its bytes, that they are as many as its form has, and that its numbers fit.
use Rattle.std.specs.Prelude.{◌≡◌, ℕ, Bool, false, List, length, Some}
use Rattle.md_asm_text.specs.Tokens.{Token}
use Rattle.md_asm.specs.Codes.{code}
use Rattle.md_asm.specs.Contents.{misfits}
use Rattle.md_asm.specs.Numbers.{filled, has_name}

-- what the tokens of an instruction result in at an address
pub record IsCoded (sub : Bool) (line_tokens : List Token) (at : ℕ) (bytes : List ℕ) : Type 0 where
  pub other : List ℕ
  pub sized : code sub (filled line_tokens) 4 ≡ Some other
  pub long : length other ≡ length bytes
  pub fits : misfits sub line_tokens 0 line_tokens ≡ false
  pub plain : has_name line_tokens ≡ false
  pub own : code sub line_tokens at ≡ Some bytes
