-- The words of an instruction that is written.
use Rattle.std.specs.Prelude.{ℕ, ◌≡◌, ◌*◌, List, ◌++◌, length}
use Rattle.m68k_decode.specs.Instructions.{instruction_of}
use Rattle.md_disasm.specs.Texts68.{text_of}
use Rattle.md_asm_text.specs.Tokens.{Token, tokens}

-- words say these tokens at an address: whatever follows them they decode to an instruction of their
-- length whose text has these tokens
pub record Says (words : List ℕ) (line_tokens : List Token) (at : ℕ) : Type 0 where
  pub text : (rest : List ℕ) → tokens (text_of (instruction_of (words ++ rest)) at) ≡ line_tokens
  pub whole : (rest : List ℕ) → (instruction_of (words ++ rest)).length ≡ 2 * length words
