-- Which lines have the form of an instruction, and which numbers such a form has: defined by the texts of instructions
-- alone, whatever the assembler tries.
use Rattle.std.specs.Prelude.{◌≡◌, ℕ, ◌<◌, Bool, true, false, List, ◌∷◌, ◌++◌, length}
use Rattle.m68k_decode.specs.Instructions as main
use Rattle.m68k_decode.specs.Nested.{nested}
use Rattle.z80_decode.specs.Instructions as sub
use Rattle.md_disasm.specs.Texts68 as main_texts
use Rattle.md_disasm.specs.Texts80 as sub_texts
use Rattle.md_asm_text.specs.Tokens.{Number, Token, tokens}
use Rattle.asm_m68k.specs.Table.{AreWords, IsInstruction}
use Rattle.asm_z80.specs.Coded80.{AreBytes}
use Rattle.asm_z80.specs.Instruction.{is_db}
use Rattle.md_asm.specs.Numbers.{filled}

-- the tokens are those of the text, at an address, of an instruction that words of the 68000 decode to, but for the
-- numbers and the names in their places
pub record IsMainForm (line_tokens : List Token) (word : ℕ) (tail : List ℕ) (at : ℕ) : Type 0 where
  pub first : word < 65536
  pub instruction : IsInstruction (nested word)
  pub words : AreWords (word ∷ tail)
  pub address : at < 4294967296
  pub alike : filled line_tokens ≡ filled (tokens (main_texts.text_of (main.instruction_of (word ∷ tail)) at))

-- or that bytes of the Z80 decode to
pub record IsSubForm (line_tokens : List Token) (bytes : List ℕ) (at : ℕ) : Type 0 where
  pub all : AreBytes bytes
  pub instruction : is_db (sub.instruction_of bytes).op ≡ false
  pub address : at < 65536
  pub alike : filled line_tokens ≡ filled (tokens (sub_texts.text_of (sub.instruction_of bytes) at))

-- so they are of some instruction of the processor, the Z80 or the 68000, with so many bytes
abbrev pub IsForm : Bool → List Token → ℕ → Type 0
IsForm true line_tokens long = (bytes : List ℕ) × (at : ℕ) × IsSubForm line_tokens bytes at × ((sub.instruction_of bytes).length ≡ long)
IsForm false line_tokens long =
    (word : ℕ) × (tail : List ℕ) × (at : ℕ) × IsMainForm line_tokens word tail at × ((main.instruction_of (word ∷ tail)).length ≡ long)

-- a token is at a place among others
abbrev pub StandsIn : List Token → ℕ → Token → Type 0
StandsIn all place token = (front : List Token) × (following : List Token) × (all ≡ front ++ token ∷ following) × (length front ≡ place)

-- some instruction of the processor with this form has the number at this place of its text
abbrev pub HasNumber : Bool → List Token → ℕ → ℕ → Type 0
HasNumber true line_tokens place n =
    (bytes : List ℕ) × (at : ℕ) × IsSubForm line_tokens bytes at × StandsIn (tokens (sub_texts.text_of (sub.instruction_of bytes) at)) place (Number n)
HasNumber false line_tokens place n =
    (word : ℕ) × (tail : List ℕ) × (at : ℕ) × IsMainForm line_tokens word tail at
    × StandsIn (tokens (main_texts.text_of (main.instruction_of (word ∷ tail)) at)) place (Number n)
