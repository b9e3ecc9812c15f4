-- The bytes of an instruction: those of the encoding of an instruction whose text has its tokens.
use Rattle.std.specs.Prelude.{ℕ, ◌/◌, ◌%◌, Bool, true, false, if◌then◌else◌, List, [], ◌∷◌, Option, Some, None, option_map}
use Rattle.m68k_decode.specs.Instructions as main
use Rattle.z80_decode.specs.Instructions as sub
use Rattle.md_disasm.specs.Texts68 as main_texts
use Rattle.md_disasm.specs.Texts80 as sub_texts
use Rattle.md_asm_text.specs.Alike.{all_alike}
use Rattle.md_asm_text.specs.Tokens.{Token, tokens}
use Rattle.asm_m68k.specs.Checked as main_read
use Rattle.asm_z80.specs.Checked as sub_read

-- words of the 68000 decode to an instruction whose text at an address has these tokens
abbrev pub say_words : List ℕ → List Token → ℕ → Bool
say_words words line_tokens at = all_alike (tokens (main_texts.text_of (main.instruction_of (main_read.padded words)) at)) line_tokens

-- bytes of the Z80 do so
abbrev pub say_bytes : List ℕ → List Token → ℕ → Bool
say_bytes bytes line_tokens at = all_alike (tokens (sub_texts.text_of (sub.instruction_of (sub_read.padded bytes)) at)) line_tokens

-- the words that are read and encoded, where they say the tokens
unfoldable pub main_code : List Token → ℕ → Option (List ℕ)
main_code line_tokens at = if say_words (main_read.tried line_tokens at) line_tokens at then Some (main_read.tried line_tokens at) else None

unfoldable pub sub_code : List Token → ℕ → Option (List ℕ)
sub_code line_tokens at = if say_bytes (sub_read.tried line_tokens at) line_tokens at then Some (sub_read.tried line_tokens at) else None

-- words as bytes, the high byte first
unfoldable pub in_bytes : List ℕ → List ℕ
in_bytes [] = []
in_bytes (word ∷ more) = word / 256 ∷ word % 256 ∷ in_bytes more

-- the bytes of an instruction of one processor at an address
abbrev pub code : Bool → List Token → ℕ → Option (List ℕ)
code true line_tokens at = sub_code line_tokens at
code false line_tokens at = option_map in_bytes (main_code line_tokens at)
