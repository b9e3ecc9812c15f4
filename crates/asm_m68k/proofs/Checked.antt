-- What words decode to is made again of the tokens of its text. So words that pass the round-trip check are of that
-- instruction, whatever follows them.
use Rattle.std.proofs.Common.{◌≡◌, ℕ, ◌+◌, ◌<◌, List, ◌∷◌, ◌++◌, Option, Some, None, ap, ◌∙◌, sym}
use Rattle.std.specs.Prelude.{slice_index}
use Rattle.m68k_decode.specs.Instructions.{instruction_of, picked}
use Rattle.m68k_decode.specs.Nested.{nested}
use Rattle.m68k_decode.specs.Rows.{Row}
use Rattle.m68k_decode.proofs.Table.{decoded_is_picked}
use Rattle.asm_m68k.proofs.Again.{decoded_again}
use Rattle.md_disasm.specs.Texts68.{text_of}
use Rattle.md_asm_text.specs.Tokens.{Token, tokens}
use Rattle.asm_m68k.specs.Building.{meant}
use Rattle.asm_m68k.specs.Checked.{tried}
use Rattle.asm_m68k.specs.Reading.{read_source}
use Rattle.asm_m68k.specs.Table.{IsEnteredWord, IsInstruction, AreWords}
use Rattle.asm_m68k.proofs.Decoded.{row_again}
use Rattle.asm_m68k.proofs.Entered.{every_word}
use Rattle.asm_m68k.proofs.Instructions.{again}

picked_made_again : (row : Option Row) (words : List ℕ) (at : ℕ) → IsEnteredWord (slice_index words 0) row → AreWords words → at < 4294967296
    → again (picked row words).op at ≡ (picked row words).op
picked_made_again None words at is all h = absurd is
picked_made_again (Some row) words at is all h = row_again row words at is all h

-- the instruction is made again of the tokens of its text
pub meant_again : (word : ℕ) (tail : List ℕ) (at : ℕ) → word < 65536 → IsInstruction (nested word) → AreWords (word ∷ tail) → at < 4294967296
    → meant (read_source (tokens (text_of (instruction_of (word ∷ tail)) at))) at ≡ (instruction_of (word ∷ tail)).op
meant_again word tail at below is all h =
    rw (decoded_is_picked (word ∷ tail) below) (picked_made_again (nested word) (word ∷ tail) at (every_word word below is) all h)

-- the words that are tried for it decode to it, whatever follows them
pub tried_again : (word : ℕ) (tail rest : List ℕ) (at : ℕ) → word < 65536 → IsInstruction (nested word) → AreWords (word ∷ tail) → at < 4294967296
    → instruction_of (tried (tokens (text_of (instruction_of (word ∷ tail)) at)) at ++ rest) ≡ instruction_of (word ∷ tail)
tried_again word tail rest at below is all h =
    rw (meant_again word tail at below is all h) (decoded_again word tail rest below)

-- words that say the tokens, and are those that are tried for them, say them whatever follows
pub round_trips_again : (word : ℕ) (tail more rest : List ℕ) (line_tokens : List Token) (at : ℕ) → word < 65536 → IsInstruction (nested word) → AreWords (word ∷ tail ++ more) → at < 4294967296
    → word ∷ tail ≡ tried line_tokens at → tokens (text_of (instruction_of (word ∷ tail ++ more)) at) ≡ line_tokens → instruction_of (word ∷ tail ++ rest) ≡ instruction_of (word ∷ tail ++ more)
round_trips_again word tail more rest line_tokens at below is all h are text =
    let again : instruction_of (tried line_tokens at ++ rest) ≡ instruction_of (word ∷ tail ++ more)
    = rw (sym text) (tried_again word (tail ++ more) rest at below is all h) in
    ap (λ (l : List ℕ). instruction_of (l ++ rest)) are ∙ again
