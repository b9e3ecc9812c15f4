-- Which words or bytes are written for an instruction, where several have its text: one that the manual has comes
-- before one that it leaves out, a shorter one before a longer one, and then a lower one before a higher one.
-- Zilog UM0080, "Z80 Instruction Description"; for operations that it leaves out, this project's profile.
use Rattle.std.specs.Prelude.{◌≡◌, ◌⊎◌, ℕ, ◌<◌, ◌/◌, ◌%◌, ◌==◌, Bool, true, false, ◌&&◌, ◌||◌, not, List, [], ◌∷◌, ◌++◌, length, slice_index}
use Rattle.m68k_decode.specs.Nested.{nested}
use Rattle.z80_decode.specs.Instructions.{instruction_of}
use Rattle.md_disasm.specs.Texts80.{text_of}
use Rattle.md_asm_text.specs.Tokens.{Token, tokens}
use Rattle.asm_m68k.specs.RoundTrips as main
use Rattle.asm_m68k.specs.Table.{AreWords, IsInstruction}
use Rattle.asm_z80.specs.Coded80.{AreBytes}
use Rattle.asm_z80.specs.Instruction.{is_db}

-- ---- the Z80

-- bytes say tokens at an address: whatever follows them, they are an instruction of their length whose text has
-- these tokens
pub record Says (bytes : List ℕ) (line_tokens : List Token) (at : ℕ) : Type 0 where
  pub instruction : is_db (instruction_of bytes).op ≡ false
  pub text : (rest : List ℕ) → AreBytes rest → tokens (text_of (instruction_of (bytes ++ rest)) at) ≡ line_tokens
  pub whole : (rest : List ℕ) → AreBytes rest → (instruction_of (bytes ++ rest)).length ≡ length bytes

-- after DD CB d and FD CB d the manual has the codes of (HL) alone, and none of SLL
abbrev pub is_manual : List ℕ → Bool
is_manual (p ∷ q ∷ d ∷ code ∷ []) = not ((p == 0xdd || p == 0xfd) && q == 0xcb) || (code % 8 == 6 && not (code / 8 == 6))
is_manual bytes = true

-- in the order of bytes
abbrev pub IsBefore : List ℕ → List ℕ → Type 0
IsBefore (a ∷ more) (b ∷ others) = (a < b) ⊎ ((a ≡ b) × IsBefore more others)
IsBefore bytes other = ⊥

-- other bytes are passed over: the manual does not have them, and has these, or they are longer, or come later
abbrev pub IsPassed : List ℕ → List ℕ → Type 0
IsPassed other bytes =
    (is_manual other ≡ false)
    × ((is_manual bytes ≡ true) ⊎ ((length bytes < length other) ⊎ ((length bytes ≡ length other) × IsBefore bytes other)))

-- they say the tokens, and all others that do are passed over
pub record AreChosen (bytes : List ℕ) (line_tokens : List Token) (at : ℕ) : Type 0 where
  pub text : Says bytes line_tokens at
  pub best : (other : List ℕ) → AreBytes other → Says other line_tokens at → (other ≡ bytes) ⊎ IsPassed other bytes

-- ---- the 68000

-- words of an instruction of the 68000 say the tokens, and all others that do are as long and come later: those of
-- other bits that the processor does not look at
pub record AreLeast (words : List ℕ) (line_tokens : List Token) (at : ℕ) : Type 0 where
  pub instruction : IsInstruction (nested (slice_index words 0))
  pub text : main.Says words line_tokens at
  pub best : (other : List ℕ) → AreWords other → IsInstruction (nested (slice_index other 0)) → main.Says other line_tokens at
      → (other ≡ words) ⊎ ((length words ≡ length other) × IsBefore words other)
