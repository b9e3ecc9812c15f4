-- What a source's fault says of its line, where the line is bad or a number does not fit.
use Rattle.std.specs.Prelude.{◌≡◌, ◌⊎◌, ℕ, ◌+◌, ◌<◌, ◌≤◌, Bool, true, false, List, ◌∷◌, ◌++◌, length}
use Rattle.m68k_decode.specs.Instructions as main
use Rattle.m68k_decode.specs.Nested.{nested}
use Rattle.z80_decode.specs.Instructions as sub
use Rattle.md_disasm.specs.Texts68 as main_texts
use Rattle.md_disasm.specs.Texts80 as sub_texts
use Rattle.md_asm_text.specs.Tokens.{Number, Token, tokens}
use Rattle.asm_m68k.specs.Table.{AreWords, IsInstruction}
use Rattle.asm_z80.specs.Coded80.{AreBytes}
use Rattle.asm_z80.specs.Instruction.{is_db}
use Rattle.md_asm_text.specs.Lines.{Line, line_of}
use Rattle.text_lines.specs.Lines.{lines_of}
use Rattle.md_asm_text.specs.declared.body.Body.{Body}
use Rattle.md_asm_text.specs.declared.body.Body.TheVariants as bodies
use Rattle.md_asm.specs.Numbers.{resolved}
use Rattle.md_asm.specs.Places.{is_sub}
use Rattle.md_asm.specs.Rounds.{Read, Round, Slot, round_one, start}
use Rattle.md_asm.specs.Forms.{HasNumber, IsForm, StandsIn}
use Rattle.md_asm.specs.Ranges.{IsInRange}

-- after a label's colon is no line, or in place of a label no name; or it is no directive, and no instruction of the
-- processor has its form
abbrev pub IsBad : Bool → Line → Type 0
IsBad z80 line = (line.body ≡ bodies.Bad) ⊎ ((line.body ≡ bodies.Instruction) × ((long : ℕ) → ¬ IsForm z80 (tokens line.text) long))

-- a number among the tokens is not below a limit
abbrev pub HasOver : ℕ → List Token → Type 0
HasOver limit line_tokens = (place : ℕ) × (n : ℕ) × StandsIn line_tokens place (Number n) × (limit ≤ n)

-- a number does not fit: one of `dc.w` has no 16 bits, one of `db` no 8, the address of `cpu z80` no 16; or it is out of
-- the range of its place, so that no instruction of the line's form has it there
abbrev pub IsUnfit : Bool → Body → List Token → Type 0
IsUnfit z80 bodies.Words line_tokens = HasOver 65536 line_tokens
IsUnfit z80 bodies.Bytes line_tokens = HasOver 256 line_tokens
IsUnfit z80 (bodies.Sub at) line_tokens = 65536 ≤ at
IsUnfit z80 bodies.Instruction line_tokens = (place : ℕ) × (n : ℕ) × StandsIn line_tokens place (Number n) × ¬ IsInRange z80 line_tokens place n × ¬ HasNumber z80 line_tokens place n
IsUnfit z80 body line_tokens = ⊥

-- no instruction of the processor has these tokens in its text at an address
abbrev pub HasNoText : Bool → List Token → ℕ → Type 0
HasNoText true line_tokens at =
    (bytes : List ℕ) → AreBytes bytes → is_db (sub.instruction_of bytes).op ≡ false → ¬ (tokens (sub_texts.text_of (sub.instruction_of bytes) at) ≡ line_tokens)
HasNoText false line_tokens at =
    (word : ℕ) (tail : List ℕ) → word < 65536 → IsInstruction (nested word) → AreWords (word ∷ tail)
    → ¬ (tokens (main_texts.text_of (main.instruction_of (word ∷ tail)) at) ≡ line_tokens)

-- the line of a number, and what the lines before it result in, which are at no fault of the first round
pub record IsRead (source : List ℕ) (line : ℕ) (round : Round) (text : List ℕ) : Type 0 where
  pub front : List (List ℕ)
  pub following : List (List ℕ)
  pub lines : lines_of source ≡ front ++ text ∷ following
  pub number : line ≡ 1 + length front
  pub read : round_one start 1 front ≡ Read round

-- the line of a number among those that have bytes, of a source that is at no fault of the first round
pub record IsSlot (source : List ℕ) (line : ℕ) (round : Round) (slot : Slot) : Type 0 where
  pub read : round_one start 1 (lines_of source) ≡ Read round
  pub front : List Slot
  pub following : List Slot
  pub slots : round.slots ≡ front ++ slot ∷ following
  pub number : slot.line ≡ line

-- a line at fault is bad where the kind is 1, has a written number that does not fit where it is 2, and the value of a
-- name that does not fit where it is 8; where it is 9 it is an instruction's, and with the value of each name no instruction
-- has its text at its address
pub record IsFaulty (source : List ℕ) (line kind : ℕ) : Type 0 where
  pub bad_line : kind ≡ 1 → (round : Round) × (text : List ℕ) × IsRead source line round text × IsBad (is_sub round.processor) (line_of text)
  pub bad_number : kind ≡ 2 → (round : Round) × (text : List ℕ) × IsRead source line round text
      × IsUnfit (is_sub round.processor) (line_of text).body (tokens (line_of text).text)
  pub does_not_fit : kind ≡ 8 → (round : Round) × (slot : Slot) × IsSlot source line round slot
      × IsUnfit slot.sub slot.body (resolved round.names (tokens slot.text))
  pub far : kind ≡ 9 → (round : Round) × (slot : Slot) × IsSlot source line round slot × (slot.body ≡ bodies.Instruction)
      × HasNoText slot.sub (resolved round.names (tokens slot.text)) slot.address
