-- What is assembled of the text of an instruction of the Z80 is that instruction, and what is assembled has the
-- line's text.
use Rattle.std.proofs.Common.{◌≡◌, ℕ, ◌<◌, ◌≤◌, Bool, true, false, List, [], ◌∷◌, ◌++◌, length, Some, refl, ap, ◌∙◌, sym, arith}
use Rattle.z80_decode.specs.Instructions.{instruction_of}
use Rattle.z80_decode.specs.declared.decoded80.Decoded80.{Decoded80}
use Rattle.md_disasm.specs.Texts80.{text_of}
use Rattle.md_asm_text.specs.Tokens.{Token, tokens}
use Rattle.md_asm_text.proofs.Alike.{all_alike_is}
use Rattle.asm_z80.specs.Coded80.{AreBytes}
use Rattle.asm_z80.specs.Encoding80.{encoded}
use Rattle.asm_z80.specs.Building.{meant}
use Rattle.asm_z80.specs.Checked.{padded, tried}
use Rattle.asm_z80.specs.Reading.{read_source}
use Rattle.asm_z80.specs.Instruction.{is_db}
use Rattle.asm_z80.proofs.Checked.{meant_again, round_trips_again, tried_again, tried_zero}
use Rattle.asm_z80.proofs.Lengths.{decoded_few, encoded_long}
use Rattle.md_asm.specs.Codes.{say_bytes, sub_code}
use Rattle.md_asm.proofs.Checks.{sub_round_trips}
use Rattle.md_asm.proofs.Bytes.{filled_up, padded_bytes}
use Rattle.md_asm.proofs.Texts.{let_through}

-- ---- the text of an instruction

-- the bytes that are tried for it are as many as it takes
tried_few : (bytes : List ℕ) (at : ℕ) → AreBytes bytes → at < 65536 → is_db (instruction_of bytes).op ≡ false
    → length (tried (tokens (text_of (instruction_of bytes) at)) at) ≤ 4
tried_few bytes at h a none =
    let made = ap (λ op. length (encoded op)) (meant_again bytes at h a none) in
    let long = encoded_long bytes h in
    let few = decoded_few bytes h in
    omega (arith, made, long, few)

filled_again : (bytes : List ℕ) (at : ℕ) → AreBytes bytes → at < 65536 → is_db (instruction_of bytes).op ≡ false
    → instruction_of (padded (tried (tokens (text_of (instruction_of bytes) at)) at)) ≡ instruction_of bytes
filled_again bytes at h a none =
    let filled = filled_up (tried (tokens (text_of (instruction_of bytes) at)) at) (tried_few bytes at h a none) in
    ap instruction_of filled.up ∙ tried_again bytes filled.more at h filled.bytes_too a none

pub assembled_again : (bytes : List ℕ) (at : ℕ) → AreBytes bytes → at < 65536 → is_db (instruction_of bytes).op ≡ false
    → (found : List ℕ) × (sub_code (tokens (text_of (instruction_of bytes) at)) at ≡ Some found)
    × ((rest : List ℕ) → AreBytes rest → instruction_of (found ++ rest) ≡ instruction_of bytes)
assembled_again bytes at h a none =
    let line_tokens = tokens (text_of (instruction_of bytes) at) in (
      tried line_tokens at,
      sub_round_trips (tried line_tokens at) line_tokens at refl (ap (λ (d : Decoded80). tokens (text_of d at)) (filled_again bytes at h a none)),
      λ rest k. tried_again bytes rest at h k a none,
    )

-- ---- what is found for tokens

-- what is found is what is tried, and says the tokens with 0 after it
pub record IsFound (line_tokens : List Token) (bytes : List ℕ) (at : ℕ) : Type 0 where
  pub own : bytes ≡ tried line_tokens at
  pub text : tokens (text_of (instruction_of (padded bytes)) at) ≡ line_tokens

pub found : (line_tokens : List Token) (bytes : List ℕ) (at : ℕ) → sub_code line_tokens at ≡ Some bytes → IsFound line_tokens bytes at
unfolding sub_code
found line_tokens bytes at is =
    let through = let_through (say_bytes (tried line_tokens at) line_tokens at) (tried line_tokens at) bytes is in record {
      own = sym through.1;
      text = ap (λ (l : List ℕ). tokens (text_of (instruction_of (padded l)) at)) (sym through.1)
          ∙ all_alike_is (tokens (text_of (instruction_of (padded (tried line_tokens at))) at)) line_tokens through.0;
    }

few_by : (line_tokens : List Token) (bytes : List ℕ) (at : ℕ) → AreBytes bytes → at < 65536 → IsFound line_tokens bytes at
    → (b : Bool) → is_db (instruction_of (padded bytes)).op ≡ b → length bytes ≤ 4
few_by line_tokens bytes at h a is true db =
    let zero : bytes ≡ 0 ∷ [] = is.own ∙ tried_zero (instruction_of (padded bytes)) line_tokens at db is.text in
    let one : length bytes ≡ 1 = ap length zero in
    omega (arith, one)
few_by line_tokens bytes at h a is false none =
    let all = padded_bytes bytes h in
    let made : meant (read_source line_tokens) at ≡ (instruction_of (padded bytes)).op
    = ap (λ (s : List Token). meant (read_source s) at) (sym is.text) ∙ meant_again (padded bytes) at all a none in
    let same : length bytes ≡ length (encoded (instruction_of (padded bytes)).op) = ap length is.own ∙ ap (λ op. length (encoded op)) made in
    let long = encoded_long (padded bytes) all in
    let few = decoded_few (padded bytes) all in
    omega (arith, same, long, few)

-- it has the text whatever follows it
pub keeps_text : (line_tokens : List Token) (bytes rest : List ℕ) (at : ℕ) → AreBytes bytes → AreBytes rest → at < 65536 → sub_code line_tokens at ≡ Some bytes
    → tokens (text_of (instruction_of (bytes ++ rest)) at) ≡ line_tokens
keeps_text line_tokens bytes rest at h k a is =
    let own = found line_tokens bytes at is in
    let filled = filled_up bytes (few_by line_tokens bytes at h a own _ refl) in
    let text : tokens (text_of (instruction_of (bytes ++ filled.more)) at) ≡ line_tokens
    = ap (λ (l : List ℕ). tokens (text_of (instruction_of l) at)) (sym filled.up) ∙ own.text in
    let all : AreBytes (bytes ++ filled.more) = rw filled.up at (padded_bytes bytes h) in
    ap (λ (d : Decoded80). tokens (text_of d at)) (round_trips_again bytes filled.more rest line_tokens at all k a own.own text) ∙ text

pub few : (line_tokens : List Token) (bytes : List ℕ) (at : ℕ) → AreBytes bytes → at < 65536 → sub_code line_tokens at ≡ Some bytes → length bytes ≤ 4
few line_tokens bytes at h a is = few_by line_tokens bytes at h a (found line_tokens bytes at is) _ refl
