-- What is assembled of the text of an instruction of the 68000 is that instruction, and what is assembled has the
-- line's text.
use Rattle.std.proofs.Common.{◌≡◌, ℕ, ◌<◌, ◌≤◌, Bool, true, false, List, [], ◌∷◌, ◌++◌, length, Some, None, refl, ap, ◌∙◌, sym, if◌then◌else◌}
use Rattle.m68k_decode.specs.Instructions.{instruction_of}
use Rattle.m68k_decode.specs.Nested.{nested}
use Rattle.m68k_decode.specs.declared.decoded.Decoded.{Decoded}
use Rattle.md_disasm.specs.Texts68.{text_of}
use Rattle.md_asm_text.specs.Tokens.{Token, tokens}
use Rattle.md_asm_text.proofs.Alike.{all_alike_is}
use Rattle.asm_m68k.specs.Reading.{read_source}
use Rattle.asm_m68k.specs.Building.{meant}
use Rattle.asm_m68k.specs.Checked.{padded, tried}
use Rattle.asm_m68k.specs.Table.{AreWords, IsInstruction}
use Rattle.asm_m68k.proofs.Checked.{round_trips_again, tried_again}
use Rattle.md_asm.specs.Codes.{main_code, say_words}
use Rattle.md_asm.proofs.Checks.{main_round_trips}
use Rattle.md_asm.proofs.Directives.{tried_instruction}
use Rattle.md_asm.proofs.Lengths.{encoded_few, filled_up, padded_words}

-- ---- the text of an instruction

-- the words that are tried for it decode to it, filled up too
filled_again : (word : ℕ) (tail : List ℕ) (at : ℕ) → word < 65536 → IsInstruction (nested word) → AreWords (word ∷ tail) → at < 4294967296
    → instruction_of (padded (tried (tokens (text_of (instruction_of (word ∷ tail)) at)) at)) ≡ instruction_of (word ∷ tail)
filled_again word tail at below is all h =
    let line_tokens = tokens (text_of (instruction_of (word ∷ tail)) at) in
    let up = filled_up (tried line_tokens at) (encoded_few (meant (read_source line_tokens) at)) in
    ap instruction_of up.1 ∙ tried_again word tail up.0 at below is all h

pub assembled_again : (word : ℕ) (tail : List ℕ) (at : ℕ) → word < 65536 → IsInstruction (nested word) → AreWords (word ∷ tail) → at < 4294967296
    → (words : List ℕ) × (main_code (tokens (text_of (instruction_of (word ∷ tail)) at)) at ≡ Some words)
    × ((rest : List ℕ) → instruction_of (words ++ rest) ≡ instruction_of (word ∷ tail))
assembled_again word tail at below is all h =
    let line_tokens = tokens (text_of (instruction_of (word ∷ tail)) at) in (
      tried line_tokens at,
      main_round_trips (tried line_tokens at) line_tokens at refl
          (ap (λ (op : Decoded). tokens (text_of op at)) (filled_again word tail at below is all h)),
      λ rest. tried_again word tail rest at below is all h,
    )

-- ---- what is found for tokens

-- what a test lets through
pub let_through : {X : Type 0} (b : Bool) (own found : X) → (if b then Some own else None) ≡ Some found → (b ≡ true) × (own ≡ found)
let_through true own found is = (refl, cc)
let_through false own found is = cc

-- what is found is what is tried, and says the tokens with 0 after it
pub record IsFound (line_tokens : List Token) (words : List ℕ) (at : ℕ) : Type 0 where
  pub own : words ≡ tried line_tokens at
  pub text : tokens (text_of (instruction_of (padded words)) at) ≡ line_tokens

pub found : (line_tokens : List Token) (words : List ℕ) (at : ℕ) → main_code line_tokens at ≡ Some words → IsFound line_tokens words at
unfolding main_code
found line_tokens words at is =
    let through = let_through (say_words (tried line_tokens at) line_tokens at) (tried line_tokens at) words is in record {
      own = sym through.1;
      text = ap (λ (l : List ℕ). tokens (text_of (instruction_of (padded l)) at)) (sym through.1)
          ∙ all_alike_is (tokens (text_of (instruction_of (padded (tried line_tokens at))) at)) line_tokens through.0;
    }

pub few : (line_tokens : List Token) (words : List ℕ) (at : ℕ) → main_code line_tokens at ≡ Some words → length words ≤ 5
few line_tokens words at is = rw ((found line_tokens words at is).own) (encoded_few (meant (read_source line_tokens) at))

-- words that are found, filled up with others, decode to an instruction, and to the same whatever follows them
pub record GoesOn (line_tokens : List Token) (word : ℕ) (tail : List ℕ) (at : ℕ) : Type 0 where
  pub more : List ℕ
  pub all : AreWords (word ∷ (tail ++ more))
  pub instruction : IsInstruction (nested word)
  pub own : word ∷ tail ≡ tried line_tokens at
  pub text : tokens (text_of (instruction_of (word ∷ (tail ++ more))) at) ≡ line_tokens
  pub same : (rest : List ℕ) → instruction_of (word ∷ (tail ++ rest)) ≡ instruction_of (word ∷ (tail ++ more))

pub going_on : (line_tokens : List Token) (word : ℕ) (tail : List ℕ) (at : ℕ) → AreWords (word ∷ tail) → at < 4294967296 → main_code line_tokens at ≡ Some (word ∷ tail) → GoesOn line_tokens word tail at
going_on line_tokens word tail at h a is =
    let own = found line_tokens (word ∷ tail) at is in
    let up = filled_up (word ∷ tail) (few line_tokens (word ∷ tail) at is) in
    let text : tokens (text_of (instruction_of (word ∷ (tail ++ up.0))) at) ≡ line_tokens
    = ap (λ (l : List ℕ). tokens (text_of (instruction_of l) at)) (sym up.1) ∙ own.text in
    let all : AreWords (word ∷ (tail ++ up.0)) = rw up.1 at (padded_words (word ∷ tail) h) in
    let entered = tried_instruction word (tail ++ up.0) line_tokens at (h 0) (word ∷ tail) refl own.own text in record {
      more = up.0;
      all = all;
      instruction = entered;
      own = own.own;
      text = text;
      same = λ rest. round_trips_again word tail up.0 rest line_tokens at (h 0) entered all a own.own text;
    }

-- it has the text whatever follows it
pub keeps_text : (line_tokens : List Token) (words rest : List ℕ) (at : ℕ) → AreWords words → at < 4294967296 → main_code line_tokens at ≡ Some words
    → tokens (text_of (instruction_of (words ++ rest)) at) ≡ line_tokens
keeps_text line_tokens [] rest at h a is = let own = (found line_tokens [] at is).own in cc
keeps_text line_tokens (word ∷ tail) rest at h a is =
    let there = going_on line_tokens word tail at h a is in
    ap (λ (d : Decoded). tokens (text_of d at)) (there.same rest) ∙ there.text
