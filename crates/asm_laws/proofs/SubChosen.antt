-- What is assembled of tokens is chosen among all bytes that say them, and is found where some do.
use Rattle.std.proofs.Common.{◌≡◌, ◌⊎◌, ℕ, zero, suc, ◌<◌, ◌≤◌, false, List, [], ◌∷◌, ◌++◌, length, Some, None, append-nil, refl, ap, ◌∙◌, sym, subst, arith}
use Rattle.z80_decode.specs.Instructions.{instruction_of}
use Rattle.md_disasm.specs.Texts80.{text_of}
use Rattle.md_asm_text.specs.Tokens.{Token, tokens}
use Rattle.asm_z80.specs.Coded80.{AreBytes}
use Rattle.asm_z80.specs.Encoding80.{encoded}
use Rattle.asm_z80.specs.Building.{meant}
use Rattle.asm_z80.specs.Checked.{tried}
use Rattle.asm_z80.specs.Reading.{read_source}
use Rattle.asm_z80.specs.Instruction.{is_db}
use Rattle.asm_z80.proofs.Checked.{meant_again, tried_is}
use Rattle.asm_z80.proofs.Lengths.{decoded_few, encoded_long}
use Rattle.md_asm.specs.Codes.{sub_code}
use Rattle.asm_laws.specs.Chosen.{AreChosen, IsPassed, Says}
use Rattle.asm_laws.proofs.SubCodes.{own_or_passed}
use Rattle.md_asm.proofs.SubTexts.{assembled_again, found, keeps_text}
use Rattle.asm_laws.proofs.MainChosen.{none_by}

no_bytes : AreBytes []
no_bytes i = omega arith

with_rest : (bytes rest : List ℕ) → AreBytes bytes → AreBytes rest → AreBytes (bytes ++ rest)
with_rest [] rest h k i = k i
with_rest (b ∷ more) rest h k zero = h 0
with_rest (b ∷ more) rest h k (suc i) = with_rest more rest (λ j. h (suc j)) k i

-- ---- what is found is the code of what it decodes to

record IsOwnCode (bytes rest : List ℕ) : Type 0 where
  instruction : is_db (instruction_of (bytes ++ rest)).op ≡ false
  code : bytes ≡ encoded (instruction_of (bytes ++ rest)).op
  long : (instruction_of (bytes ++ rest)).length ≡ length bytes

own_code : (line_tokens : List Token) (bytes rest : List ℕ) (at : ℕ) → AreBytes bytes → AreBytes rest → at < 65536 → sub_code line_tokens at ≡ Some bytes → IsOwnCode bytes rest
own_code line_tokens bytes rest at h k a is =
    let text = keeps_text line_tokens bytes rest at h k a is in
    let own = (found line_tokens bytes at is).own in
    let all = with_rest bytes rest h k in
    let none = tried_is bytes rest line_tokens at all own text (is_db (instruction_of (bytes ++ rest)).op) refl in
    let made : meant (read_source line_tokens) at ≡ (instruction_of (bytes ++ rest)).op
    = ap (λ (s : List Token). meant (read_source s) at) (sym text) ∙ meant_again (bytes ++ rest) at all a none in
    let code = own ∙ ap encoded made in record {
      instruction = none;
      code = code;
      long = sym (encoded_long (bytes ++ rest) all) ∙ ap length (sym code);
    }

-- ---- other bytes that say the tokens

text_alone : (other : List ℕ) (line_tokens : List Token) (at : ℕ) → Says other line_tokens at → tokens (text_of (instruction_of other) at) ≡ line_tokens
text_alone other line_tokens at say = ap (λ (l : List ℕ). tokens (text_of (instruction_of l) at)) (sym (append-nil other)) ∙ say.text [] no_bytes

best_of : (line_tokens : List Token) (bytes other : List ℕ) (at : ℕ) → AreBytes other → at < 65536 → bytes ≡ tried line_tokens at → Says other line_tokens at → (other ≡ bytes) ⊎ IsPassed other bytes
best_of line_tokens bytes other at k a own say =
    let text = text_alone other line_tokens at say in
    let whole : (instruction_of other).length ≡ length other = ap (λ (l : List ℕ). (instruction_of l).length) (sym (append-nil other)) ∙ say.whole [] no_bytes in
    let few : length other ≤ 4 = let f = decoded_few other k in omega (arith, whole, f) in
    let made : meant (read_source line_tokens) at ≡ (instruction_of other).op
    = ap (λ (s : List Token). meant (read_source s) at) (sym text) ∙ meant_again other at k a say.instruction in
    let code = own ∙ ap encoded made in
    subst (λ (l : List ℕ). (other ≡ l) ⊎ IsPassed other l) (sym code) (own_or_passed other k few whole)

pub chosen : (line_tokens : List Token) (bytes : List ℕ) (at : ℕ) → AreBytes bytes → at < 65536 → sub_code line_tokens at ≡ Some bytes → AreChosen bytes line_tokens at
chosen line_tokens bytes at h a is = record {
  text = record {
    instruction = ap (λ (l : List ℕ). is_db (instruction_of l).op) (sym (append-nil bytes)) ∙ (own_code line_tokens bytes [] at h no_bytes a is).instruction;
    text = λ rest k. keeps_text line_tokens bytes rest at h k a is;
    whole = λ rest k. (own_code line_tokens bytes rest at h k a is).long;
  };
  best = λ other k say. best_of line_tokens bytes other at k a (found line_tokens bytes at is).own say;
}

-- where nothing is found, no bytes say the tokens
pub none : (line_tokens : List Token) (at : ℕ) → at < 65536 → sub_code line_tokens at ≡ None → (bytes : List ℕ) → AreBytes bytes → Says bytes line_tokens at → ⊥
none line_tokens at a is bytes h say =
    let again = assembled_again bytes at h a say.instruction in
    none_by (sub_code line_tokens at) again.0 is (ap (λ (s : List Token). sub_code s at) (sym (text_alone bytes line_tokens at say)) ∙ again.1)
