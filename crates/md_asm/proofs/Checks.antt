-- The round-trip check of both processors, as a test.
use Rattle.std.proofs.Common.{◌≡◌, ℕ, Bool, true, false, List, Some, None, refl}
use Rattle.m68k_decode.specs.Instructions as main
use Rattle.z80_decode.specs.Instructions as sub
use Rattle.md_disasm.specs.Texts68 as main_texts
use Rattle.md_disasm.specs.Texts80 as sub_texts
use Rattle.md_asm_text.specs.Alike.{all_alike}
use Rattle.md_asm_text.specs.Tokens.{Token, tokens}
use Rattle.md_asm_text.proofs.Alike.{all_alike_is, all_alike_self}
use Rattle.asm_m68k.specs.Checked as main_read
use Rattle.asm_z80.specs.Checked as sub_read
use Rattle.md_asm.specs.Codes.{main_code, say_bytes, say_words, sub_code}

-- where tokens are the same the test says so, and where they are not
by_text : (own line_tokens : List Token) → own ≡ line_tokens → all_alike own line_tokens ≡ true
by_text own line_tokens e = rw e (all_alike_self line_tokens)

not_by_text : (own line_tokens : List Token) → (own ≡ line_tokens → ⊥) → all_alike own line_tokens ≡ false
not_by_text own line_tokens apart = cases (all_alike own line_tokens) refl
  where
    cases : (b : Bool) → all_alike own line_tokens ≡ b → b ≡ false
    cases true is = absurd (apart (all_alike_is own line_tokens is))
    cases false is = refl

pub main_round_trips : (words : List ℕ) (line_tokens : List Token) (at : ℕ) → words ≡ main_read.tried line_tokens at
    → tokens (main_texts.text_of (main.instruction_of (main_read.padded words)) at) ≡ line_tokens → main_code line_tokens at ≡ Some words
unfolding main_code
main_round_trips words line_tokens at is text =
    let own : say_words (main_read.tried line_tokens at) line_tokens at ≡ true
    = rw (← is) (by_text (tokens (main_texts.text_of (main.instruction_of (main_read.padded words)) at)) line_tokens text) in
    rw (own, is) refl

pub main_none : (line_tokens : List Token) (at : ℕ)
    → (tokens (main_texts.text_of (main.instruction_of (main_read.padded (main_read.tried line_tokens at))) at) ≡ line_tokens → ⊥) → main_code line_tokens at ≡ None
unfolding main_code
main_none line_tokens at apart =
    let own : say_words (main_read.tried line_tokens at) line_tokens at ≡ false
    = not_by_text (tokens (main_texts.text_of (main.instruction_of (main_read.padded (main_read.tried line_tokens at))) at)) line_tokens apart in
    rw own refl

pub sub_round_trips : (bytes : List ℕ) (line_tokens : List Token) (at : ℕ) → bytes ≡ sub_read.tried line_tokens at
    → tokens (sub_texts.text_of (sub.instruction_of (sub_read.padded bytes)) at) ≡ line_tokens → sub_code line_tokens at ≡ Some bytes
unfolding sub_code
sub_round_trips bytes line_tokens at is text =
    let own : say_bytes (sub_read.tried line_tokens at) line_tokens at ≡ true
    = rw (← is) (by_text (tokens (sub_texts.text_of (sub.instruction_of (sub_read.padded bytes)) at)) line_tokens text) in
    rw (own, is) refl

pub sub_none : (line_tokens : List Token) (at : ℕ)
    → (tokens (sub_texts.text_of (sub.instruction_of (sub_read.padded (sub_read.tried line_tokens at))) at) ≡ line_tokens → ⊥) → sub_code line_tokens at ≡ None
unfolding sub_code
sub_none line_tokens at apart =
    let own : say_bytes (sub_read.tried line_tokens at) line_tokens at ≡ false
    = not_by_text (tokens (sub_texts.text_of (sub.instruction_of (sub_read.padded (sub_read.tried line_tokens at))) at)) line_tokens apart in
    rw own refl
