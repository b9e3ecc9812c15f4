-- In a source that is assembled each number of an instruction is in the range of its place: what is there has it.
use Rattle.std.proofs.Common.{◌≡◌, ℕ, ◌<◌, Bool, true, false, List, [], ◌∷◌, append-nil, ap, ◌∙◌, sym, subst, arith}
use Rattle.m68k_decode.specs.Instructions as main
use Rattle.z80_decode.specs.Instructions as sub
use Rattle.md_disasm.specs.Texts68 as main_texts
use Rattle.md_disasm.specs.Texts80 as sub_texts
use Rattle.md_asm_text.specs.Tokens as tokens
use Rattle.md_asm_text.specs.Tokens.{Token}
use Rattle.asm_m68k.specs.Table.{AreWords}
use Rattle.asm_z80.specs.Coded80.{AreBytes}
use Rattle.md_asm.specs.Numbers.{Names, filled, resolved}
use Rattle.asm_laws.specs.Chosen.{AreLeast}
use Rattle.md_asm.proofs.MainCodes.{encoded_long}
use Rattle.md_asm.specs.Held.{IsAddress}
use Rattle.md_asm.specs.Rounds.{Slot}
use Rattle.md_asm.specs.declared.placed.Placed.{Placed}
use Rattle.md_asm.proofs.Apart.{AllSlots, IsPut, all_slots_by, read_round}
use Rattle.asm_laws.specs.Lines.{AllRoundTrip, IsRoundTrip, IsWritten, SaysLines}
use Rattle.asm_laws.proofs.RoundTrips.{stand_bytes, words_are}
use Rattle.text_lines.specs.Lines.{lines_of}
use Rattle.asm_laws.specs.Fitting.{AreFitting, FitsLines}
use Rattle.md_asm.specs.Forms.{HasNumber, StandsIn}
use Rattle.md_asm.proofs.Low68.{cons_low, none_low}
use Rattle.asm_laws.proofs.Places80.{none_byte}
use Rattle.asm_laws.proofs.Ranges.{has_in}

-- words of an instruction that say the tokens have their numbers
least_has : (words : List ℕ) (line_tokens : List Token) (at : ℕ) → AreWords words → at < 4294967296 → AreLeast words line_tokens at → (place n : ℕ) → StandsIn line_tokens place (tokens.Number n) → HasNumber false line_tokens place n
least_has [] line_tokens at all below least place n stands =
    let none = least.text.whole (0 ∷ []) in
    let some = encoded_long 0 [] (cons_low 0 [] (omega arith) none_low) in
    absurd (omega (arith, none, some))
least_has (w ∷ tail) line_tokens at all below least place n stands =
    let text : tokens.tokens (main_texts.text_of (main.instruction_of (w ∷ tail)) at) ≡ line_tokens
    = ap (λ (l : List ℕ). tokens.tokens (main_texts.text_of (main.instruction_of l) at)) (sym (append-nil (w ∷ tail))) ∙ least.text.text [] in (
      w,
      tail,
      at,
      record { first = all 0; instruction = least.instruction; words = all; address = below; alike = ap filled (sym text) },
      subst (λ (l : List Token). StandsIn l place (tokens.Number n)) (sym text) stands,
    )

written_has : (z80 : Bool) (bytes : List ℕ) (line_tokens : List Token) (at : ℕ) → AreBytes bytes → IsAddress z80 at → IsWritten z80 bytes line_tokens at → (place n : ℕ) → StandsIn line_tokens place (tokens.Number n)
    → HasNumber z80 line_tokens place n
written_has true bytes line_tokens at all below chosen place n stands =
    let text : tokens.tokens (sub_texts.text_of (sub.instruction_of bytes) at) ≡ line_tokens
    = ap (λ (l : List ℕ). tokens.tokens (sub_texts.text_of (sub.instruction_of l) at)) (sym (append-nil bytes)) ∙ chosen.text.text [] none_byte in (
      bytes,
      at,
      record { all = all; instruction = chosen.text.instruction; address = below; alike = ap filled (sym text) },
      subst (λ (l : List Token). StandsIn l place (tokens.Number n)) (sym text) stands,
    )
written_has false bytes line_tokens at all below (words, is, least) place n stands =
    least_has words line_tokens at (words_are words (subst (λ (l : List ℕ). AreBytes l) is all)) below least place n stands

slot_fits : (image : List ℕ) (names : Names) (slot : Slot) → AreBytes image → IsAddress slot.sub slot.address → IsRoundTrip image names slot → (place n : ℕ)
    → StandsIn (resolved names (tokens.tokens slot.text)) place (tokens.Number n) → HasNumber slot.sub (resolved names (tokens.tokens slot.text)) place n
slot_fits image names slot all below line_tokens place n stands =
    written_has slot.sub line_tokens.bytes (resolved names (tokens.tokens slot.text)) slot.address (stand_bytes image slot.place line_tokens.bytes all line_tokens.stands) below line_tokens.chosen place n stands

slots_fit : (image : List ℕ) (names : Names) (slots : List Slot) → AreBytes image → AllSlots (λ s. IsAddress s.sub s.address) slots → AllRoundTrip image names slots → AreFitting names slots
slots_fit image names [] all below line_tokens = tt
slots_fit image names (slot ∷ more) all below line_tokens = (
  λ instruction place n stands.
      has_in slot.sub (resolved names (tokens.tokens slot.text)) place n (slot_fits image names slot all below.0 (line_tokens.0 instruction) place n stands),
  slots_fit image names more all below.1 line_tokens.1,
)

pub lines_fit : (source image : List ℕ) (lines : List Placed) → SaysLines source image lines → AreBytes image → FitsLines source
lines_fit source image lines says all = record {
  round = says.round;
  read = says.read;
  fitting = slots_fit image says.round.names says.round.slots all
      (all_slots_by (IsPut says.round.written says.round.end) (λ s. IsAddress s.sub s.address) (λ s is. is.addressed) says.round.slots ((read_round says.round (lines_of source) says.read).put)) says.round_trips;
}
