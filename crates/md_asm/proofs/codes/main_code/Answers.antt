use Rattle.std.proofs.Common.{◌≡◌, ◌∙◌, ℕ, false, List, map, ap, sym, subst}
use Rattle.m68k_decode.specs.Instructions.{instruction_of}
use Rattle.md_disasm.specs.Texts68.{text_of}
use Rattle.md_asm_text.specs.Shown.{shown}
use Rattle.md_asm_text.specs.Tokens.{tokens}
use Rattle.asm_m68k.specs.Checked.{padded, tried}
use Rattle.asm_m68k.specs.Table.{AreWords}
use Rattle.md_asm.specs.Coded.{IsCoded}
use Rattle.md_asm.specs.Codes.{in_bytes}
use Rattle.md_asm.proofs.Found.{main_tells}
use Rattle.md_asm.proofs.codes.main_code.Goals as goal

pub returns-in_ok-bytes-in-Some-clause-coded : goal.returns-in_ok-bytes-in-Some-clause-coded
returns-in_ok-bytes-in-Some-clause-coded c =
    let words = c.in-Some.words.items in
    let line_tokens = map shown c.args.tokens.now in
    let all : AreWords words = subst (λ (l : List ℕ). AreWords l) c.as_slice.ensures.value c.known_words.ensures in
    let own : words ≡ tried line_tokens c.args.at = rw c.in-Some.is at c.in_ok-words.ensures.some in
    let text : tokens (text_of (instruction_of (padded words)) c.args.at) ≡ line_tokens = rw c.in-Some.is at c.in_ok-words.ensures.round_trips in
    subst (λ (l : List ℕ). IsCoded false line_tokens c.args.at l) (sym (c.in_ok-bytes-in-Some.ensures ∙ ap in_bytes c.as_slice-in-Some.ensures.value))
    (main_tells words line_tokens c.args.at all c.ranges.at.fits own text)
