use Rattle.std.proofs.Common.{◌≡◌, ◌∙◌, ℕ, true, List, map, sym, subst}
use Rattle.z80_decode.specs.Instructions.{instruction_of}
use Rattle.md_disasm.specs.Texts80.{text_of}
use Rattle.md_asm_text.specs.Shown.{shown}
use Rattle.md_asm_text.specs.Tokens.{tokens}
use Rattle.asm_z80.specs.Checked.{padded, tried}
use Rattle.asm_z80.specs.Coded80.{AreBytes}
use Rattle.md_asm.specs.Coded.{IsCoded}
use Rattle.md_asm.proofs.Found.{sub_tells}
use Rattle.md_asm.proofs.codes.sub_code.Goals as goal

pub returns-in_ok-bytes-in-Some-clause-coded : goal.returns-in_ok-bytes-in-Some-clause-coded
returns-in_ok-bytes-in-Some-clause-coded c =
    let bytes = c.in-Some.bytes.items in
    let line_tokens = map shown c.args.tokens.now in
    let all : AreBytes bytes = subst (λ (l : List ℕ). AreBytes l) c.as_slice.ensures.value c.known_bytes.ensures in
    let own : bytes ≡ tried line_tokens c.args.at = rw c.in-Some.is at c.in_ok-bytes.ensures.some in
    let text : tokens (text_of (instruction_of (padded bytes)) c.args.at) ≡ line_tokens = rw c.in-Some.is at c.in_ok-bytes.ensures.round_trips in
    subst (λ (l : List ℕ). IsCoded true line_tokens c.args.at l) (sym (c.in_ok-bytes-in-Some.ensures.items_if_clones_equal (λ x y e. e) ∙ c.as_slice-in-Some.ensures.value))
    (sub_tells bytes line_tokens c.args.at all c.ranges.at.fits own text)
