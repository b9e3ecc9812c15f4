use Rattle.std.proofs.Common.{◌≡◌, ◌∙◌, ℕ, Some, length, map, refl, ap, sym, subst}
use Rattle.md_asm_text.specs.Shown.{shown}
use Rattle.md_asm_text.specs.declared.body.Body.TheVariants.{Instruction}
use Rattle.md_asm.specs.Coded.{IsCoded}
use Rattle.md_asm.specs.Kept.{SettlesOn}
use Rattle.md_asm.proofs.Found.{coded_known, coded_size}
use Rattle.md_asm.proofs.measuring.measure_plain.Goals as goal

pub returns-in-Some : goal.returns-in-Some
returns-in-Some c =
    let line_tokens = map shown c.args.tokens.now in
    let bytes = c.in-Some.bytes.items in
    let coded : IsCoded c.args.z80 line_tokens c.args.at bytes = rw c.in-Some.is at c.in_ok-bytes.ensures.coded in
    let long : length bytes ≡ c.len.result = sym (c.len.ensures ∙ c.in-Some.bytes.ok.0) in
    record {
      long = coded_size c.args.z80 line_tokens line_tokens c.args.at bytes coded refl ∙ ap (λ (n : ℕ). Some n) long;
      unfit = sym coded.fits;
      known = subst (λ (n : ℕ). SettlesOn c.args.z80 Instruction n line_tokens c.args.at bytes) long (coded_known c.args.z80 line_tokens c.args.at bytes coded);
    }
