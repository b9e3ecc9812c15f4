use Rattle.std.proofs.Common.{◌≡◌, ◌∙◌, ℕ, List, Some, map, ap, sym, subst}
use Rattle.md_asm_text.specs.Shown.{shown}
use Rattle.md_asm_text.specs.Tokens.{Token}
use Rattle.md_asm.specs.Coded.{IsCoded}
use Rattle.md_asm.specs.Numbers.{names_filled}
use Rattle.md_asm.proofs.Found.{named_fits, named_size}
use Rattle.md_asm.proofs.measuring.measure_named.Goals as goal

pub returns-in-Some : goal.returns-in-Some
returns-in-Some c at =
    let line_tokens = map shown c.args.tokens.now in
    let bytes = c.in-Some.bytes.items in
    let found : IsCoded c.args.z80 (map shown c.as_slice.result.now) 4 bytes = rw c.in-Some.is at c.in_ok-bytes.ensures.coded in
    let same : map shown c.as_slice.result.now ≡ names_filled line_tokens = ap (map shown) c.as_slice.ensures.value ∙ c.in_ok-filled.ensures in
    let coded : IsCoded c.args.z80 (names_filled line_tokens) 4 bytes = subst (λ (l : List Token). IsCoded c.args.z80 l 4 bytes) same found in
    record {
      long = named_size c.args.z80 line_tokens 4 bytes coded ∙ ap (λ (n : ℕ). Some n) (sym (c.len.ensures ∙ c.in-Some.bytes.ok.0));
      unfit = sym (named_fits c.args.z80 line_tokens 4 bytes coded);
      known = tt;
    }
