use Rattle.std.proofs.Common.{◌∙◌, Bool, ℕ, List, map, ap, subst}
use Rattle.std.specs.Prelude.{IfSome}
use Rattle.md_asm_text.specs.Shown.{shown}
use Rattle.md_asm_text.specs.Tokens.{Token}
use Rattle.md_asm.specs.Kept.{IsMeasured, SettlesOn}
use Rattle.md_asm.specs.Places.{address, is_sub}
use Rattle.md_asm.proofs.pass.Pass.read.Goals as goal

pub go_on-requires-clause-known : goal.go_on-requires-clause-known
go_on-requires-clause-known c =
    let line = c.in_ok-line.line in
    let round = c.args.self.now in
    let measured = c.in-Some.measured in
    let is : IsMeasured c.is_sub-z80.result line.body (map shown c.as_slice.result.now) c.address-at.result measured = rw c.in-Some.is at c.in_ok-found.ensures.found in
    subst (λ (line_tokens : List Token). IfSome measured.bytes (λ own. SettlesOn (is_sub round.processor) line.body measured.long line_tokens (address round.processor round.place) own.items))
    (ap (map shown) c.as_slice.ensures.value ∙ c.in_ok-line.ensures.tokens)
    (subst (λ (at : ℕ). IfSome measured.bytes (λ own. SettlesOn (is_sub round.processor) line.body measured.long (map shown c.as_slice.result.now) at own.items)) c.address-at.ensures.value
    (subst (λ (z80 : Bool). IfSome measured.bytes (λ own. SettlesOn z80 line.body measured.long (map shown c.as_slice.result.now) c.address-at.result own.items)) c.is_sub-z80.ensures is.known))
