use Rattle.std.proofs.Common.{◌∙◌, Bool, ℕ, sym, subst}
use Rattle.std.specs.Prelude.{IfSome}
use Rattle.md_asm_text.specs.Tokens.{tokens}
use Rattle.md_asm.specs.Kept.{AreKept, SettlesOn}
use Rattle.md_asm.specs.Places.{address}
use Rattle.md_asm.proofs.Slots.{kept_more}
use Rattle.md_asm.proofs.pass.Pass.keep.Goals as goal

pub returns-clause-pass : goal.returns-clause-pass
returns-clause-pass c =
    let line = c.args.line.now in
    let round = c.args.self.now in
    record {
      whole = c.mark.ensures.whole;
      kept =
          subst AreKept (sym c.in_ok-push.ensures.items)
          (kept_more round.entries.items _ c.requires.pass.kept
          (record {
            low = c.requires.within;
            addressed = λ is. c.address-at.ensures.low (sym c.is_sub-z80.ensures ∙ is);
            known =
                subst (λ (at : ℕ). IfSome c.args.bytes (λ own. SettlesOn c.is_sub-z80.result line.body c.args.long (tokens line.text.now) at own.items)) (sym c.address-at.ensures.value)
                (subst (λ (z80 : Bool). IfSome c.args.bytes (λ own. SettlesOn z80 line.body c.args.long (tokens line.text.now) (address round.processor round.place) own.items)) (sym c.is_sub-z80.ensures)
                c.requires.known);
          }));
    }
