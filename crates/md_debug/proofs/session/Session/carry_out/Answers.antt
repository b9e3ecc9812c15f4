use Rattle.std.proofs.Common.{◌≡◌, ℕ, sym, ◌∙◌, arith}
use Rattle.debug_text.specs.declared.command.Command.{Command}
use Rattle.debug_text.specs.declared.command.Command.TheVariants.{Back}
use Rattle.md_debug.proofs.session.Session.carry_out.Goals as goal

same_back : (a b : ℕ) → ◌≡◌ {A = Command} (Back a) (Back b) → a ≡ b
same_back a b is = cc

pub returns-in-Back-clause-not_kept : goal.returns-in-Back-clause-not_kept
returns-in-Back-clause-not_kept g c = λ oldest. (
  (λ e. let few = (c.back.ensures.not_kept oldest).0 e in (c.in-Back.number, (c.in-Back.is, (few.0, few.1)))),
  (λ w.
      let same : c.in-Back.number ≡ w.0 = same_back c.in-Back.number w.0 (sym c.in-Back.is ∙ w.1.0) in
      (c.back.ensures.not_kept oldest).1 (omega (arith, w.1.1.0, same), w.1.1.1)),
)
