use Rattle.std.proofs.Common.{◌∙◌, refl, sym, ap, subst}
use Rattle.md_rollback.specs.Inputs.{IsConfirmed, Words, given}
use Rattle.md_rollback.specs.declared.line.Player.TheVariants.{Local}
use Rattle.md_rollback.specs.Scripts.{pressed}
use Rattle.md_rollback.proofs.Followed.{local-followed, no-fault, refused-input, taken-input}
use Rattle.md_rollback.proofs.script.press_local.Goals as goal

pub returns-in-Ok-clause-obeyed : goal.returns-in-Ok-clause-obeyed
returns-in-Ok-clause-obeyed g c = λ cart old follows.
    let same = follows.local_is in
    let taken = taken-input c.args.session.now.local c.args.frame c.args.buttons (λ late. no-fault _ ((c.in-Ok.ensures.far 35999).1 (late, refl))) (λ kept is. no-fault _ ((c.in-Ok.ensures.given kept).1 is)) (λ bad. no-fault _ (c.in-Ok.ensures.buttons.1 bad)) in (
      pressed Local c.args.frame c.args.buttons old,
      (taken.0, ap (λ (w : Words). given w c.args.frame) (sym same) ∙ taken.1, taken.2, refl),
      local-followed cart c.args.session.now c.local.new.self old c.args.frame c.args.buttons follows c.in-Ok.ensures.ok
          (subst (IsConfirmed c.local.new.self.local c.local.new.self.remote) c.confirmed.ensures.confirmed c.confirmed.ensures.greatest),
    )

pub returns-in-Err-clause-refused : goal.returns-in-Err-clause-refused
returns-in-Err-clause-refused g c =
    let e = c.in-Err.ensures in (
      e.err,
      λ cart old follows. refused-input Local c.args.session.now.local old c.args.frame c.args.buttons c.in-Err.fault follows.local_is e.far e.given e.buttons,
    )
