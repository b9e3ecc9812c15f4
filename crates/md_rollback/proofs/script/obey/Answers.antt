use Rattle.std.proofs.Common.{◌≡◌, ◌∙◌, sym, ap, subst, Some}
use Rattle.md_rollback.specs.Lines.{line_of}
use Rattle.md_rollback.specs.declared.line.Line.TheVariants.{Advance, Press}
use Rattle.md_rollback.specs.Scripts.{IsRefused}
use Rattle.md_rollback.proofs.Followed.{err-map, ok-map}
use Rattle.md_rollback.proofs.Scripts.{input_refused}
use Rattle.md_rollback.proofs.script.obey.Goals as goal

pub returns-in-Ok-clause-obeyed : goal.returns-in-Ok-clause-obeyed
returns-in-Ok-clause-obeyed g c = λ cart old follows.
    let p = c.in-Some-Press in
    let is : line_of c.args.line.now ≡ Some (Press p.player p.frame p.buttons) = sym p.ensures ∙ ap Some p.field-0-is in
    let done = c.in-Ok.ensures.obeyed cart old follows in
    (Press p.player p.frame p.buttons, done.0, is, done.1, done.2)

pub returns-in-Err-clause-refused : goal.returns-in-Err-clause-refused
returns-in-Err-clause-refused g c =
    let p = c.in-Some-Press in
    let window = c.args.session.now.window in
    let is : line_of c.args.line.now ≡ Some (Press p.player p.frame p.buttons) = sym p.ensures ∙ ap Some p.field-0-is in
    let refused = c.in-Err.ensures.refused in (
      refused.0,
      λ cart old follows.
          subst (IsRefused window old c.args.line.now) (sym c.fault_of.ensures)
          (input_refused window old c.args.line.now p.player p.frame p.buttons c.in-Err.fault is (refused.1 cart old follows)),
    )

pub returns-in-Some-Advance-clause-obeyed : goal.returns-in-Some-Advance-clause-obeyed
returns-in-Some-Advance-clause-obeyed g c =
    let is : line_of c.args.line.now ≡ Some Advance = sym c.in-Some-Advance.ensures ∙ ap Some c.in-Some-Advance.field-0-is in
    ok-map c.go_on.result _ _ (λ on cart old follows. let done = on cart old follows in (Advance, done.0, is, done.1, done.2)) c.go_on.ensures.obeyed

pub returns-in-Some-Advance-clause-refused : goal.returns-in-Some-Advance-clause-refused
returns-in-Some-Advance-clause-refused g c =
    let is : line_of c.args.line.now ≡ Some Advance = sym c.in-Some-Advance.ensures ∙ ap Some c.in-Some-Advance.field-0-is in
    err-map c.go_on.result _ _ (λ fault refused. (refused.0, λ cart old follows. refused.1 cart old c.args.line.now follows is)) c.go_on.ensures.refused
