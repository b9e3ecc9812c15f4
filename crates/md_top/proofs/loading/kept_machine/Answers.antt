use Rattle.std.proofs.Common.{ap, refl, subst, sym, ◌∙◌}
use Rattle.std.specs.Prelude.{All}
use Rattle.std.specs.Arc.{arc_value}
use Rattle.md_pads.specs.Recording.{IsFrame, Recorded}
use Rattle.run_command.specs.Courses.{start_at}
use Rattle.md_top.specs.Loads.{IsFound}
use Rattle.state_laws.specs.Verdicts.{Keeps, OfOther, StateInvalidAt}
use Rattle.run_command.specs.declared.inputs.Inputs.{Inputs}
use Rattle.md_top.proofs.loading.kept_machine.Goals as goal

pub returns-in-Ok-read-clause-found : goal.returns-in-Ok-read-clause-found
returns-in-Ok-read-clause-found c =
    subst (λ (inputs : Inputs). IsFound inputs c.args.bytes.now (Keeps (start_at c.in-Ok-read.machine))) c.in-Ok.ensures c.in-Ok-read.ensures.found

pub returns-in-Ok-read-clause-fresh : goal.returns-in-Ok-read-clause-fresh
returns-in-Ok-read-clause-fresh c = record {
  from = c.in-Ok-read.ensures.start;
  entries = c.in-Ok-read.ensures.empty.0;
  media = c.in-Ok-read.ensures.empty.1;
  reached = c.states_are_reached.ensures (arc_value c.in-Ok.both.0) c.args.bytes.now c.in-Ok-read.ensures.found.0 c.in-Ok-read.ensures.start
      (subst (λ (r : Recorded). All IsFrame r.frames) (sym (c.in-Ok-read.ensures.found.1 ∙ ap (λ (inputs : Inputs). inputs.recording) c.in-Ok.ensures)) c.requires);
}

pub returns-in-Err-Form-clause-err : goal.returns-in-Err-Form-clause-err
returns-in-Err-Form-clause-err c =
    let invalid = rw c.in-Err-Form.field-0-is at c.in-Err-Form.ensures.form in
    subst (λ (inputs : Inputs). IsFound inputs c.args.bytes.now (StateInvalidAt c.in-Err-Form.place)) c.in-Ok.ensures (invalid c.in-Err-Form.place refl)

pub returns-in-Err-OtherCart-clause-err : goal.returns-in-Err-OtherCart-clause-err
returns-in-Err-OtherCart-clause-err c =
    let other = rw c.in-Err-OtherCart.field-0-is at c.in-Err-OtherCart.ensures.other in
    subst (λ (inputs : Inputs). IsFound inputs c.args.bytes.now (OfOther c.in-Err-OtherCart.kept c.in-Err-OtherCart.given)) c.in-Ok.ensures
    ((other c.in-Err-OtherCart.kept c.in-Err-OtherCart.given).0 refl)
