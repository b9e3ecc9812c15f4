use Rattle.std.proofs.Common.{◌≡◌, Result, Ok, sym, ap, ◌∙◌}
use Rattle.debug_text.specs.Commands.{command_of}
use Rattle.debug_text.specs.declared.command.Command.{Command}
use Rattle.debug_text.specs.declared.command.Misread.{Misread}
use Rattle.md_debug.proofs.Bounds.{bounds_of}
use Rattle.md_debug.proofs.session.Session.obey.Goals as goal

same_ok : (a b : Command) → ◌≡◌ {A = Result Command Misread} (Ok a) (Ok b) → a ≡ b
same_ok a b is = cc

ok : Command → Result Command Misread
ok command = Ok command

pub carry_out-requires : goal.carry_out-requires
carry_out-requires g c = bounds_of c.args.line.now c.in-Ok.command (sym c.read_command.ensures ∙ c.in-Ok.is)

pub returns-in-Ok-clause-not_kept : goal.returns-in-Ok-clause-not_kept
unfolding ok
returns-in-Ok-clause-not_kept g c = λ oldest.
    let read : command_of c.args.line.now ≡ Ok c.in-Ok.command = sym c.read_command.ensures ∙ c.in-Ok.is in (
      (λ e. let w = (c.carry_out.ensures.not_kept oldest).0 e in (w.0, (read ∙ ap ok w.1.0, w.1.1))),
      (λ w. (c.carry_out.ensures.not_kept oldest).1 (w.0, (same_ok c.in-Ok.command _ (sym read ∙ w.1.0), w.1.1))),
    )
