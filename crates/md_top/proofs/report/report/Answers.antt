use Rattle.std.proofs.Common.{Some}
use Rattle.md_args.specs.Shown.{shown_command}
use Rattle.md_top.proofs.Puts.{command_outcome_put}
use Rattle.md_top.proofs.report.report.Goals as goal

pub returns : goal.returns
returns g c =
    command_outcome_put g.S.Sink.observable (Some (shown_command c.args.command.now)) c.args.command_outcome (g.S.Sink.state c.args.out.now) (g.S.Sink.state c.put_command_outcome.new.out) c.put_command_outcome.result
    c.status-status.result c.status_after.result c.put_command_outcome.ensures c.status-status.ensures c.status_after.ensures.ok c.status_after.ensures.err
