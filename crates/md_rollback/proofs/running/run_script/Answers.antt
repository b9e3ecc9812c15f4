use Rattle.std.specs.Arc.{arc_value}
use Rattle.md_rollback.proofs.Rolling.{done-completion, refused-completion}
use Rattle.md_rollback.proofs.running.run_script.Goals as goal

pub returns-in-Ok-last_frame : goal.returns-in-Ok-last_frame
returns-in-Ok-last_frame c =
    done-completion (arc_value c.args.cart) c.args.window c.args.script.now c.in-Ok.session c.play.new.session c.in-Ok-last_frame.rolled c.in-Ok.ensures c.in-Obeyed.ensures c.in-Ok-last_frame.ensures

pub returns-in-Refused : goal.returns-in-Refused
returns-in-Refused c =
    refused-completion (arc_value c.args.cart) c.args.window c.args.script.now c.in-Ok.session c.play.new.session c.in-Refused.line c.in-Refused.fault c.in-Ok.ensures c.in-Refused.ensures
