use Rattle.std.proofs.Common.{◌∙◌, ap}
use Rattle.std.proofs.lemmas.Result.{IfOk-weaker}
use Rattle.clap.specs.Simple.{app_of, with_rule}
use Rattle.md_args.proofs.building.with_parameter.Goals as goal

pub returns : goal.returns
returns c =
    IfOk-weaker c.arg.result _ _ (λ m h. h.shape c.argument.ensures.local ∙ ap (with_rule (app_of c.args.command)) c.argument.ensures.rule) c.arg.ensures
