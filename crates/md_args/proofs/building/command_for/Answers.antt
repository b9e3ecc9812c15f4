use Rattle.std.proofs.Common.{◌∙◌, ap, ap₂, fold}
use Rattle.std.proofs.lemmas.Result.{IfOk-weaker}
use Rattle.clap.specs.Simple.{with_rule}
use Rattle.md_args.specs.Parse.{app_for, bare}
use Rattle.md_args.proofs.building.command_for.Goals as goal

pub returns : goal.returns
unfolding app_for
returns c =
    IfOk-weaker c.with_each.result _ _ (λ m is. is ∙ ap₂ (fold with_rule) (c.bare.ensures ∙ ap bare c.name.ensures) c.parameters.ensures) c.with_each.ensures
