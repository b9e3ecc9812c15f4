use Rattle.std.proofs.Common.{◌∙◌, [], ◌∷◌, Some, sym}
use Rattle.std.specs.Option.{option_copied}
use Rattle.md_args.proofs.Apart.{apart}
use Rattle.md_args.proofs.asm_reading.have_names.Goals as goal

pub returns-clause-apart : goal.returns-clause-apart
returns-clause-apart c are =
    apart (Some c.args.source.now ∷ []) [] [] (Some c.args.output.now) (option_copied c.args.list) (sym c.are_names.ensures ∙ are)
