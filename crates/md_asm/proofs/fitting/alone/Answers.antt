use Rattle.std.proofs.Common.{◌∙◌, ap, List, slice_set}
use Rattle.std.proofs.lemmas.List.{map-set}
use Rattle.md_asm_text.specs.Tokens as texts
use Rattle.md_asm_text.specs.Shown.{shown}
use Rattle.md_asm_text.specs.declared.token.Token.TheVariants.{Number}
use Rattle.md_asm.proofs.fitting.alone.Goals as goal

pub returns : goal.returns
returns c =
    map-set shown c.in_ok-tried.tried.items c.args.i (Number c.args.n)
    ∙ ap (λ (l : List texts.Token). slice_set l c.args.i (texts.Number c.args.n)) c.in_ok-tried.ensures
