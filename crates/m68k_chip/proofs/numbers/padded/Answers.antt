use Rattle.std.proofs.Common.{ℕ, ◌-◌, ◌++◌, List, length, replicate, ap, ◌∙◌}
use Rattle.std.proofs.lemmas.List.{drop-replicate}
use Rattle.m68k_chip.proofs.numbers.padded.Goals as goal

pub returns-clause-value : goal.returns-clause-value
returns-clause-value c =
    ap (λ (l : List ℕ). c.copy_from_slice.new.self ++ l) (drop-replicate (length c.args.answers.now) 32 0)
    ∙ ap (λ (l : List ℕ). l ++ replicate (32 - length c.args.answers.now) 0) c.copy_from_slice.ensures.after
