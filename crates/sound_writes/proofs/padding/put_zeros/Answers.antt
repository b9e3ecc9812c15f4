use Rattle.std.proofs.Common.{◌∙◌, ◌++◌, ap, List, ℕ, take, replicate, arith}
use Rattle.std.proofs.lemmas.List.{append-nil, take-replicate}
use Rattle.md_fields.specs.Fields.{spelling}
use Rattle.sound_writes.proofs.padding.put_zeros.Goals as goal

pub returns-clause-bytes : goal.returns-clause-bytes
unfolding spelling
returns-clause-bytes c =
    c.put.ensures.bytes
    ∙ ap (λ (l : List ℕ). c.args.into.now.items ++ l) (append-nil (take c.args.count (replicate 12288 0)) ∙ take-replicate c.args.count 12288 0 (omega arith))
