use Rattle.std.proofs.Common.{◌∙◌, map, sym}
use Rattle.md_args.specs.Spelled.{argument_of}
use Rattle.md_args.proofs.Orders.{any_order}
use Rattle.md_args.proofs.Spellings.{run_written}
use Rattle.md_args.proofs.laws.order_is_free.Goals as goal

pub returns : goal.returns
returns c first second are others permuted =
    run_written first are ∙ any_order (map argument_of first) (map argument_of second) permuted ∙ sym (run_written second others)
