use Rattle.std.proofs.Common.{rules, not}
use Rattle.arrayvec.proofs.ArrayVecLemmas.{filter-from_retain}
use Rattle.sound_writes.specs.Order.{is_below}
use Rattle.sound_writes.proofs.saved.take_below.Goals as goal

pub returns-clause-left : goal.returns-clause-left
returns-clause-left g c =
    filter-from_retain _ (λ w. not (is_below (λ v. (g.W.WriteEntry.key_of (g.W.WriteEntry.saved_of v)).cycle) c.args.cycle w)) _ (λ x b f' y called. search rules) _ _ c.retain.ensures.filtered
