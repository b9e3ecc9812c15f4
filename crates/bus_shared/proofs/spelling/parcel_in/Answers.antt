use Rattle.std.proofs.Common.{arith}
use Rattle.bus_shared.proofs.SpellingLaws.{empty_store}
use Rattle.bus_shared.proofs.spelling.parcel_in.Goals as goal

pub returns-then-is_empty-clause-found : goal.returns-then-is_empty-clause-found
returns-then-is_empty-clause-found c = (empty_store c.args.store.now (grind (arith, c.is_empty.ensures, c.if-is_empty.true)), tt)
