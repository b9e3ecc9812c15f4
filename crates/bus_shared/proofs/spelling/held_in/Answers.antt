use Rattle.std.proofs.Common.{arith}
use Rattle.bus_shared.proofs.SpellingLaws.{held_found}
use Rattle.bus_shared.proofs.spelling.held_in.Goals as goal

pub returns-clause-found : goal.returns-clause-found
returns-clause-found c =
    held_found c.args.store.now c.split_at.result.0.now c.u16_at-bank.result _ (λ i. omega (arith, c.type_inv.store i)) c.requires
    c.split_at.ensures.front c.u16_at-bank.ensures (omega (arith, c.if-bank-ge-BANKS.false)) (c.in_ok-parcel_of.ensures {u = tt})
