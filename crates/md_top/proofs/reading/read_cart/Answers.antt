use Rattle.md_top.proofs.Carts.{refusal_cause}
use Rattle.md_top.proofs.reading.read_cart.Goals as goal

pub returns-in-Err-clause-err : goal.returns-in-Err-clause-err
returns-in-Err-clause-err g c =
    rw c.refusal_of.ensures
    (refusal_cause g.D.Depot.observable c.args.rom.now (g.D.Depot.state c.args.depot.now) (g.D.Depot.state c.fetch.new.self) c.in-Ok.bytes.items c.in-Err.fault
    c.in-Ok.ensures.bytes c.in-Ok.ensures.within c.in-Err.ensures.fault)
