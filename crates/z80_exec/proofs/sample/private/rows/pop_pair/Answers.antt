use Rattle.z80_parcel.specs.Parcels.{store_of}
use Rattle.z80_exec.proofs.PrivateRows.{pop-row}
use Rattle.z80_exec.proofs.sample.private.rows.pop_pair.Goals as goal

pub returns-in-Some : goal.returns-in-Some
returns-in-Some c = pop-row c.args.pair c.in-Some.value c.args.regs.now c.pop.new.regs c.set_pair.new.self (store_of c.args.parcel.now) c.in-Some.ensures c.set_pair.ensures
