use Rattle.z80_parcel.specs.Parcels.{store_of}
use Rattle.z80_exec.proofs.PrivateRows.{return-row}
use Rattle.z80_exec.proofs.sample.private.rows.return_from.Goals as goal

pub returns-in-Some : goal.returns-in-Some
returns-in-Some c = return-row c.in-Some.target c.args.regs.now c.pop.new.regs (store_of c.args.parcel.now) c.in-Some.ensures
