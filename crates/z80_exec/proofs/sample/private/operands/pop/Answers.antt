use Rattle.z80_parcel.specs.Parcels.{store_of}
use Rattle.z80_exec.proofs.PrivateRows.{pops}
use Rattle.z80_exec.proofs.sample.private.operands.pop.Goals as goal

pub returns-in-Some : goal.returns-in-Some
returns-in-Some c = pops c.in-Some.value c.args.regs.now (store_of c.args.parcel.now) c.in-Some.ensures
