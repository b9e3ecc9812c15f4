use Rattle.z80_parcel.specs.Parcels.{store_of}
use Rattle.z80_exec.proofs.PrivateRows.{load-row}
use Rattle.z80_exec.proofs.sample.private.rows.load.Goals as goal

pub returns-then-put : goal.returns-then-put
returns-then-put c =
    load-row c.args.target c.args.source c.in-Some.value c.args.regs.now c.put.new.regs (store_of c.args.parcel.now) (store_of c.put.new.parcel) c.in-Some.ensures c.if-put.ensures
