use Rattle.z80_parcel.specs.Parcels.{store_of}
use Rattle.z80_exec.proofs.PrivateRows.{push-row}
use Rattle.z80_exec.proofs.sample.private.rows.push_pair.Goals as goal

pub returns-then-push : goal.returns-then-push
returns-then-push c =
    push-row c.args.pair c.pair.result c.args.regs.now c.push.new.regs (store_of c.args.parcel.now) (store_of c.push.new.parcel) c.pair.ensures c.if-push.ensures
