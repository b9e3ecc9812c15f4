use Rattle.z80_parcel.specs.Parcels.{store_of}
use Rattle.z80_exec.proofs.PrivateRows.{call-row}
use Rattle.z80_exec.proofs.sample.private.rows.call.Goals as goal

pub returns-then-push : goal.returns-then-push
returns-then-push c = call-row c.args.target c.args.regs.now c.push.new.regs (store_of c.args.parcel.now) (store_of c.push.new.parcel) c.if-push.ensures
