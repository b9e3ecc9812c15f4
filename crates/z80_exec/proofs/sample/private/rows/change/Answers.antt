use Rattle.z80_parcel.specs.Parcels.{store_of}
use Rattle.z80_exec.proofs.PrivateRows.{change-row}
use Rattle.z80_exec.proofs.sample.private.rows.change.Goals as goal

pub returns-then-put : goal.returns-then-put
returns-then-put c =
    change-row c.args.task c.args.place c.a.result c.in-Some.value c.f.result c.args.regs.now c.put.new.regs c.set_f.new.self c.compute-out.result (store_of c.args.parcel.now) (store_of c.put.new.parcel)
    c.in-Some.ensures c.a.ensures c.f.ensures c.compute-out.ensures c.if-put.ensures c.set_f.ensures
