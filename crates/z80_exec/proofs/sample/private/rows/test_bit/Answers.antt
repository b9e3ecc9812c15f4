use Rattle.z80_parcel.specs.Parcels.{store_of}
use Rattle.z80_exec.proofs.PrivateRows.{test-row}
use Rattle.z80_exec.proofs.sample.private.rows.test_bit.Goals as goal

pub returns-in-Some : goal.returns-in-Some
returns-in-Some c =
    test-row c.args.bit c.args.place c.a.result c.in-Some.value c.f.result c.args.regs.now c.set_f.new.self c.compute-out.result (store_of c.args.parcel.now) c.in-Some.ensures
    c.a.ensures c.f.ensures c.compute-out.ensures c.set_f.ensures
