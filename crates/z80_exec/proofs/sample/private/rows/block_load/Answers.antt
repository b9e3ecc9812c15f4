use Rattle.z80_parcel.specs.Parcels.{store_of}
use Rattle.z80_exec.proofs.PrivateRows.{block-row}
use Rattle.z80_exec.proofs.sample.private.rows.block_load.Goals as goal

pub returns-then-write : goal.returns-then-write
returns-then-write c =
    block-row c.args.block c.in-Some.value c.continues-again.result c.go_on.result c.args.regs.now c.transfer.new.regs c.go_on.new.regs (store_of c.args.parcel.now) (store_of c.write.new.parcel)
    c.in-Some.ensures c.if-write.ensures c.continues-again.ensures c.transfer.ensures c.go_on.ensures
