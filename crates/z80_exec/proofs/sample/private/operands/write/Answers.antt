use Rattle.z80_parcel.specs.Parcels.{store_of}
use Rattle.z80_exec.proofs.PrivateRows.{writes-ram}
use Rattle.z80_exec.proofs.sample.private.operands.write.Goals as goal

pub returns-then-at-lt-RAM_END : goal.returns-then-at-lt-RAM_END
returns-then-at-lt-RAM_END c =
    writes-ram c.args.at c.args.value (store_of c.args.parcel.now) (store_of c.store_byte.new.parcel) c.if-at-lt-RAM_END.true c.store_byte.ensures.ram c.store_byte.ensures.bank
