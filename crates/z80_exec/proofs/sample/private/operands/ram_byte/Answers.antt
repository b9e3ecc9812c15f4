use Rattle.z80_parcel.specs.Parcels.{store_of}
use Rattle.z80_exec.proofs.PrivateRows.{reads-ram}
use Rattle.z80_exec.proofs.sample.private.operands.ram_byte.Goals as goal

pub returns-then-at-lt-RAM_END : goal.returns-then-at-lt-RAM_END
returns-then-at-lt-RAM_END c = reads-ram c.args.at c.read.result (store_of c.args.parcel.now) c.if-at-lt-RAM_END.true c.read.ensures
