use Rattle.z80_parcel.specs.Parcels.{store_of}
use Rattle.z80_exec.proofs.PrivateRows.{store-pair-row}
use Rattle.z80_exec.proofs.sample.private.rows.store_pair.Goals as goal

pub returns-then-write_word : goal.returns-then-write_word
returns-then-write_word c =
    store-pair-row c.args.at c.pair.result c.args.pair c.args.regs.now (store_of c.args.parcel.now) (store_of c.write_word.new.parcel) c.pair.ensures c.if-write_word.ensures
