use Rattle.z80_parcel.specs.Parcels.{store_of}
use Rattle.z80_exec.proofs.PrivateRows.{load-pair-row}
use Rattle.z80_exec.proofs.sample.private.rows.load_pair_from.Goals as goal

pub returns-in-Some : goal.returns-in-Some
returns-in-Some c = load-pair-row c.args.pair c.args.at c.in-Some.value c.args.regs.now c.set_pair.new.self (store_of c.args.parcel.now) c.in-Some.ensures c.set_pair.ensures
