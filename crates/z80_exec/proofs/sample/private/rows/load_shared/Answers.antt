use Rattle.z80_parcel.specs.Parcels.{store_of}
use Rattle.z80_exec.proofs.PrivateRows.{load-asks}
use Rattle.z80_exec.proofs.sample.private.rows.load_shared.Goals as goal

pub returns-in-Some-operand : goal.returns-in-Some-operand
returns-in-Some-operand c =
    load-asks c.args.target c.args.source c.in-Some.at c.in-Some-operand.value c.args.regs.now (store_of c.args.parcel.now) c.in-Some.ensures c.in-Some-operand.ensures
