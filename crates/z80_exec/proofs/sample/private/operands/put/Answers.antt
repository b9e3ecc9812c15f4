use Rattle.std.proofs.Common.{◌∙◌, sym}
use Rattle.z80_parcel.specs.Parcels.{store_of}
use Rattle.z80_exec.proofs.PrivateRows.{puts-ram, puts-register}
use Rattle.z80_exec.proofs.sample.private.operands.put.Goals as goal

pub returns-in-Some : goal.returns-in-Some
returns-in-Some c =
    puts-ram c.write.result c.args.place c.in-Some.at c.args.value c.args.regs.now (store_of c.args.parcel.now) (store_of c.write.new.parcel) (sym c.address.ensures ∙ c.in-Some.is) c.write.ensures

pub returns-in-None : goal.returns-in-None
returns-in-None c = puts-register c.args.place c.args.value c.args.regs.now c.set_byte.new.self (store_of c.args.parcel.now) (sym c.address.ensures ∙ c.in-None.is) c.set_byte.ensures
