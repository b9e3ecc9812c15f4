use Rattle.std.proofs.Common.{◌∙◌, sym}
use Rattle.z80_parcel.specs.Parcels.{store_of}
use Rattle.z80_exec.proofs.PrivateRows.{finds-ram, reads-register}
use Rattle.z80_exec.proofs.sample.private.operands.operand.Goals as goal

pub returns-in-Some : goal.returns-in-Some
returns-in-Some c = finds-ram c.ram_byte.result c.args.place c.in-Some.at c.args.regs.now (store_of c.args.parcel.now) (sym c.address.ensures ∙ c.in-Some.is) c.ram_byte.ensures

pub returns-in-None : goal.returns-in-None
returns-in-None c = reads-register c.byte.result c.args.place c.args.regs.now (store_of c.args.parcel.now) (sym c.address.ensures ∙ c.in-None.is) c.byte.ensures
